-- What a mount shows of a file system that is served.
use Rattle.std.specs.Prelude.{◌≡◌, ℕ, Bool, IsTrue, List, Option, None, Some, Result, Ok, Err}
use Rattle.std.specs.Option.{option_and_then, option_map}
use Rattle.sn_homes.specs.Homes.{Places, met_with, number_of, object_at, without}
use Rattle.sn_live_view.specs.Looking.{known_by}
use Rattle.sn_live_view.specs.declared.looking.Known.{Known}
use Rattle.sn_model.specs.World.{World, trees_of, viewed_trees}
use Rattle.sn_model.specs.declared.call.Call.{Call}
use Rattle.sn_model.specs.declared.call.Call.TheVariants.{SnapDelete}
use Rattle.sn_model.specs.declared.reply.Reply.{Reply}
use Rattle.sn_model.specs.declared.reply.Reply.TheVariants.{Done}
use Rattle.sn_plan.specs.declared.errors.LookFault.{LookFault}
use Rattle.sn_serving.specs.Served.{Served}
use Rattle.sn_walk.specs.Paths.{parsed}
use Rattle.sn_walk.specs.Views.{attributes_at}
use Rattle.sn_walk.specs.declared.object.Object.{Object}
use Rattle.sn_walk.specs.declared.fault.PathFault.{PathFault}
use Rattle.sn_walk.specs.declared.view.Attributes.{Attributes}

-- the file system that is served, and the snapshots that were met
pub record Shown : Type 0 where
  pub served : Served
  pub places : Places

-- a deleted snapshot leaves its place
abbrev pub places_after : Call → Reply → Places → Places
places_after (SnapDelete name) Done places = without places name
places_after call reply places = places

abbrev pub object_in : Option Known → Option Object
object_in None = None
object_in (Some known) = Some known.object

-- what a path leads user 0 to, nothing where it is misspelt
abbrev pub object_by : World → Result (List (List ℕ)) PathFault → Option Object
object_by world (Ok names) = object_in (known_by (viewed_trees (trees_of world)) names)
object_by world (Err fault) = None

abbrev pub met_by : Places → Option Object → Places
met_by places None = places
met_by places (Some object) = met_with places object

-- what is there has its number, and its snapshot was met
pub record IsFound (told : Bool) (path : List ℕ) (found : Option ℕ) (old new : Shown) : Type 0 where
  pub object : Option Object
  pub leads : IsTrue told → object ≡ object_by old.served.world (parsed path)
  pub met : new.places ≡ met_by old.places object
  pub number : found ≡ option_map (number_of new.places) object

abbrev pub Finds : Bool → List ℕ → Result (Option ℕ) LookFault → Shown → Shown → Type 0
Finds told path (Ok found) old new = IsFound told path found old new
Finds told path (Err fault) old new = new.places ≡ old.places

-- what is known of the object with a number
abbrev pub attributes_of : World → Option Object → Option Attributes
attributes_of world object = option_and_then (attributes_at (viewed_trees (trees_of world))) object

abbrev pub Sees : Bool → ℕ → Result (Option Attributes) LookFault → Shown → Type 0
Sees told number (Ok seen) old = IsTrue told → seen ≡ attributes_of old.served.world (object_at old.places number)
Sees told number (Err fault) old = Unit {0}
