-- Where the object of an entry has room: its directories are there, and nothing has its name.
use Rattle.std.specs.Prelude.{◌≡◌, List, ℕ, None, Some, Ok}
use Rattle.std.specs.List.{AllByRecursion}
use Rattle.sn_walk.specs.declared.object.Object.{Object as Thing}
use Rattle.sn_walk.specs.Objects.{root}
use Rattle.sn_import.specs.Calls.{through_from}
use Rattle.sn_import.specs.declared.object.Object.{Object}
use Rattle.sn_model.specs.Denials.{led_to}
use Rattle.sn_model.specs.Tests.{path_argument}
use Rattle.sn_model.specs.World.{World, trees_of, viewed_trees}

-- a path leads to something
pub record IsThere (world : World) (path : List ℕ) : Type 0 where
  pub names : List (List ℕ)
  pub spelled : path_argument path ≡ Ok names
  pub thing : Thing
  pub led : led_to (viewed_trees (trees_of world)) root names ≡ Some thing

-- a path leads nowhere
pub record IsNowhere (world : World) (path : List ℕ) : Type 0 where
  pub names : List (List ℕ)
  pub spelled : path_argument path ≡ Ok names
  pub led : led_to (viewed_trees (trees_of world)) root names ≡ None

-- each directory that an import would make above the object is there, and the object isn't
pub record IsVacant (world : World) (object : Object) : Type 0 where
  pub above : AllByRecursion (IsThere world) (through_from object.lead object.path)
  pub absent : IsNowhere world object.path
