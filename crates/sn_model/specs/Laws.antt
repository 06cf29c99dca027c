-- What follows from the definitions of calls, said as a user of a file system would say it.
use Rattle.std.specs.Prelude.{◌≡◌, ◌≢◌, ℕ, ◌<◌, true, Some, Ok, is_some}
use Rattle.std.specs.FinMap as map
use Rattle.sn_model.specs.Charges.{IsPaidFor}
use Rattle.sn_model.specs.declared.call.Call.{Call}
use Rattle.sn_model.specs.declared.link.Link.{Link}
use Rattle.sn_model.specs.declared.reply.Refusal.{Refusal}
use Rattle.sn_model.specs.declared.reply.Reply.TheVariants.{Refused}
use Rattle.sn_model.specs.Tree.{Tree, Node, with_node}
use Rattle.sn_model.specs.World.{World}
use Rattle.sn_model.specs.Steps.{IsNumberFor, Step, changed, decision}
use Rattle.sn_limits.specs.declared.limits.Limits.{Limits}
use Rattle.sn_model.specs.Outcomes.{Outcome}
use Rattle.sn_model.specs.Worlds.{IsWorld}

-- Whatever a call is refused for, the world stays as it was.
abbrev pub RefusalsChangeNothing : Type 0
RefusalsChangeNothing = (limits : Limits) (old new : World) (session : ℕ) (c : Call) (refusal : Refusal) → Step limits old session c (Refused refusal) new → new ≡ old

-- A name leads to the new node, and every other name and node stays.
pub record OneMore (old new : Tree) (number : ℕ) (link : Link) (node : Node) : Type 0 where
  pub named : map.get new.links link ≡ Some number
  pub made : map.get new.nodes number ≡ Some node
  pub names : (other : Link) → other ≢ link → map.get new.links other ≡ map.get old.links other
  pub nodes : (other : ℕ) → other ≢ number → map.get new.nodes other ≡ map.get old.nodes other

abbrev pub MakesOneMore : Type 0
MakesOneMore = (tree : Tree) (number : ℕ) (link : Link) (node : Node) → OneMore tree (with_node tree number link node) number link node

-- An outcome of a call is charged for its change, and for its point.
abbrev pub DecidedChangesPay : Type 0
DecidedChangesPay = (limits : Limits) (world : World) (session : ℕ) (c : Call) (o : Outcome) → decision limits world session c ≡ Ok o → IsPaidFor limits world o

-- What a call has decided can be applied, whatever number the machine chooses.
abbrev pub DecidedChangesApply : Type 0
DecidedChangesApply = (limits : Limits) (world : World) (session : ℕ) (c : Call) (o : Outcome) (number : ℕ) → 0 < limits.links → IsWorld limits world
    → decision limits world session c ≡ Ok o → IsNumberFor limits world.live number o.change → is_some (changed limits number o.change world.live) ≡ true
