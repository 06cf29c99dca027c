-- What a decision is made over, where a view shows these trees, this room and these names.
use Rattle.std.specs.Prelude.{ℕ, Result}
use Rattle.sn_walk.specs.Views.{ViewedTrees}
use Rattle.sn_model.specs.declared.reply.Refusal.{Refusal}
use Rattle.sn_model.specs.Calls.{Seen}
use Rattle.sn_model.specs.Seen.{SeenNames}

abbrev pub seen_by : ViewedTrees → (ℕ → Result (Unit {0}) Refusal) → SeenNames → Seen
seen_by trees room names = record { trees = trees; room = room; names = names }
