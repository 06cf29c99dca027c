-- A restart over maps in memory.
use Rattle.std.proofs.Common.{◌≡◌, ℕ, Bool, false, not, ◌||◌, cond, None, Option, is_some, sym, ap, ◌∙◌}
use Rattle.std.specs.FinMap as map
use Rattle.std.proofs.lemmas.Bool.{true≢false}
use Rattle.sn_model.specs.declared.call.Event.TheVariants as event
use Rattle.sn_model.specs.Tree.{Node, Tree}
use Rattle.sn_model.specs.World.{World}
use Rattle.sn_model.specs.Settling.{is_nameless, settle, settled}
use Rattle.sn_model.proofs.LoseLemmas.{none_of_both}
use Rattle.sn_model.proofs.SettlingLemmas.{get_without}
use Rattle.sn_caller.specs.Numbering.{Numbers}

none_settled : (tree : Tree) (number : ℕ) → map.get tree.nodes number ≡ None → map.get (settled tree).nodes number ≡ None
none_settled tree number none =
    get_without (λ _. false) tree number
    ∙ ap (λ (o : Option Node). cond (not (is_nameless tree number (map.get tree.nodes number)) || false) o None) none
    ∙ none_of_both (not (is_nameless tree number (map.get tree.nodes number)) || false)

-- no number is given out, and none is kept back any more
pub restart_numbers : (old new : World) (kept after : ℕ → Bool) → new ≡ settle old → ((n : ℕ) → after n ≡ false) → Numbers event.Restart old kept new after
restart_numbers old new kept after same none = record {
  next = λ n g. absurd (true≢false (sym g.used ∙ ap (λ (w : World). is_some (map.get w.live.nodes n)) same ∙ ap is_some (none_settled old.live n g.unused)));
  keeps = none;
}
