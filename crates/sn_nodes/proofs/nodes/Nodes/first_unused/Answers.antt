use Rattle.std.proofs.Common.{◌≡◌, ◌≢◌, ◌⊎◌, inl, inr, ◌<◌, ◌≤◌, ◌+◌, ℕ, is_some, not, true, sym, ap, ◌∙◌, arith}
use Rattle.std.specs.Cmp.{nat_cmp_total}
use Rattle.std.specs.FinMap as map
use Rattle.std.proofs.lemmas.Map.Lookups.{exact_unsigned}
use Rattle.sn_model.proofs.MapLemmas.{same_or_apart}
use Rattle.sn_nodes.specs.Stored.{stored_of}
use Rattle.sn_nodes.proofs.SeenLemmas.{copied_is}
use Rattle.sn_nodes.proofs.nodes.Nodes.first_unused.Goals as goal

pub loop-number-init : goal.loop-number-init
loop-number-init c = λ k low high. absurd (omega (arith, low, high))

pub loop-number-preserved : goal.loop-number-preserved
loop-number-preserved c = λ k low high. split k low high (same_or_apart nat_cmp_total exact_unsigned k c.loop-number.number)
  where
    here : is_some (map.get (stored_of c.args.self.now) c.loop-number.number) ≡ true
    here = ap is_some (sym c.get.ensures.stored) ∙ copied_is c.get.result ∙ c.is_none.ensures ∙ ap not c.if-is_none.false

    split : (k : ℕ) → c.args.from ≤ k → k < c.loop-number.number + 1 → (k ≡ c.loop-number.number) ⊎ (k ≢ c.loop-number.number) → is_some (map.get (stored_of c.args.self.now) k) ≡ true
    split k low high (inl q) = ap (λ (n : ℕ). is_some (map.get (stored_of c.args.self.now) n)) q ∙ here
    split k low high (inr q) = c.loop-number.invariant k low (omega (arith, high, q))
