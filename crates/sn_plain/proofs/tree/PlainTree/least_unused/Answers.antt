use Rattle.std.proofs.Common.{◌≡◌, ◌≢◌, ◌⊎◌, inl, inr, ◌<◌, ◌≤◌, ℕ, Option, Some, None, is_some, not, true, false, refl, sym, ap, ◌∙◌, ◌+◌, arith}
use Rattle.std.specs.Option.{option_map}
use Rattle.std.specs.Cmp.{nat_cmp_total}
use Rattle.std.specs.FinMap as map
use Rattle.std.proofs.lemmas.Bool.{true≢false}
use Rattle.std.proofs.lemmas.Map.Lookups.{exact_unsigned}
use Rattle.sn_model.proofs.MapLemmas.{same_or_apart}
use Rattle.sn_plain.specs.Plain.{tree_of}
use Rattle.sn_nodes.specs.Stored.{node_of, stored_of}
use Rattle.sn_nodes.proofs.SeenLemmas.{copied_is, seen, used_seen}
use Rattle.sn_model.proofs.SearchLemmas.{least_is, none_is}
use Rattle.sn_plain.proofs.tree.PlainTree.least_unused.Goals as goal

none_of : {X : Type 0} (o : Option X) → is_some o ≡ false → o ≡ None
none_of None e = refl
none_of (Some x) e = absurd (true≢false e)

pub loop-number-init : goal.loop-number-init
loop-number-init c = c.args.self.now.counted.used

pub loop-number-preserved : goal.loop-number-preserved
loop-number-preserved c = λ k low high. split k low high (same_or_apart nat_cmp_total exact_unsigned k c.loop-number.number)
  where
    here : is_some (map.get (stored_of c.args.self.now.nodes) c.loop-number.number) ≡ true
    here = ap is_some (sym c.get.ensures.stored) ∙ copied_is c.get.result ∙ c.is_none.ensures ∙ ap not c.if-is_none.false

    split : (k : ℕ) → 2 ≤ k → k < c.loop-number.number + 1 → (k ≡ c.loop-number.number) ⊎ (k ≢ c.loop-number.number) → is_some (map.get (stored_of c.args.self.now.nodes) k) ≡ true
    split k low high (inl q) = ap (λ (n : ℕ). is_some (map.get (stored_of c.args.self.now.nodes) n)) q ∙ here
    split k low high (inr q) = c.loop-number.invariant k low (omega (arith, high, q))

pub returns-then-is_none : goal.returns-then-is_none
returns-then-is_none c =
    let nodes = c.args.self.now.nodes in
    let here : map.get (stored_of nodes) c.loop-number.number ≡ None = none_of _ (ap is_some (sym c.get.ensures.stored) ∙ copied_is c.get.result ∙ c.is_none.ensures ∙ ap not c.if-is_none.true) in
    sym (least_is c.args.limits.now (tree_of c.args.self.now) c.loop-number.number (λ k low high. used_seen nodes k (c.loop-number.invariant k low high)) (seen nodes c.loop-number.number ∙ ap (option_map node_of) here) (omega (arith, c.args.self.now.counted.low, c.loop-number.auto.number)) (omega (arith, c.loop-number-test.true, c.from-number-end.ensures)))

pub returns : goal.returns
returns c =
    sym (none_is c.args.limits.now (tree_of c.args.self.now) c.loop-number.number (λ k low high. used_seen c.args.self.now.nodes k (c.loop-number.invariant k low high)) (omega (arith, c.loop-number-test.false, c.from-number-end.ensures)))
