use Rattle.std.proofs.Common.{◌≡◌, ℕ, Bool, Option, Some, None, refl, sym, ap, ◌∙◌, rules}
use Rattle.std.specs.Cmp.{nat_cmp_total, eq_by_cmp_equiv}
use Rattle.std.specs.Ordering.{nat_cmp}
use Rattle.std.specs.Map.{lookup}
use Rattle.std.specs.BTreeMap.{is_at}
use Rattle.std.proofs.lemmas.Map.Entries.{option_filter, lookup-filter-values}
use Rattle.std.proofs.lemmas.Map.Keys.{IsDistinct-from_sorted}
use Rattle.std.proofs.lemmas.Map.Made.{filter_same_pairs}
use Rattle.sn_nodes.specs.declared.nodes.StoredNode.{StoredNode}
use Rattle.sn_maps.specs.Maps.{filtered}
use Rattle.sn_nodes.specs.Stored.{stored_of}
use Rattle.sn_nodes.specs.Tally.{is_kept}
use Rattle.sn_maps.proofs.MapLemmas.{get-seen_plain}
use Rattle.sn_nodes.proofs.TallyLemmas.{tallied_settled}
use Rattle.sn_nodes.proofs.nodes.Nodes.settle.Goals as goal

same_filter : {X : Type 0} (p : X → Bool) (o : Option X) → option_filter p o ≡ filtered p o
same_filter p None = refl
same_filter p (Some x) = refl

pub returns : goal.returns
unfolding stored_of
returns c = λ k.
    let es = c.args.self.now.map.entries in
    let left = filter_same_pairs _ (λ (e : ℕ × StoredNode). is_kept e.1) _ (λ k v b w f t. search rules) es c.retain.new.self.entries c.retain.ensures.filtered in
    get-seen_plain nat_cmp nat_cmp_total c.retain.new.self.entries k ∙ ap (lookup (is_at (nat_cmp k))) left ∙ lookup-filter-values (eq_by_cmp_equiv nat_cmp_total) is_kept k es (IsDistinct-from_sorted nat_cmp _ c.retain.ensures.was_ordered) ∙ same_filter is_kept (lookup (is_at (nat_cmp k)) es) ∙ ap (filtered is_kept) (sym (get-seen_plain nat_cmp nat_cmp_total es k))

pub invariant_of-self : goal.invariant_of-self
invariant_of-self c = record {
  tallied = tallied_settled _ _ c.args.self.now.nameless (λ k.
      let es = c.args.self.now.map.entries in
      let left = filter_same_pairs _ (λ (e : ℕ × StoredNode). is_kept e.1) _ (λ k v b w f t. search rules) es c.retain.new.self.entries c.retain.ensures.filtered in
      get-seen_plain nat_cmp nat_cmp_total c.retain.new.self.entries k ∙ ap (lookup (is_at (nat_cmp k))) left ∙ lookup-filter-values (eq_by_cmp_equiv nat_cmp_total) is_kept k es (IsDistinct-from_sorted nat_cmp _ c.retain.ensures.was_ordered) ∙ same_filter is_kept (lookup (is_at (nat_cmp k)) es) ∙ ap (filtered is_kept) (sym (get-seen_plain nat_cmp nat_cmp_total es k))) c.args.self.now.tallied;
}
