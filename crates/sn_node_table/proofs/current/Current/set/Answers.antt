use Rattle.std.proofs.Common.{ℕ, refl, sym, ap, rules}
use Rattle.std.specs.BTreeMap.{BTreeMap}
use Rattle.std.specs.Cmp.{nat_cmp_total}
use Rattle.std.specs.Ordering.{nat_cmp}
use Rattle.std.proofs.lemmas.Map.Lookups.{exact_unsigned}
use Rattle.sn_node_table.specs.Stored.{current_of}
use Rattle.sn_maps.proofs.MapLemmas.{updated-seen_by, none-seen_by}
use Rattle.sn_node_table.proofs.current.Current.set.Goals as goal

pub returns-in-Some : goal.returns-in-Some
unfolding current_of
returns-in-Some c =
    updated-seen_by nat_cmp (λ (id : ℕ). id) nat_cmp_total exact_unsigned c.args.self.now.map.entries _ c.args.inode c.in-Some.place.now _ (λ (_ : ℕ). c.args.id) (sym c.in-Some.ensures.value) refl ((c.get_mut.follows.holds _).3 (search rules)).0

pub returns-in_default : goal.returns-in_default
unfolding current_of
returns-in_default c =
    none-seen_by nat_cmp (λ (id : ℕ). id) nat_cmp_total c.args.self.now.map.entries _ c.args.inode (λ (_ : ℕ). c.args.id) (sym c.in_default.ensures.value) (ap (λ (m : BTreeMap ℕ ℕ). m.entries) c.get_mut.follows.holds-at-none)
