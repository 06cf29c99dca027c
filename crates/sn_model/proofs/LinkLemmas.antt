-- Names are in a total order, in which they compare as equal to themselves alone.
use Rattle.std.proofs.Common.{ℕ, List, ap}
use Rattle.std.specs.Ordering.{nat_cmp}
use Rattle.std.specs.Cmp.{IsTotalOrder, nat_cmp_total}
use Rattle.std.specs.Cmp.Lexicographic.{slice_cmp, nat_list_cmp_total}
use Rattle.std.proofs.lemmas.Map.Lookups.{CmpEqualImpliesEq, exact_unsigned, exact_bytes, exact_pairs}
use Rattle.std.proofs.lemmas.Cmp.{on_total, then_total}
use Rattle.sn_model.specs.Tree.{link_cmp, link_to}

pub exact_links : CmpEqualImpliesEq link_cmp
exact_links a b h = ap (λ (p : ℕ × List ℕ). link_to p.0 p.1) (exact_pairs nat_cmp (slice_cmp nat_cmp) exact_unsigned exact_bytes (a.directory, a.name) (b.directory, b.name) h)

pub links_total : IsTotalOrder link_cmp
links_total = then_total (on_total (λ l. l.directory) nat_cmp_total) (on_total (λ l. l.name) nat_list_cmp_total)
