-- Depth is an order of objects.
use Rattle.std.proofs.Common.{nat_lt}
use Rattle.std.specs.Cmp.{IsStrictWeakOrder}
use Rattle.std.proofs.lemmas.List.Sorted.{IsStrictWeakOrder-by_number, IsStrictWeakOrder-flip}
use Rattle.sn_import.specs.Depths.{depth, is_deeper}

pub is_order : IsStrictWeakOrder is_deeper
is_order = IsStrictWeakOrder-flip (λ a b. nat_lt (depth a) (depth b)) (IsStrictWeakOrder-by_number depth)
