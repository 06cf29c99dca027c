-- Marks of numbers, and what becomes of them.
use Rattle.std.specs.Prelude.{Bool, true, false}
use Rattle.sn_number_table.specs.declared.mark.Mark.{Mark}
use Rattle.sn_number_table.specs.declared.mark.Mark.TheVariants.{Free, Taken, KeptBefore, KeptSince}

abbrev pub has_node : Mark → Bool
has_node Taken = true
has_node mark = false

abbrev pub is_kept : Mark → Bool
is_kept KeptBefore = true
is_kept KeptSince = true
is_kept mark = false

-- since the consistency point in progress began, or the durable root's where none is
abbrev pub is_since : Mark → Bool
is_since KeptSince = true
is_since mark = false

-- a search for a free number passes over it
abbrev pub is_used : Mark → Bool
is_used Free = false
is_used mark = true

-- when a node is removed
abbrev pub without_node : Mark → Mark
without_node Free = Free
without_node Taken = Free
without_node KeptBefore = KeptBefore
without_node KeptSince = KeptSince

-- when a consistency point begins
abbrev pub aged : Mark → Mark
aged Free = Free
aged Taken = Taken
aged KeptBefore = KeptBefore
aged KeptSince = KeptBefore

-- when its root is durable
abbrev pub forgotten : Mark → Mark
forgotten Free = Free
forgotten Taken = Taken
forgotten KeptBefore = Free
forgotten KeptSince = KeptSince

-- when none is kept back any more
abbrev pub released : Mark → Mark
released Free = Free
released Taken = Taken
released KeptBefore = Free
released KeptSince = Free
