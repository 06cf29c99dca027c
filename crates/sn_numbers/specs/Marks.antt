-- Marks of numbers that are kept back, by what consistency points make of them.
use Rattle.std.specs.Prelude.{Bool, true, false}
use Rattle.sn_numbers.specs.declared.kept_back.Mark.{Mark}
use Rattle.sn_numbers.specs.declared.kept_back.Mark.TheVariants.{Free, BeforePoint, SincePoint}

abbrev pub is_kept : Mark → Bool
is_kept Free = false
is_kept BeforePoint = true
is_kept SincePoint = true

-- since the consistency point in progress began, or the durable root's where none is
abbrev pub is_since : Mark → Bool
is_since Free = false
is_since BeforePoint = false
is_since SincePoint = true

-- when a point begins
abbrev pub aged : Mark → Mark
aged Free = Free
aged BeforePoint = BeforePoint
aged SincePoint = BeforePoint

-- when its root is durable
abbrev pub forgotten : Mark → Mark
forgotten Free = Free
forgotten BeforePoint = Free
forgotten SincePoint = SincePoint
