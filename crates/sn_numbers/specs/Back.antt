-- The numbers that are kept back.
use Rattle.std.specs.Prelude.{ℕ, Bool, slice_index_or}
use Rattle.sn_numbers.specs.declared.kept_back.KeptBack.{KeptBack}
use Rattle.sn_numbers.specs.declared.kept_back.Mark.TheVariants.{Free}
use Rattle.sn_numbers.specs.Marks.{is_kept, is_since}

unfoldable pub held_of : KeptBack → ℕ → Bool
held_of k number = is_kept (slice_index_or k.marks.items number Free)

-- those of them that are so since the consistency point in progress began
unfoldable pub since_of : KeptBack → ℕ → Bool
since_of k number = is_since (slice_index_or k.marks.items number Free)
