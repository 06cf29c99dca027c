-- The mark of each number, and the numbers that a search need not look at.
use Rattle.std.specs.Prelude.{◌≡◌, ◌≢◌, ℕ, ◌<◌, ◌≤◌, true, slice_index_or}
use Rattle.sn_number_table.specs.declared.mark.Mark.{Mark}
use Rattle.sn_number_table.specs.declared.mark.Mark.TheVariants.{Free}
use Rattle.sn_number_table.specs.declared.marks.Marks.{Marks}
use Rattle.sn_number_table.specs.Marks.{is_used}

abbrev pub mark_at : Marks → ℕ → Mark
mark_at marks number = slice_index_or marks.marks.items number Free

-- One mark was set.
pub record Sets (number : ℕ) (mark : Mark) (old new : Marks) : Type 0 where
  pub here : mark_at new number ≡ mark
  pub others : (n : ℕ) → n ≢ number → mark_at new n ≡ mark_at old n

-- Each number from 2 on below the one where the next search begins has a node or is kept back.
pub record ArePassed (marks : Marks) (next : ℕ) : Type 0 where
  pub low : 2 ≤ next
  pub high : next ≤ 65536
  pub used : (number : ℕ) → 2 ≤ number → number < next → is_used (mark_at marks number) ≡ true
