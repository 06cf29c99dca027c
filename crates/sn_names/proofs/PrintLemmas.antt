-- Entries and prints.
use Rattle.std.proofs.Common.{◌≡◌, ℕ, ◌/◌, ◌<◌, ◌≤◌, List, length, get_or, slice_index, sym, ◌∙◌, arith}
use Rattle.std.specs.List.{Contains}
use Rattle.std.proofs.lemmas.List.{get_or_default}
use Rattle.sn_names.specs.Prints.{entry_at}

-- what is between two entries of a print is of that print
pub of_print : (entry print from i : ℕ) → i < 16384 → entry_at print from ≤ entry → entry ≤ entry_at print i → entry / 16384 ≡ print
of_print entry print from i small low high = omega arith

pub print_at : (prints : List ℕ) (k print : ℕ) → k < length prints → print ≡ get_or prints k print → slice_index prints k ≡ print
print_at prints k print within is = get_or_default prints k 0 print within ∙ sym is

pub print_among : (prints : List ℕ) (p : ℕ) → Contains prints p → (k : ℕ) × (k < length prints) × (slice_index prints k ≡ p)
print_among prints p h = (h.0, h.1, get_or_default prints h.0 0 p h.1 ∙ h.2)
