-- The front of bytes is a message where it is as long as it says.
use Rattle.byteorder.specs.Endian.{little_number}
use Rattle.byteorder.specs.Numbers.{little_from-take}
use Rattle.std.proofs.Common.{◌≡◌, ◌∙◌, ◌≤◌, ℕ, Bool, true, false, ◌||◌, List, take, length, nat_lt, refl, sym, subst, arith}
use Rattle.std.proofs.lemmas.Bool.{ltb-false}
use Rattle.std.proofs.lemmas.List.{length-take-le}
use Rattle.std.specs.Prelude.{if◌then◌else◌}
use Rattle.sn_serve_loop.specs.Fronts.{IsMessage, front_by, front_of}
use Rattle.sn_serve_loop.specs.declared.frames.Front.TheVariants.{Broken, Part, Whole}

-- a whole message has as many bytes as it says, which are there, and no fewer than a head
record IsWhole (told there size : ℕ) : Type 0 where
  same : told ≡ size
  there_are : told ≤ there
  head : 40 ≤ told

by_there : (told there size : ℕ) (short : Bool) → nat_lt there told ≡ short → 40 ≤ told → (if short then Part else Whole told) ≡ Whole size → IsWhole told there size
by_there told there size true is head h = absurd (let never : Part ≡ Whole size = h in cc)
by_there told there size false is head h = record { same = (let same : Whole told ≡ Whole size = h in cc); there_are = ltb-false there told is; head = head }

by_head : (told there size : ℕ) (small large : Bool) → nat_lt told 40 ≡ small → (if small || large then Broken else (if nat_lt there told then Part else Whole told)) ≡ Whole size → IsWhole told there size
by_head told there size true large is h = absurd (let never : Broken ≡ Whole size = h in cc)
by_head told there size false true is h = absurd (let never : Broken ≡ Whole size = h in cc)
by_head told there size false false is h = by_there told there size (nat_lt there told) refl (ltb-false told 40 is) h

by_length : (bytes : List ℕ) (size : ℕ) (few : Bool) → (if few then Part else front_by (little_number 4 bytes) (length bytes)) ≡ Whole size → IsWhole (little_number 4 bytes) (length bytes) size
by_length bytes size true h = absurd (let never : Part ≡ Whole size = h in cc)
by_length bytes size false h = by_head (little_number 4 bytes) (length bytes) size (nat_lt (little_number 4 bytes) 40) (nat_lt 1048576 (little_number 4 bytes)) refl h

module _ (bytes : List ℕ) (size : ℕ) (whole : Whole size ≡ front_of bytes) where
  is_whole : IsWhole (little_number 4 bytes) (length bytes) size
  is_whole = by_length bytes size (nat_lt (length bytes) 40) (sym whole)

  pub within : size ≤ length bytes
  within = subst (λ (n : ℕ). n ≤ length bytes) is_whole.same is_whole.there_are

  pub is_message : IsMessage (take size bytes)
  is_message =
      let head : 40 ≤ size = subst (λ (n : ℕ). 40 ≤ n) is_whole.same is_whole.head in
      let long : length (take size bytes) ≡ size = length-take-le size bytes within in
      record {
        told = little_from-take 0 4 size bytes (omega arith) ∙ is_whole.same ∙ sym long;
        head = subst (λ (n : ℕ). 40 ≤ n) (sym long) head;
      }
