-- Lists of sectors.
use Rattle.std.proofs.Common.{◌≡◌, ◌≢◌, ◌⊎◌, inl, inr, ⊎_elim, ℕ, zero, suc, ◌+◌, ◌<◌, ◌≤◌, List, [], ◌∷◌, ◌++◌, length, replicate, take, drop, slice_index, slice_set, Contains, refl, sym, ◌∙◌, subst, arith}
use Rattle.std.proofs.lemmas.List.{length-replicate, get_or-replicate, get_or_past, get_or_push, get_or_append_left, length_push, length-take, get_or-take, get_or-drop, length-set, get_or-set_same, get_or-set_other}
use Rattle.std.proofs.lemmas.Bool.{cases_eq, cases_lt}
use Rattle.sn_device.specs.Sectors.{Contents, sector_at, IsSector, AreSectors, Single, Stretch, IsWithin, AgreesOutside}

pub IsSector-replicate : (byte : ℕ) → byte < 256 → IsSector (replicate 512 byte)
IsSector-replicate byte fits = record {
  size = length-replicate 512 byte;
  bytes_fit = λ k. ⊎_elim (λ (within : k < 512). subst (λ b. b < 256) (sym (get_or-replicate 512 k byte 0 within)) fits) (λ (past : 512 ≤ k). subst (λ b. b < 256) (sym (get_or_past (replicate 512 byte) k 0 (omega (arith, length-replicate 512 byte, past)))) (omega arith)) (cases_lt k 512);
}

pub AreSectors-replicate : (n : ℕ) (sector : List ℕ) → IsSector sector → AreSectors (replicate n sector)
AreSectors-replicate n sector is i within =
    subst IsSector (sym (get_or-replicate n i sector [] (omega (arith, length-replicate n sector, within)))) is

pub AreSectors-push : (c : Contents) (sector : List ℕ) → AreSectors c → IsSector sector → AreSectors (c ++ sector ∷ [])
AreSectors-push c sector all is i within = ⊎_elim
    (λ (before : i < length c). subst IsSector (sym (get_or_append_left c (sector ∷ []) [] i before)) (all i before))
    (λ (not_before : length c ≤ i). let last : length c ≡ i = omega (arith, length_push c sector, within, not_before) in subst IsSector (sym (get_or_push c sector [] i last)) is)
    (cases_lt i (length c))

pub AreSectors-set : (c : Contents) (at : ℕ) (sector : List ℕ) → AreSectors c → IsSector sector → AreSectors (slice_set c at sector)
AreSectors-set c at sector all is i within =
    let inside : i < length c = omega (arith, length-set c at sector, within) in
    ⊎_elim
    (λ (same : i ≡ at). subst (λ j. IsSector (sector_at (slice_set c at sector) j)) (sym same) (subst IsSector (sym (get_or-set_same c at sector [] (subst (λ j. j < length c) same inside))) is))
    (λ (other : i ≢ at). subst IsSector (sym (get_or-set_other c at i sector [] other)) (all i inside))
    (cases_eq i at)

-- bytes of a part of some bytes
pub bytes_fit-part : (bytes : List ℕ) (at n : ℕ) → ((k : ℕ) → slice_index bytes k < 256) → (k : ℕ) → slice_index (take n (drop at bytes)) k < 256
bytes_fit-part bytes at n fits k = ⊎_elim
    (λ (within : k < n). subst (λ b. b < 256) (sym (get_or-take n (drop at bytes) k 0 within ∙ get_or-drop at bytes k 0)) (fits (at + k)))
    (λ (past : n ≤ k). subst (λ b. b < 256) (sym (get_or_past (take n (drop at bytes)) k 0 (omega (arith, length-take n (drop at bytes), past)))) (omega arith))
    (cases_lt k n)

pub Contains-more : (x : ℕ) (xs : List ℕ) (y : ℕ) → Contains xs y → Contains (x ∷ xs) y
Contains-more x xs y (k, within, is) = (suc k, omega arith, is)

pub Contains-first : (x : ℕ) (xs : List ℕ) → Contains (x ∷ xs) x
Contains-first x xs = (0, omega arith, refl)

pub Contains-cases : (x : ℕ) (xs : List ℕ) (y : ℕ) → Contains (x ∷ xs) y → (y ≡ x) ⊎ Contains xs y
Contains-cases x xs y (zero, within, is) = inl (sym is)
Contains-cases x xs y (suc k, within, is) = inr (k, omega arith, is)

-- Stretches of sectors.
pub Stretch-single : (at n i : ℕ) → Stretch at n i → IsWithin (Single i) (Stretch at n)
Stretch-single at n i is_in j same = subst (Stretch at n) (sym same) is_in

pub Stretch-within : (at n from m : ℕ) → from ≤ at → at + n ≤ from + m → IsWithin (Stretch at n) (Stretch from m)
Stretch-within at n from m low high i is_in = (omega arith, omega arith)

-- Contents that agree outside a set.
module _ (F : ℕ → Type 0) where
  pub AgreesOutside-set : (c : Contents) (at : ℕ) (bytes : List ℕ) → F at → AgreesOutside F c (slice_set c at bytes)
  AgreesOutside-set c at bytes is_in = record {
    count = length-set c at bytes;
    same = λ i out. get_or-set_other c at i bytes [] (λ same. out (subst F (sym same) is_in));
  }
