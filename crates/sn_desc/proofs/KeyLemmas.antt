-- Files under the keys of seats, as a slab changes at one key.
use Rattle.std.proofs.Common.{◌≡◌, ◌≢◌, inl, inr, ℕ, ◌<◌, true, List, [], ◌∷◌, Option, Some, None, is_some, length, get_or, set, replicate, zero, suc, refl, sym, ap, ◌∙◌, arith}
use Rattle.std.proofs.lemmas.Bool.{true≢false, cases_eq}
use Rattle.std.proofs.lemmas.List.{get_or-set_same, get_or-set_other, set-get_or}
use Rattle.slab.specs.Slab.{Slab, get, Updates}
use Rattle.sn_model.proofs.ChainLemmas.{some_none, some_same}
use Rattle.sn_desc.specs.Seats.{IsSeatd, file_under, files_under}
use Rattle.sn_desc.specs.declared.open_file.OpenFile.{OpenFile}

-- what is at a seat, by its key
pub at_seat : (files : Slab OpenFile) (keys : List (Option ℕ)) (seat : ℕ) → get_or (files_under files keys) seat None ≡ file_under files (get_or keys seat None)
at_seat files [] seat = refl
at_seat files (k ∷ keys) zero = refl
at_seat files (k ∷ keys) (suc seat) = at_seat files keys seat

-- without keys nothing is open
pub none_seated : (files : Slab OpenFile) (count : ℕ) → files_under files (replicate count None) ≡ replicate count None
none_seated files zero = refl
none_seated files (suc count) = ap (λ rest. None ∷ rest) (none_seated files count)

-- files of keys that have what they had
same_files : (old new : Slab OpenFile) (keys : List (Option ℕ)) → ((p : ℕ) → file_under new (get_or keys p None) ≡ file_under old (get_or keys p None)) → files_under new keys ≡ files_under old keys
same_files old new [] same = refl
same_files old new (k ∷ keys) same = λ i. same zero i ∷ same_files old new keys (λ p. same (suc p)) i

-- the keys and the slab change at one seat alone: the files do too
pub changed_at : (old new : Slab OpenFile) (keys : List (Option ℕ)) (seat : ℕ) (key : Option ℕ) (file : Option OpenFile)
    → file_under new key ≡ file
    → ((p : ℕ) → p ≢ seat → file_under new (get_or keys p None) ≡ file_under old (get_or keys p None))
    → files_under new (set keys seat key) ≡ set (files_under old keys) seat file
changed_at old new [] seat key file here others = refl
changed_at old new (k ∷ keys) zero key file here others =
    let rest = same_files old new keys (λ p. others (suc p) (λ e. omega (arith, e))) in
    λ i. here i ∷ rest i
changed_at old new (k ∷ keys) (suc seat) key file here others =
    let first : file_under new k ≡ file_under old k = others zero (λ e. omega (arith, e)) in
    let rest = changed_at old new keys seat key file here (λ p apart. others (suc p) (λ e. apart (omega (arith, e)))) in
    λ i. first i ∷ rest i

-- a key that has a file isn't one that has none
other_key : (files : Slab OpenFile) (k key : ℕ) → is_some (get files k) ≡ true → get files key ≡ None → k ≢ key
other_key files k key there none same = absurd (true≢false (sym there ∙ ap (λ (n : ℕ). is_some (get files n)) same ∙ ap is_some none))

-- a seat that has a key is one of the list
pub seat_within : (keys : List (Option ℕ)) (seat key : ℕ) → get_or keys seat None ≡ Some key → seat < length keys
seat_within [] seat key e = let never : None ≡ Some key = e in absurd cc
seat_within (k ∷ keys) zero key e = omega arith
seat_within (k ∷ keys) (suc seat) key e = omega (arith, seat_within keys seat key e)

-- what a key other than the one that changes has
module _ (old new : Slab OpenFile) (keys : List (Option ℕ)) (seat key : ℕ) (slot : Option OpenFile) (h : IsSeatd old keys) (updates : Updates old new key slot) where
  -- where the key had nothing, no seat had it
  kept_new : get old key ≡ None → (p : ℕ) → file_under new (get_or keys p None) ≡ file_under old (get_or keys p None)
  kept_new none p = split (get_or keys p None) refl
    where
      split : (o : Option ℕ) → get_or keys p None ≡ o → file_under new (get_or keys p None) ≡ file_under old (get_or keys p None)
      split None e = ap (file_under new) e ∙ sym (ap (file_under old) e)
      split (Some k) e = ap (file_under new) e ∙ updates.others k (other_key old k key (h.there p k e) none) ∙ sym (ap (file_under old) e)

  -- where a seat had the key, no other seat has it
  kept_own : get_or keys seat None ≡ Some key → (p : ℕ) → p ≢ seat → file_under new (get_or keys p None) ≡ file_under old (get_or keys p None)
  kept_own own p apart = split (get_or keys p None) refl
    where
      split : (o : Option ℕ) → get_or keys p None ≡ o → file_under new (get_or keys p None) ≡ file_under old (get_or keys p None)
      split None e = ap (file_under new) e ∙ sym (ap (file_under old) e)
      split (Some k) e = ap (file_under new) e ∙ updates.others k (λ same. apart (h.apart p seat key (e ∙ ap (λ (n : ℕ). Some n) same) own)) ∙ sym (ap (file_under old) e)

  pub put_files : (file : OpenFile) → slot ≡ Some file → get old key ≡ None → files_under new (set keys seat (Some key)) ≡ set (files_under old keys) seat (Some file)
  put_files file is none = changed_at old new keys seat (Some key) (Some file) (updates.changed ∙ is) (λ p apart. kept_new none p)

  pub take_files : slot ≡ None → get_or keys seat None ≡ Some key → files_under new (set keys seat None) ≡ set (files_under old keys) seat None
  take_files is own = changed_at old new keys seat None None refl (λ p apart. kept_own own p apart)

  pub change_files : get_or keys seat None ≡ Some key → files_under new keys ≡ set (files_under old keys) seat slot
  change_files own = ap (files_under new) (sym (set-get_or keys seat None)) ∙ changed_at old new keys seat (get_or keys seat None) slot (ap (file_under new) own ∙ updates.changed) (λ p apart. kept_own own p apart)

  pub put_seated : (file : OpenFile) → slot ≡ Some file → get old key ≡ None → seat < length keys → IsSeatd new (set keys seat (Some key))
  put_seated file is none within = record { there = there; apart = apart }
    where
      here : get_or (set keys seat (Some key)) seat None ≡ Some key
      here = get_or-set_same keys seat (Some key) None within

      other : (p k : ℕ) → p ≢ seat → get_or (set keys seat (Some key)) p None ≡ Some k → get_or keys p None ≡ Some k
      other p k away e = sym (get_or-set_other keys seat p (Some key) None away) ∙ e

      there : (p k : ℕ) → get_or (set keys seat (Some key)) p None ≡ Some k → is_some (get new k) ≡ true
      there p k e = elim (cases_eq p seat) [
        | inl same ↦ ap (λ (n : ℕ). is_some (get new n)) (sym (some_same key k (sym here ∙ ap (λ (n : ℕ). get_or (set keys seat (Some key)) n None) (sym same) ∙ e))) ∙ ap is_some (updates.changed ∙ is)
        | inr away ↦ let was = h.there p k (other p k away e) in ap is_some (updates.others k (other_key old k key was none)) ∙ was
      ]

      fresh : (p k : ℕ) → p ≢ seat → get_or (set keys seat (Some key)) p None ≡ Some k → get_or (set keys seat (Some key)) seat None ≡ Some k → ⊥
      fresh p k away e f = other_key old k key (h.there p k (other p k away e)) none (sym (some_same key k (sym here ∙ f)))

      apart : (a b k : ℕ) → get_or (set keys seat (Some key)) a None ≡ Some k → get_or (set keys seat (Some key)) b None ≡ Some k → a ≡ b
      apart a b k e f = elim (cases_eq a seat) [
        | inl same ↦ elim (cases_eq b seat) [
          | inl also ↦ same ∙ sym also
          | inr away ↦ absurd (fresh b k away f (ap (λ (n : ℕ). get_or (set keys seat (Some key)) n None) (sym same) ∙ e))
        ]
        | inr away ↦ elim (cases_eq b seat) [
          | inl also ↦ absurd (fresh a k away e (ap (λ (n : ℕ). get_or (set keys seat (Some key)) n None) (sym also) ∙ f))
          | inr far ↦ h.apart a b k (other a k away e) (other b k far f)
        ]
      ]

  pub take_seated : slot ≡ None → get_or keys seat None ≡ Some key → IsSeatd new (set keys seat None)
  take_seated is own = record { there = there; apart = λ a b k e f. h.apart a b k (was a k e) (was b k f) }
    where
      here : get_or (set keys seat None) seat None ≡ None
      here = get_or-set_same keys seat None None (seat_within keys seat key own)

      moved : (p k : ℕ) → get_or (set keys seat None) p None ≡ Some k → p ≢ seat
      moved p k e same = some_none _ k e (ap (λ (n : ℕ). get_or (set keys seat None) n None) same ∙ here)

      was : (p k : ℕ) → get_or (set keys seat None) p None ≡ Some k → get_or keys p None ≡ Some k
      was p k e = sym (get_or-set_other keys seat p None None (moved p k e)) ∙ e

      there : (p k : ℕ) → get_or (set keys seat None) p None ≡ Some k → is_some (get new k) ≡ true
      there p k e = ap is_some (updates.others k (λ same. moved p k e (h.apart p seat key (was p k e ∙ ap (λ (n : ℕ). Some n) same) own))) ∙ h.there p k (was p k e)

-- a seat without a key has no file, and stays so
pub still_none : (files : Slab OpenFile) (keys : List (Option ℕ)) (seat : ℕ) → get_or keys seat None ≡ None → files_under files keys ≡ set (files_under files keys) seat None
still_none files keys seat none =
    sym (ap (set (files_under files keys) seat) (sym (at_seat files keys seat ∙ ap (file_under files) none)) ∙ set-get_or (files_under files keys) seat None)

-- what is at a seat with a key, and at one without
pub key_has : (files : Slab OpenFile) (keys : List (Option ℕ)) (seat key : ℕ) → get_or keys seat None ≡ Some key → get_or (files_under files keys) seat None ≡ get files key
key_has files keys seat key own = at_seat files keys seat ∙ ap (file_under files) own
