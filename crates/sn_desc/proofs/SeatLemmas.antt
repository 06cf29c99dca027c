-- Descriptors by session and number, against the files at their seats.
use Rattle.std.proofs.Common.{◌≡◌, ◌≢◌, ◌⊎◌, inl, inr, ℕ, zero, suc, ◌+◌, ◌*◌, ◌/◌, ◌%◌, ◌<◌, ◌≤◌, Bool, true, false, nat_lt, List, [], ◌∷◌, Option, Some, None, length, get_or, set, replicate, refl, sym, ap, ◌∙◌, arith, add-zero, zero-add}
use Rattle.std.specs.FinMap as map
use Rattle.std.specs.Option.{option_map}
use Rattle.std.proofs.lemmas.Bool.{ltb-true, ltb-false}
use Rattle.std.proofs.lemmas.Nat.{div-mul-add, mod-mul-add, mod_below}
use Rattle.std.proofs.Math.Nat.{div-add-mod}
use Rattle.std.proofs.lemmas.List.{get_or_past, get_or-set_same, get_or-set_other}
use Rattle.sn_model.proofs.HeldLemmas.{descriptors_total, exact_descriptors}
use Rattle.sn_model.proofs.MapLemmas.{same_or_apart, get_inserted, get_other, get_removed, get_left}
use Rattle.sn_model.specs.World.{descriptor_cmp}
use Rattle.sn_model.specs.Descriptors.{closed, moved_if, moved_to, opened}
use Rattle.sn_desc.specs.declared.open_file.OpenFile.{OpenFile}
use Rattle.sn_desc.specs.Files.{with_offset}
use Rattle.sn_desc.specs.InUse.{descriptor_of, descriptors_in, seated_from}

-- the session and the number of a seat
abbrev pub key : ℕ → ℕ × ℕ
key seat = (seat / 64, seat % 64)

pub key_of : (session fd : ℕ) → fd < 64 → key (session * 64 + fd) ≡ (session, fd)
key_of session fd few = λ i. (div-mul-add session 64 fd few i, mod-mul-add session 64 fd few i)

one_seat : (a b : ℕ) → key a ≡ key b → a ≡ b
one_seat a b same =
    let rows : a / 64 ≡ b / 64 = ap (λ k. k.0) same in
    let columns : a % 64 ≡ b % 64 = ap (λ k. k.1) same in
    omega (arith, rows, columns, div-add-mod a 64, div-add-mod b 64)

pub seated_below : (files : List (Option OpenFile)) (first seat : ℕ) → seat < first → map.get (seated_from first files) (key seat) ≡ None
unfolding seated_from
seated_below [] first seat low = map.get-empty descriptor_cmp (key seat)
seated_below (None ∷ rest) first seat low = seated_below rest (first + 1) seat (omega arith)
seated_below (Some f ∷ rest) first seat low =
    get_other descriptors_total exact_descriptors (seated_from (first + 1) rest) (key first) (descriptor_of f) (key seat) (λ same. absurd (omega (arith, low, one_seat seat first same)))
    ∙ seated_below rest (first + 1) seat (omega arith)

seated_at : (files : List (Option OpenFile)) (first k : ℕ) → map.get (seated_from first files) (key (first + k)) ≡ option_map descriptor_of (get_or files k None)
unfolding seated_from
seated_at [] first k = map.get-empty descriptor_cmp (key (first + k))
seated_at (None ∷ rest) first zero = seated_below rest (first + 1) (first + 0) (omega arith)
seated_at (None ∷ rest) first (suc k) =
    let shift : first + suc k ≡ first + 1 + k = omega arith in
    ap (λ (n : ℕ). map.get (seated_from (first + 1) rest) (key n)) shift ∙ seated_at rest (first + 1) k
seated_at (Some f ∷ rest) first zero =
    ap (λ (n : ℕ). map.get (seated_from first (Some f ∷ rest)) (key n)) (add-zero first) ∙ get_inserted descriptors_total (seated_from (first + 1) rest) (key first) (descriptor_of f)
seated_at (Some f ∷ rest) first (suc k) =
    let shift : first + suc k ≡ first + 1 + k = omega arith in
    get_other descriptors_total exact_descriptors (seated_from (first + 1) rest) (key first) (descriptor_of f) (key (first + suc k)) (λ same. absurd (omega (arith, one_seat (first + suc k) first same)))
    ∙ ap (λ (n : ℕ). map.get (seated_from (first + 1) rest) (key n)) shift ∙ seated_at rest (first + 1) k

far_from : (files : List (Option OpenFile)) (first : ℕ) (q : ℕ × ℕ) → 64 ≤ q.1 → map.get (seated_from first files) q ≡ None
unfolding seated_from
far_from [] first q far = map.get-empty descriptor_cmp q
far_from (None ∷ rest) first q far = far_from rest (first + 1) q far
far_from (Some f ∷ rest) first q far =
    get_other descriptors_total exact_descriptors (seated_from (first + 1) rest) (key first) (descriptor_of f) q (λ same. let e : q.1 ≡ first % 64 = ap (λ k. k.1) same in absurd (omega (arith, far, e, mod_below first 64 (omega arith))))
    ∙ far_from rest (first + 1) q far

-- no descriptor has a number of 64 or more
pub get_far : (files : List (Option OpenFile)) (session fd : ℕ) → 64 ≤ fd → map.get (descriptors_in files) (session, fd) ≡ None
get_far files session fd far = far_from files 0 (session, fd) far

-- what is open under a descriptor
pub get_seated : (files : List (Option OpenFile)) (session fd : ℕ) → fd < 64 → map.get (descriptors_in files) (session, fd) ≡ option_map descriptor_of (get_or files (session * 64 + fd) None)
get_seated files session fd few =
    ap (map.get (descriptors_in files)) (sym (key_of session fd few)) ∙ ap (λ (n : ℕ). map.get (descriptors_in files) (key n)) (sym (zero-add (session * 64 + fd))) ∙ seated_at files 0 (session * 64 + fd)

-- no session has a number past the seats
pub get_past : (files : List (Option OpenFile)) (session fd : ℕ) → length files ≡ 4096 → 64 ≤ session → map.get (descriptors_in files) (session, fd) ≡ None
get_past files session fd all far = split (nat_lt fd 64) refl
  where
    split : (b : Bool) → nat_lt fd 64 ≡ b → map.get (descriptors_in files) (session, fd) ≡ None
    split true e = get_seated files session fd (ltb-true fd 64 e) ∙ ap (option_map descriptor_of) (get_or_past files (session * 64 + fd) None (omega (arith, all, far)))
    split false e = get_far files session fd (ltb-false fd 64 e)

none_open : (n first : ℕ) → seated_from first (replicate n None) ≡ map.empty
unfolding seated_from
none_open zero first = refl
none_open (suc n) first = none_open n (first + 1)

-- nothing is open
pub none_in : descriptors_in (replicate 4096 None) ≡ map.empty
none_in = none_open 4096 0

module _ (files : List (Option OpenFile)) (session fd : ℕ) (few : fd < 64) where
  abbrev seat : ℕ
  seat = session * 64 + fd

  -- a seat that changes
  set_same : (x : Option OpenFile) → seat < length files → map.get (descriptors_in (set files seat x)) (session, fd) ≡ option_map descriptor_of x
  set_same x within = get_seated (set files seat x) session fd few ∙ ap (option_map descriptor_of) (get_or-set_same files seat x None within)

  -- and the others
  set_other : (x : Option OpenFile) (q : ℕ × ℕ) → q ≢ (session, fd) → map.get (descriptors_in (set files seat x)) q ≡ map.get (descriptors_in files) q
  set_other x q apart = split (nat_lt q.1 64) refl
    where
      split : (b : Bool) → nat_lt q.1 64 ≡ b → map.get (descriptors_in (set files seat x)) q ≡ map.get (descriptors_in files) q
      split true e =
          let low = ltb-true q.1 64 e in
          get_seated (set files seat x) q.0 q.1 low
          ∙ ap (option_map descriptor_of) (get_or-set_other files seat (q.0 * 64 + q.1) x None (λ same. apart (sym (key_of q.0 q.1 low) ∙ ap key same ∙ key_of session fd few)))
          ∙ sym (get_seated files q.0 q.1 low)
      split false e = let far = ltb-false q.1 64 e in get_far (set files seat x) q.0 q.1 far ∙ sym (get_far files q.0 q.1 far)

  -- a file is put at a seat
  pub put_is : (f : OpenFile) → seat < length files → descriptors_in (set files seat (Some f)) ≡ opened (descriptors_in files) session fd (descriptor_of f)
  put_is f within = map.same_map descriptors_total exact_descriptors _ _ (λ q. split q (same_or_apart descriptors_total exact_descriptors q (session, fd)))
    where
      split : (q : ℕ × ℕ) → (q ≡ (session, fd)) ⊎ (q ≢ (session, fd)) → map.get (descriptors_in (set files seat (Some f))) q ≡ map.get (opened (descriptors_in files) session fd (descriptor_of f)) q
      split q (inl e) =
          ap (map.get (descriptors_in (set files seat (Some f)))) e ∙ set_same (Some f) within
          ∙ sym (ap (map.get (opened (descriptors_in files) session fd (descriptor_of f))) e ∙ get_inserted descriptors_total (descriptors_in files) (session, fd) (descriptor_of f))
      split q (inr a) = set_other (Some f) q a ∙ sym (get_other descriptors_total exact_descriptors (descriptors_in files) (session, fd) (descriptor_of f) q a)

  -- a seat is emptied
  pub taken_is : seat < length files → descriptors_in (set files seat None) ≡ closed (descriptors_in files) session fd
  taken_is within = map.same_map descriptors_total exact_descriptors _ _ (λ q. split q (same_or_apart descriptors_total exact_descriptors q (session, fd)))
    where
      split : (q : ℕ × ℕ) → (q ≡ (session, fd)) ⊎ (q ≢ (session, fd)) → map.get (descriptors_in (set files seat None)) q ≡ map.get (closed (descriptors_in files) session fd) q
      split q (inl e) =
          ap (map.get (descriptors_in (set files seat None))) e ∙ set_same None within
          ∙ sym (ap (map.get (closed (descriptors_in files) session fd)) e ∙ get_removed descriptors_total (descriptors_in files) (session, fd))
      split q (inr a) = set_other None q a ∙ sym (get_left descriptors_total exact_descriptors (descriptors_in files) (session, fd) q a)

  -- an empty seat stays so
  still_none : seat < length files → map.get (descriptors_in files) (session, fd) ≡ None → descriptors_in (set files seat None) ≡ descriptors_in files
  still_none within none = map.same_map descriptors_total exact_descriptors _ _ (λ q. split q (same_or_apart descriptors_total exact_descriptors q (session, fd)))
    where
      split : (q : ℕ × ℕ) → (q ≡ (session, fd)) ⊎ (q ≢ (session, fd)) → map.get (descriptors_in (set files seat None)) q ≡ map.get (descriptors_in files) q
      split q (inl e) = ap (map.get (descriptors_in (set files seat None))) e ∙ set_same None within ∙ sym (ap (map.get (descriptors_in files)) e ∙ none)
      split q (inr a) = set_other None q a

  -- a file at a seat gets another offset
  pub moved_is : (offset : ℕ) → seat < length files → descriptors_in (set files seat (option_map (with_offset offset) (get_or files seat None))) ≡ moved_to (descriptors_in files) session fd offset
  moved_is offset within = told (get_or files seat None) refl
    where
      at : map.get (descriptors_in files) (session, fd) ≡ option_map descriptor_of (get_or files seat None)
      at = get_seated files session fd few

      told : (o : Option OpenFile) → get_or files seat None ≡ o → descriptors_in (set files seat (option_map (with_offset offset) (get_or files seat None))) ≡ moved_to (descriptors_in files) session fd offset
      told None e =
          let none : map.get (descriptors_in files) (session, fd) ≡ None = at ∙ ap (option_map descriptor_of) e in
          ap (λ (o : Option OpenFile). descriptors_in (set files seat (option_map (with_offset offset) o))) e ∙ still_none within none ∙ sym (ap (moved_if (descriptors_in files) session fd offset) none)
      told (Some f) e =
          let there : map.get (descriptors_in files) (session, fd) ≡ Some (descriptor_of f) = at ∙ ap (option_map descriptor_of) e in
          ap (λ (o : Option OpenFile). descriptors_in (set files seat (option_map (with_offset offset) o))) e ∙ put_is (with_offset offset f) within ∙ sym (ap (moved_if (descriptors_in files) session fd offset) there)
