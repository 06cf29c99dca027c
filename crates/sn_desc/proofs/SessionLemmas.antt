-- Descriptors of sessions, by the seats that their files have.
use Rattle.std.proofs.Common.{◌≡◌, ◌≢◌, ◌⊎◌, inl, inr, ℕ, ◌+◌, ◌*◌, ◌<◌, ◌≤◌, ◌&&◌, Bool, true, false, nat_lt, cond, List, Option, Some, None, Result, Ok, Err, is_some, length, get_or, set, refl, sym, ap, ◌∙◌, arith, zero-add, Bor}
use Rattle.std.specs.FinMap as map
use Rattle.std.specs.Option.{option_copied, option_map}
use Rattle.std.proofs.lemmas.Bool.{true≢false, ltb-true, ltb-false, le-leb}
use Rattle.std.specs.Prelude.{ok_or}
use Rattle.sn_model.proofs.ChainLemmas.{and_left, and_right, some_same}
use Rattle.sn_model.proofs.MapLemmas.{same_or_apart, get_left, get_removed}
use Rattle.sn_limits.specs.declared.limits.Limits.{Limits}
use Rattle.sn_walk.specs.Chains.{◌>>=◌}
use Rattle.sn_model.proofs.SearchLemmas.{first_found, none_without}
use Rattle.sn_model.specs.declared.reply.Errno.TheVariants.{Ebadf, Einval, Emfile}
use Rattle.sn_model.specs.declared.reply.Refusal.{Refusal}
use Rattle.sn_model.specs.Descriptors.{Descriptors, closed, descriptor_at, is_offset, moved_if, moved_to, next_descriptor, opened, released, sought}
use Rattle.sn_model.specs.Tests.{plain}
use Rattle.sn_model.specs.World.{Descriptor}
use Rattle.sn_desc.specs.Closing.{closing, released_if}
use Rattle.sn_desc.specs.declared.open_file.OpenFile.{OpenFile}
use Rattle.sn_desc.specs.Files.{with_offset}
use Rattle.sn_desc.specs.InUse.{descriptor_of, descriptors_in, seat_of}
use Rattle.sn_model.proofs.HeldLemmas.{descriptors_total, exact_descriptors}
use Rattle.sn_desc.proofs.SeatLemmas.{get_far, get_past, get_seated, moved_is, put_is, taken_is}

-- a seat, and the session and number that it is of
pub record IsSeatOf (session fd seat : ℕ) : Type 0 where
  pub first : session < 64
  pub few : fd < 64
  pub is : seat ≡ session * 64 + fd

pub seat_found : (session fd seat : ℕ) → seat_of session fd ≡ Some seat → IsSeatOf session fd seat
seat_found session fd seat e = split (nat_lt session 64 && nat_lt fd 64) refl
  where
    split : (b : Bool) → (nat_lt session 64 && nat_lt fd 64) ≡ b → IsSeatOf session fd seat
    split true f = record {
      first = ltb-true session 64 (and_left _ _ f);
      few = ltb-true fd 64 (and_right _ _ f);
      is = sym (some_same (session * 64 + fd) seat (sym (ap (λ b. cond b (Some (session * 64 + fd)) None) f) ∙ e));
    }
    split false f = let never : None ≡ Some seat = sym (ap (λ b. cond b (Some (session * 64 + fd)) None) f) ∙ e in absurd cc

module _ (files : List (Option OpenFile)) (session fd : ℕ) (all : length files ≡ 4096) where
  within : (seat : ℕ) → IsSeatOf session fd seat → session * 64 + fd < length files
  within seat p = omega (arith, all, p.first, p.few)

  -- what has no seat isn't open
  pub absent : seat_of session fd ≡ None → map.get (descriptors_in files) (session, fd) ≡ None
  absent e = split (nat_lt session 64) refl (nat_lt fd 64) refl
    where
      split : (a : Bool) → nat_lt session 64 ≡ a → (b : Bool) → nat_lt fd 64 ≡ b → map.get (descriptors_in files) (session, fd) ≡ None
      split false f b g = get_past files session fd all (ltb-false session 64 f)
      split true f false g = get_far files session fd (ltb-false fd 64 g)
      split true f true g = let never : Some (session * 64 + fd) ≡ None = sym (λ i. cond (f i && g i) (Some (session * 64 + fd)) None) ∙ e in absurd cc

  module _ (seat : ℕ) (is : seat_of session fd ≡ Some seat) where
    at : IsSeatOf session fd seat
    at = seat_found session fd seat is

    pub there : map.get (descriptors_in files) (session, fd) ≡ option_map descriptor_of (get_or files seat None)
    there = get_seated files session fd at.few ∙ ap (λ (n : ℕ). option_map descriptor_of (get_or files n None)) (sym at.is)

    pub closes : descriptors_in (set files seat None) ≡ closed (descriptors_in files) session fd
    closes = ap (λ (n : ℕ). descriptors_in (set files n None)) at.is ∙ taken_is files session fd at.few (within seat at)

    pub moves : (offset : ℕ) → descriptors_in (set files seat (option_map (with_offset offset) (get_or files seat None))) ≡ moved_to (descriptors_in files) session fd offset
    moves offset = ap (λ (n : ℕ). descriptors_in (set files n (option_map (with_offset offset) (get_or files n None)))) at.is ∙ moved_is files session fd at.few offset (within seat at)

-- a file is opened where nothing is open
module _ (files : List (Option OpenFile)) (session fd : ℕ) (all : length files ≡ 4096) (first : session < 64) (few : fd < 64) where
  pub opens : (f : OpenFile) → descriptors_in (set files (session * 64 + fd) (Some f)) ≡ opened (descriptors_in files) session fd (descriptor_of f)
  opens f = put_is files session fd few f (omega (arith, all, first, few))

  none_of : (o : Option OpenFile) → option_map descriptor_of o ≡ None → o ≡ None
  none_of None e = refl
  none_of (Some f) e = let never : Some (descriptor_of f) ≡ None = e in absurd cc

  pub vacant : map.get (descriptors_in files) (session, fd) ≡ None → get_or files (session * 64 + fd) None ≡ None
  vacant none = none_of (get_or files (session * 64 + fd) None) (sym (get_seated files session fd few) ∙ none)

-- to close what isn't open changes nothing
pub closed_none : (table : Descriptors) (session fd : ℕ) → map.get table (session, fd) ≡ None → table ≡ closed table session fd
closed_none table session fd none = map.same_map descriptors_total exact_descriptors _ _ (λ q. split q (same_or_apart descriptors_total exact_descriptors q (session, fd)))
  where
    split : (q : ℕ × ℕ) → (q ≡ (session, fd)) ⊎ (q ≢ (session, fd)) → map.get table q ≡ map.get (closed table session fd) q
    split q (inl e) = ap (map.get table) e ∙ none ∙ sym (ap (map.get (closed table session fd)) e ∙ get_removed descriptors_total table (session, fd))
    split q (inr a) = sym (get_left descriptors_total exact_descriptors table (session, fd) q a)

-- nor does another offset
pub moved_none : (table : Descriptors) (session fd offset : ℕ) → map.get table (session, fd) ≡ None → table ≡ moved_to table session fd offset
moved_none table session fd offset none = sym (ap (moved_if table session fd offset) none)

-- a reference to a file is one where the file is
pub seen_is : (o : Option (Bor OpenFile)) → is_some (option_map descriptor_of (option_copied o)) ≡ is_some o
seen_is None = refl
seen_is (Some f) = refl

pub some_of : {X : Type 0} (o : Option X) → is_some o ≡ false → o ≡ None
some_of None e = refl
some_of (Some x) e = absurd (true≢false e)

-- the search for a descriptor ends at the first that isn't open
pub next_is : (table : Descriptors) (session fd : ℕ) → ((k : ℕ) → k < fd → is_some (map.get table (session, k)) ≡ true) → map.get table (session, fd) ≡ None → fd < 64 → next_descriptor table session ≡ Ok fd
next_is table session fd used none few =
    let none_at : is_some (map.get table (session, 0 + fd)) ≡ false = ap (λ (n : ℕ). is_some (map.get table (session, n))) (zero-add fd) ∙ ap is_some none in
    ap (λ (o : Option ℕ). ok_or o (plain Emfile)) (first_found (λ k. is_some (map.get table (session, k))) 0 fd 64 (λ k low high. used k (omega (arith, high))) none_at few ∙ ap (λ (n : ℕ). Some n) (zero-add fd))

pub next_none : (table : Descriptors) (session : ℕ) → ((k : ℕ) → k < 64 → is_some (map.get table (session, k)) ≡ true) → next_descriptor table session ≡ Err (plain Emfile)
next_none table session used = ap (λ (o : Option ℕ). ok_or o (plain Emfile)) (none_without (λ k. is_some (map.get table (session, k))) 0 64 (λ k low high. used k (omega (arith, high))))

-- what is there is what was found
found_some : (o : Option Descriptor) (d : Descriptor) → ok_or o (plain Ebadf) ≡ Ok d → o ≡ Some d
found_some None d e = let never : Err (plain Ebadf) ≡ Ok d = e in absurd cc
found_some (Some x) d e = ok_some x d e
  where
    ok_some : (x d : Descriptor) → ok_or (Some x) (plain Ebadf) ≡ Ok d → Some x ≡ Some d
    ok_some x d e = cc

module _ (table : Descriptors) (session fd : ℕ) where
  pub closing_ok : (d : Descriptor) (r : Option ℕ) → descriptor_at table session fd ≡ Ok d → r ≡ released_if (closed table session fd) (map.get table (session, fd)) → Ok r ≡ closing table session fd
  closing_ok d r is told =
      let same : r ≡ released (closed table session fd) d = told ∙ ap (released_if (closed table session fd)) (found_some (map.get table (session, fd)) d is) in
      ap (λ (x : Option ℕ). Ok x) same ∙ sym (ap (λ (x : Result Descriptor Refusal). x >>= (λ d. Ok (released (closed table session fd) d))) is)

  pub closing_err : (e : Refusal) → descriptor_at table session fd ≡ Err e → Err e ≡ closing table session fd
  closing_err e is = sym (ap (λ (x : Result Descriptor Refusal). x >>= (λ d. Ok (released (closed table session fd) d))) is)

  module _ (limits : Limits) (offset : ℕ) where
    abbrev moves_after : Result Descriptor Refusal → Result Descriptors Refusal
    moves_after x = x >>= (λ _. is_offset limits offset >>= (λ _. Ok (moved_to table session fd offset)))

    pub seek_ok : (d : Descriptor) → descriptor_at table session fd ≡ Ok d → offset ≤ limits.largest_file → sought limits table session fd offset ≡ Ok (moved_to table session fd offset)
    seek_ok d is low = ap moves_after is ∙ ap (λ (b : Bool). cond b (Ok offset) (Err (plain Einval)) >>= (λ _. Ok (moved_to table session fd offset))) (le-leb offset limits.largest_file low)
