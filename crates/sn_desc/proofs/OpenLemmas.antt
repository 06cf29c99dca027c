-- Whether anything of a tree is open, by the seats and by the finite map.
use Rattle.std.proofs.Common.{◌≡◌, ℕ, ◌+◌, ◌*◌, ◌/◌, ◌%◌, ◌<◌, ◌≤◌, Bool, true, false, nat_lt, List, Option, Some, None, length, get_or, refl, sym, subst, arith}
use Rattle.std.specs.FinMap as map
use Rattle.std.specs.Prelude.{IsSomeAnd}
use Rattle.std.specs.Option.{option_map}
use Rattle.std.proofs.lemmas.Bool.{ltb-true, ltb-false}
use Rattle.std.proofs.lemmas.List.{get_or_past}
use Rattle.sn_walk.specs.declared.object.Home.{Home}
use Rattle.sn_model.specs.World.{Descriptor}
use Rattle.sn_desc.specs.declared.open_file.OpenFile.{OpenFile}
use Rattle.sn_desc.specs.InUse.{HasOpen, descriptor_of, descriptors_in}
use Rattle.sn_desc.specs.OpenFiles.{IsOpenIn}
use Rattle.sn_desc.proofs.SeatLemmas.{get_seated, get_far}

-- after the last seat nothing is open
pub none_past : (files : List (Option OpenFile)) (home : Home) (seat : ℕ) → length files ≤ seat → IsOpenIn home (get_or files seat None) → ⊥
none_past files home seat past open_there = subst (IsOpenIn home) (get_or_past files seat None past) open_there

module _ (home : Home) where
  there : (o : Option OpenFile) → IsOpenIn home o → IsSomeAnd (option_map descriptor_of o) (λ d. d.home ≡ home)
  there None is = absurd is
  there (Some f) is = is

  back : (o : Option OpenFile) → IsSomeAnd (option_map descriptor_of o) (λ d. d.home ≡ home) → IsOpenIn home o
  back None is = absurd is
  back (Some f) is = is

  nothing : (o : Option Descriptor) → o ≡ None → IsSomeAnd o (λ d. d.home ≡ home) → ⊥
  nothing None none is = is
  nothing (Some d) none is = absurd cc

  module _ (files : List (Option OpenFile)) where
    abbrev OpenAt : Type 0
    OpenAt = (seat : ℕ) × IsOpenIn home (get_or files seat None)

    pub open_has : OpenAt → HasOpen (descriptors_in files) home
    open_has (seat, is) =
        let at : seat / 64 * 64 + seat % 64 ≡ seat = omega arith in
        let few : seat % 64 < 64 = omega arith in (
          seat / 64,
          seat % 64,
          subst (λ (o : Option Descriptor). IsSomeAnd o (λ d. d.home ≡ home)) (sym (get_seated files (seat / 64) (seat % 64) few))
              (there (get_or files (seat / 64 * 64 + seat % 64) None) (subst (λ (n : ℕ). IsOpenIn home (get_or files n None)) (sym at) is)),
        )

    pub has_open : HasOpen (descriptors_in files) home → OpenAt
    has_open (session, fd, is) = split (nat_lt fd 64) refl
      where
        split : (b : Bool) → nat_lt fd 64 ≡ b → OpenAt
        split true e = (session * 64 + fd, back (get_or files (session * 64 + fd) None) (subst (λ (o : Option Descriptor). IsSomeAnd o (λ d. d.home ≡ home)) (get_seated files session fd (ltb-true fd 64 e)) is))
        split false e = absurd (nothing (map.get (descriptors_in files) (session, fd)) (get_far files session fd (ltb-false fd 64 e)) is)
