-- Calls that close nothing: who held a file holds it still.
use Rattle.std.proofs.Common.{◌≡◌, ◌⊎◌, inl, inr, ℕ, Bool, true, false, not, ◌||◌, cond, Option, Some, None, Ok, is_some, refl, sym, ap, subst, ◌∙◌, true≢false}
use Rattle.std.specs.FinMap as map
use Rattle.std.specs.Prelude.{IsSomeAnd, ok_or}
use Rattle.sn_limits.specs.declared.kind.Kind.TheVariants.{File}
use Rattle.sn_limits.specs.declared.limits.Limits.{Limits}
use Rattle.sn_walk.specs.declared.object.Home.TheVariants.{Live}
use Rattle.sn_model.specs.Tests.{plain}
use Rattle.sn_model.specs.declared.reply.Errno.TheVariants.{Emfile}
use Rattle.sn_model.specs.Descriptors.{Descriptors, descriptor_for, is_held_in, moved_if, moved_to, next_descriptor, opened}
use Rattle.sn_model.specs.declared.outcome.Caller.{Caller}
use Rattle.sn_model.specs.declared.outcome.Caller.TheVariants.{Closes, LogsIn, LogsOut, Moves, Opens, OpensNew, SetsUmask, Stays}
use Rattle.sn_model.specs.Settling.{dropped, is_held, is_nameless, without_nameless}
use Rattle.sn_model.specs.Steps.{filled, with_caller, with_live}
use Rattle.sn_model.specs.Tree.{Node, Tree}
use Rattle.sn_model.specs.World.{Descriptor, World}
use Rattle.sn_model.specs.Worlds.{IsWorld}
use Rattle.sn_model.proofs.ChainLemmas.{some_same}
use Rattle.sn_model.proofs.DecisionLemmas.{same_ok}
use Rattle.sn_model.proofs.DroppedLemmas.{all_held}
use Rattle.sn_model.proofs.HeldLemmas.{descriptors_total, exact_descriptors, held_at, held_by}
use Rattle.sn_model.proofs.MapLemmas.{get_inserted, get_other, same_or_apart}
use Rattle.sn_model.proofs.MoveLemmas.{is_kind}
use Rattle.sn_model.proofs.OtherCallLemmas.{caller_live}
use Rattle.sn_model.proofs.SearchLemmas.{is_found}
use Rattle.sn_model.proofs.SettlingLemmas.{get_without, nameless_is}
use Rattle.sn_overlay_change.specs.FirstNames.{StayNameless}
use Rattle.sn_changed.specs.Decided.{KeepsOpen}

-- whoever holds a file of these still does of those
abbrev pub StillHolds : Descriptors → Descriptors → Type 0
StillHolds old new = (n : ℕ) → is_held_in old n ≡ true → is_held_in new n ≡ true

pub same_holds : (old new : Descriptors) → new ≡ old → StillHolds old new
same_holds old new e n held = ap (λ (t : Descriptors). is_held_in t n) e ∙ held

pub some_descriptor : {P : Descriptor → Type 0} (o : Option Descriptor) → IsSomeAnd o P → (d : Descriptor) × (o ≡ Some d) × P d
some_descriptor None h = absurd h
some_descriptor (Some d) h = (d, refl, h)

abbrev Key : Type 0
Key = ℕ × ℕ

abbrev AreOne : Key → Key → Type 0
AreOne a b = a ≡ b

-- one more descriptor
pub opened_holds : (table : Descriptors) (session fd : ℕ) (d : Descriptor) → map.get table (session, fd) ≡ None → StillHolds table (opened table session fd d)
opened_holds table session fd d vacant n held =
    let b = held_by table n held in
    let x = some_descriptor (map.get table (b.0, b.1)) b.2 in
    let apart : AreOne (b.0, b.1) (session, fd) → ⊥ = (λ q. let never : None ≡ Some x.0 = sym vacant ∙ ap (map.get table) (sym q) ∙ x.1 in cc) in
    held_at (opened table session fd d) n b.0 b.1 x.0 (get_other descriptors_total exact_descriptors table (session, fd) d (b.0, b.1) apart ∙ x.1) x.2.0 x.2.1

-- a descriptor at another offset
pub moved_holds : (table : Descriptors) (session fd offset : ℕ) → StillHolds table (moved_to table session fd offset)
moved_holds table session fd offset n held = told (map.get table (session, fd)) refl
  where
    told : (o : Option Descriptor) → map.get table (session, fd) ≡ o → is_held_in (moved_if table session fd offset o) n ≡ true
    told None e = held
    told (Some d) e = split (same_or_apart descriptors_total exact_descriptors (b.0, b.1) (session, fd))
      where
        b : (i : ℕ) × (k : ℕ) × IsSomeAnd (map.get table (i, k)) (λ x. (x.home ≡ Live) × (x.number ≡ n))
        b = held_by table n held

        split : AreOne (b.0, b.1) (session, fd) ⊎ (AreOne (b.0, b.1) (session, fd) → ⊥) → is_held_in (opened table session fd (record d { offset = offset })) n ≡ true
        split (inl q) =
            let x = some_descriptor (map.get table (b.0, b.1)) b.2 in
            let both : Some x.0 ≡ Some d = sym x.1 ∙ ap (map.get table) q ∙ e in
            let same = some_same x.0 d both in
            held_at (opened table session fd (record d { offset = offset })) n session fd (record d { offset = offset }) (get_inserted descriptors_total table (session, fd) (record d { offset = offset }))
            (ap (λ (y : Descriptor). y.home) (sym same) ∙ x.2.0) (ap (λ (y : Descriptor). y.number) (sym same) ∙ x.2.1)
        split (inr apart) =
            let x = some_descriptor (map.get table (b.0, b.1)) b.2 in
            held_at (opened table session fd (record d { offset = offset })) n b.0 b.1 x.0 (get_other descriptors_total exact_descriptors table (session, fd) (record d { offset = offset }) (b.0, b.1) apart ∙ x.1) x.2.0 x.2.1

given_is : (o : Option ℕ) (fd : ℕ) → ok_or o (plain Emfile) ≡ Ok fd → o ≡ Some fd
given_is None fd e = cc
given_is (Some n) fd e = ap (λ (k : ℕ). Some k) (same_ok n fd e)

pub next_vacant : (table : Descriptors) (session fd : ℕ) → next_descriptor table session ≡ Ok fd → map.get table (session, fd) ≡ None
next_vacant table session fd e = told (map.get table (session, fd)) ((is_found (λ n. is_some (map.get table (session, n))) 0 64 fd (given_is _ fd e)).0)
  where
    told : (o : Option Descriptor) → is_some o ≡ false → o ≡ None
    told None f = refl
    told (Some d) f = absurd (true≢false f)

-- ---- files without names

-- what becomes of a caller that closes nothing
caller_holds : (world : World) (session : ℕ) (caller : Caller) → KeepsOpen world.descriptors session caller → StillHolds world.descriptors (with_caller world session caller).descriptors
caller_holds world session Stays keeps = λ n held. held
caller_holds world session (LogsIn s) keeps = λ n held. held
caller_holds world session (SetsUmask mask) keeps = λ n held. held
caller_holds world session LogsOut keeps = absurd keeps
caller_holds world session (Opens fd home number flags) keeps = opened_holds world.descriptors session fd (descriptor_for flags home number) (next_vacant world.descriptors session fd keeps)
caller_holds world session (OpensNew fd flags) keeps = λ n held. held
caller_holds world session (Closes fd) keeps = absurd keeps
caller_holds world session (Moves fd offset) keeps = moved_holds world.descriptors session fd offset

pub keeps_filled : (table : Descriptors) (session number : ℕ) (caller : Caller) → KeepsOpen table session caller → KeepsOpen table session (filled number caller)
keeps_filled table session number Stays keeps = keeps
keeps_filled table session number (LogsIn s) keeps = keeps
keeps_filled table session number (SetsUmask mask) keeps = keeps
keeps_filled table session number LogsOut keeps = keeps
keeps_filled table session number (Opens fd home other flags) keeps = keeps
keeps_filled table session number (OpensNew fd flags) keeps = keeps
keeps_filled table session number (Closes fd) keeps = keeps
keeps_filled table session number (Moves fd offset) keeps = keeps

-- in a world each is held
nameless_held : (limits : Limits) (world : World) (n : ℕ) → IsWorld limits world → is_nameless world.live n (map.get world.live.nodes n) ≡ true → is_held world n ≡ true
nameless_held limits world n w e = told (map.get world.live.nodes n) refl
  where
    told : (found : Option Node) → map.get world.live.nodes n ≡ found → is_held world n ≡ true
    told None f = absurd (true≢false (sym e ∙ ap (is_nameless world.live n) f))
    told (Some node) f =
        let is = nameless_is world.live n node (sym (ap (is_nameless world.live n) f) ∙ e) in
        all_held limits world w n (is_kind world.live n node File f is.0) is.1

-- and what is held isn't dropped
held_stays : (held : ℕ → Bool) (tree : Tree) (n : ℕ) → held n ≡ true → is_nameless tree n (map.get tree.nodes n) ≡ true → is_nameless (without_nameless held tree) n (map.get (without_nameless held tree).nodes n) ≡ true
held_stays held tree n h e = ap (is_nameless tree n) (get_without held tree n ∙ told (is_nameless tree n (map.get tree.nodes n))) ∙ e
  where
    told : (b : Bool) → cond (not b || held n) (map.get tree.nodes n) None ≡ map.get tree.nodes n
    told true = ap (λ b. cond b (map.get tree.nodes n) None) h
    told false = refl

pub kept_open_stay : (limits : Limits) (world : World) (session : ℕ) (caller : Caller) (after : Tree) → IsWorld limits world → StayNameless world.live after → KeepsOpen world.descriptors session caller → StayNameless world.live (dropped (with_caller (with_live world after) session caller)).live
kept_open_stay limits world session caller after w stay keeps n e =
    let next = with_caller (with_live world after) session caller in
    let held : is_held next n ≡ true = caller_holds (with_live world after) session caller keeps n (nameless_held limits world n w e) in
    let P : Tree → Type 0 = λ t. is_nameless (without_nameless (is_held next) t) n (map.get (without_nameless (is_held next) t).nodes n) ≡ true in
    subst P (sym (caller_live (with_live world after) session caller)) (held_stays (is_held next) after n held (stay n e))
