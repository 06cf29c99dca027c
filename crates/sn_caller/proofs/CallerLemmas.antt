-- What becomes of descriptors, and of the files that they had.
use Rattle.std.proofs.Common.{◌≡◌, ℕ, zero, suc, ◌<◌, Bool, true, false, not, ◌||◌, ◌==◌, cond, List, [], ◌∷◌, Option, Some, None, is_some, length, Contains, refl, sym, ap, subst, ◌∙◌, arith, true≢false, eq-eqb, eqb-true}
use Rattle.std.specs.FinMap as map
use Rattle.std.specs.Cmp.{nat_cmp_total}
use Rattle.std.specs.Prelude.{IsSomeAnd, slice_get}
use Rattle.std.proofs.lemmas.Map.Lookups.{exact_unsigned}
use Rattle.sn_limits.specs.declared.kind.Kind.TheVariants.{File}
use Rattle.sn_limits.specs.Versions.{limits_written}
use Rattle.sn_model.specs.declared.outcome.Caller.{Caller}
use Rattle.sn_model.specs.declared.outcome.Caller.TheVariants.{Stays, LogsIn, SetsUmask, LogsOut, Opens, OpensNew, Closes, Moves}
use Rattle.sn_model.specs.declared.outcome.Pending.{Pending}
use Rattle.sn_model.specs.declared.session.Session.{Session}
use Rattle.sn_model.specs.Descriptors.{Descriptors, closed, is_held_in}
use Rattle.sn_model.specs.NameTree.{IsTree}
use Rattle.sn_model.specs.Changes.{take_node}
use Rattle.sn_model.specs.Settling.{OnlyLost, dropped, dropped_if, is_abandoned, is_held, is_nameless, without_nameless}
use Rattle.sn_model.specs.Steps.{filled, with_caller}
use Rattle.sn_model.specs.Tree.{Node, Tree}
use Rattle.sn_model.specs.Worlds.{IsLoggedIn}
use Rattle.sn_model.specs.World.{World}
use Rattle.sn_model.proofs.ChainLemmas.{and_left, some_same}
use Rattle.sn_model.proofs.DropLemmas.{dropping_tree}
use Rattle.sn_model.proofs.LoseLemmas.{abandoned_is, dropped_once, is_abandoned_at, none_dropped, still_abandoned}
use Rattle.sn_model.proofs.MapLemmas.{get_left, get_removed}
use Rattle.sn_model.proofs.MoveLemmas.{some_node}
use Rattle.sn_model.proofs.OtherCallLemmas.{caller_live}
use Rattle.sn_model.proofs.OutcomeLemmas.{FitsCaller}
use Rattle.sn_model.proofs.SettlingLemmas.{get_without}
use Rattle.sn_changed.proofs.HoldsLemmas.{StillHolds}
use Rattle.sn_desc.specs.Closing.{released_if}
use Rattle.sn_desc.proofs.ReleaseLemmas.{told_last}
use Rattle.sn_caller.specs.Called.{AreNumbers, CanTurn, HasRoom, HasRoomNow, TellsReleased}

-- ---- what is released

pub none_released : (old new : World) (numbers : List ℕ) → StillHolds old.descriptors new.descriptors → TellsReleased old new numbers
none_released old new numbers holds n held left = absurd (true≢false (sym (holds n held) ∙ left))

-- ---- what a caller that was decided needs

some_within : (sessions : List (Option Session)) (i : ℕ) → IsSomeAnd (slice_get sessions i) (λ s. is_some s ≡ true) → i < length sessions
some_within [] i h = absurd h
some_within (s ∷ sessions) zero h = omega arith
some_within (s ∷ sessions) (suc i) h = omega (arith, some_within sessions i h)

-- where a file is opened with its number there is room for it
pub can_room : (table : Descriptors) (room session : ℕ) (caller : Caller) → CanTurn table room session caller → HasRoomNow caller room
can_room table room session Stays can = tt
can_room table room session (LogsIn s) can = tt
can_room table room session (SetsUmask mask) can = tt
can_room table room session LogsOut can = tt
can_room table room session (Opens fd home number flags) can = can.room_left
can_room table room session (OpensNew fd flags) can = tt
can_room table room session (Closes fd) can = tt
can_room table room session (Moves fd offset) can = tt

pub has_room : (room : ℕ) (caller : Caller) → HasRoom caller room → HasRoomNow caller room
has_room room Stays has = tt
has_room room (LogsIn s) has = tt
has_room room (SetsUmask mask) has = tt
has_room room LogsOut has = tt
has_room room (Opens fd home number flags) has = has refl
has_room room (OpensNew fd flags) has = tt
has_room room (Closes fd) has = tt
has_room room (Moves fd offset) has = tt

module _ (world : World) (session room : ℕ) (count : length world.sessions ≡ 64) where
  seat_within : IsLoggedIn world session → session < 64
  seat_within h = omega (arith, count, some_within world.sessions session h)

  pub can_turn : (change : Pending) (caller : Caller) → FitsCaller limits_written world session change caller → HasRoom caller room → CanTurn world.descriptors room session caller
  can_turn change Stays fits has = tt
  can_turn change (LogsIn s) fits has = tt
  can_turn change (SetsUmask mask) fits has = tt
  can_turn change LogsOut fits has = tt
  can_turn change (Opens fd home number flags) fits has = record { session_within = seat_within fits.0.caller; room_left = has refl; next = fits.0.next }
  can_turn change (OpensNew fd flags) fits has = tt
  can_turn change (Closes fd) fits has = tt
  can_turn change (Moves fd offset) fits has = tt

  -- the same with a new file's number
  pub can_turn_filled : (change : Pending) (caller : Caller) (n : ℕ) → FitsCaller limits_written world session change caller → HasRoom caller room → CanTurn world.descriptors room session (filled n caller)
  can_turn_filled change Stays n fits has = tt
  can_turn_filled change (LogsIn s) n fits has = tt
  can_turn_filled change (SetsUmask mask) n fits has = tt
  can_turn_filled change LogsOut n fits has = tt
  can_turn_filled change (Opens fd home number flags) n fits has = record { session_within = seat_within fits.0.caller; room_left = has refl; next = fits.0.next }
  can_turn_filled change (OpensNew fd flags) n fits has = record { session_within = seat_within fits.0.caller; room_left = has refl; next = fits.0.next }
  can_turn_filled change (Closes fd) n fits has = tt
  can_turn_filled change (Moves fd offset) n fits has = tt

-- ---- files that are abandoned

-- what may be dropped is a node's number
pub abandoned_numbers : (world : World) → IsTree limits_written world.live → AreNumbers world
abandoned_numbers world whole n e = let s = some_node _ File (abandoned_is world n e).file in (whole.nodes.nodes n s.0 s.1).first

-- a name tree without one of its nameless files is one
module _ (tree : Tree) (n : ℕ) (nameless : is_nameless tree n (map.get tree.nodes n) ≡ true) where
  others : ℕ → Bool
  others k = not (k == n)

  left_nodes : (k : ℕ) → map.get (without_nameless others tree).nodes k ≡ map.get (take_node tree n).nodes k
  unfolding others
  left_nodes k = get_without others tree k ∙ told (k == n) refl
    where
      shown : Bool → Option Node
      shown b = cond (not (is_nameless tree k (map.get tree.nodes k)) || not b) (map.get tree.nodes k) None

      kept : (b : Bool) → cond (b || true) (map.get tree.nodes k) None ≡ map.get tree.nodes k
      kept true = refl
      kept false = refl

      told : (b : Bool) → (k == n) ≡ b → shown (k == n) ≡ map.get (take_node tree n).nodes k
      told true e =
          let q = eqb-true k n e in
          ap shown e
          ∙ ap (λ m. cond (not (is_nameless tree m (map.get tree.nodes m)) || false) (map.get tree.nodes m) None) q
          ∙ ap (λ b. cond (not b || false) (map.get tree.nodes n) None) nameless
          ∙ sym (ap (map.get (take_node tree n).nodes) q ∙ get_removed nat_cmp_total tree.nodes n)
      told false e = ap shown e ∙ kept _ ∙ sym (get_left nat_cmp_total exact_unsigned tree.nodes n k (λ q. true≢false (sym (eq-eqb k n q) ∙ e)))

  pub taken_tree : IsTree limits_written tree → IsTree limits_written (take_node tree n)
  taken_tree whole =
      let nodes = map.same_map nat_cmp_total exact_unsigned _ _ left_nodes in
      subst (IsTree limits_written) (λ i. record tree { nodes = nodes i }) (dropping_tree limits_written tree others whole)

-- what is abandoned has no name
pub is_left_nameless : (world : World) (n : ℕ) → is_abandoned world n ≡ true → is_nameless world.live n (map.get world.live.nodes n) ≡ true
is_left_nameless world n e = and_left _ (not (is_held world n)) e

module _ (old new : World) (live : new.live ≡ old.live) where
  same_abandoned : (n : ℕ) → is_held old n ≡ false → is_abandoned new n ≡ true → is_abandoned old n ≡ true
  same_abandoned n left e =
      let a = abandoned_is (record new { live = old.live }) n (ap (λ t. is_abandoned (record new { live = t }) n) (sym live) ∙ e) in
      is_abandoned_at old n (record { file = a.file; nameless = a.nameless; left = left })

  -- it was released, or lost its name
  pub released_or_lost : (numbers : List ℕ) (lost : Option ℕ) → TellsReleased old new numbers → OnlyLost old lost → (n : ℕ) → is_abandoned new n ≡ true → (Contains numbers n → ⊥) → lost ≡ Some n
  released_or_lost numbers lost tells only n e not_told = told (is_held old n) refl
    where
      told : (b : Bool) → is_held old n ≡ b → lost ≡ Some n
      told true h = absurd (not_told (tells n h (abandoned_is new n e).left))
      told false h = only n (same_abandoned n h e)

-- what lost its name is looked at last
pub none_more : (world : World) → OnlyLost world None → world ≡ dropped world
none_more world only = sym (none_dropped limits_written world (λ n e. let never : None ≡ Some n = only n e in cc))

pub one_more : (world : World) (number : ℕ) → OnlyLost world (Some number) → dropped_if world number ≡ dropped world
one_more world number only =
    sym (none_dropped limits_written (dropped_if world number) (λ n e.
    let s = still_abandoned world number n e in
    s.1 (sym (some_same number n (only n s.0)))))
    ∙ dropped_once world number

-- a close reports the file of which its descriptor was the last
pub close_tells : (table new : Descriptors) (session fd : ℕ) (told : Option ℕ) → new ≡ closed table session fd → told ≡ released_if (closed table session fd) (map.get table (session, fd)) → (n : ℕ) → is_held_in table n ≡ true → is_held_in new n ≡ false → told ≡ Some n
close_tells table new session fd told e is n held left =
    is ∙ told_last table (session, fd) n (held, ap (λ (t : Descriptors). is_held_in t n) (sym e) ∙ left)

-- a caller that has turned leaves the tree
module _ (old new : World) (session : ℕ) (caller : Caller) (turned : new ≡ with_caller old session caller) where
  pub live_after : new.live ≡ old.live
  live_after = ap (λ (w : World). w.live) turned ∙ caller_live old session caller

  pub turned_numbers : IsTree limits_written old.live → AreNumbers new
  turned_numbers whole = abandoned_numbers new (subst (IsTree limits_written) (sym live_after) whole)

  -- once each that was released is looked at, only what lost its name is left
  pub turned_lost : (mid : World) (numbers seen : List ℕ) (lost : Option ℕ) → seen ≡ numbers → TellsReleased old new numbers → OnlyLost old lost → ((n : ℕ) → is_abandoned mid n ≡ true → (is_abandoned new n ≡ true) × (Contains seen n → ⊥)) → OnlyLost mid lost
  turned_lost mid numbers seen lost same tells only left n e =
      let l = left n e in
      released_or_lost old new live_after numbers lost tells only n l.0 (λ k. l.1 (subst (λ (xs : List ℕ). Contains xs n) (sym same) k))
