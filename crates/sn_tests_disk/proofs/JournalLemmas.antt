-- The steps of a `put` into the two sectors of the example.
use Rattle.std.proofs.Common.{◌≡◌, ◌≢◌, ◌⊎◌, inl, inr, ⊎_elim, ℕ, ◌<◌, ◌==◌, Bool, true, false, Result, List, [], length, slice_index, slice_set, None, Some, if◌then◌else◌, refl, ◌∙◌, ap, subst, arith}
use Rattle.std.proofs.lemmas.List.{length-set, get_or-set_same, get_or-set_other}
use Rattle.sn_device.specs.Sectors.{Contents, sector_at, AreSectors, DependsOn, AreDisjoint, Single}
use Rattle.sn_device.specs.Disk.{Moment, Disk, next, written, synced, MayLeave}
use Rattle.sn_device.specs.Device.{Writes}
use Rattle.sn_device.specs.Crash.{LeavesOnly}
use Rattle.sn_device.specs.declared.status.Status.{Status}
use Rattle.sn_tests_disk.specs.Journal.{body_of, Holds, IsBeforeOrAfter}
use Rattle.sn_device.proofs.CrashLemmas.{LeavesOnly-start, TouchesOnly-written, MayLeave-kept}
use Rattle.sn_device.proofs.CallLemmas.{LeavesOnly-write}
use Rattle.sn_device.proofs.DiskLemmas.{MayLeave-synced, MayLeave-written}

IsClosed : Contents → Type 0
IsClosed c = (slice_index (sector_at c 0) 0 == 1) ≡ false

body_of-closed : (c : Contents) → IsClosed c → body_of c ≡ None
unfolding IsClosed
body_of-closed c closed = ap (λ (b : Bool). if b then Some (sector_at c 1) else None) closed

closed-body_of : (c : Contents) → body_of c ≡ None → IsClosed c
unfolding IsClosed
closed-body_of c none = from (slice_index (sector_at c 0) 0 == 1) none
  where
    from : (b : Bool) → (if b then Some (sector_at c 1) else None) ≡ None → b ≡ false
    from true some = cc
    from false some = refl

-- the gate alone says whether a body counts
gate_alone : DependsOn (Single 0) (λ c. body_of c ≡ None)
unfolding IsClosed
gate_alone c d whole_c whole_d agrees none =
    body_of-closed d (ap (λ (s : List ℕ). slice_index s 0 == 1) (agrees.same 0 refl) ∙ closed-body_of c none)

apart : AreDisjoint (Single 1) (Single 0)
apart i one none = omega arith

-- behind the closed gate anything may be written
pub put-body : (m : Moment) → AreSectors m.sectors → ((c : Contents) → MayLeave m c → body_of c ≡ None) → (b : List ℕ) (c : Contents) → MayLeave (written 1 b m) c → body_of c ≡ None
put-body m whole empty b c left =
    MayLeave-kept (Single 1) (Single 0) (λ d. body_of d ≡ None) gate_alone apart m (written 1 b m) whole empty (TouchesOnly-written (Single 1) 1 b m refl) c left

-- with the body in place the gate may hold anything
before_or_after : (body : List ℕ) (c : Contents) → sector_at c 1 ≡ body → IsBeforeOrAfter body c
before_or_after body c is = either (slice_index (sector_at c 0) 0 == 1)
  where
    either : (b : Bool) → ((if b then Some (sector_at c 1) else None) ≡ None) ⊎ ((if b then Some (sector_at c 1) else None) ≡ Some body)
    either true = inr (ap Some is)
    either false = inl refl

pub put-gate : (m : Moment) (body : List ℕ) → sector_at m.sectors 1 ≡ body → (b : List ℕ) (c : Contents) → MayLeave (written 0 b (synced m)) c → IsBeforeOrAfter body c
put-gate m body is b c left =
    let gate_only : sector_at c 1 ≡ sector_at m.sectors 1 = (MayLeave-written 0 b (synced m) c left).same 1 (⊎_elim (apart 1 refl) (λ (k, past, _). omega arith)) in
    before_or_after body c (gate_only ∙ is)

-- the body is in place once it was written and synced
pub put-in_place : (sectors : Contents) (body : List ℕ) → 1 < length sectors → sector_at (slice_set sectors 1 body) 1 ≡ body
put-in_place sectors body room = get_or-set_same sectors 1 body [] room

-- and counts once the open gate is synced
pub put-open : (m : Moment) (body gate : List ℕ) → 0 < length m.sectors → sector_at m.sectors 1 ≡ body → (slice_index gate 0 == 1) ≡ true
    → (c : Contents) → MayLeave (synced (written 0 gate m)) c → body_of c ≡ Some body
put-open m body gate room is is_open c left =
    let same : c ≡ slice_set m.sectors 0 gate = MayLeave-synced (written 0 gate m) c left in
    let apart_from : 1 ≢ 0 = λ same. apart 1 refl same in
    let gate_is : sector_at (slice_set m.sectors 0 gate) 0 ≡ gate = get_or-set_same m.sectors 0 gate [] room in
    let body_is : sector_at (slice_set m.sectors 0 gate) 1 ≡ body = get_or-set_other m.sectors 0 1 gate [] apart_from ∙ is in
    ap body_of same
    ∙ ap (λ (b : Bool). if b then Some (sector_at (slice_set m.sectors 0 gate) 1) else None) (ap (λ (s : List ℕ). slice_index s 0 == 1) gate_is ∙ is_open)
    ∙ ap Some body_is

module _ (body : List ℕ) (d0 : Disk) (whole : AreSectors d0.present.sectors) (room : 1 < length d0.present.sectors) (empty : Holds None d0) where
  pub first : {T E : Type 0} (r : Result T E) (d1 : Disk) (status : Status) → Writes 1 body r d0 d1 status → LeavesOnly d0 d1 (IsBeforeOrAfter body)
  first r d1 status call =
      LeavesOnly-write (IsBeforeOrAfter body) 1 body r d0 d0 d1 status (LeavesOnly-start d0 (IsBeforeOrAfter body) (λ c now. inl (empty c now))) call (λ b c left. inl (put-body d0.present whole empty b c left))

  module _ (d1 d2 : Disk) (wrote : d1 ≡ next d0 (written 1 body d0.present)) (kept : d2 ≡ next d1 (synced d1.present)) where
    settled : d2.present ≡ synced (written 1 body d0.present)
    settled = ap (λ (d : Disk). d.present) kept ∙ ap (λ (d : Disk). synced d.present) wrote

    in_place : sector_at (slice_set d0.present.sectors 1 body) 1 ≡ body
    in_place = put-in_place d0.present.sectors body room

    pub third : {T E : Type 0} (gate : List ℕ) (r : Result T E) (d3 : Disk) (status : Status) → LeavesOnly d0 d2 (IsBeforeOrAfter body) → Writes 0 gate r d2 d3 status → LeavesOnly d0 d3 (IsBeforeOrAfter body)
    third gate r d3 status run call =
        LeavesOnly-write (IsBeforeOrAfter body) 0 gate r d0 d2 d3 status run call
        (λ b c left. put-gate (written 1 body d0.present) body in_place b c (subst (λ m. MayLeave (written 0 b m) c) settled left))

    pub last : (gate : List ℕ) (d3 d4 : Disk) → (slice_index gate 0 == 1) ≡ true → d3 ≡ next d2 (written 0 gate d2.present) → d4 ≡ next d3 (synced d3.present) → Holds (Some body) d4
    last gate d3 d4 is_open opened synced_too c now =
        let present : d4.present ≡ synced (written 0 gate (synced (written 1 body d0.present))) =
        ap (λ (d : Disk). d.present) synced_too ∙ ap (λ (d : Disk). synced d.present) opened ∙ ap (λ (m : Moment). synced (written 0 gate m)) settled in
        let count : length (slice_set d0.present.sectors 1 body) ≡ length d0.present.sectors = length-set d0.present.sectors 1 body in
        put-open (synced (written 1 body d0.present)) body gate (omega (arith, count, room)) in_place is_open c (subst (λ m. MayLeave m c) present now)
