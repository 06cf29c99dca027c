-- An append, from the writes that it makes.
use Rattle.std.proofs.Common.{◌≡◌, ◌⊎◌, inl, inr, ⊎_elim, ℕ, ◌+◌, ◌<◌, ◌≤◌, List, [], ◌∷◌, ◌++◌, length, slice_index, slice_set, Result, Ok, Err, refl, sym, ◌∙◌, ap, subst, arith}
use Rattle.std.proofs.lemmas.List.{get_or-set_same, get_or-set_other, length-set}
use Rattle.sn_device.specs.Sectors.{Contents, AreSectors, AgreesOutside, Single, Stretch, sector_at}
use Rattle.sn_device.specs.Disk.{Disk, Always, IsSynced, reads}
use Rattle.sn_device.specs.Crash.{Touches, LeavesOnly}
use Rattle.sn_device.proofs.CrashLemmas.{LeavesOnly-touched, LeavesOnly-now, LeavesOnly-weaker, Touches-join, Touches-within, Always-synced, Always-reads}
use Rattle.sn_device.proofs.SectorLemmas.{Stretch-within, Stretch-single}
use Rattle.sn_layout.specs.Gate.{gate_bytes}
use Rattle.sn_layout.specs.declared.gate.Gate.TheVariants.{Open, Closed}
use Rattle.sn_model.specs.declared.change.Change.{Change}
use Rattle.sn_ondisk.specs.Gates.{IsOpen, IsClosed}
use Rattle.sn_ondisk.specs.Blocks.{bytes_at}
use Rattle.sn_ondisk.specs.LogHalf.{HasRecord, IsReady, InHalf, body_bytes, body_sectors, place_after}
use Rattle.sn_ondisk.proofs.LogLemmas.{ready-same, open_gate_adds}
use Rattle.sn_ondisk.proofs.AppendLemmas.{append_adds}
use Rattle.sn_block.specs.Effects.{WritesSynced}
use Rattle.sn_block.proofs.EffectLemmas.{OnOk-both, OnOk-then}
use Rattle.sn_record.specs.Payload.{IsSpelled, payload_bytes}
use Rattle.sn_log.specs.Positions.{LogPosition, base_at, payloads_of, behind, HasRoom, IsReadyAt}
use Rattle.sn_log.specs.Appending.{Appends, WritesBehind}

pub payloads-more : (changes : List Change) (change : Change) → payloads_of (changes ++ change ∷ []) ≡ payloads_of changes ++ payload_bytes change ∷ []
payloads-more [] change = refl
payloads-more (c ∷ cs) change = ap (λ ps. payload_bytes c ∷ ps) (payloads-more cs change)

pub count-more : (changes : List Change) (change : Change) → length (changes ++ change ∷ []) ≡ length changes + 1
count-more [] change = omega arith
count-more (c ∷ cs) change = omega (arith, count-more cs change)

pub payloads-count : (changes : List Change) → length (payloads_of changes) ≡ length changes
payloads-count [] = refl
payloads-count (c ∷ cs) = omega (arith, payloads-count cs)

-- a gate's write alone
pub agrees-set : (c : Contents) (at : ℕ) (sector : List ℕ) → AgreesOutside (Single at) c (slice_set c at sector)
agrees-set c at sector = record { count = length-set c at sector; same = λ i out. get_or-set_other c at i sector [] (λ same. out same) }

pub opened-set : (c : Contents) (at : ℕ) → at < length c → IsOpen (slice_set c at (gate_bytes Open)) at
opened-set c at room = ap (λ s. slice_index s 0) (get_or-set_same c at (gate_bytes Open) [] room)

-- a closed gate's sector
closed_there : (c : Contents) (at : ℕ) → sector_at c at ≡ gate_bytes Closed → IsClosed c at
closed_there c at is opened = let zero_is : 0 ≡ 1 = sym (ap (λ s. slice_index s 0) is) ∙ opened in omega (arith, zero_is)

module _ (at : LogPosition) (change : Change) (spelled : IsSpelled change) (room : HasRoom at change) where
  abbrev base : ℕ
  base = base_at at

  abbrev payload : List ℕ
  payload = payload_bytes change

  abbrev gate : ℕ
  gate = base + at.place

  -- the sectors that are written after the gate are of the half, apart from what is there
  behind_within : (old new : Disk) → Touches (Stretch (gate + 1) (body_sectors payload + 1)) old new → Touches (InHalf base) old new
  behind_within old new touched = Touches-within (Stretch (gate + 1) (body_sectors payload + 1)) (InHalf base) old new (Stretch-within (gate + 1) (body_sectors payload + 1) base 256 (omega arith) (omega (arith, room))) touched

  behind_kept : (changes : List Change) (old new : Disk) → AreSectors (reads old) → Always old (IsReadyAt at changes) → Touches (Stretch (gate + 1) (body_sectors payload + 1)) old new → LeavesOnly old new (IsReadyAt at changes)
  behind_kept changes old new whole before touched =
      LeavesOnly-touched (Stretch (gate + 1) (body_sectors payload + 1)) (Stretch base (at.place + 1)) (IsReadyAt at changes)
      (λ c d whole_c whole_d agrees is. record { count = is.count; ready = ready-same c d base at.epoch at.place (payloads_of changes) (λ i from to. agrees.same i (from, to)) is.ready })
      (λ i far near. omega (arith, far.0, near.1))
      old new whole before touched

  -- the body or the next gate failed
  pub append-failed : {T E : Type 0} (e : E) (old new : Disk) → AreSectors (reads old) → Touches (Stretch (gate + 1) (body_sectors payload + 1)) old new → Appends {T = T} at change (Err e) old new
  append-failed e old new whole touched = record {
    touched = behind_within old new touched;
    any_moment = λ changes before. LeavesOnly-weaker old new (IsReadyAt at changes) _ (λ c ready. inl ready) (behind_kept changes old new whole before touched);
    acknowledged = λ changes before. tt;
    synced = tt;
    gate = tt;
    next_gate = tt;
  }

  module _ (bytes : List ℕ) (is : bytes ≡ body_bytes at.epoch at.count payload) (fits : (1 ≤ length payload) × (length payload ≤ 65547)) (old mid new : Disk) (whole : AreSectors (reads old)) (whole_mid : AreSectors (reads mid))
      (inside : gate < length (reads mid)) (touched : Touches (Stretch (gate + 1) (body_sectors payload + 1)) old mid) (body : bytes_at (reads mid) (gate + 1) (body_sectors payload) ≡ bytes)
      (shut : sector_at (reads mid) (gate + 1 + body_sectors payload) ≡ gate_bytes Closed) (synced : IsSynced mid) where
    has_record : HasRecord (reads mid) base at.epoch at.place at.count payload
    has_record = record { least = fits.0; most = fits.1; room = room; bytes = body ∙ is }

    -- the next gate
    next_at : gate + 1 + body_sectors payload ≡ base + place_after at.place payload
    next_at = omega arith

    next_shut : sector_at (reads mid) (base + place_after at.place payload) ≡ gate_bytes Closed
    next_shut = subst (λ n. sector_at (reads mid) n ≡ gate_bytes Closed) next_at shut

    is_shut : IsClosed (reads mid) (base + place_after at.place payload)
    is_shut = closed_there (reads mid) (base + place_after at.place payload) next_shut

    module _ {T E : Type 0} (r : Result T E) (opening : WritesSynced gate (gate_bytes Open) r mid new) where
      all_touched : Touches (InHalf base) old new
      all_touched =
          Touches-join (InHalf base) old mid new (behind_within old mid touched) (Touches-within (Single gate) (InHalf base) mid new (Stretch-single base 256 gate (omega arith, omega (arith, room))) opening.touched)

      module _ (changes : List Change) (before : Always old (IsReadyAt at changes)) where
        count : at.count ≡ length changes
        count = (Always-reads old (IsReadyAt at changes) whole before).count

        record_here : HasRecord (reads mid) base at.epoch at.place (length (payloads_of changes)) payload
        record_here = subst (λ s. HasRecord (reads mid) base at.epoch at.place s payload) (count ∙ sym (payloads-count changes)) has_record

        more : (c : Contents) → IsReady c base at.epoch (payloads_of changes ++ payload ∷ []) (place_after at.place payload) → IsReadyAt (behind at change) (changes ++ change ∷ []) c
        more c ready = record {
          count = omega (arith, count, count-more changes change);
          ready = subst (λ ps. IsReady c base at.epoch ps (place_after at.place payload)) (sym (payloads-more changes change)) ready;
        }

        at_any_moment : LeavesOnly old new (λ c. IsReadyAt at changes c ⊎ IsReadyAt (behind at change) (changes ++ change ∷ []) c)
        at_any_moment = LeavesOnly-weaker old new
            (λ c. IsReady c base at.epoch (payloads_of changes) at.place ⊎ IsReady c base at.epoch (payloads_of changes ++ payload ∷ []) (place_after at.place payload))
            (λ c. IsReadyAt at changes c ⊎ IsReadyAt (behind at change) (changes ++ change ∷ []) c)
            (λ c either. ⊎_elim (λ ready. inl (record { count = count; ready = ready })) (λ ready. inr (more c ready)) either)
            (append_adds base at.epoch at.place (payloads_of changes) payload old mid new whole whole_mid (λ c now. (before c now).ready) touched
            (Always-synced mid (λ c. HasRecord c base at.epoch at.place (length (payloads_of changes)) payload × IsClosed c (base + place_after at.place payload)) synced (record_here, is_shut)) opening.touched)

        ready_mid : IsReady (reads mid) base at.epoch (payloads_of changes) at.place
        ready_mid = (Always-reads mid (IsReadyAt at changes) whole_mid (LeavesOnly-now old mid (IsReadyAt at changes) (behind_kept changes old mid whole before touched))).ready

        ready_then : reads new ≡ slice_set (reads mid) gate (gate_bytes Open) → IsReadyAt (behind at change) (changes ++ change ∷ []) (reads new)
        ready_then done = more (reads new) (subst (λ c. IsReady c base at.epoch (payloads_of changes ++ payload ∷ []) (place_after at.place payload)) (sym done)
            (open_gate_adds (reads mid) (slice_set (reads mid) gate (gate_bytes Open)) base at.epoch at.place (payloads_of changes) payload (record { ready = ready_mid; body = record_here; shut = is_shut })
            (agrees-set (reads mid) gate (gate_bytes Open)) (opened-set (reads mid) gate inside)))

      pub append-done : Appends at change r old new
      append-done = record {
        touched = all_touched;
        any_moment = at_any_moment;
        acknowledged = λ changes before. OnOk-both r (λ is_synced done. Always-synced new (IsReadyAt (behind at change) (changes ++ change ∷ [])) is_synced (ready_then changes before done)) opening.synced opening.done;
        synced = opening.synced;
        gate = OnOk-then r (λ done. ap (λ c. sector_at c gate) done ∙ get_or-set_same (reads mid) gate (gate_bytes Open) [] inside) opening.done;
        next_gate = OnOk-then r (λ done. ap (λ c. sector_at c (base + place_after at.place payload)) done
            ∙ get_or-set_other (reads mid) gate (base + place_after at.place payload) (gate_bytes Open) [] (λ same. omega (arith, same)) ∙ next_shut) opening.done;
      }

  -- the same, where the gate's sector and the number of sectors are numbers of their own
  pub append-failed-at : {T E : Type 0} (e : E) (g n : ℕ) (old new : Disk) → g ≡ gate → n ≡ body_sectors payload → AreSectors (reads old) → Touches (Stretch (g + 1) (n + 1)) old new → Appends {T = T} at change (Err e) old new
  append-failed-at e g n old new here long whole touched =
      append-failed e old new whole (subst (λ m. Touches (Stretch (gate + 1) (m + 1)) old new) long (subst (λ x. Touches (Stretch (x + 1) (n + 1)) old new) here touched))

  pub append-done-at : {T E : Type 0} (g n : ℕ) (bytes sector : List ℕ) (r : Result T E) (old mid new : Disk) → g ≡ gate → n ≡ body_sectors payload → (1 ≤ length payload) × (length payload ≤ 65547)
      → bytes ≡ body_bytes at.epoch at.count payload → AreSectors (reads old) → AreSectors (reads mid) → g < length (reads mid) → {U V : Type 0} {x : U} → WritesBehind {T = U} {E = V} g n bytes (Ok x) old mid
      → sector ≡ gate_bytes Open → WritesSynced g sector r mid new → Appends at change r old new
  append-done-at g n bytes sector r old mid new here long fits is whole whole_mid inside {U = U} {V = V} {x = x} wrote opens opening =
      let written : WritesBehind {T = U} {E = V} gate (body_sectors payload) bytes (Ok x) old mid = subst (λ m. WritesBehind {T = U} {E = V} gate m bytes (Ok x) old mid) long (subst (λ y. WritesBehind {T = U} {E = V} y n bytes (Ok x) old mid) here wrote) in
      append-done bytes is fits old mid new whole whole_mid (subst (λ y. y < length (reads mid)) here inside) written.touched written.body written.shut written.synced r
      (subst (λ s. WritesSynced gate s r mid new) opens (subst (λ y. WritesSynced y sector r mid new) here opening))

-- ---- the effect of an append, whatever else it answers

pub appends_failing : {T U E : Type 0} (at : LogPosition) (change : Change) (r : Result T E) (q : Result U E) (e : E) (old new : Disk) → r ≡ Err e → q ≡ Err e → Appends at change r old new → Appends at change q old new
appends_failing at change r q e old new failed fails h = rw fails (record { touched = h.touched; any_moment = h.any_moment; acknowledged = λ changes here. tt; synced = tt; gate = tt; next_gate = tt })

pub appends_done : {T U E : Type 0} (at : LogPosition) (change : Change) (r : Result T E) (x : T) (y : U) (old new : Disk) → r ≡ Ok x → Appends at change r old new → Appends {T = U} {E = E} at change (Ok y) old new
appends_done {T} {U} {E} at change r x y old new done h =
    let is : Appends {T = T} {E = E} at change (Ok x) old new = subst (λ (o : Result T E). Appends at change o old new) done h in
    record { touched = is.touched; any_moment = is.any_moment; acknowledged = is.acknowledged; synced = is.synced; gate = is.gate; next_gate = is.next_gate }
