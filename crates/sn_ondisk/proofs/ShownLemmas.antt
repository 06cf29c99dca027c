-- What a disk shows, with any bytes in the gate of a slot.
use Rattle.std.proofs.Common.{◌≢◌, ◌⊎◌, inl, inr, ⊎_elim, ℕ, ◌+◌, ◌<◌, ◌≤◌, List, [], ◌∷◌, ◌++◌, length, arith}
use Rattle.sn_device.specs.Sectors.{Contents, AgreesOutside, AgreesOn, Single}
use Rattle.sn_layout.specs.declared.geometry.Slot.{Slot}
use Rattle.sn_layout.specs.declared.geometry.LogHalf.{LogHalf}
use Rattle.sn_layout.specs.declared.geometry.LogHalf.TheVariants.{Zero, One}
use Rattle.sn_layout.specs.declared.geometry.Area.TheVariants.{Log}
use Rattle.sn_layout.specs.Geometry.{start_of, gate_sector, half_of_epoch, other_slot}
use Rattle.sn_layout.specs.declared.root.RootBody.{RootBody}
use Rattle.sn_ondisk.specs.Roots.{body_block, IsNewest, HasNext}
use Rattle.sn_ondisk.specs.LogHalf.{HasRecord, HasPending, Replays, place_after, base_of}
use Rattle.sn_ondisk.specs.Blocks.{InBlock}
use Rattle.sn_ondisk.specs.Gates.{IsOpen, IsClosed}
use Rattle.sn_ondisk.specs.Shown.{Shown, InShown}
use Rattle.sn_ondisk.proofs.LogLemmas.{ReplaysTo-same, gate_adds}
use Rattle.sn_ondisk.proofs.OneLemmas.{ready_replays}
use Rattle.sn_ondisk.proofs.PlaceLemmas.{halves_apart}
use Rattle.sn_ondisk.proofs.RootLemmas.{gate_below, body_below, opening_changes, closing_keeps, body_keeps, IsNewest-same}

start_from : (n : ℕ) (half : LogHalf) → 4 ≤ start_of n (Log half)
start_from n Zero = omega arith
start_from n One = omega arith

-- the write of a slot's gate leaves the log
Replays-gate : (n : ℕ) (c d : Contents) (gate : Slot) (epoch : ℕ) (ps : List (List ℕ)) → AgreesOutside (Single (gate_sector gate)) c d → Replays c (base_of n epoch) epoch ps → Replays d (base_of n epoch) epoch ps
Replays-gate n c d gate epoch ps agrees found =
    (found.0, ReplaysTo-same c d (base_of n epoch) epoch ps found.0 (λ i from to. agrees.same i (λ is. omega (arith, is, from, gate_below gate, start_from n (half_of_epoch epoch)))) found.1)

pub opening_shows : (n : ℕ) (c d : Contents) (slot : Slot) (root next : RootBody) (first second third fourth : List (List ℕ)) → Shown n c slot root first second
    → HasNext c slot root next → Replays c (base_of n next.epoch) next.epoch third → Replays c (base_of n (next.epoch + 1)) (next.epoch + 1) fourth
    → AgreesOutside (Single (gate_sector (other_slot slot))) c d
    → Shown n d slot root first second ⊎ Shown n d (other_slot slot) next third fourth
opening_shows n c d slot root next first second third fourth shown has_next one two agrees = ⊎_elim
    (λ old. inl (record {
      newest = old;
      has_older = Replays-gate n c d (other_slot slot) root.epoch first agrees shown.has_older;
      has_newer = Replays-gate n c d (other_slot slot) (root.epoch + 1) second agrees shown.has_newer;
    }))
    (λ new. inr (record {
      newest = new;
      has_older = Replays-gate n c d (other_slot slot) next.epoch third agrees one;
      has_newer = Replays-gate n c d (other_slot slot) (next.epoch + 1) fourth agrees two;
    }))
    (opening_changes c d slot root next has_next agrees)

pub shown_depends : (n : ℕ) (c d : Contents) (slot : Slot) (root : RootBody) (older newer : List (List ℕ)) → AgreesOn (InShown n root.epoch) c d → Shown n c slot root older newer → Shown n d slot root older newer
shown_depends n c d slot root older newer agrees shown = record {
  newest = IsNewest-same c d slot root (λ i from to. agrees.same i (inl (from, to))) shown.newest;
  has_older = (shown.has_older.0, ReplaysTo-same c d (base_of n root.epoch) root.epoch older shown.has_older.0 (λ i from to. agrees.same i (inr (inl (from, to)))) shown.has_older.1);
  has_newer = (shown.has_newer.0, ReplaysTo-same c d (base_of n (root.epoch + 1)) (root.epoch + 1) newer shown.has_newer.0 (λ i from to. agrees.same i (inr (inr (from, to)))) shown.has_newer.1);
}

pub closing_shows : (n : ℕ) (c d : Contents) (slot : Slot) (root : RootBody) (older newer : List (List ℕ)) → Shown n c slot root older newer → IsOpen c (gate_sector (other_slot slot))
    → AgreesOutside (Single (gate_sector (other_slot slot))) c d → Shown n d slot root older newer
closing_shows n c d slot root older newer shown opened agrees = record {
  newest = closing_keeps c d slot root shown.newest opened agrees;
  has_older = Replays-gate n c d (other_slot slot) root.epoch older agrees shown.has_older;
  has_newer = Replays-gate n c d (other_slot slot) (root.epoch + 1) newer agrees shown.has_newer;
}

-- a change of a root body leaves the log
Replays-body : (n : ℕ) (c d : Contents) (slot : Slot) (epoch : ℕ) (ps : List (List ℕ)) → AgreesOutside (InBlock (body_block slot)) c d → Replays c (base_of n epoch) epoch ps → Replays d (base_of n epoch) epoch ps
Replays-body n c d slot epoch ps agrees found =
    (found.0, ReplaysTo-same c d (base_of n epoch) epoch ps found.0 (λ i from to. agrees.same i (λ inside. omega (arith, inside.1, from, body_below slot, start_from n (half_of_epoch epoch)))) found.1)

pub body_shows : (n : ℕ) (c d : Contents) (slot : Slot) (root : RootBody) (older newer : List (List ℕ)) → Shown n c slot root older newer → IsClosed c (gate_sector (other_slot slot))
    → AgreesOutside (InBlock (body_block (other_slot slot))) c d → Shown n d slot root older newer
body_shows n c d slot root older newer shown closed agrees = record {
  newest = body_keeps c d slot root shown.newest closed agrees;
  has_older = Replays-body n c d (other_slot slot) root.epoch older agrees shown.has_older;
  has_newer = Replays-body n c d (other_slot slot) (root.epoch + 1) newer agrees shown.has_newer;
}

-- ---- the write of a record's gate

module _ (n : ℕ) (c d : Contents) (slot : Slot) (root : RootBody) (older newer : List (List ℕ)) (place : ℕ) (p : List ℕ) (shown : Shown n c slot root older newer) where
  -- it leaves the roots
  newest_stays : (epoch sequence : ℕ) → HasRecord c (base_of n epoch) epoch place sequence p → AgreesOutside (Single (base_of n epoch + place)) c d → IsNewest d slot root
  newest_stays epoch sequence body agrees = IsNewest-same c d slot root (λ i from to. agrees.same i (λ is. omega (arith, is, to, start_from n (half_of_epoch epoch)))) shown.newest

  -- and what replay finds in the other half
  other_half : (base epoch at : ℕ) (ps : List (List ℕ)) → ((i : ℕ) → base ≤ i → i < base + 256 → i ≢ at) → AgreesOutside (Single at) c d → Replays c base epoch ps → Replays d base epoch ps
  other_half base epoch at ps apart agrees found = (found.0, ReplaysTo-same c d base epoch ps found.0 (λ i from to. agrees.same i (apart i from to)) found.1)

  pub append_shows : HasPending c (base_of n root.epoch) root.epoch older place p
      → AgreesOutside (Single (base_of n root.epoch + place)) c d → Shown n d slot root older newer ⊎ Shown n d slot root (older ++ p ∷ []) newer
  append_shows pending agrees =
      let top = newest_stays root.epoch (length older) pending.body agrees in
      let others : Replays d (base_of n (root.epoch + 1)) (root.epoch + 1) newer = other_half (base_of n (root.epoch + 1)) (root.epoch + 1) (base_of n root.epoch + place) newer
      (λ i from to is. halves_apart n root.epoch i (omega (arith, is), omega (arith, is, pending.body.room)) (from, to)) agrees shown.has_newer in
      ⊎_elim
      (λ same. inl (record { newest = top; has_older = (place, ready_replays d (base_of n root.epoch) root.epoch place older same); has_newer = others }))
      (λ more. inr (record { newest = top; has_older = (place_after place p, ready_replays d (base_of n root.epoch) root.epoch (place_after place p) (older ++ p ∷ []) more); has_newer = others }))
      (gate_adds c d (base_of n root.epoch) root.epoch place older p pending agrees)

  pub append_shows_newer : HasPending c (base_of n (root.epoch + 1)) (root.epoch + 1) newer place p → AgreesOutside (Single (base_of n (root.epoch + 1) + place)) c d → Shown n d slot root older newer ⊎ Shown n d slot root older (newer ++ p ∷ [])
  append_shows_newer pending agrees =
      let base = base_of n (root.epoch + 1) in
      let top = newest_stays (root.epoch + 1) (length newer) pending.body agrees in
      let others : Replays d (base_of n root.epoch) root.epoch older = other_half (base_of n root.epoch) root.epoch (base + place) older
      (λ i from to is. halves_apart n root.epoch i (from, to) (omega (arith, is), omega (arith, is, pending.body.room))) agrees shown.has_older in
      ⊎_elim
      (λ same. inl (record { newest = top; has_older = others; has_newer = (place, ready_replays d base (root.epoch + 1) place newer same) }))
      (λ more. inr (record { newest = top; has_older = others; has_newer = (place_after place p, ready_replays d base (root.epoch + 1) (place_after place p) (newer ++ p ∷ []) more) }))
      (gate_adds c d base (root.epoch + 1) place newer p pending agrees)
