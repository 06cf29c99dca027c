-- What each part of replacing a root leaves of the disk, whatever a crash tears.
use Rattle.std.proofs.Common.{◌≡◌, ◌≢◌, ◌⊎◌, inl, inr, ⊎_elim, ℕ, ◌+◌, ◌*◌, ◌<◌, ◌≤◌, List, [], length, slice_index, Result, Err, OnOk, refl, sym, ◌∙◌, ap, subst, arith}
use Rattle.std.proofs.lemmas.List.{get_or-set_same}
use Rattle.sn_device.specs.Sectors.{Contents, AreSectors, AgreesOutside, DependsOn, AreDisjoint, Single, Stretch}
use Rattle.sn_device.specs.Disk.{Disk, Always, reads}
use Rattle.sn_device.specs.Crash.{Touches}
use Rattle.sn_device.proofs.SectorLemmas.{AgreesOutside-set}
use Rattle.sn_device.proofs.CrashLemmas.{LeavesOnly-torn, LeavesOnly-touched, LeavesOnly-join, LeavesOnly-now, LeavesOnly-weaker, Always-kept, Always-synced, Always-reads, Touches-join, Touches-within}
use Rattle.sn_layout.specs.declared.gate.Gate.{Gate}
use Rattle.sn_layout.specs.declared.gate.Gate.TheVariants.{Open, Closed}
use Rattle.sn_layout.specs.declared.geometry.Slot.{Slot}
use Rattle.sn_layout.specs.declared.geometry.Slot.TheVariants.{A, B}
use Rattle.sn_layout.specs.declared.root.RootBody.{RootBody}
use Rattle.sn_layout.specs.Gate.{gate_of, gate_bytes}
use Rattle.sn_layout.specs.RootBody.{IsRootBody, root_body_bytes}
use Rattle.sn_layout.specs.Geometry.{gate_sector, other_slot, half_of_epoch}
use Rattle.sn_ondisk.specs.Blocks.{InBlock, bytes_at}
use Rattle.sn_ondisk.specs.Gates.{IsOpen, IsClosed}
use Rattle.sn_ondisk.specs.LogHalf.{Replays, InHalf, base_of}
use Rattle.sn_ondisk.specs.Roots.{body_block, HasRoot, IsNewest, HasNext, InRoots}
use Rattle.sn_ondisk.specs.Shown.{Shown, InShown}
use Rattle.sn_ondisk.proofs.LogLemmas.{closed-same, ReplaysTo-same}
use Rattle.sn_ondisk.proofs.PlaceLemmas.{half_from}
use Rattle.sn_ondisk.proofs.OneRootLemmas.{newest_is_one}
use Rattle.sn_ondisk.proofs.RootLemmas.{HasRoot-same, IsNewest-same, body_below, gate_from, gate_below, closing_keeps, body_keeps, opening_changes, open_root_is_newest}
use Rattle.sn_ondisk.proofs.ShownLemmas.{closing_shows, body_shows, opening_shows, shown_depends}
use Rattle.sn_block.specs.Effects.{Nowhere, SyncsAll, WritesStretch}
use Rattle.sn_block.proofs.EffectLemmas.{OnOk-then, OnOk-both, Touches-settled}
use Rattle.sn_root.specs.Slots.{gate_in}
use Rattle.sn_root.specs.Replacing.{with_gate, InClosing, WritesBody, OpensSlot, KeepsRoot, ChangesRoot, InReplacing}
use Rattle.sn_root.proofs.SlotLemmas.{is_open}

-- ---- on which sectors gates and bodies depend

pub closed_depends : (slot : Slot) → DependsOn (Single (gate_sector slot)) (λ c. IsClosed c (gate_sector slot))
closed_depends slot c d whole_c whole_d agrees closed = closed-same c d (gate_sector slot) (agrees.same (gate_sector slot) refl) closed

pub gate_depends : (slot : Slot) (gate : Gate) → DependsOn (Single (gate_sector slot)) (λ c. gate_in c slot ≡ gate)
gate_depends slot gate c d whole_c whole_d agrees is = ap (λ (s : List ℕ). gate_of s) (agrees.same (gate_sector slot) refl) ∙ is

pub root_depends : (slot : Slot) (root : RootBody) → DependsOn (InBlock (body_block slot)) (λ c. HasRoot c slot root)
root_depends slot root c d whole_c whole_d agrees body = HasRoot-same c d slot root (λ i from to. agrees.same i (from, to)) body

-- a slot's body and its gate are apart
pub body_and_gate : (slot gate : Slot) → AreDisjoint (InBlock (body_block slot)) (Single (gate_sector gate))
body_and_gate slot gate i inside is = omega (arith, inside.1, is, body_below slot, gate_from gate)

-- the log is apart from both
pub log_and_gate : (n epoch : ℕ) (slot : Slot) → AreDisjoint (InHalf (base_of n epoch)) (Single (gate_sector slot))
log_and_gate n epoch slot i inside is = omega (arith, inside.0, is, gate_below slot, half_from n (half_of_epoch epoch))

pub log_and_body : (n epoch : ℕ) (slot : Slot) → AreDisjoint (InHalf (base_of n epoch)) (InBlock (body_block slot))
log_and_body n epoch slot i inside body = omega (arith, inside.0, body.1, body_below slot, half_from n (half_of_epoch epoch))

-- ---- keeping the root

-- the same slot by another name
gate_along : (slot kept : Slot) (c d : Contents) → other_slot kept ≡ slot → AgreesOutside (Single (gate_sector slot)) c d → AgreesOutside (Single (gate_sector (other_slot kept))) c d
gate_along slot kept c d same agrees = subst (λ (s : Slot). AgreesOutside (Single (gate_sector s)) c d) (sym same) agrees

body_along : (slot kept : Slot) (c d : Contents) → other_slot kept ≡ slot → AgreesOutside (InBlock (body_block slot)) c d → AgreesOutside (InBlock (body_block (other_slot kept))) c d
body_along slot kept c d same agrees = subst (λ (s : Slot). AgreesOutside (InBlock (body_block s)) c d) (sym same) agrees

open_along : (slot kept : Slot) (c : Contents) → other_slot kept ≡ slot → gate_in c slot ≡ Open → IsOpen c (gate_sector (other_slot kept))
open_along slot kept c same read = subst (λ (s : Slot). IsOpen c (gate_sector s)) (sym same) (is_open c slot read)

closed_along : (slot kept : Slot) (c : Contents) → other_slot kept ≡ slot → IsClosed c (gate_sector slot) → IsClosed c (gate_sector (other_slot kept))
closed_along slot kept c same closed = subst (λ (s : Slot). IsClosed c (gate_sector s)) (sym same) closed

-- a write of the gate that is open
pub KeepsRoot-closing : (slot : Slot) (old new : Disk) → AreSectors (reads old) → Always old (λ c. gate_in c slot ≡ Open) → Touches (Single (gate_sector slot)) old new → KeepsRoot slot old new
KeepsRoot-closing slot old new whole opened touched = record {
  newest = λ kept root same newest. LeavesOnly-torn (Single (gate_sector slot)) (λ c. (gate_in c slot ≡ Open) × IsNewest c kept root) (λ c. IsNewest c kept root)
      (λ c d whole_c whole_d agrees is. closing_keeps c d kept root is.1 (open_along slot kept c same is.0) (gate_along slot kept c d same agrees))
      old new whole (λ c now. (opened c now, newest c now)) touched;
  shown = λ n kept root older newer same shown. LeavesOnly-torn (Single (gate_sector slot)) (λ c. (gate_in c slot ≡ Open) × Shown n c kept root older newer) (λ c. Shown n c kept root older newer)
      (λ c d whole_c whole_d agrees is. closing_shows n c d kept root older newer is.1 (open_along slot kept c same is.0) (gate_along slot kept c d same agrees))
      old new whole (λ c now. (opened c now, shown c now)) touched;
}

-- calls that write nothing
pub KeepsRoot-nowhere : (slot : Slot) (old new : Disk) → AreSectors (reads old) → Touches Nowhere old new → KeepsRoot slot old new
KeepsRoot-nowhere slot old new whole touched = record {
  newest = λ kept root same newest. LeavesOnly-touched Nowhere InRoots (λ c. IsNewest c kept root)
      (λ c d whole_c whole_d agrees is. IsNewest-same c d kept root (λ i from to. agrees.same i (from, to)) is)
      (λ i none inside. none) old new whole newest touched;
  shown = λ n kept root older newer same shown. LeavesOnly-touched Nowhere (InShown n root.epoch) (λ c. Shown n c kept root older newer)
      (λ c d whole_c whole_d agrees is. shown_depends n c d kept root older newer agrees is)
      (λ i none inside. none) old new whole shown touched;
}

-- a write of the body after a closed gate
pub KeepsRoot-body : (slot : Slot) (old new : Disk) → AreSectors (reads old) → Always old (λ c. IsClosed c (gate_sector slot)) → Touches (InBlock (body_block slot)) old new → KeepsRoot slot old new
KeepsRoot-body slot old new whole closed touched = record {
  newest = λ kept root same newest. LeavesOnly-torn (InBlock (body_block slot)) (λ c. IsClosed c (gate_sector slot) × IsNewest c kept root) (λ c. IsNewest c kept root)
      (λ c d whole_c whole_d agrees is. body_keeps c d kept root is.1 (closed_along slot kept c same is.0) (body_along slot kept c d same agrees))
      old new whole (λ c now. (closed c now, newest c now)) touched;
  shown = λ n kept root older newer same shown. LeavesOnly-torn (InBlock (body_block slot)) (λ c. IsClosed c (gate_sector slot) × Shown n c kept root older newer) (λ c. Shown n c kept root older newer)
      (λ c d whole_c whole_d agrees is. body_shows n c d kept root older newer is.1 (closed_along slot kept c same is.0) (body_along slot kept c d same agrees))
      old new whole (λ c now. (closed c now, shown c now)) touched;
}

-- ---- the body

-- the gate stays closed
closed_kept : (slot : Slot) (old new : Disk) → AreSectors (reads old) → Always old (λ c. IsClosed c (gate_sector slot)) → Touches (InBlock (body_block slot)) old new → Always new (λ c. IsClosed c (gate_sector slot))
closed_kept slot old new whole closed touched =
    Always-kept (InBlock (body_block slot)) (Single (gate_sector slot)) (λ c. IsClosed c (gate_sector slot)) (closed_depends slot) (body_and_gate slot slot) old new whole closed touched

-- its block is written
module _ (slot : Slot) (number : ℕ) (bytes : List ℕ) (old mid : Disk) (place : number ≡ body_block slot) where
  module _ {T E : Type 0} (wrote_result : Result T E) where
    pub body_touched : WritesStretch (8 * number) 8 bytes wrote_result old mid → Touches (InBlock (body_block slot)) old mid
    body_touched wrote = subst (λ n. Touches (Stretch (8 * n) 8) old mid) place wrote.touched

    module _ (whole : AreSectors (reads old)) (closed : Always old (λ c. IsClosed c (gate_sector slot))) (wrote : WritesStretch (8 * number) 8 bytes wrote_result old mid) where
      pub closed_mid : Always mid (λ c. IsClosed c (gate_sector slot))
      closed_mid = closed_kept slot old mid whole closed (body_touched wrote)

      pub KeepsRoot-written : KeepsRoot slot old mid
      KeepsRoot-written = KeepsRoot-body slot old mid whole closed (body_touched wrote)

      -- and synced
      module _ {S G : Type 0} (new : Disk) (result : Result S G) (settled : SyncsAll result mid new) where
        touched_new : Touches (InBlock (body_block slot)) old new
        touched_new = Touches-settled (InBlock (body_block slot)) old mid new (body_touched wrote) settled.touched

        pub KeepsRoot-settled : KeepsRoot slot old new
        KeepsRoot-settled = KeepsRoot-body slot old new whole closed touched_new

        pub WritesBody-settled : (next : RootBody) → IsRootBody next → bytes_at (reads mid) (8 * number) 8 ≡ bytes → bytes ≡ root_body_bytes next → WritesBody slot next result old new
        WritesBody-settled next fits done is =
            let there : bytes_at (reads new) (8 * body_block slot) 8 ≡ root_body_bytes next = ap (λ c. bytes_at c (8 * body_block slot) 8) settled.same ∙ subst (λ n. bytes_at (reads mid) (8 * n) 8 ≡ bytes) place done ∙ is in
            record {
              touched = touched_new;
              closed = closed_kept slot old new whole closed touched_new;
              body = OnOk-then result (λ is_synced. Always-synced new (λ c. HasRoot c slot next) is_synced (record { fits = fits; bytes = there })) settled.synced;
              synced = settled.synced;
            }

-- ---- the opening

differ : (slot : Slot) → slot ≢ other_slot slot
differ A same = absurd cc
differ B same = absurd cc

module _ (c d : Contents) (slot kept : Slot) (root next : RootBody) (same : other_slot kept ≡ slot) (later : root.generation < next.generation) (body : HasRoot c slot next) (agrees : AgreesOutside (Single (gate_sector slot)) c d) where
  has_next : IsNewest c kept root → HasNext c kept root next
  has_next newest = record { newest = newest; body = subst (λ (s : Slot). HasRoot c s next) (sym same) body; later = later }

  pub opens_newest : IsNewest c kept root → IsNewest d kept root ⊎ IsNewest d slot next
  opens_newest newest = ⊎_elim (λ old. inl old) (λ new. inr (subst (λ (s : Slot). IsNewest d s next) same new))
      (opening_changes c d kept root next (has_next newest) (gate_along slot kept c d same agrees))

  pub opened_newest : IsNewest c kept root → IsOpen d (gate_sector slot) → IsNewest d slot next
  opened_newest newest opened = subst (λ (s : Slot). IsNewest d s next) same
      (open_root_is_newest c d kept root next (has_next newest) (gate_along slot kept c d same agrees) (subst (λ (s : Slot). IsOpen d (gate_sector s)) (sym same) opened))

  module _ (n : ℕ) (older newer third fourth : List (List ℕ)) (shown : Shown n c kept root older newer) (one : Replays c (base_of n next.epoch) next.epoch third) (two : Replays c (base_of n (next.epoch + 1)) (next.epoch + 1) fourth) where
    pub opens_shown : Shown n d kept root older newer ⊎ Shown n d slot next third fourth
    opens_shown = ⊎_elim (λ old. inl old) (λ new. inr (subst (λ (s : Slot). Shown n d s next third fourth) same new))
        (opening_shows n c d kept root next older newer third fourth shown (has_next shown.newest) one two (gate_along slot kept c d same agrees))

    pub opened_shown : IsOpen d (gate_sector slot) → Shown n d slot next third fourth
    opened_shown opened = ⊎_elim
        (λ old. absurd (differ kept ((newest_is_one d kept slot root next old.newest (opened_newest shown.newest opened)).0 ∙ sym same)))
        (λ new. new)
        opens_shown

-- a gate that was written is open
pub open_written : (c : Contents) (slot : Slot) → 32 ≤ length c → IsOpen (with_gate slot Open c) (gate_sector slot)
open_written c slot room = ap (λ (s : List ℕ). slice_index s 0) (get_or-set_same c (gate_sector slot) (gate_bytes Open) [] (omega (arith, room, gate_below slot)))

module _ {T E : Type 0} (slot : Slot) (next : RootBody) (result : Result T E) (old new : Disk) (whole : AreSectors (reads old)) (room : 32 ≤ length (reads old)) (body : Always old (λ c. HasRoot c slot next)) (opens : OpensSlot slot result old new) where
  F : ℕ → Type 0
  F = Single (gate_sector slot)

  -- it reads as it was written
  agrees_read : reads new ≡ with_gate slot Open (reads old) → AgreesOutside (Single (gate_sector slot)) (reads old) (reads new)
  agrees_read is = subst (λ c. AgreesOutside (Single (gate_sector slot)) (reads old) c) (sym is) (AgreesOutside-set (Single (gate_sector slot)) (reads old) (gate_sector slot) (gate_bytes Open) refl)

  open_read : reads new ≡ with_gate slot Open (reads old) → IsOpen (reads new) (gate_sector slot)
  open_read is = subst (λ c. IsOpen c (gate_sector slot)) (sym is) (open_written (reads old) slot room)

  body_read : HasRoot (reads old) slot next
  body_read = Always-reads old (λ c. HasRoot c slot next) whole body

  pub ChangesRoot-opening : ChangesRoot slot next result old new
  ChangesRoot-opening = record {
    newest = λ kept root same later newest. record {
      any_moment = LeavesOnly-torn (Single (gate_sector slot)) (λ c. HasRoot c slot next × IsNewest c kept root) (λ c. IsNewest c kept root ⊎ IsNewest c slot next)
          (λ c d whole_c whole_d agrees is. opens_newest c d slot kept root next same later is.0 agrees is.1)
          old new whole (λ c now. (body c now, newest c now)) opens.touched;
      done = OnOk-both result
          (λ is_synced is. Always-synced new (λ c. IsNewest c slot next) is_synced
          (opened_newest (reads old) (reads new) slot kept root next same later body_read (agrees_read is) (Always-reads old (λ c. IsNewest c kept root) whole newest) (open_read is)))
          opens.synced opens.done;
    };
    shown = λ n kept root older newer third fourth same later shown one two. record {
      any_moment = LeavesOnly-torn (Single (gate_sector slot))
          (λ c. HasRoot c slot next × Shown n c kept root older newer × Replays c (base_of n next.epoch) next.epoch third × Replays c (base_of n (next.epoch + 1)) (next.epoch + 1) fourth)
          (λ c. Shown n c kept root older newer ⊎ Shown n c slot next third fourth)
          (λ c d whole_c whole_d agrees is. opens_shown c d slot kept root next same later is.0 agrees n older newer third fourth is.1 is.2 is.3)
          old new whole (λ c now. (body c now, shown c now, one c now, two c now)) opens.touched;
      done = OnOk-both result
          (λ is_synced is. Always-synced new (λ c. Shown n c slot next third fourth) is_synced
          (opened_shown (reads old) (reads new) slot kept root next same later body_read (agrees_read is) n older newer third fourth
          (Always-reads old (λ c. Shown n c kept root older newer) whole shown)
          (Always-reads old (λ c. Replays c (base_of n next.epoch) next.epoch third) whole one)
          (Always-reads old (λ c. Replays c (base_of n (next.epoch + 1)) (next.epoch + 1) fourth) whole two)
          (open_read is)))
          opens.synced opens.done;
    };
  }

-- ---- the three in a row

-- what replaying a half finds depends on the half
replays_depend : (base epoch : ℕ) (ps : List (List ℕ)) → DependsOn (InHalf base) (λ c. Replays c base epoch ps)
replays_depend base epoch ps c d whole_c whole_d agrees found = (found.0, ReplaysTo-same c d base epoch ps found.0 (λ i from to. agrees.same i (from, to)) found.1)

slot_and_log : (n epoch : ℕ) (slot : Slot) → AreDisjoint (InReplacing slot) (InHalf (base_of n epoch))
slot_and_log n epoch slot i (inl gate) inside = log_and_gate n epoch slot i inside gate
slot_and_log n epoch slot i (inr body) inside = log_and_body n epoch slot i inside body

closing_within : (slot : Slot) (gate : Gate) (i : ℕ) → InClosing slot gate i → InReplacing slot i
closing_within slot Open i is = inl is
closing_within slot Closed i none = absurd none

pub touched_closing : (slot : Slot) (gate : Gate) (old new : Disk) → Touches (InClosing slot gate) old new → Touches (InReplacing slot) old new
touched_closing slot gate old new touched = Touches-within (InClosing slot gate) (InReplacing slot) old new (closing_within slot gate) touched

pub touched_body : (slot : Slot) (old mid new : Disk) → Touches (InReplacing slot) old mid → Touches (InBlock (body_block slot)) mid new → Touches (InReplacing slot) old new
touched_body slot old mid new before touched =
    Touches-join (InReplacing slot) old mid new before (Touches-within (InBlock (body_block slot)) (InReplacing slot) mid new (λ i is. inr is) touched)

pub touched_opening : (slot : Slot) (old mid new : Disk) → Touches (InReplacing slot) old mid → Touches (Single (gate_sector slot)) mid new → Touches (InReplacing slot) old new
touched_opening slot old mid new before touched =
    Touches-join (InReplacing slot) old mid new before (Touches-within (Single (gate_sector slot)) (InReplacing slot) mid new (λ i is. inl is) touched)

pub KeepsRoot-join : (slot : Slot) (old mid new : Disk) → KeepsRoot slot old mid → KeepsRoot slot mid new → KeepsRoot slot old new
KeepsRoot-join slot old mid new first second = record {
  newest = λ kept root same newest.
      let P = λ (c : Contents). IsNewest c kept root in
      let before = first.newest kept root same newest in
      LeavesOnly-join old mid new P before (second.newest kept root same (LeavesOnly-now old mid P before));
  shown = λ n kept root older newer same shown.
      let P = λ (c : Contents). Shown n c kept root older newer in
      let before = first.shown n kept root older newer same shown in
      LeavesOnly-join old mid new P before (second.shown n kept root older newer same (LeavesOnly-now old mid P before));
}

-- before the gate is opened a fault leaves the old root
pub ChangesRoot-kept : {T E : Type 0} (slot : Slot) (next : RootBody) (fault : E) (old new : Disk) → KeepsRoot slot old new → ChangesRoot {T = T} slot next (Err fault) old new
ChangesRoot-kept slot next fault old new keeps = record {
  newest = λ kept root same later newest. record {
    any_moment = LeavesOnly-weaker old new (λ c. IsNewest c kept root) (λ c. IsNewest c kept root ⊎ IsNewest c slot next) (λ c is. inl is) (keeps.newest kept root same newest);
    done = tt;
  };
  shown = λ n kept root older newer third fourth same later shown one two. record {
    any_moment = LeavesOnly-weaker old new (λ c. Shown n c kept root older newer) (λ c. Shown n c kept root older newer ⊎ Shown n c slot next third fourth) (λ c is. inl is) (keeps.shown n kept root older newer same shown);
    done = tt;
  };
}

module _ {T E : Type 0} (slot : Slot) (next : RootBody) (result : Result T E) (old mid new : Disk) (whole : AreSectors (reads old)) (keeps : KeepsRoot slot old mid) (touched : Touches (InReplacing slot) old mid) where
  replays_on : (n epoch : ℕ) (ps : List (List ℕ)) → Always old (λ c. Replays c (base_of n epoch) epoch ps) → Always mid (λ c. Replays c (base_of n epoch) epoch ps)
  replays_on n epoch ps here =
      Always-kept (InReplacing slot) (InHalf (base_of n epoch)) (λ c. Replays c (base_of n epoch) epoch ps) (replays_depend (base_of n epoch) epoch ps) (slot_and_log n epoch slot) old mid whole here touched

  pub ChangesRoot-after : ChangesRoot slot next result mid new → ChangesRoot slot next result old new
  ChangesRoot-after changes = record {
    newest = λ kept root same later newest.
        let P = λ (c : Contents). IsNewest c kept root in
        let Q = λ (c : Contents). IsNewest c kept root ⊎ IsNewest c slot next in
        let before = keeps.newest kept root same newest in
        let opens = changes.newest kept root same later (LeavesOnly-now old mid P before) in
        record { any_moment = LeavesOnly-join old mid new Q (LeavesOnly-weaker old mid P Q (λ c is. inl is) before) opens.any_moment; done = opens.done };
    shown = λ n kept root older newer third fourth same later shown one two.
        let P = λ (c : Contents). Shown n c kept root older newer in
        let Q = λ (c : Contents). Shown n c kept root older newer ⊎ Shown n c slot next third fourth in
        let before = keeps.shown n kept root older newer same shown in
        let opens = changes.shown n kept root older newer third fourth same later (LeavesOnly-now old mid P before) (replays_on n next.epoch third one) (replays_on n (next.epoch + 1) fourth two) in
        record { any_moment = LeavesOnly-join old mid new Q (LeavesOnly-weaker old mid P Q (λ c is. inl is) before) opens.any_moment; done = opens.done };
  }

-- what reads give after the opened gate
module _ {T E : Type 0} (slot : Slot) (next : RootBody) (result : Result T E) (mid new : Disk) (whole : AreSectors (reads mid)) (room : 32 ≤ length (reads mid)) (opens : OpensSlot slot result mid new) where
  pub reads_open : OnOk result (IsOpen (reads new) (gate_sector slot))
  reads_open = OnOk-then result (λ is. subst (λ c. IsOpen c (gate_sector slot)) (sym is) (open_written (reads mid) slot room)) opens.done

  pub reads_body : Always mid (λ c. HasRoot c slot next) → OnOk result (HasRoot (reads new) slot next)
  reads_body body = OnOk-then result
      (λ is. subst (λ c. HasRoot c slot next) (sym is)
      (HasRoot-same (reads mid) (with_gate slot Open (reads mid)) slot next
      (λ i from to. (AgreesOutside-set (Single (gate_sector slot)) (reads mid) (gate_sector slot) (gate_bytes Open) refl).same i (λ same. omega (arith, same, to, body_below slot, gate_from slot)))
      (Always-reads mid (λ c. HasRoot c slot next) whole body)))
      opens.done
