-- What single calls of the device do, in the words of this crate.
use Rattle.std.proofs.Common.{⊎_elim, ℕ, ◌/◌, List, Result, Ok, Err, OnOk, refl, sym, ◌∙◌, ap}
use Rattle.sn_device.specs.Sectors.{Single}
use Rattle.sn_device.specs.Disk.{Disk, reads}
use Rattle.sn_device.specs.Device.{Writes, Syncs}
use Rattle.sn_device.specs.Crash.{Touches}
use Rattle.sn_device.specs.declared.status.Status.{Status}
use Rattle.sn_device.proofs.CallLemmas.{Writes-cases, Syncs-cases, Touches-write, Touches-sync}
use Rattle.sn_device.proofs.CrashLemmas.{Touches-start, Touches-join, Touches-within}
use Rattle.sn_ondisk.specs.Blocks.{block_at}
use Rattle.sn_block.specs.Cache.{Entry, HasOnlyOthers, Coheres}
use Rattle.sn_block.specs.Effects.{Nowhere, WritesSector, SyncsAll}
use Rattle.sn_block.proofs.BlockLemmas.{block_at-set_other}

-- calls that write nothing keep what was touched
pub Touches-settled : (F : ℕ → Type 0) (old mid new : Disk) → Touches F old mid → Touches Nowhere mid new → Touches F old new
Touches-settled F old mid new wrote settled = Touches-join F old mid new wrote (Touches-within Nowhere F mid new (λ i none. absurd none) settled)

module _ {T E : Type 0} where
  pub OnOk-then : {P Q : Type 0} (r : Result T E) → (P → Q) → OnOk r P → OnOk r Q
  OnOk-then (Ok x) then is = then is
  OnOk-then (Err e) then is = tt

  pub OnOk-both : {P Q S : Type 0} (r : Result T E) → (P → Q → S) → OnOk r P → OnOk r Q → OnOk r S
  OnOk-both (Ok x) both first second = both first second
  OnOk-both (Err e) both first second = tt

  pub OnOk-always : {P : Type 0} (r : Result T E) → P → OnOk r P
  OnOk-always (Ok x) is = is
  OnOk-always (Err e) is = tt

  pub WritesSector-write : (at : ℕ) (bytes : List ℕ) (r : Result T E) (old new : Disk) (status : Status) → Writes at bytes r old new status → WritesSector at bytes r old new
  WritesSector-write at bytes r old new status call = record {
    touched = Touches-write (Single at) at bytes r old old new status refl (Touches-start (Single at) old) call;
    done = OnOk-then r (λ is. ap reads is) call.done;
  }

  pub SyncsAll-sync : (r : Result T E) (old new : Disk) (status : Status) → Syncs r old new status → SyncsAll r old new
  SyncsAll-sync r old new status call = record {
    touched = Touches-sync Nowhere r old old new status (Touches-start Nowhere old) call;
    same = ⊎_elim (λ done. ap reads done) (λ other. ⊎_elim (λ failed. ap reads failed) (λ nothing. ap reads nothing) other) (Syncs-cases r old new status call);
    synced = OnOk-then r (λ is. ap (λ (d : Disk). d.present.unsynced) is) call.done;
  }

  -- the blocks that are kept in the course of a write, whatever its answer
  pub Coheres-write : (at : ℕ) (bytes : List ℕ) (r : Result T E) (old new : Disk) (status : Status) (before after : List Entry) → HasOnlyOthers (at / 8) before after → Coheres (reads old) before → Writes at bytes r old new status → Coheres (reads new) after
  Coheres-write at bytes r old new status before after others coheres call e among =
      let was = others e among in
      coheres e was.0 ∙ ⊎_elim
      (λ w. sym (ap (λ (d : Disk). block_at (reads d) e.0) w.1 ∙ block_at-set_other (reads old) at e.0 w.0 was.1))
      (λ same. sym (ap (λ (d : Disk). block_at (reads d) e.0) same))
      (Writes-cases at bytes r old new status call)
