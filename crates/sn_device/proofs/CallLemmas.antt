-- The calls of a device, one lemma for each, whatever their answer.
use Rattle.std.proofs.Common.{◌≡◌, ◌⊎◌, inl, inr, ⊎_elim, ℕ, List, Result, Ok, Err, OnOk, sym, subst, arith}
use Rattle.sn_device.specs.Sectors.{Contents}
use Rattle.sn_device.specs.Disk.{Moment, Disk, next, written, synced, MayLeave}
use Rattle.sn_device.specs.Device.{Writes, Syncs}
use Rattle.sn_device.specs.Crash.{LeavesOnly, Touches}
use Rattle.sn_device.specs.declared.status.Status.{Status}
use Rattle.sn_device.proofs.CrashLemmas.{LeavesOnly-next, Touches-next, TouchesOnly-refl, TouchesOnly-written, TouchesOnly-synced}

-- what a crash may leave after a sync was possible before it
pub MayLeave-before_sync : (m : Moment) (c : Contents) → MayLeave (synced m) c → MayLeave m c
MayLeave-before_sync m c left = record {
  others = record { count = left.others.count; same = λ i out. left.others.same i (λ (k, past, is). omega arith) };
  whole = left.whole;
}

module _ {T E : Type 0} where
  -- a write leads to a moment after one, or nowhere
  pub Writes-cases : (at : ℕ) (bytes : List ℕ) (r : Result T E) (old new : Disk) (status : Status) → Writes at bytes r old new status → ((b : List ℕ) × (new ≡ next old (written at b old.present))) ⊎ (new ≡ old)
  Writes-cases at bytes (Ok x) old new status call = inl (bytes, call.done)
  Writes-cases at bytes (Err e) old new status call = ⊎_elim (λ tried. inl (tried.0, tried.2)) (λ end. inr end.0) call.failed

  pub Syncs-cases : (r : Result T E) (old new : Disk) (status : Status) → Syncs r old new status → (new ≡ next old (synced old.present)) ⊎ ((new ≡ next old old.present) ⊎ (new ≡ old))
  Syncs-cases (Ok x) old new status call = inl call.done
  Syncs-cases (Err e) old new status call = inr (⊎_elim (λ tried. inl tried) (λ end. inr end.0) call.failed)

  -- what follows from a sync that succeeds
  pub OnOk-sync : (r : Result T E) (old new : Disk) (status : Status) (Q : Type 0) → Syncs r old new status → (new ≡ next old (synced old.present) → Q) → OnOk r Q
  OnOk-sync (Ok x) old new status Q call then = then call.done
  OnOk-sync (Err e) old new status Q call then = tt

  module _ (P : Contents → Type 0) where
    -- a write after which a crash leaves what has P
    pub LeavesOnly-write : (at : ℕ) (bytes : List ℕ) (r : Result T E) (old mid new : Disk) (status : Status) → LeavesOnly old mid P → Writes at bytes r mid new status
        → ((b : List ℕ) (c : Contents) → MayLeave (written at b mid.present) c → P c) → LeavesOnly old new P
    LeavesOnly-write at bytes r old mid new status run call here = ⊎_elim
        (λ w. subst (λ d. LeavesOnly old d P) (sym w.1) (LeavesOnly-next old mid (written at w.0 mid.present) P run (here w.0)))
        (λ same. subst (λ d. LeavesOnly old d P) (sym same) run)
        (Writes-cases at bytes r mid new status call)

    pub LeavesOnly-sync : (r : Result T E) (old mid new : Disk) (status : Status) → LeavesOnly old mid P → Syncs r mid new status → LeavesOnly old new P
    LeavesOnly-sync r old mid new status run call = ⊎_elim
        (λ done. subst (λ d. LeavesOnly old d P) (sym done) (LeavesOnly-next old mid (synced mid.present) P run (λ c left. run.each c (inl (MayLeave-before_sync mid.present c left)))))
        (λ other. ⊎_elim
        (λ failed. subst (λ d. LeavesOnly old d P) (sym failed) (LeavesOnly-next old mid mid.present P run (λ c left. run.each c (inl left))))
        (λ same. subst (λ d. LeavesOnly old d P) (sym same) run)
        other)
        (Syncs-cases r mid new status call)

  module _ (F : ℕ → Type 0) where
    -- a write in the set
    pub Touches-write : (at : ℕ) (bytes : List ℕ) (r : Result T E) (old mid new : Disk) (status : Status) → F at → Touches F old mid → Writes at bytes r mid new status → Touches F old new
    Touches-write at bytes r old mid new status is_in run call = ⊎_elim
        (λ w. subst (Touches F old) (sym w.1) (Touches-next F old mid (written at w.0 mid.present) run (TouchesOnly-written F at w.0 mid.present is_in)))
        (λ same. subst (Touches F old) (sym same) run)
        (Writes-cases at bytes r mid new status call)

    pub Touches-sync : (r : Result T E) (old mid new : Disk) (status : Status) → Touches F old mid → Syncs r mid new status → Touches F old new
    Touches-sync r old mid new status run call = ⊎_elim
        (λ done. subst (Touches F old) (sym done) (Touches-next F old mid (synced mid.present) run (TouchesOnly-synced F mid.present)))
        (λ other. ⊎_elim
        (λ failed. subst (Touches F old) (sym failed) (Touches-next F old mid mid.present run (TouchesOnly-refl F mid.present)))
        (λ same. subst (Touches F old) (sym same) run)
        other)
        (Syncs-cases r mid new status call)
