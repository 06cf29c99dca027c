-- What becomes of a point that is begun, continued or ended.
use Rattle.std.proofs.Common.{◌≡◌, inl, inr, ◌+◌, ◌≤◌, Bool, true, false, nat_lt, if◌then◌else◌, Option, Some, None, Ok, Err, refl, sym, ap, subst, ◌∙◌, arith}
use Rattle.sn_block.specs.Counts.{IsLater}
use Rattle.sn_device.specs.Crash.{Touches}
use Rattle.sn_device.specs.Disk.{Disk}
use Rattle.sn_device.specs.declared.status.Status.{Status}
use Rattle.sn_layout.specs.Geometry.{map_blocks}
use Rattle.sn_log.specs.Positions.{LogPosition}
use Rattle.sn_cp.specs.Points.{Work}
use Rattle.sn_cp.specs.Steps.{IsWithin, syncs_of, writes_of}
use Rattle.sn_cp.specs.declared.stage.Stage.{Stage}
use Rattle.sn_cp.specs.declared.stage.Stage.TheVariants.{Blocks, MapBlocks, Stored, Shut, Bodied, Done}
use Rattle.sn_root.specs.Replacing.{closing_writes}
use Rattle.sn_cp_whole.specs.Going.{BeginsPoint}
use Rattle.sn_cp_whole.specs.Making.{HasCauseFor}
use Rattle.sn_cp_whole.specs.declared.fault.PointFault.{PointFault}
use Rattle.sn_cp_whole.specs.declared.fault.PointFault.TheVariants as point
use Rattle.sn_held.specs.Held.{Going, Held}
use Rattle.sn_model.specs.declared.outcome.AskedPoint.TheVariants.{Plain}
use Rattle.sn_model.specs.World.{World}
use Rattle.sn_model.specs.declared.reply.Progress.TheVariants as progress
use Rattle.sn_cp.specs.Counting.{syncs_left, writes_left}
use Rattle.sn_cp_progress.specs.Meaning.{RunsWith}
use Rattle.sn_events.specs.Answers.{IsBesideRoot, IsLastRoot}
use Rattle.sn_events.specs.Pointing.{Advances, Begins, Finishes, FinishesSo, GoesOn, IsUnbegun}

-- It wasn't begun. The world is the same where the disk is.
pub unbegun : (old : Held) (next : World) (at : LogPosition) (d : Disk) (status : Status) (fault : PointFault) → (d ≡ old.disk → next ≡ old.world) → BeginsPoint (Err fault) Plain old.world old old.base at old.disk d → at ≡ old.at → HasCauseFor fault old.status status → IsLater old.status status → status.writes ≤ old.status.writes + 1 → status.syncs ≤ old.status.syncs + 1
    → Touches (IsBesideRoot old) old.disk d → (fault ≡ point.Age → IsLastRoot old.base.root) → IsUnbegun fault old (record old { world = next; at = at; disk = d; status = status })
unbegun old next at d status point.Memory world made same cause later writes syncs touched aged = λ i. record old { world = world made i; at = same i; disk = made i; status = cause i }
unbegun old next at d status point.Age world made same cause later writes syncs touched aged = (λ i. record old { world = world made i; at = same i; disk = made i; status = cause i }, aged refl)
unbegun old next at d status point.Read world made same cause later writes syncs touched aged = (λ i. record old { world = world made i; at = same i; disk = made i; status = status }, cause)
unbegun old next at d status point.Damaged world made same cause later writes syncs touched aged = absurd made
unbegun old next at d status point.Device world made same cause later writes syncs touched aged = record {
  touched = touched;
  moments = made;
  failed = cause;
  later = later;
  costs = record { writes = omega (arith, writes); syncs = omega (arith, syncs) };
}

-- A step writes something, and eight sectors at most, with one sync at most.
pub step_writes : (w : Work) (stage : Stage) → IsWithin w stage → (1 ≤ writes_of w stage) × (writes_of w stage ≤ 8) × (syncs_of w stage ≤ 1)
step_writes w (Blocks k) within = (omega arith, omega arith, omega arith)
step_writes w (MapBlocks k) within = (omega arith, omega arith, one (nat_lt (k + 1) (map_blocks w.blocks)))
  where
    one : (b : Bool) → (if b then 0 else 1) ≤ 1
    one true = omega arith
    one false = omega arith
step_writes w Stored within = let closes : closing_writes w.gate ≡ 1 = ap closing_writes within in (omega (arith, closes), omega (arith, closes), omega arith)
step_writes w Shut within = (omega arith, omega arith, omega arith)
step_writes w Bodied within = (omega arith, omega arith, omega arith)
step_writes w Done within = absurd within

-- ---- a step of either kind

module _ (old at new : Held) (same : at ≡ old) where
  pub begun_advances : old.point ≡ None → Begins (Ok (tt {0})) at new → Advances (Ok progress.More) old new
  begun_advances between begins r = inl (subst (λ (h : Held). Begins (Ok (tt {0})) h new) same begins (subst (λ (p : Option Going). RunsWith p old old.world) between r))

  pub unbegun_advances : (fault : PointFault) → old.point ≡ None → Begins (Err fault) at new → Advances (Err fault) old new
  unbegun_advances fault between begins r = subst (λ (h : Held). Begins (Err fault) h new) same begins (subst (λ (p : Option Going). RunsWith p old old.world) between r)

  pub gone_advances : GoesOn (Ok (tt {0})) at new → Advances (Ok progress.More) old new
  gone_advances goes r = inr (subst (λ (h : Held). GoesOn (Ok (tt {0})) h new) same goes r)

  pub cut_advances : (fault : PointFault) → GoesOn (Err fault) at new → Advances (Err fault) old new
  cut_advances fault goes r = let cut = subst (λ (h : Held). GoesOn (Err fault) h new) same goes r in subst (λ (f : PointFault). IsUnbegun f old new) (sym cut.0) cut.1

  one_going : {A : Type 0} (a b : Going) → Some a ≡ Some b → (a ≡ b → A) → A
  one_going a b is f = let same_going : a ≡ b = cc in f same_going

  module _ (going : Going) (there : old.point ≡ Some going) (last : going.stage ≡ Bodied) where
    pub ended_advances : Finishes (Ok (tt {0})) at new → Advances (Ok progress.Done) old new
    ended_advances finishes r =
        let f = subst (λ (p : Option Going). FinishesSo (Ok (tt {0})) p old new) there (subst (λ (h : Held). Finishes (Ok (tt {0})) h new) same finishes r) in
        (f, one_going f.finished.going going (sym f.finished.is ∙ there) (λ is. ap (λ (x : Going). x.stage) is ∙ last))

    pub unended_advances : (fault : PointFault) → Finishes (Err fault) at new → Advances (Err fault) old new
    unended_advances fault finishes r =
        let f = subst (λ (p : Option Going). FinishesSo (Err fault) p old new) there (subst (λ (h : Held). Finishes (Err fault) h new) same finishes r) in
        let cut = f.1 in
        let stage : cut.going.stage ≡ Bodied = one_going cut.going going (sym cut.is ∙ there) (λ is. ap (λ (x : Going). x.stage) is ∙ last) in
        let writes : writes_left cut.going.work cut.going.stage ≡ 1 = ap (writes_left cut.going.work) stage in
        let syncs : syncs_left cut.going.work cut.going.stage ≡ 1 = ap (syncs_left cut.going.work) stage in
        subst (λ (x : PointFault). IsUnbegun x old new) (sym f.0) (record {
          touched = cut.touched;
          moments = cut.moments;
          failed = cut.failed;
          later = cut.later;
          costs = record { writes = let most = cut.costs.writes in omega (arith, most, writes); syncs = let most = cut.costs.syncs in omega (arith, most, syncs) };
        })
