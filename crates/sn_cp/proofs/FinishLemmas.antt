-- All steps of a point in a row.
use Rattle.std.proofs.Common.{◌≡◌, ◌⊎◌, inl, ℕ, ◌+◌, ◌<◌, List, Result, Ok, Err, IsTrue, sym, ap, subst, ◌∙◌, arith}
use Rattle.sn_device.specs.Sectors.{AreSectors}
use Rattle.sn_device.specs.Disk.{Disk, Always, reads}
use Rattle.sn_device.specs.Crash.{LeavesOnly, Touches}
use Rattle.sn_device.specs.Status.{has_ended}
use Rattle.sn_device.specs.declared.status.Status.{Status}
use Rattle.sn_device.proofs.CrashLemmas.{LeavesOnly-join, LeavesOnly-start, LeavesOnly-weaker, Touches-join, Touches-start, Touches-within}
use Rattle.sn_layout.specs.declared.geometry.Slot.{Slot}
use Rattle.sn_layout.specs.declared.root.RootBody.{RootBody}
use Rattle.sn_model.specs.declared.change.Change.{Change}
use Rattle.sn_ondisk.specs.Trees.{Store}
use Rattle.sn_block.specs.Counts.{CountsCalls, called}
use Rattle.sn_block.proofs.CountLemmas.{called-after, called-none}
use Rattle.sn_root.specs.Replacing.{LeavesEither}
use Rattle.sn_opening.specs.Opens.{Shows}
use Rattle.sn_cp.specs.Points.{Work}
use Rattle.sn_cp.specs.Steps.{InStep, IsWhole, IsWithin, StandsAtStage, StepsTo, next_stage, syncs_of, writes_of}
use Rattle.sn_cp.specs.Counting.{syncs_left, writes_left}
use Rattle.sn_cp.specs.Showing.{Finishes, InPoint, IsBeforeOpening, ShowsBeside, ShowsNext}
use Rattle.sn_cp.specs.declared.stage.Stage.{Stage}
use Rattle.sn_cp.specs.declared.stage.Stage.TheVariants.{Blocks, MapBlocks, Stored, Shut, Bodied, Done}
use Rattle.sn_cp.proofs.CountLemmas.{calls_counted, goes_on}
use Rattle.sn_cp.proofs.ShowLemmas.{opening_shows, steps_keep}

-- ---- what was left so far of what the disk shows

-- the root that counts was shown, and is
pub record Kept (w : Work) (s : Store) (slot : Slot) (root : RootBody) (older newer third fourth : List Change) (old now : Disk) : Type 0 where
  pub any_moment : LeavesOnly old now (Shows w.blocks s slot root older newer)
  pub beside : ShowsBeside w s slot root older newer third fourth now

-- the one or the other was shown, and now the next one is
pub record Opened (w : Work) (s : Store) (slot : Slot) (root : RootBody) (older newer third fourth : List Change) (old now : Disk) : Type 0 where
  pub any_moment : LeavesOnly old now (λ c. Shows w.blocks s slot root older newer c ⊎ ShowsNext w s root third fourth c)
  pub done : Always now (ShowsNext w s root third fourth)

abbrev pub ShownAt : Work → Stage → Store → Slot → RootBody → List Change → List Change → List Change → List Change → Disk → Disk → Type 0
ShownAt w (Blocks k) s slot root older newer third fourth old now = Kept w s slot root older newer third fourth old now
ShownAt w (MapBlocks k) s slot root older newer third fourth old now = Kept w s slot root older newer third fourth old now
ShownAt w Stored s slot root older newer third fourth old now = Kept w s slot root older newer third fourth old now
ShownAt w Shut s slot root older newer third fourth old now = Kept w s slot root older newer third fourth old now
ShownAt w Bodied s slot root older newer third fourth old now = Kept w s slot root older newer third fourth old now
ShownAt w Done s slot root older newer third fourth old now = Opened w s slot root older newer third fourth old now

module _ (w : Work) (whole : IsWhole w) (s : Store) (slot : Slot) (root : RootBody) (older newer third fourth : List Change) where
  to_kept : (stage : Stage) (old now : Disk) → IsWithin w stage → ShownAt w stage s slot root older newer third fourth old now → Kept w s slot root older newer third fourth old now
  to_kept (Blocks k) old now within shown = shown
  to_kept (MapBlocks k) old now within shown = shown
  to_kept Stored old now within shown = shown
  to_kept Shut old now within shown = shown
  to_kept Bodied old now within shown = shown
  to_kept Done old now within shown = absurd within

  of_kept : (stage : Stage) (old now : Disk) → IsWithin w stage → Kept w s slot root older newer third fourth old now → ShownAt w stage s slot root older newer third fourth old now
  of_kept (Blocks k) old now within shown = shown
  of_kept (MapBlocks k) old now within shown = shown
  of_kept Stored old now within shown = shown
  of_kept Shut old now within shown = shown
  of_kept Bodied old now within shown = shown
  of_kept Done old now within shown = absurd within

  -- one step more
  module _ {T E : Type 0} (result : Result T E) (old mid new : Disk) (sectors : AreSectors (reads mid)) where
    kept_next : (stage : Stage) → IsWithin w stage → IsBeforeOpening stage → StepsTo w stage result mid new → Kept w s slot root older newer third fourth old mid → Kept w s slot root older newer third fourth old new
    kept_next stage within before steps kept =
        let left = steps_keep w whole s slot root older newer third fourth result mid new sectors kept.beside stage within before steps in
        record { any_moment = LeavesOnly-join old mid new (Shows w.blocks s slot root older newer) kept.any_moment left.0; beside = left.1 }

    opens_next : StandsAtStage w Bodied mid → StepsTo w Bodied result mid new → Kept w s slot root older newer third fourth old mid
        → LeavesEither result old new (Shows w.blocks s slot root older newer) (ShowsNext w s root third fourth)
    opens_next stands steps kept =
        let either = opening_shows w whole s slot root older newer third fourth result mid new sectors kept.beside stands steps in
        record {
          any_moment = LeavesOnly-join old mid new (λ c. Shows w.blocks s slot root older newer c ⊎ ShowsNext w s root third fourth c)
              (LeavesOnly-weaker old mid (Shows w.blocks s slot root older newer) (λ c. Shows w.blocks s slot root older newer c ⊎ ShowsNext w s root third fourth c) (λ c is. inl is) kept.any_moment)
              either.any_moment;
          done = either.done;
        }

    kept_fails : Kept w s slot root older newer third fourth old new → {F : Type 0} (fault : F) → LeavesEither {T = T} (Err fault) old new (Shows w.blocks s slot root older newer) (ShowsNext w s root third fourth)
    kept_fails kept fault = record {
      any_moment = LeavesOnly-weaker old new (Shows w.blocks s slot root older newer) (λ c. Shows w.blocks s slot root older newer c ⊎ ShowsNext w s root third fourth c) (λ c is. inl is) kept.any_moment;
      done = tt;
    }

-- ---- all that holds so far

pub record SoFar (w : Work) (stage : Stage) (old now : Disk) : Type 0 where
  pub touched : Touches (InPoint w) old now
  pub stands : StandsAtStage w stage now
  pub shown : (s : Store) (slot : Slot) (root : RootBody) (older newer third fourth : List Change) → ShowsBeside w s slot root older newer third fourth old → ShownAt w stage s slot root older newer third fourth old now

pub so_far_start : (w : Work) (stage : Stage) (d : Disk) → IsWhole w → IsWithin w stage → StandsAtStage w stage d → SoFar w stage d d
so_far_start w stage d whole within stands = record {
  touched = Touches-start (InPoint w) d;
  stands = stands;
  shown = λ s slot root older newer third fourth beside. of_kept w whole s slot root older newer third fourth stage d d within
      (record { any_moment = LeavesOnly-start d (Shows w.blocks s slot root older newer) beside.shown; beside = beside });
}

module _ (w : Work) (whole : IsWhole w) (old mid new : Disk) (sectors : AreSectors (reads mid)) where
  touched_next : {T E : Type 0} (result : Result T E) (stage : Stage) → IsWithin w stage → SoFar w stage old mid → StepsTo w stage result mid new → Touches (InPoint w) old new
  touched_next result stage within so_far steps =
      Touches-join (InPoint w) old mid new so_far.touched (Touches-within (InStep w stage) (InPoint w) mid new (λ i is. record { stage = stage; within = within; of_step = is }) steps.touched)

  module _ {T E : Type 0} (x : T) (s : Store) (slot : Slot) (root : RootBody) (older newer third fourth : List Change) where
    before_next : (stage : Stage) → IsWithin w stage → IsBeforeOpening stage → StepsTo {E = E} w stage (Ok x) mid new → ShownAt w stage s slot root older newer third fourth old mid → ShownAt w (next_stage w stage) s slot root older newer third fourth old new
    before_next stage within before steps shown = of_kept w whole s slot root older newer third fourth (next_stage w stage) old new (goes_on w stage whole within before)
        (kept_next w whole s slot root older newer third fourth (Ok x) old mid new sectors stage within before steps (to_kept w whole s slot root older newer third fourth stage old mid within shown))

    shown_next : (stage : Stage) → IsWithin w stage → StandsAtStage w stage mid → StepsTo {E = E} w stage (Ok x) mid new → ShownAt w stage s slot root older newer third fourth old mid → ShownAt w (next_stage w stage) s slot root older newer third fourth old new
    shown_next (Blocks k) within stands steps shown = before_next (Blocks k) within tt steps shown
    shown_next (MapBlocks k) within stands steps shown = before_next (MapBlocks k) within tt steps shown
    shown_next Stored within stands steps shown = before_next Stored within tt steps shown
    shown_next Shut within stands steps shown = before_next Shut within tt steps shown
    shown_next Bodied within stands steps shown =
        let either = opens_next w whole s slot root older newer third fourth (Ok x) old mid new sectors stands steps shown in
        record { any_moment = either.any_moment; done = either.done }
    shown_next Done within stands steps shown = absurd within

  pub so_far_next : {T E : Type 0} (x : T) (stage : Stage) → IsWithin w stage → SoFar w stage old mid → StepsTo {E = E} w stage (Ok x) mid new → SoFar w (next_stage w stage) old new
  so_far_next {T} {E} x stage within so_far steps = record {
    touched = touched_next (Ok x) stage within so_far steps;
    stands = steps.next;
    shown = λ s slot root older newer third fourth beside.
        shown_next {E = E} x s slot root older newer third fourth stage within so_far.stands steps (so_far.shown s slot root older newer third fourth beside);
  }

  module _ {T E : Type 0} (fault : E) (s : Store) (slot : Slot) (root : RootBody) (older newer third fourth : List Change) where
    before_fails : (stage : Stage) → IsWithin w stage → IsBeforeOpening stage → StepsTo {T = T} w stage (Err fault) mid new → ShownAt w stage s slot root older newer third fourth old mid
        → LeavesEither {T = T} (Err fault) old new (Shows w.blocks s slot root older newer) (ShowsNext w s root third fourth)
    before_fails stage within before steps shown = kept_fails w whole s slot root older newer third fourth (Err fault) old mid new sectors
        (kept_next w whole s slot root older newer third fourth (Err fault) old mid new sectors stage within before steps (to_kept w whole s slot root older newer third fourth stage old mid within shown)) fault

    shown_fails : (stage : Stage) → IsWithin w stage → StandsAtStage w stage mid → StepsTo {T = T} w stage (Err fault) mid new → ShownAt w stage s slot root older newer third fourth old mid
        → LeavesEither {T = T} (Err fault) old new (Shows w.blocks s slot root older newer) (ShowsNext w s root third fourth)
    shown_fails (Blocks k) within stands steps shown = before_fails (Blocks k) within tt steps shown
    shown_fails (MapBlocks k) within stands steps shown = before_fails (MapBlocks k) within tt steps shown
    shown_fails Stored within stands steps shown = before_fails Stored within tt steps shown
    shown_fails Shut within stands steps shown = before_fails Shut within tt steps shown
    shown_fails Bodied within stands steps shown = opens_next w whole s slot root older newer third fourth (Err fault) old mid new sectors stands steps shown
    shown_fails Done within stands steps shown = absurd within

  -- a step that fails
  pub finish_fails : {T E : Type 0} (fault : E) (stage : Stage) → IsWithin w stage → SoFar w stage old mid → StepsTo {T = T} w stage (Err fault) mid new → Finishes {T = T} w (Err fault) old new
  finish_fails {T} {E} fault stage within so_far steps = record {
    touched = touched_next (Err fault) stage within so_far steps;
    done = tt;
    shown = λ s slot root older newer third fourth beside.
        shown_fails {T = T} fault s slot root older newer third fourth stage within so_far.stands steps (so_far.shown s slot root older newer third fourth beside);
  }

-- the last step
pub finish_done : {T E : Type 0} (w : Work) (x : T) (stage : Stage) (old now : Disk) → stage ≡ Done → SoFar w stage old now → Finishes {E = E} w (Ok x) old now
finish_done {T} {E} w x stage old now is so_far =
    let last = subst (λ (at : Stage). SoFar w at old now) is so_far in
    record {
      touched = last.touched;
      done = last.stands;
      shown = λ s slot root older newer third fourth beside.
          let opened = last.shown s slot root older newer third fourth beside in
          record { any_moment = opened.any_moment; done = opened.done };
    }

-- ---- counts

-- so many writes and syncs were made, and the others are left
pub record CountsSoFar (w : Work) (first stage : Stage) (old now : Status) : Type 0 where
  pub writes : ℕ
  pub syncs : ℕ
  pub is : now ≡ called writes syncs old
  pub writes_sum : writes + writes_left w stage ≡ writes_left w first
  pub syncs_sum : syncs + syncs_left w stage ≡ syncs_left w first

pub counts_start : (w : Work) (stage : Stage) (s : Status) → CountsSoFar w stage stage s s
counts_start w stage s = record { writes = 0; syncs = 0; is = called-none s; writes_sum = omega arith; syncs_sum = omega arith }

pub counts_next : (w : Work) (first stage : Stage) (old mid new : Status) → IsWhole w → IsWithin w stage → CountsSoFar w first stage old mid → new ≡ called (writes_of w stage) (syncs_of w stage) mid
    → CountsSoFar w first (next_stage w stage) old new
counts_next w first stage old mid new whole within so_far more =
    let left = calls_counted w stage whole within in
    record {
      writes = so_far.writes + writes_of w stage;
      syncs = so_far.syncs + syncs_of w stage;
      is = called-after so_far.writes so_far.syncs (writes_of w stage) (syncs_of w stage) old mid new so_far.is more;
      writes_sum = omega (arith, left.0, so_far.writes_sum);
      syncs_sum = omega (arith, left.1, so_far.syncs_sum);
    }

pub counts_done : {T E : Type 0} (w : Work) (x : T) (first stage : Stage) (old now : Status) → stage ≡ Done → CountsSoFar w first stage old now → CountsCalls {E = E} (writes_left w first) (syncs_left w first) (Ok x) old now
counts_done w x first stage old now is so_far =
    let last = subst (λ (at : Stage). CountsSoFar w first at old now) is so_far in
    let writes : last.writes ≡ writes_left w first = omega (arith, last.writes_sum) in
    let syncs : last.syncs ≡ syncs_left w first = omega (arith, last.syncs_sum) in
    let done : now ≡ called (writes_left w first) (syncs_left w first) old = subst (λ (y : ℕ). now ≡ called (writes_left w first) y old) syncs (subst (λ (v : ℕ). now ≡ called v last.syncs old) writes last.is) in
    let made = ap (λ (s : Status). s.writes) done in
    let synced = ap (λ (s : Status). s.syncs) done in
    let failed = ap (λ (s : Status). s.failures) done in
    record {
      done = done;
      sectors = ap (λ (s : Status). s.sectors) done;
      writes = (omega (arith, made), omega (arith, made));
      syncs = (omega (arith, synced), omega (arith, synced));
      failures = omega (arith, failed);
      spent = λ spent. subst IsTrue (sym (ap (λ (s : Status). s.is_spent) done)) spent;
      cause = tt;
    }

pub counts_fail : {T E : Type 0} (w : Work) (fault : E) (first stage : Stage) (old mid new : Status) → IsWhole w → IsWithin w stage → CountsSoFar w first stage old mid
    → CountsCalls {T = T} (writes_of w stage) (syncs_of w stage) (Err fault) mid new → CountsCalls {T = T} (writes_left w first) (syncs_left w first) (Err fault) old new
counts_fail w fault first stage old mid new whole within so_far counts =
    let left = calls_counted w stage whole within in
    let made = ap (λ (s : Status). s.writes) so_far.is in
    let synced = ap (λ (s : Status). s.syncs) so_far.is in
    let failed = ap (λ (s : Status). s.failures) so_far.is in
    record {
      done = tt;
      sectors = counts.sectors ∙ ap (λ (s : Status). s.sectors) so_far.is;
      writes = (omega (arith, made, counts.writes.0), omega (arith, made, counts.writes.1, left.0, so_far.writes_sum));
      syncs = (omega (arith, synced, counts.syncs.0), omega (arith, synced, counts.syncs.1, left.1, so_far.syncs_sum));
      failures = omega (arith, failed, counts.failures);
      spent = λ spent. counts.spent (subst IsTrue (sym (ap (λ (s : Status). s.is_spent) so_far.is)) spent);
      cause = subst (λ (f : ℕ). (f < new.failures) ⊎ IsTrue (has_ended new)) failed counts.cause;
    }
