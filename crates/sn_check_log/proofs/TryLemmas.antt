-- What look-ups that failed make of a check.
use Rattle.std.proofs.Common.{◌≡◌, ℕ, Bool, false, not, ◌&&◌, Option, Some, None, ap, sym, ◌∙◌}
use Rattle.sn_block.specs.declared.fault.ReadFault.TheVariants.{Device, Memory}
use Rattle.sn_device.specs.Status.{has_ended}
use Rattle.sn_device.specs.declared.status.Status.{Status}
use Rattle.sn_device.specs.Sectors.{Contents}
use Rattle.sn_examine.specs.Both.{BothBreak, in_older}
use Rattle.sn_examine.specs.Failing.{WritesNothing}
use Rattle.sn_examine.specs.Replaying.{Breaks}
use Rattle.sn_examine.proofs.ReplayLemmas.{fails_reading, idle}
use Rattle.sn_limits.specs.Versions.{limits_written}
use Rattle.sn_limits.specs.declared.limits.Limits.{Limits}
use Rattle.sn_live.specs.Live.{changes_of, kept_back_of, kept_since_of, shown_of}
use Rattle.sn_live.specs.declared.live.LiveTree.{LiveTree}
use Rattle.sn_model.specs.Changes.{apply}
use Rattle.sn_model.specs.Charges.{charge_for}
use Rattle.sn_model.specs.NameTree.{IsTree}
use Rattle.sn_model.specs.Tree.{Tree}
use Rattle.sn_model.specs.declared.change.Change.{Change}
use Rattle.sn_model.specs.declared.change.Change.TheVariants.{Make, AddLink, Remove, Rename, Write, SetSize, SetAttributes}
use Rattle.sn_model.specs.declared.fault.MountFault.{MountFault}
use Rattle.sn_model.specs.declared.fault.MountFault.TheVariants as fault
use Rattle.sn_overlay.specs.Layers.{Layer}
use Rattle.sn_overlay.specs.Merges.{merge}
use Rattle.sn_overlay_change.specs.ChangeLayers.{layer_of_change}
use Rattle.sn_number_table.specs.Numbers.{kept_after, since_after}
use Rattle.sn_rooted_tree.specs.Looks.{Stands}
use Rattle.sn_tree_read.specs.declared.fault.TreeFault.{TreeFault}
use Rattle.sn_tree_read.specs.declared.fault.TreeFault.TheVariants.{Read, Damaged}
use Rattle.sn_check_log.specs.Trying.{IsTried, KeepsNone, MakesChange, tree_of}

-- nothing was written, whether a look-up failed or not
pub looked_only : (told : Bool) (old new : Status) (fault : Option TreeFault) → Stands told old new None fault → WritesNothing old new
looked_only told old new None same = idle old new same
looked_only told old new (Some (Read Device)) fails = fails_reading (has_ended old) old new fails
looked_only told old new (Some (Read Memory)) same = idle old new same
looked_only told old new (Some (Damaged block)) fails = idle old new fails.0

-- ---- one change

pub whole_of : (live : Option LiveTree) (below : Tree) → IsTree limits_written below → IsTried live below → IsTree limits_written (tree_of live below)
whole_of None below whole is = whole
whole_of (Some live) below whole is = is.0.shown.whole

-- no change keeps a number back
no_more_kept : (change : Change) (kept : ℕ → Bool) (n : ℕ) → kept n ≡ false → kept_after change kept n ≡ false
no_more_kept (Make directory name number kind o) kept n none = ap (λ (b : Bool). b && not (kept number)) none
no_more_kept (AddLink directory name number) kept n none = none
no_more_kept (Remove directory name) kept n none = none
no_more_kept (Rename old_directory old_name new_directory new_name) kept n none = none
no_more_kept (Write number offset bytes) kept n none = none
no_more_kept (SetSize number size) kept n none = none
no_more_kept (SetAttributes number o) kept n none = none

no_more_since : (change : Change) (kept since : ℕ → Bool) (n : ℕ) → since n ≡ false → since_after change kept since n ≡ false
no_more_since (Make directory name number kind o) kept since n none = ap (λ (b : Bool). b && not (kept number)) none
no_more_since (AddLink directory name number) kept since n none = none
no_more_since (Remove directory name) kept since n none = none
no_more_since (Rename old_directory old_name new_directory new_name) kept since n none = none
no_more_since (Write number offset bytes) kept since n none = none
no_more_since (SetSize number size) kept since n none = none
no_more_since (SetAttributes number o) kept since n none = none

pub keeps_after : (change : Change) (old new : LiveTree) → ((n : ℕ) → kept_back_of new n ≡ kept_after change (kept_back_of old) n) → ((n : ℕ) → kept_since_of new n ≡ since_after change (kept_back_of old) (kept_since_of old) n) → KeepsNone old → KeepsNone new
keeps_after change old new kept since none = record {
  kept = λ n. kept n ∙ no_more_kept change (kept_back_of old) n (none.kept n);
  since = λ n. since n ∙ no_more_since change (kept_back_of old) (kept_since_of old) n (none.since n);
}

-- ---- both epochs

-- one that breaks the root's epoch breaks both
pub older_fails : (limits : Limits) (f : MountFault) (c : Contents) (from : Tree) (n epoch : ℕ) → Breaks limits f c from n epoch → BothBreak limits f c from n epoch
older_fails limits (fault.Damaged damage block) c from n epoch b = (b.0, in_older b.1)
older_fails limits fault.NotFormatted c from n epoch b = b
older_fails limits fault.Version c from n epoch b = b
older_fails limits fault.NoRoot c from n epoch b = b
older_fails limits fault.Memory c from n epoch b = tt
older_fails limits fault.Device c from n epoch b = tt

-- where another live tree shows the same, and the same changed of it
pub same_change : (limits : Limits) (charge : ℕ) (old mid new : LiveTree) (below : Tree) (change : Change) → shown_of mid below ≡ shown_of old below → changes_of mid ≡ changes_of old
    → charge ≡ charge_for limits (shown_of old below) change → MakesChange limits (charge_for limits (shown_of mid below) change) (Some mid) below change (Some new)
    → MakesChange limits charge (Some old) below change (Some new)
same_change limits charge old mid new below change shows changes charged m = record {
  applied = ap (apply limits change) (sym shows) ∙ m.applied;
  charged = charged;
  merged = m.merged ∙ ap (λ (l : Layer). merge l (layer_of_change (shown_of mid below) change)) changes ∙ ap (λ (t : Tree). merge (changes_of old) (layer_of_change t change)) shows;
}
