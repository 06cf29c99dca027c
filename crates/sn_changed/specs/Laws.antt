-- How what changed since a root grows, event by event.
use Rattle.std.specs.Prelude.{◌≡◌, ◌≢◌, ℕ, ◌+◌, ◌*◌, ◌≤◌, ◌==◌, Bool, true, List, AllPairs, Some, length, if◌then◌else◌}
use Rattle.std.specs.FinMap as map
use Rattle.sn_limits.specs.Versions.{limits_written}
use Rattle.sn_limits.specs.declared.limits.Limits.{Limits}
use Rattle.sn_model.specs.declared.change.Change.{Change}
use Rattle.sn_model.specs.Changes.{apply, take_node}
use Rattle.sn_model.specs.Charges.{charge_for}
use Rattle.sn_model.specs.NameTree.{IsHierarchy}
use Rattle.sn_model.specs.declared.outcome.Caller.{Caller}
use Rattle.sn_model.specs.Settling.{dropped, is_nameless, nameless_in, without_nameless}
use Rattle.sn_model.specs.Steps.{with_caller}
use Rattle.sn_model.specs.Tree.{Tree}
use Rattle.sn_model.specs.World.{World}
use Rattle.sn_overlay.specs.Layers.{Layer}
use Rattle.sn_overlay.specs.Merges.{merge}
use Rattle.sn_overlay.specs.Needs.{AreCharged, need}
use Rattle.sn_overlay.specs.Overlays.{gone, no_changes}
use Rattle.sn_overlay_change.specs.ChangeLayers.{layer_of_change}
use Rattle.sn_changed.specs.declared.dropped.DroppedFile.{DroppedFile}
use Rattle.sn_changed.specs.Changed.{HasChanged}
use Rattle.sn_changed.specs.Dropped.{AreNameless, LeadsOn, TellsGone, numbers_of, with_drops, without_each}

-- Over a root that is new nothing has changed, and nothing was charged.
abbrev pub NothingChanged : Type 0
NothingChanged = (limits : Limits) (root : Tree) → HasChanged limits no_changes root root 0

-- A change that is applied to the live tree is merged, and charged.
abbrev pub ChangesMerge : Type 0
ChangesMerge = (limits : Limits) (layer : Layer) (root live after : Tree) (charged : ℕ) (change : Change) → AreCharged limits → IsHierarchy live → HasChanged limits layer root live charged → apply limits change live ≡ Some after
    → HasChanged limits (merge layer (layer_of_change live change)) root after (charged + charge_for limits live change)

-- A live file without names that is dropped is merged, and paid by its own charge.
abbrev pub DropsMerge : Type 0
DropsMerge = (limits : Limits) (layer : Layer) (root live : Tree) (charged number : ℕ) (by_close : Bool) → AreCharged limits → IsHierarchy live → HasChanged limits layer root live charged → is_nameless live number (map.get live.nodes number) ≡ true
    → HasChanged limits (merge layer (gone number by_close)) root (take_node live number) charged

-- Where what was charged, with a charge for each file that the root's tree has without names, is no more than is free, what is to be built fits there, and leaves a charge for each live file without names.
abbrev pub BuildsFit : Type 0
BuildsFit = (limits : Limits) (layer : Layer) (root live : Tree) (charged free : ℕ) → HasChanged limits layer root live charged → charged + limits.inode_charge * nameless_in root ≤ free
    → need limits layer + limits.inode_charge * nameless_in live ≤ free

-- Files without names that are dropped, each once, are merged, and paid by their own charges.
abbrev pub EachMerges : Type 0
EachMerges = (files : List DroppedFile) (limits : Limits) (layer : Layer) (root live : Tree) (charged : ℕ) → AreCharged limits → IsHierarchy live → HasChanged limits layer root live charged → AreNameless live files → AllPairs ◌≢◌ (numbers_of files)
    → HasChanged limits (with_drops layer files) root (without_each live files) charged

-- The tree without those that were dropped is the one that the drops led to, whichever files were held.
abbrev pub WithoutEachIs : Type 0
WithoutEachIs = (live : Tree) (held : ℕ → Bool) (files : List DroppedFile) → TellsGone live (without_nameless held live) files → without_each live files ≡ without_nameless held live

-- After a caller, those that were dropped lead on to the live tree that is left.
abbrev pub CallersDrop : Type 0
CallersDrop = (limits : Limits) (layer new : Layer) (root : Tree) (charged : ℕ) (world : World) (session : ℕ) (caller : Caller) (files : List DroppedFile) → AreCharged limits → IsHierarchy world.live → HasChanged limits layer root world.live charged
    → TellsGone world.live (dropped (with_caller world session caller)).live files → LeadsOn layer files new → HasChanged limits new root (dropped (with_caller world session caller)).live charged

-- Where files without names were dropped and nothing else changed, as where a snapshot is brought back, a point needs no more blocks than these.
abbrev pub DropsNeed : Type 0
DropsNeed = (files : List DroppedFile) → need limits_written (with_drops no_changes files) ≤ (if length files == 0 then 0 else 6 * length files + 2)
