-- What follows from the definitions of layers.
use Rattle.std.specs.Prelude.{◌≡◌, ℕ, ◌+◌, ◌*◌, ◌≤◌, Bool, Some}
use Rattle.std.specs.FinMap as map
use Rattle.sn_limits.specs.declared.limits.Limits.{Limits}
use Rattle.sn_limits.specs.Versions.{limits_of}
use Rattle.sn_model.specs.Charges.{charge_for}
use Rattle.sn_model.specs.declared.change.Change.{Change}
use Rattle.sn_model.specs.declared.link.Link.{Link}
use Rattle.sn_model.specs.Tree.{Tree}
use Rattle.sn_overlay.specs.Layers.{Layer, IsLayer, Fits, through, node_seen, name_seen}
use Rattle.sn_overlay.specs.Merges.{merge}
use Rattle.sn_overlay.specs.Overlays.{gone}
use Rattle.sn_overlay.specs.Seen.{CountsNames, LiesOver}
use Rattle.sn_overlay.specs.Needs.{need, need_of, counts, counts_for, left_nameless, AreCharged, IsPaid}

-- At each number and each name the tree seen through a layer has what the layer shows there.
abbrev pub LayersShowNodes : Type 0
LayersShowNodes = (layer : Layer) (tree : Tree) (number : ℕ) → map.get (through layer tree).nodes number ≡ node_seen layer number (map.get layer.nodes number) (map.get tree.nodes number)

abbrev pub LayersShowNames : Type 0
LayersShowNames = (layer : Layer) (tree : Tree) (link : Link) → map.get (through layer tree).links link ≡ name_seen layer link (map.get layer.names link) (map.get tree.links link)

-- To see a tree through two layers is to see it through their merge.
abbrev pub MergesShowBoth : Type 0
MergesShowBoth = (older newer : Layer) (tree : Tree) → IsLayer older → IsLayer newer → Fits older tree → Fits newer (through older tree) → through (merge older newer) tree ≡ through newer (through older tree)

-- A merge of whole layers is whole, and fits the tree below both.
abbrev pub MergesAreLayers : Type 0
MergesAreLayers = (older newer : Layer) → IsLayer older → IsLayer newer → IsLayer (merge older newer)

abbrev pub MergesFit : Type 0
MergesFit = (older newer : Layer) (tree : Tree) → IsLayer older → IsLayer newer → Fits older tree → Fits newer (through older tree) → Fits (merge older newer) tree

-- A merge needs no more than both.
abbrev pub NeedsAdd : Type 0
NeedsAdd = (limits : Limits) (older newer : Layer) → need limits (merge older newer) ≤ need limits older + need limits newer

-- Each version that is read is charged so that changes are paid, and so is one with files of two indirect levels, 10 blocks an inode and 3 a data block.
abbrev pub VersionsAreCharged : Type 0
VersionsAreCharged = (version : ℕ) (limits : Limits) → limits_of version ≡ Some limits → AreCharged limits

abbrev pub TwoLevelsAreCharged : Type 0
TwoLevelsAreCharged = (limits : Limits) → limits.indirect_levels ≡ 2 → limits.inode_charge ≡ 10 → limits.block_charge ≡ 3 → AreCharged limits

-- The charge for a change pays for what its layer needs, and for each file that it leaves without names.
abbrev pub ChangesArePaid : Type 0
ChangesArePaid = (limits : Limits) (tree : Tree) (change : Change) → AreCharged limits → need_of limits (counts_for change) + limits.inode_charge * left_nameless tree change ≤ charge_for limits tree change

-- The charge for a file without names pays for what the layer needs that drops it.
abbrev pub DropsArePaid : Type 0
DropsArePaid = (limits : Limits) → AreCharged limits → need_of limits (counts 1 0 0) ≤ limits.inode_charge

-- Where the older layer is paid and the newer one is, with what it leaves without names, the merge is.
abbrev pub MergesStayPaid : Type 0
MergesStayPaid = (limits : Limits) (older newer : Layer) (below between after more charged charge : ℕ) → IsPaid limits older below between charged → need limits newer + limits.inode_charge * more ≤ charge → after ≤ between + more → IsPaid limits (merge older newer) below after (charged + charge)

-- A file without names that is dropped is paid by its own charge: nothing more is charged.
abbrev pub DropsStayPaid : Type 0
DropsStayPaid = (limits : Limits) (older : Layer) (number : ℕ) (by_close : Bool) (below after charged : ℕ) → AreCharged limits → IsPaid limits older below (after + 1) charged → IsPaid limits (merge older (gone number by_close)) below after charged

-- A merge counts names where both layers do.
abbrev pub MergesCount : Type 0
MergesCount = (older newer : Layer) (tree between after : Tree) → CountsNames older tree between → CountsNames newer between after → CountsNames (merge older newer) tree after

-- Where the older layer lies over a tree, and the newer one over that tree through the older one, the merge lies over the tree.
abbrev pub MergesLie : Type 0
MergesLie = (older newer : Layer) (tree : Tree) → LiesOver older tree → LiesOver newer (through older tree) → LiesOver (merge older newer) tree
