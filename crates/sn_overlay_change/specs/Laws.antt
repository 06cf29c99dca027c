-- What follows from the definitions of the layers of changes.
use Rattle.std.specs.Prelude.{◌≡◌, ℕ, ◌+◌, ◌-◌, ◌*◌, ◌<◌, ◌≤◌, ◌⊎◌, Bool, true, List, length, Some}
use Rattle.std.specs.FinMap as map
use Rattle.sn_limits.specs.declared.kind.Kind.{Kind}
use Rattle.sn_limits.specs.declared.kind.Kind.TheVariants.{File}
use Rattle.sn_limits.specs.declared.limits.Limits.{Limits}
use Rattle.sn_model.specs.declared.change.Change.{Change}
use Rattle.sn_model.specs.declared.change.Ownership.{Ownership}
use Rattle.sn_model.specs.declared.link.Link.{Link}
use Rattle.sn_model.specs.Tree.{Tree}
use Rattle.sn_model.specs.NameTree.{IsHierarchy, HasKind}
use Rattle.sn_model.specs.Settling.{is_nameless, nameless_in}
use Rattle.sn_model.specs.Changes.{made, linked, removed, renamed, written, owned, cut, resized, overwritten, take_node, apply}
use Rattle.sn_overlay.specs.Pieces.{piece}
use Rattle.sn_overlay_change.specs.Blocks.{zeroed, spliced, part_in}
use Rattle.sn_overlay_change.specs.FirstNames.{GivesNoFirstName, StayNameless}
use Rattle.sn_overlay.specs.Layers.{IsLayer, Fits, through}
use Rattle.sn_overlay_change.specs.ChangeLayers.{make_layer, link_layer, remove_layer, rename_layer, write_layer, ownership_layer, size_layer, layer_of_change}
use Rattle.sn_overlay.specs.Seen.{CountsNames, LiesOver}
use Rattle.sn_overlay.specs.Needs.{need, need_of, counts, counts_for, left_nameless}
use Rattle.sn_overlay.specs.Overlays.{gone}

-- Through the layer of a change, the tree is what the change makes of it.
abbrev pub MakesShow : Type 0
MakesShow = (limits : Limits) (tree after : Tree) (link : Link) (number : ℕ) (kind : Kind) (o : Ownership) → IsHierarchy tree → made limits tree link number kind o ≡ Some after → through (make_layer tree link number kind o) tree ≡ after

abbrev pub LinksShow : Type 0
LinksShow = (limits : Limits) (tree after : Tree) (link : Link) (number : ℕ) → linked limits tree link number ≡ Some after → through (link_layer tree link number) tree ≡ after

abbrev pub RemovesShow : Type 0
RemovesShow = (tree after : Tree) (link : Link) → removed tree link ≡ Some after → through (remove_layer tree link) tree ≡ after

abbrev pub AttributesShow : Type 0
AttributesShow = (tree after : Tree) (number : ℕ) (o : Ownership) → owned tree number o ≡ Some after → through (ownership_layer tree number o) tree ≡ after

abbrev pub SizesShow : Type 0
SizesShow = (limits : Limits) (tree after : Tree) (number size : ℕ) → cut limits tree number size ≡ Some after → through (size_layer tree number size) tree ≡ after

abbrev pub RenamesShow : Type 0
RenamesShow = (limits : Limits) (tree after : Tree) (old new : Link) → renamed limits tree old new ≡ Some after → through (rename_layer tree old new) tree ≡ after

abbrev pub WritesShow : Type 0
WritesShow = (limits : Limits) (tree after : Tree) (number offset : ℕ) (bytes : List ℕ) → written limits tree number offset bytes ≡ Some after → through (write_layer tree number offset bytes) tree ≡ after

abbrev pub ChangesShow : Type 0
ChangesShow = (limits : Limits) (change : Change) (tree after : Tree) → IsHierarchy tree → apply limits change tree ≡ Some after → through (layer_of_change tree change) tree ≡ after

-- That layer is whole, and fits the tree.
abbrev pub ChangesAreLayers : Type 0
ChangesAreLayers = (limits : Limits) (change : Change) (tree after : Tree) → IsHierarchy tree → apply limits change tree ≡ Some after → IsLayer (layer_of_change tree change) × Fits (layer_of_change tree change) tree

-- It needs what was counted for the change, at most.
abbrev pub ChangesNeed : Type 0
ChangesNeed = (limits : Limits) (tree : Tree) (change : Change) → need limits (layer_of_change tree change) ≤ need_of limits (counts_for change)

-- It counts names: each node that it has as many as the node has afterwards.
abbrev pub ChangesCount : Type 0
ChangesCount = (limits : Limits) (change : Change) (tree after : Tree) → IsHierarchy tree → apply limits change tree ≡ Some after → CountsNames (layer_of_change tree change) tree after

-- A change leaves no more files without names than are counted for it.
abbrev pub NamelessAreCounted : Type 0
NamelessAreCounted = (limits : Limits) (change : Change) (tree after : Tree) → IsHierarchy tree → apply limits change tree ≡ Some after → nameless_in after ≤ nameless_in tree + left_nameless tree change

-- Where a change gives no file its first name, files without names stay so; and where they stay so, there are no fewer.
abbrev pub NamelessStay : Type 0
NamelessStay = (limits : Limits) (change : Change) (tree after : Tree) → GivesNoFirstName tree change → apply limits change tree ≡ Some after → StayNameless tree after

abbrev pub StayingIsCounted : Type 0
StayingIsCounted = (tree after : Tree) → StayNameless tree after → nameless_in tree ≤ nameless_in after

-- Through the layer in which a file is gone, the tree is the one without its node; that layer lies over the tree, and needs what is counted for one node.
abbrev pub DropsShow : Type 0
DropsShow = (tree : Tree) (number : ℕ) (by_close : Bool) → IsHierarchy tree → HasKind tree number File → through (gone number by_close) tree ≡ take_node tree number

abbrev pub DropsLie : Type 0
DropsLie = (tree : Tree) (number : ℕ) (by_close : Bool) → IsHierarchy tree → HasKind tree number File → LiesOver (gone number by_close) tree

abbrev pub DropsNeed : Type 0
DropsNeed = (limits : Limits) (number : ℕ) (by_close : Bool) → need limits (gone number by_close) ≡ need_of limits (counts 1 0 0)

-- When a file without names is dropped, there is one less of them.
abbrev pub DropsAreCounted : Type 0
DropsAreCounted = (tree : Tree) (number : ℕ) → is_nameless tree number (map.get tree.nodes number) ≡ true → nameless_in (take_node tree number) + 1 ≡ nameless_in tree

-- The block in which a file is cut off has zeros from there on; those before it, and all of a file that isn't made shorter, stay.
abbrev pub CutsZero : Type 0
CutsZero = (bytes : List ℕ) (index from : ℕ) → from ≤ 4096 → piece 4096 (resized bytes (index * 4096 + from)) index ≡ zeroed from (piece 4096 bytes index)

abbrev pub CutsKeep : Type 0
CutsKeep = (bytes : List ℕ) (size index : ℕ) → ((index + 1) * 4096 ≤ size) ⊎ (length bytes ≤ size) → piece 4096 (resized bytes size) index ≡ piece 4096 bytes index

-- A block in which bytes are written is the old one with them in place; one in which none are is unchanged.
abbrev pub WritesSplice : Type 0
WritesSplice = (bytes : List ℕ) (index from : ℕ) (new : List ℕ) → from + length new ≤ 4096 → piece 4096 (overwritten bytes (index * 4096 + from) new) index ≡ spliced from new (piece 4096 bytes index)

-- The same for bytes that reach over several blocks: each block gets those that are in it.
abbrev pub WritesSpan : Type 0
WritesSpan = (bytes : List ℕ) (offset : ℕ) (new : List ℕ) (index : ℕ) → offset < (index + 1) * 4096 → index * 4096 < offset + length new → piece 4096 (overwritten bytes offset new) index ≡ spliced (offset - index * 4096) (part_in offset new index) (piece 4096 bytes index)

abbrev pub WritesKeep : Type 0
WritesKeep = (bytes : List ℕ) (offset : ℕ) (new : List ℕ) (index : ℕ) → ((index + 1) * 4096 ≤ offset) ⊎ (offset + length new ≤ index * 4096) → piece 4096 (overwritten bytes offset new) index ≡ piece 4096 bytes index
