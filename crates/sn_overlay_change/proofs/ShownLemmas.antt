-- What is seen through the layer of any change.
use Rattle.std.proofs.Common.{◌≡◌, Some}
use Rattle.sn_limits.specs.declared.limits.Limits.{Limits}
use Rattle.sn_model.specs.declared.change.Change.{Change}
use Rattle.sn_model.specs.declared.change.Change.TheVariants.{Make, AddLink, Remove, Rename, Write, SetSize, SetAttributes}
use Rattle.sn_model.specs.Tree.{Tree, link_to}
use Rattle.sn_model.specs.Changes.{apply}
use Rattle.sn_model.specs.NameTree.{IsHierarchy}
use Rattle.sn_overlay.specs.Layers.{through}
use Rattle.sn_overlay_change.specs.ChangeLayers.{layer_of_change}
use Rattle.sn_overlay_change.proofs.ChangeLemmas.{makes_show, links_show, removes_show, attributes_show}
use Rattle.sn_overlay_change.proofs.SizeLemmas.{sizes_show}
use Rattle.sn_overlay_change.proofs.RenameLemmas.{renames_show}
use Rattle.sn_overlay_change.proofs.WriteLemmas.{writes_show}

pub changes_show : (limits : Limits) (change : Change) (tree after : Tree) → IsHierarchy tree → apply limits change tree ≡ Some after → through (layer_of_change tree change) tree ≡ after
changes_show limits (Make directory name number kind o) tree after h e = makes_show limits tree after (link_to directory name) number kind o h e
changes_show limits (AddLink directory name number) tree after h e = links_show limits tree after (link_to directory name) number e
changes_show limits (Remove directory name) tree after h e = removes_show tree after (link_to directory name) e
changes_show limits (Rename old_directory old_name new_directory new_name) tree after h e = renames_show limits tree after (link_to old_directory old_name) (link_to new_directory new_name) e
changes_show limits (Write number offset bytes) tree after h e = writes_show limits tree after number offset bytes e
changes_show limits (SetSize number size) tree after h e = sizes_show limits tree after number size e
changes_show limits (SetAttributes number o) tree after h e = attributes_show tree after number o e
