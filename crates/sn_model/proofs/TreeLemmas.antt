-- A change that applies gives a name tree.
use Rattle.std.proofs.Common.{◌≡◌, Some}
use Rattle.sn_limits.specs.declared.limits.Limits.{Limits}
use Rattle.sn_model.specs.declared.change.Change.{Change}
use Rattle.sn_model.specs.Tree.{Tree}
use Rattle.sn_model.specs.Changes.{apply}
use Rattle.sn_model.specs.NameTree.{IsTree}
use Rattle.sn_model.proofs.KeepLemmas.{change_keeps}
use Rattle.sn_model.proofs.NodeLemmas.{change_nodes}
use Rattle.sn_model.proofs.FewLemmas.{change_few}

pub tree_kept : (limits : Limits) (change : Change) (tree after : Tree) → IsTree limits tree → apply limits change tree ≡ Some after → IsTree limits after
tree_kept limits change tree after h e = record {
  hierarchy = change_keeps limits change tree after h.hierarchy e;
  nodes = change_nodes limits change tree after h.nodes e;
  few = change_few limits change tree after h.few e;
}
