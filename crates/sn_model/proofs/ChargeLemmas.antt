-- Outcomes are charged for their changes.
use Rattle.std.proofs.Common.{◌≡◌, ◌∙◌, ℕ, ◌+◌, ◌*◌, Bool, true, false, cond, List, Some, refl, sym, ap}
use Rattle.std.specs.FinMap as map
use Rattle.sn_limits.specs.declared.kind.Kind.{Kind}
use Rattle.sn_limits.specs.declared.kind.Kind.TheVariants.{File, Directory}
use Rattle.sn_limits.specs.declared.limits.Limits.{Limits}
use Rattle.sn_walk.specs.Views.{is_directory}
use Rattle.sn_model.specs.declared.change.Change.TheVariants.{Remove}
use Rattle.sn_model.specs.Changes.{is_file}
use Rattle.sn_model.specs.Charges.{charge_for, file_under}
use Rattle.sn_model.specs.Tree.{Node, Tree, link_to}

one_of_kind : (kind : Kind) (b : Bool) → is_directory kind ≡ b → ◌≡◌ {A = ℕ} (cond (is_file kind) 1 0) (cond b 0 1)
one_of_kind File true e = cc
one_of_kind File false e = refl
one_of_kind Directory true e = refl
one_of_kind Directory false e = cc

-- a name is taken of a node of this kind
pub remove_pays : (limits : Limits) (tree : Tree) (directory : ℕ) (name : List ℕ) (number : ℕ) (node : Node) (b : Bool) → map.get tree.links (link_to directory name) ≡ Some number → map.get tree.nodes number ≡ Some node → is_directory node.kind ≡ b
    → (2 + cond b 0 1) * limits.inode_charge + limits.block_charge ≡ charge_for limits tree (Remove directory name)
remove_pays limits tree directory name number node b named there kind =
    let counted : file_under tree (link_to directory name) ≡ cond {A = ℕ} (is_file node.kind) 1 0 = rw (named, there) refl in
    ap (λ n. (2 + n) * limits.inode_charge + limits.block_charge) (sym (counted ∙ one_of_kind node.kind b kind))
