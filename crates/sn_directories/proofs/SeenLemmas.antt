-- What is seen of a number shows whether it is a directory's.
use Rattle.std.proofs.Common.{◌≡◌, ℕ, Bool, true, false, ◌&&◌, Option, Some, None, IsSomeAnd, is_some, refl, sym, ap, ◌∙◌}
use Rattle.std.specs.Option.{option_map}
use Rattle.std.specs.FinMap as map
use Rattle.sn_limits.specs.declared.kind.Kind.{Kind}
use Rattle.sn_limits.specs.declared.kind.Kind.TheVariants.{File, Directory}
use Rattle.sn_walk.specs.Views.{is_directory}
use Rattle.sn_model.specs.Chains.{◌>>=◌, only_if}
use Rattle.sn_model.specs.Changes.{directory_at, is_at_or_below}
use Rattle.sn_model.specs.NameTree.{HasKind}
use Rattle.sn_model.specs.Seen.{is_below}
use Rattle.sn_model.specs.Tree.{Node, Tree}
use Rattle.sn_overlay.specs.declared.node.SeenNode.{SeenNode}
use Rattle.sn_overlay.specs.Seen.{seen_node, seen_of}
use Rattle.sn_directories.specs.Told.{is_directory_seen}

seen_directory : (tree : Tree) (d : ℕ) → is_directory_seen (seen_node tree d) ≡ is_some (directory_at tree d)
seen_directory tree d = told (map.get tree.nodes d)
  where
    by_kind : (node : Node) (kind : Kind) → is_directory kind ≡ is_some (only_if (is_directory kind) >>= (λ _. Some node))
    by_kind node File = refl
    by_kind node Directory = refl

    told : (o : Option Node) → is_directory_seen (option_map (seen_of tree d) o) ≡ is_some (o >>= (λ node. only_if (is_directory node.kind) >>= (λ _. Some node)))
    told None = refl
    told (Some node) = by_kind node node.kind

module _ (tree : Tree) (top d : ℕ) (seen : Option SeenNode) (is : seen ≡ seen_node tree d) where
  pub not_below : is_directory_seen seen ≡ false → false ≡ is_below tree top d
  not_below e = sym (ap (λ (b : Bool). b && is_at_or_below tree top d) (sym (seen_directory tree d) ∙ sym (ap is_directory_seen is) ∙ e))

  pub below_seen : is_directory_seen seen ≡ true → is_at_or_below tree top d ≡ is_below tree top d
  below_seen e = sym (ap (λ (b : Bool). b && is_at_or_below tree top d) (sym (seen_directory tree d) ∙ sym (ap is_directory_seen is) ∙ e))

  pub directory_seen : is_directory_seen seen ≡ true → HasKind tree d Directory
  directory_seen e = told (map.get tree.nodes d) (sym (ap is_directory_seen is) ∙ e)
    where
      by_kind : (kind : Kind) → is_directory kind ≡ true → kind ≡ Directory
      by_kind File f = cc f
      by_kind Directory f = refl

      told : (o : Option Node) → is_directory_seen (option_map (seen_of tree d) o) ≡ true → IsSomeAnd o (λ node. node.kind ≡ Directory)
      told None f = cc f
      told (Some node) f = by_kind node.kind f
