-- What is read of a node decides the tests of it.
use Rattle.std.proofs.Common.{◌≡◌, ℕ, Bool, false, cond, Option, Some, None, is_some, refl}
use Rattle.std.specs.Option.{option_map}
use Rattle.std.specs.FinMap as map
use Rattle.sn_limits.specs.declared.kind.Kind.{Kind}
use Rattle.sn_limits.specs.declared.kind.Kind.TheVariants.{File, Directory}
use Rattle.sn_walk.specs.Views.{is_directory}
use Rattle.sn_model.specs.Chains.{◌>>=◌, only_if}
use Rattle.sn_model.specs.Changes.{is_file, directory_at}
use Rattle.sn_model.specs.Tree.{Node, Tree, link_count, names_for}
use Rattle.sn_overlay.specs.declared.node.SeenNode.{SeenNode}
use Rattle.sn_overlay.specs.Seen.{seen_of}
use Rattle.sn_applies.specs.declared.reads.Standing.{Standing}
use Rattle.sn_applies.specs.Tests.{file_names, standing_of}

abbrev standing : Tree → ℕ → Node → Standing
standing tree number node = record { kind = node.kind; links = link_count node.kind (names_for tree number) }

abbrev standing_by : Tree → ℕ → Option Node → Option Standing
standing_by tree number found = option_map (λ (node : SeenNode). record { kind = node.kind; links = node.links }) (option_map (seen_of tree number) found)

-- the names of a file
abbrev pub names_by : Option Standing → Option ℕ
names_by None = None
names_by (Some s) = cond (is_file s.kind) (Some s.links) None

pub names_seen : (tree : Tree) (number : ℕ) → file_names tree number ≡ names_by (standing_of tree number)
names_seen tree number = told (map.get tree.nodes number)
  where
    by_kind : (node : Node) (kind : Kind) → ((only_if (is_file kind) >>= (λ _. Some node)) >>= (λ _. Some (names_for tree number))) ≡ cond (is_file kind) (Some (link_count kind (names_for tree number))) None
    by_kind node File = refl
    by_kind node Directory = refl

    told : (o : Option Node) → ((o >>= (λ node. only_if (is_file node.kind) >>= (λ _. Some node))) >>= (λ _. Some (names_for tree number))) ≡ names_by (standing_by tree number o)
    told None = refl
    told (Some node) = by_kind node node.kind

-- whether it is a directory
abbrev pub directory_by : Option Standing → Bool
directory_by None = false
directory_by (Some s) = is_directory s.kind

pub directory_seen : (tree : Tree) (number : ℕ) → is_some (directory_at tree number) ≡ directory_by (standing_of tree number)
directory_seen tree number = told (map.get tree.nodes number)
  where
    by_kind : (node : Node) (kind : Kind) → is_some (only_if (is_directory kind) >>= (λ _. Some node)) ≡ is_directory kind
    by_kind node File = refl
    by_kind node Directory = refl

    told : (o : Option Node) → is_some (o >>= (λ node. only_if (is_directory node.kind) >>= (λ _. Some node))) ≡ directory_by (standing_by tree number o)
    told None = refl
    told (Some node) = by_kind node node.kind

-- a node that was read
pub node_seen : (tree : Tree) (number : ℕ) (s : Standing) → standing_of tree number ≡ Some s → (node : Node) × (map.get tree.nodes number ≡ Some node) × (standing tree number node ≡ s)
node_seen tree number s = told (map.get tree.nodes number) refl
  where
    told : (o : Option Node) → map.get tree.nodes number ≡ o → standing_by tree number o ≡ Some s → (node : Node) × (map.get tree.nodes number ≡ Some node) × (standing tree number node ≡ s)
    told None g e = cc
    told (Some node) g e = (node, g, cc)

pub nothing_seen : (tree : Tree) (number : ℕ) → standing_of tree number ≡ None → map.get tree.nodes number ≡ None
nothing_seen tree number = told (map.get tree.nodes number) refl
  where
    told : (o : Option Node) → map.get tree.nodes number ≡ o → standing_by tree number o ≡ None → map.get tree.nodes number ≡ None
    told None g e = g
    told (Some node) g e = cc
