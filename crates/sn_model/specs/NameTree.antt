-- When a tree is a name tree, whole.
use Rattle.std.specs.Prelude.{◌≡◌, ◌≢◌, ℕ, ◌≤◌, ◌<◌, ◌^◌, true, List, [], None, Some, IfSome, IsSomeAnd, is_some, length, codes}
use Rattle.std.specs.List.{AllByRecursion}
use Rattle.std.specs.FinMap as map
use Rattle.sn_acl.specs.AccessList.{IsValid}
use Rattle.sn_limits.specs.declared.kind.Kind.{Kind}
use Rattle.sn_limits.specs.declared.kind.Kind.TheVariants.{File, Directory}
use Rattle.sn_limits.specs.Names.{is_name}
use Rattle.sn_limits.specs.declared.limits.Limits.{Limits}
use Rattle.sn_model.specs.declared.link.Link.{Link}
use Rattle.sn_model.specs.Tree.{Node, Tree, link_to, names_in, names_for}

-- A number is reached from the root by names.
pub data Reaches (tree : Tree) : ℕ → Type 0 where
  root : Reaches tree 2
  below : (directory : ℕ) (name : List ℕ) (number : ℕ) → Reaches tree directory → map.get tree.links (link_to directory name) ≡ Some number → Reaches tree number

abbrev pub HasKind : Tree → ℕ → Kind → Type 0
HasKind tree number kind = IsSomeAnd (map.get tree.nodes number) (λ node. node.kind ≡ kind)

-- Directories form a tree (POSIX.1-2017, 3.129 Directory, and 3.159 File Hierarchy): the root is one, in no directory; each name is in a directory and leads to a node; each other directory has one name, and is reached from the root.
pub record IsHierarchy (tree : Tree) : Type 0 where
  pub root : HasKind tree 2 Directory
  pub unnamed : (link : Link) → map.get tree.links link ≢ Some 2
  pub held : (link : Link) (number : ℕ) → map.get tree.links link ≡ Some number → HasKind tree link.directory Directory
  pub leads : (link : Link) (number : ℕ) → map.get tree.links link ≡ Some number → is_some (map.get tree.nodes number) ≡ true
  pub once : (a b : Link) (number : ℕ) → HasKind tree number Directory → map.get tree.links a ≡ Some number → map.get tree.links b ≡ Some number → a ≡ b
  pub reached : (number : ℕ) → HasKind tree number Directory → Reaches tree number

-- What a node may be: its ACLs are valid, a file has no default ACL, a directory no bytes.
pub record IsNode (limits : Limits) (number : ℕ) (node : Node) : Type 0 where
  pub first : 2 ≤ number
  pub within : number ≤ limits.largest_number
  pub owner : node.owner < 2 ^ 32
  pub group : node.group < 2 ^ 32
  pub acl : IsValid node.acl
  pub default_acl : IfSome node.default_acl IsValid
  pub of_file : node.kind ≡ File → node.default_acl ≡ None
  pub of_directory : node.kind ≡ Directory → node.bytes ≡ []
  pub bytes : AllByRecursion (λ b. b < 256) node.bytes
  pub size : length node.bytes ≤ limits.largest_file

-- Nodes are what they may be, and names are names; none hides the directory of snapshots.
pub record HasNodes (limits : Limits) (tree : Tree) : Type 0 where
  pub nodes : (number : ℕ) (node : Node) → map.get tree.nodes number ≡ Some node → IsNode limits number node
  pub names : (link : Link) (number : ℕ) → map.get tree.links link ≡ Some number → is_name link.name ≡ true
  pub hidden : map.get tree.links (link_to 2 (codes ".snapshot")) ≡ None

-- No directory and no file has more names than the limits allow.
pub record HasFewNames (limits : Limits) (tree : Tree) : Type 0 where
  pub names : (directory : ℕ) → names_in tree directory ≤ limits.names
  pub links : (number : ℕ) → HasKind tree number File → names_for tree number ≤ limits.links

-- A name tree.
pub record IsTree (limits : Limits) (tree : Tree) : Type 0 where
  pub hierarchy : IsHierarchy tree
  pub nodes : HasNodes limits tree
  pub few : HasFewNames limits tree
