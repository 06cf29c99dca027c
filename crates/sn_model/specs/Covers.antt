-- A tree that is another one with files in no link beside it.
use Rattle.std.specs.Prelude.{◌≡◌, ◌≢◌, ℕ, None, Some}
use Rattle.std.specs.FinMap as map
use Rattle.sn_limits.specs.declared.kind.Kind.TheVariants.{File}
use Rattle.sn_model.specs.declared.link.Link.{Link}
use Rattle.sn_model.specs.Tree.{Node, Tree}

-- no name has the number
abbrev pub IsUnnamed : Tree → ℕ → Type 0
IsUnnamed tree number = (link : Link) → map.get tree.links link ≢ Some number

-- What replay gives covers the live tree: the same names and nodes, and beside them only files in no link, which a close has dropped that isn't logged.
pub record Covers (replayed live : Tree) : Type 0 where
  pub links : replayed.links ≡ live.links
  pub kept : (number : ℕ) (node : Node) → map.get live.nodes number ≡ Some node → map.get replayed.nodes number ≡ Some node
  pub beside : (number : ℕ) (node : Node) → map.get replayed.nodes number ≡ Some node → map.get live.nodes number ≡ None → (node.kind ≡ File) × IsUnnamed replayed number
