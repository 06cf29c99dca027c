-- When a tree has below a number what another has below one.
use Rattle.std.specs.Prelude.{◌≡◌, ℕ, List, Option, None, Some}
use Rattle.std.specs.FinMap as map
use Rattle.sn_model.specs.Tree.{Tree, link_to}

-- Names lead in the other tree to nodes that are the same: to one node where they lead to one, and to two where they lead to two. No
-- other name is there.
pub record IsCopy (one : Tree) (top : ℕ) (other : Tree) (place : ℕ) : Type 0 where
  -- the number in the other tree, of each number that names lead to
  pub to : ℕ → Option ℕ
  pub first : to top ≡ Some place
  pub apart : (a b c : ℕ) → to a ≡ Some c → to b ≡ Some c → a ≡ b
  pub nodes : (a b : ℕ) → to a ≡ Some b → map.get other.nodes b ≡ map.get one.nodes a
  pub names : (a b m : ℕ) (name : List ℕ) → to a ≡ Some b → map.get one.links (link_to a name) ≡ Some m
      → (n : ℕ) × (to m ≡ Some n) × (map.get other.links (link_to b name) ≡ Some n)
  pub others : (a b : ℕ) (name : List ℕ) → to a ≡ Some b → map.get one.links (link_to a name) ≡ None → map.get other.links (link_to b name) ≡ None
