-- How many nodes are files without a name.
use Rattle.std.specs.Prelude.{◌≡◌, ℕ, ◌<◌, ◌^◌, ◌==◌, Bool, not, ◌||◌, List, Option, Some, None, true, is_some, count_by, if◌then◌else◌}
use Rattle.std.specs.Ordering.{nat_cmp}
use Rattle.std.specs.FinMap as map
use Rattle.sn_walk.specs.Views.{is_directory}
use Rattle.sn_maps.specs.Maps.{seen_by}
use Rattle.sn_nodes.specs.declared.nodes.StoredNode.{StoredNode}

-- what a settling keeps: directories, and files with a name
abbrev pub is_kept : StoredNode → Bool
is_kept s = is_directory s.kind || not (s.counts.links == 0)

-- a file without a name, as a number
abbrev pub bare_once : StoredNode → ℕ
bare_once s = if not (is_kept s) then 1 else 0

abbrev pub bare_at : Option StoredNode → ℕ
bare_at None = 0
bare_at (Some s) = bare_once s

-- how many there are
unfoldable pub bare_in : map.FinMap nat_cmp StoredNode → ℕ
bare_in stored = count_by (λ (e : ℕ × StoredNode). not (is_kept e.1)) (map.entries stored)

-- They are counted. Each has a number of 16 bits, so that the count fits.
pub record IsTallied (stored : map.FinMap nat_cmp StoredNode) (nameless : ℕ) : Type 0 where
  pub count : nameless ≡ bare_in stored
  pub low : (number : ℕ) → is_some (map.get stored number) ≡ true → number < 2 ^ 16

abbrev pub IsTalliedIn : List (ℕ × StoredNode) → ℕ → Type 0
IsTalliedIn entries nameless = IsTallied (seen_by nat_cmp (λ s. s) entries) nameless
