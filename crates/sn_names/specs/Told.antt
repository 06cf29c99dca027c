-- What is known of a directory's blocks, and when it's true.
use Rattle.std.specs.Prelude.{◌≡◌, ◌≢◌, ℕ, ◌+◌, ◌-◌, ◌*◌, ◌/◌, ◌≤◌, ◌<◌, List, length, take, Contains, Option, None, Some, slice_index, slice_index_or}
use Rattle.sn_layout.specs.Pointers.{levels_of}
use Rattle.sn_layout.specs.declared.tree.BlockTree.{BlockTree}
use Rattle.sn_layout_node.specs.Directory.{Link, Spells, links_bytes, links_of, number_of}
use Rattle.sn_ondisk.specs.Trees.{Store, entry}
use Rattle.sn_names.specs.Prints.{print_of, entry_for}

-- Block i of a directory is at this number: it and the pointer above it are on a device of so many sectors.
pub record IsPlaced (sectors : ℕ) (s : Store) (tree : BlockTree) (i number : ℕ) : Type 0 where
  pub place : entry s (levels_of tree.size) tree.pointers i ≡ number
  pub lies : 8 * number + 8 ≤ sectors
  pub above : levels_of tree.size ≢ 0 → 8 * slice_index tree.pointers (i / 1024) + 8 ≤ sectors

-- the names of a block of which so many bytes are left
abbrev pub links_before : ℕ → List ℕ → List Link
links_before room block = links_of (take (4096 - room) block)

-- A block spells names that leave this room, and each of them is listed under block i.
pub record Knows (entries : List ℕ) (i room : ℕ) (block : List ℕ) : Type 0 where
  pub spelled : Spells block (links_before room block)
  pub left : 4096 - length (links_bytes (links_before room block)) ≡ room
  pub listed : (name : List ℕ) → (Contains entries (entry_for name i) → ⊥) → number_of name (links_before room block) ≡ None

-- What these numbers, rooms and entries say of a directory is true of these blocks, on a device of so many sectors. A number is 0 where the block's place isn't known, and a room `None` where its names aren't.
pub record IsTold (sectors : ℕ) (s : Store) (tree : BlockTree) (numbers : List ℕ) (rooms : List (Option ℕ)) (entries : List ℕ) : Type 0 where
  pub placed : (i : ℕ) → slice_index numbers i ≢ 0 → IsPlaced sectors s tree i (slice_index numbers i)
  pub somewhere : (i room : ℕ) → slice_index_or rooms i None ≡ Some room → slice_index numbers i ≢ 0
  pub known : (i room : ℕ) → slice_index_or rooms i None ≡ Some room → Knows entries i room (s (slice_index numbers i))

-- Block i of a directory is there, and spells names of which this is true.
pub record IsSeen (sectors : ℕ) (s : Store) (tree : BlockTree) (i : ℕ) (P : List Link → Type 0) : Type 0 where
  pub level : levels_of tree.size ≤ 1
  pub number : ℕ
  pub no_hole : number ≢ 0
  pub placed : IsPlaced sectors s tree i number
  pub links : List Link
  pub spelled : Spells (s number) links
  pub true_of : P links

-- none of them is this name
abbrev pub LacksName : List ℕ → List Link → Type 0
LacksName name links = number_of name links ≡ None

-- None of them has one of these prints, and less room is left than this.
pub record IsUnwanted (prints : List ℕ) (least : ℕ) (links : List Link) : Type 0 where
  pub lacks : (name : List ℕ) → Contains prints (print_of name) → LacksName name links
  pub room : 4096 - length (links_bytes links) < least
