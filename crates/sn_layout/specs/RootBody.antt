-- A root body: what it may hold, and its one spelling in a block.
use Rattle.std.specs.Prelude.{◌≡◌, ℕ, ◌*◌, ◌-◌, ◌^◌, ◌<◌, ◌≤◌, List, [], ◌∷◌, ◌++◌, length, Some}
use Rattle.sn_layout.specs.declared.root.RootBody.{RootBody}
use Rattle.sn_layout.specs.declared.root.Head.{Head}
use Rattle.sn_layout.specs.declared.root.HeadNumbers.{HeadNumbers}
use Rattle.sn_bytes.specs.Bytes.{number_bytes, zeros}
use Rattle.sn_layout.specs.BlockTree.{IsBlockTree, tree_bytes}
use Rattle.sn_limits.specs.Versions.{limits_of}
use Rattle.sn_layout.specs.Snapshot.{AreSnapshots, snapshots_bytes}

-- generations and epochs go from 1 to 2 ^ 62
pub record IsAge (age : ℕ) : Type 0 where
  pub least : 1 ≤ age
  pub most : age ≤ 2 ^ 62

-- numbers that fit their fields
pub record IsHead (head : Head) : Type 0 where
  pub version : head.version < 256 ^ 4
  pub generation : head.generation < 256 ^ 8
  pub epoch : head.epoch < 256 ^ 8
  pub count : head.count < 256 ^ 4
  pub inode_file : IsBlockTree head.inode_file

-- the snapshots begin at 624
abbrev pub head_bytes : Head → List ℕ
head_bytes head = number_bytes 4 head.version ++ zeros 4 ++ number_bytes 8 head.generation ++ number_bytes 8 head.epoch ++ number_bytes 4 head.count ++ zeros 4 ++ tree_bytes head.inode_file ++ zeros 520

-- the widths of the numbers in front of the root of the inode file, and those numbers, with a 0 for the zeros between
abbrev pub head_widths : List ℕ
head_widths = 4 ∷ 4 ∷ 8 ∷ 8 ∷ 4 ∷ 4 ∷ []

abbrev pub head_numbers : Head → List ℕ
head_numbers head = head.version ∷ 0 ∷ head.generation ∷ head.epoch ∷ head.count ∷ 0 ∷ []

-- the numbers as they were read, whatever is between
abbrev pub listed : HeadNumbers → List ℕ
listed n = n.version ∷ n.before_ages ∷ n.generation ∷ n.epoch ∷ n.count ∷ n.before_tree ∷ []

-- what precedes the snapshots
abbrev pub head_of : RootBody → Head
head_of body = record { version = body.limits.version; generation = body.generation; epoch = body.epoch; count = length body.snapshots; inode_file = body.inode_file }

pub record IsRootBody (body : RootBody) : Type 0 where
  pub version : limits_of body.limits.version ≡ Some body.limits
  pub generation : IsAge body.generation
  pub epoch : IsAge body.epoch
  pub inode_file : IsBlockTree body.inode_file
  pub snapshots : AreSnapshots body.limits body.snapshots

abbrev pub root_body_bytes : RootBody → List ℕ
root_body_bytes body = head_bytes (head_of body) ++ snapshots_bytes body.snapshots ++ zeros (3472 - 112 * length body.snapshots)
