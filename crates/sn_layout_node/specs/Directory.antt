-- A directory block as the names in it.
use Rattle.std.specs.Prelude.{◌≡◌, ℕ, zero, suc, ◌-◌, ◌<◌, ◌≤◌, ◌^◌, Bool, ◌&&◌, List, [], ◌∷◌, ◌++◌, length, take, drop, Option, Some, None, IsTrue, nat_le, slice_index, if◌then◌else◌}
use Rattle.std.specs.List.{flat_map, AllByRecursion}
use Rattle.std.specs.Str.{bytes_eq}
use Rattle.byteorder.specs.Endian.{little_number}
use Rattle.sn_limits.specs.Names.{is_name}
use Rattle.sn_layout.specs.Bytes.{number_bytes, zeros}

-- a name and the number of what it denotes
pub record Link : Type 0 where
  pub number : ℕ
  pub name : List ℕ

pub record IsLink (link : Link) : Type 0 where
  pub least : 2 ≤ link.number
  pub most : link.number < 256 ^ 2
  pub name : IsTrue (is_name link.name)

-- a name after its length
abbrev pub name_bytes : List ℕ → List ℕ
name_bytes name = length name ∷ name

-- a number and a name
abbrev pub link_bytes : Link → List ℕ
link_bytes link = number_bytes 2 link.number ++ name_bytes link.name

abbrev pub links_bytes : List Link → List ℕ
links_bytes links = flat_map link_bytes links

-- links that a block has room for
pub record AreLinks (links : List Link) : Type 0 where
  pub each : AllByRecursion IsLink links
  pub room : length (links_bytes links) ≤ 4096

-- one after the other, and then zeros
abbrev pub directory_bytes : List Link → List ℕ
directory_bytes links = links_bytes links ++ zeros (4096 - length (links_bytes links))

-- a block of these links
pub record Spells (block : List ℕ) (links : List Link) : Type 0 where
  pub fit : AreLinks links
  pub bytes : block ≡ directory_bytes links

-- the block is one of some links
abbrev pub IsDirectoryBlock : List ℕ → Type 0
IsDirectoryBlock block = (links : List Link) × Spells block links

-- at most n links, read from the front of bytes that are nothing but links
unfoldable pub links_within : ℕ → List ℕ → List Link
links_within zero bytes = []
links_within (suc n) [] = []
links_within (suc n) (b ∷ bytes) =
    record { number = little_number 2 (b ∷ bytes); name = take (slice_index bytes 1) (drop 2 bytes) } ∷ links_within n (drop (slice_index bytes 1) (drop 2 bytes))

-- the links that bytes are, where they are nothing but links
unfoldable pub links_of : List ℕ → List Link
links_of bytes = links_within (length bytes) bytes

-- the bytes are nothing but links
pub record AreLinkBytes (bytes : List ℕ) : Type 0 where
  pub spelled : bytes ≡ links_bytes (links_of bytes)
  pub each : AllByRecursion IsLink (links_of bytes)

-- the number under a name
abbrev pub number_of : List ℕ → List Link → Option ℕ
number_of name [] = None
number_of name (link ∷ links) = if bytes_eq link.name name then Some link.number else number_of name links

-- the links but the first of a name
abbrev pub without : List ℕ → List Link → List Link
without name [] = []
without name (link ∷ links) = if bytes_eq link.name name then links else (link ∷ without name links)

-- the bytes begin with a number that a link can have, and a length
abbrev pub begins_link : List ℕ → Bool
begins_link bytes = nat_le 3 (length bytes) && nat_le 2 (little_number 2 bytes)

abbrev pub BeginsWithLink : List ℕ → Type 0
BeginsWithLink bytes = (link : Link) × (rest : List ℕ) × IsLink link × (bytes ≡ link_bytes link ++ rest)
