-- What the copies of the block map hold.
use Rattle.std.specs.Prelude.{◌≡◌, ℕ, ◌+◌, ◌*◌, ◌<◌, ◌≤◌, List, length, take, drop, slice_index}
use Rattle.sn_device.specs.Sectors.{Contents, AreSectors, DependsOn}
use Rattle.sn_layout.specs.declared.geometry.Slot.{Slot}
use Rattle.sn_layout.specs.declared.geometry.Area.TheVariants.{MapCopy}
use Rattle.sn_layout.specs.Bytes.{AreNumbers}
use Rattle.sn_layout.specs.MapCopy.{map_block_bytes}
use Rattle.sn_layout.specs.Geometry.{start_of, end_of, map_blocks}
use Rattle.sn_ondisk.specs.Blocks.{block_at}
use Rattle.sn_ondisk.specs.MapCopy.{HasMap, map_word, InMap}

-- Where a copy is spelled with words, each block has the word that it is spelled with, and past the last block there is none.
abbrev pub WordsAreThoseSpelled : Type 0
WordsAreThoseSpelled = (n : ℕ) (c : Contents) (slot : Slot) (words : List ℕ) → HasMap n c slot words → (block : ℕ) → map_word n c slot block ≡ slice_index words block

-- A copy is spelled with one list of words.
abbrev pub MapIsOne : Type 0
MapIsOne = (n : ℕ) (c : Contents) (slot : Slot) (words others : List ℕ) → HasMap n c slot words → HasMap n c slot others → words ≡ others

-- It depends on its own sectors.
abbrev pub MapsDependOnTheirSectors : Type 0
MapsDependOnTheirSectors = (n : ℕ) (slot : Slot) (words : List ℕ) → DependsOn (InMap n slot) (λ c. HasMap n c slot words)

-- And so does each word.
abbrev pub WordsDependOnTheirSectors : Type 0
WordsDependOnTheirSectors = (n : ℕ) (slot : Slot) (block word : ℕ) → DependsOn (InMap n slot) (λ c. map_word n c slot block ≡ word)

-- the words of a map copy's block with this number, of those of all blocks
abbrev pub words_of_block : ℕ → List ℕ → List ℕ
words_of_block k words = take 1024 (drop (1024 * k) words)

-- Where each block of a copy is spelled with its part of some words, one for each block of the disk, the copy is spelled with them. More words would have no block, and a word of more than four bytes is spelled like a lesser one.
abbrev pub BlocksMakeTheMap : Type 0
BlocksMakeTheMap = (n : ℕ) (c : Contents) (slot : Slot) (words : List ℕ) → length words ≡ n → AreNumbers 4 words
    → ((k : ℕ) → k < map_blocks n → block_at c (start_of n (MapCopy slot) + k) ≡ map_block_bytes (words_of_block k words))
    → HasMap n c slot words

-- And where the copy is spelled with words, each of its blocks is spelled with its part of them, if it is a block of the disk: in sectors of another length its bytes would lie elsewhere.
abbrev pub MapIsOfItsBlocks : Type 0
MapIsOfItsBlocks = (n : ℕ) (c : Contents) (slot : Slot) (words : List ℕ) → AreSectors c → 8 * end_of n (MapCopy slot) ≤ length c → HasMap n c slot words
    → (k : ℕ) → k < map_blocks n → block_at c (start_of n (MapCopy slot) + k) ≡ map_block_bytes (words_of_block k words)
