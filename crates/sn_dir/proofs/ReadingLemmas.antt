-- The blocks of a directory, read in turn.
use Rattle.std.proofs.Common.{◌≡◌, ◌⊎◌, inl, inr, ℕ, ◌+◌, ◌/◌, ◌<◌, ◌≤◌, Bool, List, Option, IsTrue, refl, subst, ◌∙◌, arith}
use Rattle.std.proofs.lemmas.Bool.{cases_lt}
use Rattle.sn_device.specs.Disk.{Disk, reads}
use Rattle.sn_device.specs.declared.status.Status.{Status}
use Rattle.sn_layout.specs.declared.tree.BlockTree.{BlockTree}
use Rattle.sn_layout_node.specs.Directory.{Link}
use Rattle.sn_ondisk.specs.Trees.{Store, store_of}
use Rattle.sn_dir.specs.Blocks.{names_before, CanRead, IsUnread, IsDamaged, IsDamagedAt}

-- each block before block i can be read
abbrev pub AreRead : ℕ → Store → BlockTree → ℕ → Type 0
AreRead sectors s tree i = (j : ℕ) → j < i → CanRead sectors s tree j

read_more : (sectors : ℕ) (s : Store) (tree : BlockTree) (i : ℕ) → AreRead sectors s tree i → CanRead sectors s tree i → AreRead sectors s tree (i + 1)
read_more sectors s tree i before here j under = told (cases_lt j i)
  where
    told : (j < i) ⊎ (i ≤ j) → CanRead sectors s tree j
    told (inl old) = before j old
    told (inr new) = let same : i ≡ j = omega (arith, under, new) in subst (λ (n : ℕ). CanRead sectors s tree n) same here

-- those that are needed can be, where the answer is known after them
undamaged : (IsOpen : List Link → Type 0) (sectors : ℕ) (s : Store) (tree : BlockTree) (n : ℕ) → AreRead sectors s tree n
    → ((k : ℕ) → n ≤ k → k < tree.size / 4096 → IsOpen (names_before s tree k) → ⊥)
    → IsDamaged IsOpen sectors s tree → ⊥
undamaged IsOpen sectors s tree n read closed (k, within, still, not_read) = told (cases_lt k n)
  where
    told : (k < n) ⊎ (n ≤ k) → ⊥
    told (inl old) = not_read (read k old)
    told (inr new) = closed k new within still

-- the blocks before block i were read, and the device is as it was
pub record IsReading (tells : Bool) (tree : BlockTree) (i : ℕ) (old new : Status) (before now : Disk) : Type 0 where
  pub status : new ≡ old
  pub same : IsTrue tells → now ≡ before
  pub read : IsTrue tells → AreRead old.sectors (store_of (reads before)) tree i

pub reading_begun : (tells : Bool) (tree : BlockTree) (status : Status) (disk : Disk) → IsReading tells tree 0 status status disk disk
reading_begun tells tree status disk = record { status = refl; same = λ told. refl; read = λ told j under. absurd (omega (arith, under)) }

module _ (tells : Bool) (tree : BlockTree) (i : ℕ) (old new : Status) (before now : Disk) (reading : IsReading tells tree i old new before now) where
  -- what holds now held at the start
  pub at_start : (P : ℕ → Store → Type 0) → IsTrue tells → P new.sectors (store_of (reads now)) → P old.sectors (store_of (reads before))
  at_start P told h =
      subst (λ (s : Status). P s.sectors (store_of (reads before))) reading.status
      (subst (λ (d : Disk). P new.sectors (store_of (reads d))) (reading.same told) h)

  pub reading_more : (next : Status) (later : Disk) → next ≡ new → (IsTrue tells → later ≡ now) → (IsTrue tells → CanRead new.sectors (store_of (reads now)) tree i) → IsReading tells tree (i + 1) old next before later
  reading_more next later status same can = record {
    status = status ∙ reading.status;
    same = λ told. same told ∙ reading.same told;
    read = λ told. read_more old.sectors (store_of (reads before)) tree i (reading.read told) (at_start (λ (n : ℕ) (s : Store). CanRead n s tree i) told (can told));
  }

  module _ (IsOpen : List Link → Type 0) (told : IsTrue tells) where
    -- block i is needed, and can't be read
    pub damaged_here : (block : Option ℕ) → i < tree.size / 4096 → IsOpen (names_before (store_of (reads before)) tree i) → IsUnread new.sectors (store_of (reads now)) tree i block → IsDamagedAt IsOpen old.sectors (store_of (reads before)) tree block
    damaged_here block within still unread = (i, within, still, at_start (λ (n : ℕ) (s : Store). IsUnread n s tree i block) told unread)

    -- all of them were read
    pub all_read : i ≡ tree.size / 4096 → IsDamaged IsOpen old.sectors (store_of (reads before)) tree → ⊥
    all_read all = undamaged IsOpen old.sectors (store_of (reads before)) tree i (reading.read told) (λ k from within still. absurd (omega (arith, all, from, within)))

    -- as many were read as are needed
    pub enough_read : CanRead new.sectors (store_of (reads now)) tree i → ((k : ℕ) → i + 1 ≤ k → IsOpen (names_before (store_of (reads before)) tree k) → ⊥) → IsDamaged IsOpen old.sectors (store_of (reads before)) tree → ⊥
    enough_read can closed = undamaged IsOpen old.sectors (store_of (reads before)) tree (i + 1)
        (read_more old.sectors (store_of (reads before)) tree i (reading.read told) (at_start (λ (n : ℕ) (s : Store). CanRead n s tree i) told can))
        (λ k from within still. closed k from still)
