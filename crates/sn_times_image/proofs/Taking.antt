-- Sectors taken into a message, one by one.
use Rattle.std.proofs.Common.{◌≡◌, ℕ, ◌+◌, Bool, IsTrue, List, [], ◌++◌, ◌∙◌, ap, append-nil, append_assoc, sym, subst, refl}
use Rattle.sha2.specs.Hashers.{Holds256}
use Rattle.sha2.specs.declared.Sha256.{Sha256}
use Rattle.sn_device.specs.Disk.{Disk, reads}
use Rattle.sn_device.specs.Sectors.{Contents, sector_at}
use Rattle.sn_device.specs.declared.status.Status.{Status}
use Rattle.sn_ondisk.specs.Blocks.{bytes_at}
use Rattle.sn_ondisk.proofs.BlockLemmas.{bytes_at-more}

-- no read has failed, and so many sectors are in the message
pub record IsTaking (tells : Bool) (first i : ℕ) (old new : Status) (before now : Disk) (begun hasher : Sha256) : Type 0 where
  pub status : new ≡ old
  pub disk : IsTrue tells → now ≡ before
  pub taken : IsTrue tells → (message : List ℕ) → Holds256 begun message → Holds256 hasher (message ++ bytes_at (reads before) first i)

bytes_at-one : (c : Contents) (at : ℕ) → bytes_at c at 1 ≡ sector_at c at
unfolding bytes_at
bytes_at-one c at = append-nil (sector_at c at)

bytes_at-none : (c : Contents) (at : ℕ) → bytes_at c at 0 ≡ []
unfolding bytes_at
bytes_at-none c at = refl

-- with no sector the message is as it was
pub none_taken : (c : Contents) (first : ℕ) (message : List ℕ) → message ≡ message ++ bytes_at c first 0
none_taken c first message = sym (ap (λ (bytes : List ℕ). message ++ bytes) (bytes_at-none c first) ∙ append-nil message)

-- with one sector more
pub one_more : (c : Contents) (first i : ℕ) (message : List ℕ) → (message ++ bytes_at c first i) ++ sector_at c (first + i) ≡ message ++ bytes_at c first (i + 1)
one_more c first i message =
    append_assoc message (bytes_at c first i) (sector_at c (first + i))
    ∙ ap (λ (bytes : List ℕ). message ++ (bytes_at c first i ++ bytes)) (sym (bytes_at-one c (first + i)))
    ∙ ap (λ (bytes : List ℕ). message ++ bytes) (sym (bytes_at-more c first i 1))

pub held_along : (hasher : Sha256) (a b : List ℕ) → a ≡ b → Holds256 hasher a → Holds256 hasher b
held_along hasher a b same held = let P : List ℕ → Type 0 = λ (bytes : List ℕ). Holds256 hasher bytes in subst P same held
