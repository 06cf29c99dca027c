-- The device, which stays as it was.
use Rattle.std.proofs.Common.{◌≡◌, ℕ, Bool, IsTrue, refl, sym, subst, ◌∙◌}
use Rattle.sn_device.specs.Disk.{Disk, reads}
use Rattle.sn_device.specs.declared.status.Status.{Status}
use Rattle.sn_ondisk.specs.Trees.{Store, store_of}

-- the device is as it was
pub record Stays (tells : Bool) (old new : Status) (before now : Disk) : Type 0 where
  pub status : new ≡ old
  pub same : IsTrue tells → now ≡ before

pub stays_begun : (tells : Bool) (status : Status) (disk : Disk) → Stays tells status status disk disk
stays_begun tells status disk = record { status = refl; same = λ told. refl }

pub stays_more : (tells : Bool) (old new next : Status) (before now later : Disk) → Stays tells old new before now → next ≡ new → (IsTrue tells → later ≡ now) → Stays tells old next before later
stays_more tells old new next before now later stays status same = record { status = status ∙ stays.status; same = λ told. same told ∙ stays.same told }

pub stays_one : (tells : Bool) (old new : Status) (before now : Disk) → new ≡ old → (IsTrue tells → now ≡ before) → Stays tells old new before now
stays_one tells old new before now status same = record { status = status; same = same }

-- what holds now held at the start
pub at_start : (tells : Bool) (old new : Status) (before now : Disk) → Stays tells old new before now → (P : ℕ → Store → Type 0) → IsTrue tells → P new.sectors (store_of (reads now)) → P old.sectors (store_of (reads before))
at_start tells old new before now stays P told h =
    subst (λ (s : Status). P s.sectors (store_of (reads before))) stays.status
    (subst (λ (d : Disk). P new.sectors (store_of (reads d))) (stays.same told) h)

-- and what held at the start holds now
pub at_now : (tells : Bool) (old new : Status) (before now : Disk) → Stays tells old new before now → (P : ℕ → Store → Type 0) → IsTrue tells → P old.sectors (store_of (reads before)) → P new.sectors (store_of (reads now))
at_now tells old new before now stays P told h =
    subst (λ (s : Status). P s.sectors (store_of (reads now))) (sym stays.status)
    (subst (λ (d : Disk). P old.sectors (store_of (reads d))) (sym (stays.same told)) h)
