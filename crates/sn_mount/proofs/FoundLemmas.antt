-- What a mount finds on a disk without a fault: its newest root is a sound one.
use Rattle.std.proofs.Common.{◌≡◌, inl, inr, ℕ, refl, sym, subst, arith}
use Rattle.sn_device.specs.Sectors.{Contents}
use Rattle.sn_device.specs.Disk.{Disk, reads}
use Rattle.sn_device.specs.declared.status.Status.{Status}
use Rattle.sn_layout.specs.declared.geometry.Slot.{Slot}
use Rattle.sn_layout.specs.declared.root.RootBody.{RootBody}
use Rattle.sn_layout.specs.declared.tree.BlockTree.{BlockTree}
use Rattle.sn_limits.specs.declared.limits.Limits.{Limits}
use Rattle.sn_model.specs.declared.fault.MountFault.{MountFault}
use Rattle.sn_ondisk.specs.Roots.{IsNewest}
use Rattle.sn_ondisk.specs.Trees.{store_of}
use Rattle.sn_ondisk.proofs.OneRootLemmas.{newest_is_one}
use Rattle.sn_image.specs.Sound.{IsSound}
use Rattle.sn_rooted.specs.Roots.{IsSoundRoot}
use Rattle.sn_sound.specs.Disks.{IsFormatted}
use Rattle.sn_sound.proofs.DiskLemmas.{one_size}
use Rattle.sn_examine.specs.Laws.{IsSomeClean}
use Rattle.sn_examine.specs.Refusing.{Refuses}
use Rattle.sn_examine.specs.Rooms.{IsNoDamage}

-- the root that counts is the one that was checked
pub clean_is_sound : (sectors : ℕ) (c : Contents) (n : ℕ) (slot : Slot) (root : RootBody) → IsSomeClean sectors c → IsFormatted sectors c n → IsNewest c slot root → IsSoundRoot root.limits sectors (store_of c) root.inode_file
clean_is_sound sectors c n slot root (free, clean) formatted newest =
    let same = (newest_is_one c clean.slot slot clean.root root clean.sound.newest newest).1 in
    let size = one_size sectors c clean.blocks n clean.sound.formatted formatted in
    let live = clean.sound.roots.roots (record { bit = 0; inodes = clean.root.inode_file }) (0, omega arith, refl) in
    record {
      version = newest.body.fits.version;
      blocks = n;
      fits = formatted.room;
      sound = subst (λ (r : RootBody). IsSound r.limits n (store_of c) r.inode_file) same (subst (λ (m : ℕ). IsSound clean.root.limits m (store_of c) clean.root.inode_file) size live);
    }

-- and so it is where nothing was written
pub sound_stays : (limits : Limits) (file : BlockTree) (old new : Status) (before after : Disk) → new ≡ old → after ≡ before → IsSoundRoot limits old.sectors (store_of (reads before)) file → IsSoundRoot limits new.sectors (store_of (reads after)) file
sound_stays limits file old new before after idle same sound =
    subst (λ (s : Status). IsSoundRoot limits s.sectors (store_of (reads after)) file) (sym idle)
    (subst (λ (d : Disk). IsSoundRoot limits old.sectors (store_of (reads d)) file) (sym same) sound)

-- where memory was refused or the device failed, nothing is said of the disk
pub none_refuses : (f : MountFault) (sectors : ℕ) (c : Contents) → IsNoDamage f → Refuses f sectors c
none_refuses f sectors c (inl memory) = subst (λ (x : MountFault). Refuses x sectors c) (sym memory) tt
none_refuses f sectors c (inr device) = subst (λ (x : MountFault). Refuses x sectors c) (sym device) tt
