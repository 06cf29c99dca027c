-- A clean disk has one verdict.
use Rattle.std.proofs.Common.{◌≡◌, ◌⊎◌, inl, inr, ⊎_elim, ℕ, refl, ap, subst, arith}
use Rattle.sn_device.specs.Sectors.{Contents}
use Rattle.sn_layout.specs.declared.geometry.Slot.{Slot}
use Rattle.sn_layout.specs.declared.geometry.Slot.TheVariants.{A, B}
use Rattle.sn_layout.specs.declared.root.RootBody.{RootBody}
use Rattle.sn_layout.specs.Geometry.{gate_sector}
use Rattle.sn_model.specs.declared.fault.Damage.{Damage}
use Rattle.sn_model.specs.declared.fault.MountFault.{MountFault}
use Rattle.sn_model.specs.declared.fault.MountFault.TheVariants as mount
use Rattle.sn_ondisk.specs.Gates.{IsOpen}
use Rattle.sn_ondisk.specs.Roots.{HasRoot, IsNewest}
use Rattle.sn_ondisk.proofs.OneRootLemmas.{newest_is_one, root_is_one}
use Rattle.sn_root.specs.Finding.{AreEqual, IsDamaged}
use Rattle.sn_root.specs.declared.fault.RootDamage.{RootDamage}
use Rattle.sn_root.specs.declared.fault.RootDamage.TheVariants.{Misspelt, EqualGenerations}
use Rattle.sn_root.proofs.SlotLemmas.{root_known}
use Rattle.sn_sound.specs.Disks.{IsFormatted, IsOfDevice}
use Rattle.sn_sound.specs.Verdicts.{HasNoVerdict, IsClean, IsFaulty, IsFirst, IsRootFault, Stands}
use Rattle.sn_sound.proofs.DiskLemmas.{disk_clean, one_size}

-- ---- the roots of a disk that has a newest one aren't damaged

-- each slot that is open has a root
open_root : (c : Contents) (slot other : Slot) (root : RootBody) → IsNewest c slot root → IsOpen c (gate_sector other) → (r : RootBody) × HasRoot c other r
open_root c A A root n opened = (root, n.body)
open_root c B B root n opened = (root, n.body)
open_root c A B root n opened = ⊎_elim (λ closed. absurd (closed opened)) (λ older. (older.0, older.1)) n.other
open_root c B A root n opened = ⊎_elim (λ closed. absurd (closed opened)) (λ older. (older.0, older.1)) n.other

not_equal : (c : Contents) (slot : Slot) (root : RootBody) → IsNewest c slot root → AreEqual c → ⊥
not_equal c A root n e = ⊎_elim
    (λ closed. closed (e.are_open B))
    (λ older.
    let one = ap (λ (r : RootBody). r.generation) (root_is_one c A e.one root e.has_one n.body) in
    let two = ap (λ (r : RootBody). r.generation) (root_is_one c B e.other older.0 e.has_other older.1) in
    absurd (omega (arith, one, two, e.same, older.2)))
    n.other
not_equal c B root n e = ⊎_elim
    (λ closed. closed (e.are_open A))
    (λ older.
    let one = ap (λ (r : RootBody). r.generation) (root_is_one c B e.other root e.has_other n.body) in
    let two = ap (λ (r : RootBody). r.generation) (root_is_one c A e.one older.0 e.has_one older.1) in
    absurd (omega (arith, one, two, e.same, older.2)))
    n.other

pub not_damaged : (c : Contents) (slot : Slot) (root : RootBody) (damage : RootDamage) → IsNewest c slot root → IsDamaged c damage → ⊥
not_damaged c slot root (Misspelt A) n d = let r = open_root c slot A root n d.is_open in d.none r.0 r.1
not_damaged c slot root (Misspelt B) n d = let r = open_root c slot B root n d.0.is_open in d.0.none r.0 r.1
not_damaged c slot root EqualGenerations n d = not_equal c slot root n d

-- ---- verdicts

pub never_both : (sectors : ℕ) (c : Contents) (free : ℕ) (damage : Damage) (block : ℕ) → IsOfDevice sectors c → IsClean sectors c free → IsFaulty sectors c damage block → ⊥
never_both sectors c free damage block device clean faulty = by faulty.why
  where
    size : faulty.blocks ≡ clean.blocks
    size = one_size sectors c faulty.blocks clean.blocks faulty.formatted clean.sound.formatted

    by : IsRootFault c damage block ⊎ ((slot : Slot) × (root : RootBody) × IsFirst faulty.blocks c slot root damage block) → ⊥
    by (inl fault) = not_damaged c clean.slot clean.root fault.which clean.sound.newest fault.damaged
    by (inr (slot, root, first)) =
        let same = newest_is_one c slot clean.slot root clean.root first.newest clean.sound.newest in
        disk_clean sectors c clean.blocks clean.slot clean.root damage block device clean.sound
        (subst (λ (n : ℕ). Stands n c clean.slot clean.root damage block) size
        (subst (λ (s : Slot). Stands faulty.blocks c s clean.root damage block) same.0
        (subst (λ (r : RootBody). Stands faulty.blocks c slot r damage block) same.1 first.stands)))

-- a disk that has a newest root isn't one without
pub rooted_verdict : (sectors : ℕ) (c : Contents) (n : ℕ) (slot : Slot) (root : RootBody) (fault : MountFault) → IsFormatted sectors c n → IsNewest c slot root → HasNoVerdict sectors c fault → (fault ≡ mount.Memory) ⊎ (fault ≡ mount.Device)
rooted_verdict sectors c n slot root mount.NotFormatted formatted newest none = absurd (none (n, formatted))
rooted_verdict sectors c n slot root mount.NoRoot formatted newest none = absurd (none.1 slot newest.is_open)
rooted_verdict sectors c n slot root mount.Version formatted newest none =
    let r = open_root c slot none.1.0 root newest none.1.1.is_open in
    absurd (root_known c none.1.0 r.0 r.1 none.1.1.version)
rooted_verdict sectors c n slot root (mount.Damaged damage block) formatted newest none = absurd none
rooted_verdict sectors c n slot root mount.Memory formatted newest none = inl refl
rooted_verdict sectors c n slot root mount.Device formatted newest none = inr refl

pub clean_verdict : (sectors : ℕ) (c : Contents) (free : ℕ) (fault : MountFault) → IsClean sectors c free → HasNoVerdict sectors c fault → (fault ≡ mount.Memory) ⊎ (fault ≡ mount.Device)
clean_verdict sectors c free fault clean none = rooted_verdict sectors c clean.blocks clean.slot clean.root fault clean.sound.formatted clean.sound.newest none
