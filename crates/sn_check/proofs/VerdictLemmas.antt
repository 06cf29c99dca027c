-- The groups put together.
use Rattle.std.proofs.Common.{◌≡◌, inl, inr, ℕ, ◌<◌, Err, IfErr, IfOk, refl, sym, subst, arith}
use Rattle.sn_device.specs.Sectors.{Contents}
use Rattle.sn_device.specs.declared.status.Status.{Status}
use Rattle.sn_layout.specs.declared.geometry.Slot.{Slot}
use Rattle.sn_layout.specs.declared.root.RootBody.{RootBody}
use Rattle.sn_image.specs.Sound.{IsSound}
use Rattle.sn_model.specs.declared.fault.Damage.{Damage}
use Rattle.sn_model.specs.declared.fault.Damage.TheVariants as damage
use Rattle.sn_model.specs.declared.fault.MountFault.{MountFault}
use Rattle.sn_model.specs.declared.fault.MountFault.TheVariants as fault
use Rattle.sn_ondisk.specs.MapCopy.{map_word}
use Rattle.sn_ondisk.specs.Roots.{IsNewest, body_block}
use Rattle.sn_ondisk.specs.Trees.{store_of}
use Rattle.sn_sound.specs.Disks.{IsFormatted}
use Rattle.sn_sound.specs.Logs.{HasSoundLog, IsLogFault}
use Rattle.sn_sound.specs.Maps.{IsSoundRoot, free_blocks}
use Rattle.sn_sound.specs.Verdicts.{HasNoVerdict, IsClean, IsFaulty, Stands, group_of}
use Rattle.sn_sound.proofs.SoundLemmas.{root_clean}
use Rattle.sn_check_roots.specs.First.{IsFirstOf}
use Rattle.sn_examine.specs.Examining.{IsOfRoots}
use Rattle.sn_examine.specs.Failing.{FailsAs, IsSoOf}
use Rattle.sn_examine.specs.Refusing.{Refuses}
use Rattle.sn_check.specs.Faults.{IsDamageOf}
use Rattle.sn_check.specs.Logs.{IsOfLog}
use Rattle.sn_check.specs.Verdicts.{IsCause, IsRight, verdict_of}

-- ---- the newest root

-- what a disk without a newest root is refused for
pub newest_cause : (f : MountFault) (sectors : ℕ) (c : Contents) → IsOfRoots f → Refuses f sectors c → IsCause sectors c f
newest_cause (fault.Damaged kind block) sectors c is refuses =
    let it = subst (λ (d : Damage). Refuses (fault.Damaged d block) sectors c) is refuses in
    subst (λ (d : Damage). IsFaulty sectors c d block) (sym is) (record { blocks = it.0.0; formatted = it.0.1; why = inl it.1.1 })
newest_cause fault.NotFormatted sectors c is refuses = refuses
newest_cause fault.Version sectors c is refuses = refuses
newest_cause fault.NoRoot sectors c is refuses = refuses
newest_cause fault.Memory sectors c is refuses = tt
newest_cause fault.Device sectors c is refuses = tt

-- the live root is one of them
pub live_sound : (n : ℕ) (c : Contents) (slot : Slot) (root : RootBody) → IsSoundRoot n (store_of c) root (map_word n c slot) → IsSound root.limits n (store_of c) root.inode_file
live_sound n c slot root sound = sound.roots (record { bit = 0; inodes = root.inode_file }) (0, omega arith, refl)

module _ (sectors : ℕ) (c : Contents) (n : ℕ) (slot : Slot) (root : RootBody) (formatted : IsFormatted sectors c n) (newest : IsNewest c slot root) where
  -- ---- all roots

  pub roots_cause : (f : MountFault) → IsDamageOf (IsFirstOf n c slot root) f → IsCause sectors c f
  roots_cause (fault.Damaged kind block) first = record { blocks = n; formatted = formatted; why = inr (slot, root, record { newest = newest; stands = first.stands; before = first.before }) }
  roots_cause fault.NotFormatted none = absurd none
  roots_cause fault.Version none = absurd none
  roots_cause fault.NoRoot none = absurd none
  roots_cause fault.Memory none = tt
  roots_cause fault.Device none = tt

  -- ---- the log

  module _ (sound : IsSoundRoot n (store_of c) root (map_word n c slot)) where
    -- over sound roots none of the groups before it has a fault
    none_before : (other : Damage) (at : ℕ) → group_of other < 5 → Stands n c slot root other at → ⊥
    none_before damage.Root at less stands = stands
    none_before damage.Pointer at less (r, among, stands) = (root_clean root.limits n (store_of c) r.inodes (body_block slot) at (sound.roots r among)).pointer stands
    none_before damage.ReachedTwice at less (r, among, stands) = (root_clean root.limits n (store_of c) r.inodes (body_block slot) at (sound.roots r among)).twice stands
    none_before damage.Misspelt at less (r, among, stands) = (root_clean root.limits n (store_of c) r.inodes (body_block slot) at (sound.roots r among)).spelling stands
    none_before damage.MapWord at less (within, wrong) = wrong (sound.map at within)
    none_before damage.Links at less (r, among, stands) = (root_clean root.limits n (store_of c) r.inodes (body_block slot) at (sound.roots r among)).links stands
    none_before damage.Log at less stands = absurd (omega (arith, less))

    pub log_cause : (f : MountFault) (free : ℕ) → free ≡ free_blocks n (store_of c) root → IsDamageOf (IsOfLog n c root free) f → IsCause sectors c f
    log_cause (fault.Damaged kind block) free is wrong =
        subst (λ (d : Damage). IsFaulty sectors c d block) (sym wrong.0)
        (record { blocks = n; formatted = formatted; why = inr (slot, root, record { newest = newest; stands = subst (λ (k : ℕ). IsLogFault n c root k block) is wrong.1; before = none_before }) })
    log_cause fault.NotFormatted free is none = absurd none
    log_cause fault.Version free is none = absurd none
    log_cause fault.NoRoot free is none = absurd none
    log_cause fault.Memory free is none = tt
    log_cause fault.Device free is none = tt

    pub is_clean : (free : ℕ) → free ≡ free_blocks n (store_of c) root → HasSoundLog n c root free → IsClean sectors c free
    is_clean free is log = record {
      blocks = n;
      slot = slot;
      root = root;
      sound = record { formatted = formatted; newest = newest; roots = sound; log = subst (HasSoundLog n c root) is log };
      free_is = is;
    }

-- ---- the answer

pub fault_has_none : (f : MountFault) → ((kind : Damage) (block : ℕ) → f ≡ fault.Damaged kind block → ⊥) → Err f ≡ verdict_of f
fault_has_none (fault.Damaged kind block) none = absurd (none kind block refl)
fault_has_none fault.NotFormatted none = refl
fault_has_none fault.Version none = refl
fault_has_none fault.NoRoot none = refl
fault_has_none fault.Memory none = refl
fault_has_none fault.Device none = refl

module _ (sectors : ℕ) (c : Contents) where
  pub verdict_right : (f : MountFault) → IsCause sectors c f → IfOk (verdict_of f) (IsRight sectors c)
  verdict_right (fault.Damaged kind block) is = is
  verdict_right fault.NotFormatted is = tt
  verdict_right fault.Version is = tt
  verdict_right fault.NoRoot is = tt
  verdict_right fault.Memory is = tt
  verdict_right fault.Device is = tt

  pub verdict_none : (f : MountFault) → IsCause sectors c f → IfErr (verdict_of f) (HasNoVerdict sectors c)
  verdict_none (fault.Damaged kind block) is = tt
  verdict_none fault.NotFormatted is = is
  verdict_none fault.Version is = is
  verdict_none fault.NoRoot is = is
  verdict_none fault.Memory is = is
  verdict_none fault.Device is = is

pub verdict_fails : (f : MountFault) (old new : Status) → IsSoOf f old new → FailsAs (verdict_of f) old new
verdict_fails (fault.Damaged kind block) old new so = tt
verdict_fails fault.NotFormatted old new so = so
verdict_fails fault.Version old new so = so
verdict_fails fault.NoRoot old new so = so
verdict_fails fault.Memory old new so = so
verdict_fails fault.Device old new so = so
