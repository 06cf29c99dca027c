-- A mount of a disk without a root.
use Rattle.std.proofs.Common.{◌≡◌, ◌⊎◌, inl, inr, ℕ, List, [], refl}
use Rattle.sn_device.specs.Sectors.{Contents}
use Rattle.sn_layout.specs.declared.geometry.Slot.{Slot}
use Rattle.sn_layout.specs.declared.root.RootBody.{RootBody}
use Rattle.sn_limits.specs.Versions.{limits_written}
use Rattle.sn_model.specs.declared.call.Event.{Event}
use Rattle.sn_model.specs.declared.fault.Damage.{Damage}
use Rattle.sn_model.specs.declared.end.End.TheVariants as ending
use Rattle.sn_model.specs.declared.fault.MountFault.{MountFault}
use Rattle.sn_model.specs.declared.fault.MountFault.TheVariants as fault
use Rattle.sn_model.specs.declared.reply.Reply.{Reply}
use Rattle.sn_model.specs.Machine.{Anything, HasNoMount, Lacks, Memory, Read, Serves}
use Rattle.sn_ondisk.specs.Roots.{IsNewest}
use Rattle.sn_root.specs.Finding.{AreKnown, IsDamaged}
use Rattle.sn_root.specs.declared.fault.RootDamage.{RootDamage}
use Rattle.sn_root.specs.declared.fault.RootDamage.TheVariants.{Misspelt, EqualGenerations}
use Rattle.sn_layout.specs.declared.geometry.Slot.TheVariants.{A, B}
use Rattle.sn_sound.specs.Disks.{IsFormatted}
use Rattle.sn_sound.specs.Verdicts.{IsFaulty, IsFirst, IsRootFault, IsSomeSize}
use Rattle.sn_sound.proofs.VerdictLemmas.{rooted_verdict}
use Rattle.sn_check.specs.Verdicts.{IsCause}
use Rattle.sn_run.specs.Runs.{LacksRoot}

one_of_two : {A : Type 0} (f : MountFault) → (f ≡ fault.Memory → ⊥) → (f ≡ fault.Device → ⊥) → (f ≡ fault.Memory) ⊎ (f ≡ fault.Device) → A
one_of_two f memory device (inl is) = absurd (memory is)
one_of_two f memory device (inr is) = absurd (device is)

-- a disk that has a newest root doesn't lack one
pub lacks_none : (f : MountFault) (sectors : ℕ) (c : Contents) (n : ℕ) (slot : Slot) (root : RootBody) → IsFormatted sectors c n → IsNewest c slot root → LacksRoot sectors c f → ⊥
lacks_none fault.NotFormatted sectors c n slot root formatted newest lacks = one_of_two fault.NotFormatted (λ e. cc) (λ e. cc) (rooted_verdict sectors c n slot root fault.NotFormatted formatted newest lacks)
lacks_none fault.NoRoot sectors c n slot root formatted newest lacks = one_of_two fault.NoRoot (λ e. cc) (λ e. cc) (rooted_verdict sectors c n slot root fault.NoRoot formatted newest lacks)
lacks_none fault.Version sectors c n slot root formatted newest lacks = one_of_two fault.Version (λ e. cc) (λ e. cc) (rooted_verdict sectors c n slot root fault.Version formatted newest lacks)
lacks_none (fault.Damaged damage block) sectors c n slot root formatted newest lacks = lacks
lacks_none fault.Memory sectors c n slot root formatted newest lacks = lacks
lacks_none fault.Device sectors c n slot root formatted newest lacks = lacks

-- roots that are damaged are known, and one of them is open
known_damage : (f : MountFault) (sectors : ℕ) (c : Contents) (which : RootDamage) → IsSomeSize sectors c → AreKnown c → IsDamaged c which → LacksRoot sectors c f → ⊥
known_damage fault.NotFormatted sectors c which some known damaged lacks = lacks some
known_damage fault.NoRoot sectors c (Misspelt A) some known damaged lacks = lacks.1 A damaged.is_open
known_damage fault.NoRoot sectors c (Misspelt B) some known damaged lacks = lacks.1 B damaged.0.is_open
known_damage fault.NoRoot sectors c EqualGenerations some known damaged lacks = lacks.1 A (damaged.are_open A)
known_damage fault.Version sectors c which some known damaged lacks = known lacks.1.0 lacks.1.1.is_open lacks.1.1.version
known_damage (fault.Damaged damage block) sectors c which some known damaged lacks = lacks
known_damage fault.Memory sectors c which some known damaged lacks = lacks
known_damage fault.Device sectors c which some known damaged lacks = lacks

-- a fault is found of a disk that has roots
no_fault : (f : MountFault) (damage : Damage) (sectors : ℕ) (c : Contents) (block : ℕ) → IsFaulty sectors c damage block → LacksRoot sectors c f → ⊥
no_fault f damage sectors c block faulty lacks = told faulty.why
  where
    told : IsRootFault c damage block ⊎ ((slot : Slot) × (root : RootBody) × IsFirst faulty.blocks c slot root damage block) → ⊥
    told (inl is) = known_damage f sectors c is.which (faulty.blocks, faulty.formatted) is.known is.damaged lacks
    told (inr (slot, root, first)) = lacks_none f sectors c faulty.blocks slot root faulty.formatted first.newest lacks

-- The mount reports the same of it, or lacks memory, or the device has failed.
pub unfit_fault : (f g : MountFault) (sectors : ℕ) (c : Contents) (events : List Event) (replies : List Reply) → replies ≡ [] → LacksRoot sectors c f → IsCause sectors c g
    → HasNoMount Anything replies (ending.Mount g) ⊎ Serves Anything limits_written (Lacks f) events replies (ending.Mount g)
unfit_fault f fault.Memory sectors c events replies none lacks cause = inl (Memory, fault.Memory, tt, refl, (none, refl))
unfit_fault f fault.Device sectors c events replies none lacks cause = inl (Read, fault.Device, tt, refl, (none, refl))
unfit_fault f (fault.Damaged damage block) sectors c events replies none lacks cause = absurd (no_fault f damage sectors c block cause lacks)
unfit_fault fault.NotFormatted fault.NotFormatted sectors c events replies none lacks cause = inr (none, refl)
unfit_fault fault.NoRoot fault.NoRoot sectors c events replies none lacks cause = inr (none, refl)
unfit_fault fault.Version fault.Version sectors c events replies none lacks cause = inr (none, refl)
unfit_fault fault.NotFormatted fault.NoRoot sectors c events replies none lacks cause = absurd (lacks cause.0)
unfit_fault fault.NotFormatted fault.Version sectors c events replies none lacks cause = absurd (lacks cause.0)
unfit_fault fault.NoRoot fault.NotFormatted sectors c events replies none lacks cause = absurd (cause lacks.0)
unfit_fault fault.Version fault.NotFormatted sectors c events replies none lacks cause = absurd (cause lacks.0)
unfit_fault fault.NoRoot fault.Version sectors c events replies none lacks cause = absurd (lacks.1 cause.1.0 cause.1.1.is_open)
unfit_fault fault.Version fault.NoRoot sectors c events replies none lacks cause = absurd (cause.1 lacks.1.0 lacks.1.1.is_open)
unfit_fault (fault.Damaged damage block) fault.NotFormatted sectors c events replies none lacks cause = absurd lacks
unfit_fault (fault.Damaged damage block) fault.NoRoot sectors c events replies none lacks cause = absurd lacks
unfit_fault (fault.Damaged damage block) fault.Version sectors c events replies none lacks cause = absurd lacks
unfit_fault fault.Memory fault.NotFormatted sectors c events replies none lacks cause = absurd lacks
unfit_fault fault.Memory fault.NoRoot sectors c events replies none lacks cause = absurd lacks
unfit_fault fault.Memory fault.Version sectors c events replies none lacks cause = absurd lacks
unfit_fault fault.Device fault.NotFormatted sectors c events replies none lacks cause = absurd lacks
unfit_fault fault.Device fault.NoRoot sectors c events replies none lacks cause = absurd lacks
unfit_fault fault.Device fault.Version sectors c events replies none lacks cause = absurd lacks
