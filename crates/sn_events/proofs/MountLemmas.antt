-- A mount, from what recovery makes of a disk.
use Rattle.std.proofs.Common.{inl, ℕ, false, Option, refl, sym, subst}
use Rattle.sn_device.specs.Disk.{Disk, reads}
use Rattle.sn_device.proofs.CrashLemmas.{Touches-start}
use Rattle.sn_block.specs.Effects.{Nowhere}
use Rattle.sn_model.specs.declared.fault.MountFault.{MountFault}
use Rattle.sn_model.specs.declared.fault.MountFault.TheVariants.{Memory}
use Rattle.sn_model.specs.World.{World}
use Rattle.sn_held.specs.Held.{Going, Held, RunsReady}
use Rattle.sn_events.proofs.PointLemmas.{running_between}
use Rattle.sn_mount.specs.Recovering.{IsRecovered, KeepsTheWorld, OfImage, WritesAtFault, KeepsTheRoot}
use Rattle.sn_examine.specs.Laws.{IsSomeClean}
use Rattle.sn_check.specs.Verdicts.{IsCause}
use Rattle.sn_events.specs.Mounting.{IsLeft, Mounts, IsFresh}

pub mounts : (sectors : ℕ) (old : Disk) (h : Held) → KeepsTheRoot sectors old h.disk × OfImage old (IsRecovered h.at h.world h.room h.base old h.disk) → IsSomeClean sectors (reads old) → IsFresh h → Mounts sectors old h false
mounts sectors old h r clean fresh = record {
  running = refl;
  fresh = fresh;
  clean = clean;
  touched = r.0;
  runs = λ world image. let is = r.1 world image in record {
    room = is.room_is;
    means = (refl, running_between h world fresh.between (subst (λ (w : World). RunsReady (record h { world = w }) world h.base) (sym is.is) (subst (λ (p : Option Going). RunsReady (record h { world = world; point = p }) world h.base) (sym fresh.between) (is.runs h.kept h.kept_since h.status))));
    leaves = is.leaves;
  };
}

pub is_left : (f : MountFault) (sectors : ℕ) (old new : Disk) → IsCause sectors (reads old) f × WritesAtFault f sectors old new × OfImage old (KeepsTheWorld old new) → IsLeft f sectors old new
is_left f sectors old new n = record { cause = n.0; touched = n.1; keeps = n.2 }

-- one that had no memory to begin with
pub refused_memory : (sectors : ℕ) (old : Disk) → IsLeft Memory sectors old old
refused_memory sectors old = record { cause = tt; touched = inl (Touches-start Nowhere old); keeps = λ world image. inl (Touches-start Nowhere old) }
