-- What serves events, as what it holds.
use Rattle.std.specs.Prelude.{Bool, true, false, None, [], replicate}
use Rattle.sn_device.specs.declared.device.Device.{Ghosts}
use Rattle.sn_model.specs.World.{new_world}
use Rattle.sn_log.specs.Positions.{first_of}
use Rattle.sn_layout.specs.declared.geometry.Slot.TheVariants.{A}
use Rattle.sn_limits.specs.Versions.{limits_written}
use Rattle.sn_overlay.specs.Overlays.{no_changes}
use Rattle.sn_held.specs.Held.{Held, Kept}
use Rattle.sn_held.specs.Rooms.{fresh}
use Rattle.sn_fs.specs.Filesystem.{IsFs, has_stopped, held}
use Rattle.sn_run.specs.declared.server.Server.{Server}
use Rattle.sn_run.specs.declared.server.Server.TheVariants.{Mounted, Unmounted}

-- what is kept for a point where none can be made
abbrev pub no_base : Kept
no_base = record { slot = A; root = record { limits = limits_written; generation = 1; epoch = 1; inode_file = record { size = 0; pointers = replicate 16 0 }; snapshots = [] }; words = []; changed = no_changes }

module _ {D : Type 0} {g : Ghosts D} where
  -- One that isn't mounted has its device alone: its world, its room, its place in the log and what is kept for a point say nothing.
  abbrev pub standing : Server D g → Held
  standing (Mounted fs) = held fs
  standing (Unmounted device) = record { world = new_world; kept = λ number. false; kept_since = λ number. false; room = fresh 0; at = first_of 256 1; base = no_base; point = None; disk = g.disk device; status = g.status device }

  abbrev pub is_stopped : Server D g → Bool
  is_stopped (Mounted fs) = has_stopped fs
  is_stopped (Unmounted device) = true

  -- what holds of it before and after each event
  abbrev pub IsServer : Server D g → Type 0
  IsServer (Mounted fs) = IsFs fs
  IsServer (Unmounted device) = Unit {0}
