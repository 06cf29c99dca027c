-- What replay of a root's epoch and of the next one makes of its tree.
use Rattle.std.specs.Prelude.{◌≡◌, ◌⊎◌, ℕ, ◌+◌}
use Rattle.sn_device.specs.Sectors.{Contents}
use Rattle.sn_limits.specs.declared.limits.Limits.{Limits}
use Rattle.sn_model.specs.declared.fault.Damage.TheVariants.{Log}
use Rattle.sn_model.specs.declared.fault.MountFault.{MountFault}
use Rattle.sn_model.specs.declared.fault.MountFault.TheVariants as fault
use Rattle.sn_model.specs.Tree.{Tree}
use Rattle.sn_log.specs.Positions.{LogPosition}
use Rattle.sn_sound.specs.Logs.{BreaksAt}
use Rattle.sn_examine.specs.Replaying.{HasAll}

-- All records of an epoch were replayed by these limits, up to this position, and are charged this much.
pub record Replays (limits : Limits) (c : Contents) (from : Tree) (n epoch : ℕ) (at : LogPosition) (tree : Tree) (charges : ℕ) : Type 0 where
  pub blocks : at.blocks ≡ n
  pub of_epoch : at.epoch ≡ epoch
  pub all : HasAll limits c from at tree charges

-- Those of the root's epoch and then those of the next one were, and the log continues after the last of them.
pub record HasBoth (limits : Limits) (c : Contents) (from : Tree) (n epoch : ℕ) (at : LogPosition) (tree : Tree) (charges : ℕ) : Type 0 where
  pub older : LogPosition
  pub newer : LogPosition
  pub middle : Tree
  pub first : ℕ
  pub second : ℕ
  pub has_older : Replays limits c from n epoch older middle first
  pub has_newer : Replays limits c middle n (epoch + 1) newer tree second
  pub charged : charges ≡ first + second
  pub is : ((newer.count ≡ 0) × (at ≡ older)) ⊎ (at ≡ newer)
  pub none : at.count ≡ 0 → (older.count ≡ 0) × (newer.count ≡ 0)

-- One that can't be replayed is among those of the root's epoch, or among those of the next one, where all of the root's can.
pub data BreaksBoth (limits : Limits) (c : Contents) (from : Tree) (n epoch block : ℕ) : Type 0 where
  in_older : BreaksAt c limits from n epoch block → BreaksBoth limits c from n epoch block
  in_newer : (at : LogPosition) (middle : Tree) (charges : ℕ) → Replays limits c from n epoch at middle charges → BreaksAt c limits middle n (epoch + 1) block → BreaksBoth limits c from n epoch block

-- It fails for memory, for the device, or for a record that breaks the log of both, in the block of its gate.
abbrev pub BothBreak : Limits → MountFault → Contents → Tree → ℕ → ℕ → Type 0
BothBreak limits (fault.Damaged damage block) c from n epoch = (damage ≡ Log) × BreaksBoth limits c from n epoch block
BothBreak limits fault.Memory c from n epoch = Unit {0}
BothBreak limits fault.Device c from n epoch = Unit {0}
BothBreak limits cause c from n epoch = ⊥
