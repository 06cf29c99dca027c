-- A run as the machine's states and the disks that they leave, without what is held in memory.
use Rattle.sn_device.specs.Disk.{Disk}
use Rattle.sn_limits.specs.Versions.{limits_written}
use Rattle.sn_model.specs.declared.call.Event.{Event}
use Rattle.sn_model.specs.declared.reply.Reply.{Reply}
use Rattle.sn_model.specs.Machine.{State, Anything, StepOf}
use Rattle.sn_held.specs.Moments.{LastsOver}

-- a state of the machine, and the disk that is there in it
pub record Place : Type 0 where
  pub state : State
  pub disk : Disk

-- An event is a step of the machine. A crash at any moment of its course leaves the state before it or the one after it, and once it is answered the one after it alone.
pub record Moves (old : Place) (e : Event) (reply : Reply) (new : Place) : Type 0 where
  pub step : StepOf Anything limits_written old.state e reply new.state
  pub lasts : LastsOver old.state new.state old.disk new.disk
