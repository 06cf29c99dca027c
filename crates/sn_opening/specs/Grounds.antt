-- What the disk of a mount opens to in the course of events, where its ground is a disk of so many blocks.
use Rattle.std.specs.Prelude.{ℕ, List}
use Rattle.sn_device.specs.Sectors.{Contents}
use Rattle.sn_device.specs.Disk.{Disk}
use Rattle.sn_model.specs.Machine.{State}
use Rattle.sn_model.specs.World.{World}
use Rattle.sn_opening.specs.Moments as moments
pub use Rattle.sn_opening.specs.Moments.{last_state}
use Rattle.sn_opening.specs.Opens.{Opens}

-- how many blocks the disk has
abbrev pub Ground : Type 0
Ground = ℕ

abbrev pub OpensOn : Ground → Contents → World → Type 0
OpensOn = Opens

-- the contents open to what this state leaves
abbrev pub ShowsState : Ground → State → Contents → Type 0
ShowsState g = moments.ShowsState (OpensOn g)

-- they open to one of these states
abbrev pub ShowsOne : Ground → List State → Contents → Type 0
ShowsOne g = moments.ShowsOne (OpensOn g)

-- Events, one after the other, lead to these states so.
abbrev pub RunsOver : Ground → State → Disk → List State → Disk → Type 0
RunsOver g = moments.RunsOver (OpensOn g)
