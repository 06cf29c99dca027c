-- What the disk of a mount is an image of in the course of events.
use Rattle.sn_device.specs.Sectors.{Contents}
use Rattle.sn_device.specs.Disk.{Disk}
use Rattle.sn_model.specs.Machine.{State}
use Rattle.sn_opening.specs.Moments as moments
pub use Rattle.sn_opening.specs.Moments.{last_state}
use Rattle.sn_held.specs.Images.{IsImage}

-- the contents are an image of what this state leaves
abbrev pub ShowsState : State → Contents → Type 0
ShowsState = moments.ShowsState IsImage

-- An event leads from a state to the next, and a crash leaves one of the two.
abbrev pub LastsOver : State → State → Disk → Disk → Type 0
LastsOver = moments.LastsOver IsImage
