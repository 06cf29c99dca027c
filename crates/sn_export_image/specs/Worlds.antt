-- A mounted file system as a machine over a world.
use Rattle.std.specs.Prelude.{◌≡◌, Bool, IsTrue}
use Rattle.sn_device.specs.Disk.{Always, Disk}
use Rattle.sn_held.specs.Images.{IsImage}
use Rattle.sn_model.specs.Machine.{Running}
use Rattle.sn_model.specs.World.{World, trees_of}
use Rattle.sn_serving.specs.Served.{IsIn, Served}

-- it runs over this world, and its device tells its bytes
abbrev pub RunsOver : Bool → Served → World → Type 0
RunsOver told served world = IsTrue told × IsIn (Running world) served

-- whatever a crash leaves is an image of a world that has the trees of this one
abbrev pub HasTreesOf : World → Disk → Type 0
HasTreesOf world disk = Always disk (λ c. (after : World) × IsImage c after × (trees_of after ≡ trees_of world))
