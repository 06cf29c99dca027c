-- On which sectors each reading depends: writes elsewhere leave it as it is.
use Rattle.std.specs.Prelude.{◌≡◌, ℕ, ◌+◌, List}
use Rattle.sn_device.specs.Sectors.{DependsOn, Stretch}
use Rattle.sn_layout.specs.declared.geometry.Slot.{Slot}
use Rattle.sn_layout.specs.declared.root.RootBody.{RootBody}
use Rattle.sn_ondisk.specs.Blocks.{block_at, InBlock}
use Rattle.sn_ondisk.specs.Roots.{body_block, HasRoot, IsNewest, InRoots}
use Rattle.sn_ondisk.specs.LogHalf.{HasRecord, IsReady, Replays, HasNoLater, InHalf, body_sectors}
use Rattle.sn_ondisk.specs.Shown.{Shown, InShown}

-- A block, on its eight sectors.
abbrev pub BlocksDependOnTheirSectors : Type 0
BlocksDependOnTheirSectors = (block : ℕ) (bytes : List ℕ) → DependsOn (InBlock block) (λ c. block_at c block ≡ bytes)

-- A root body, on its block.
abbrev pub RootsDependOnTheirBlock : Type 0
RootsDependOnTheirBlock = (slot : Slot) (root : RootBody) → DependsOn (InBlock (body_block slot)) (λ c. HasRoot c slot root)

-- Which root is newest, on the two root bodies and the two gates.
abbrev pub NewestDependsOnTheRoots : Type 0
NewestDependsOnTheRoots = (slot : Slot) (root : RootBody) → DependsOn InRoots (λ c. IsNewest c slot root)

-- A record, on the sectors of its body.
abbrev pub RecordsDependOnTheirBody : Type 0
RecordsDependOnTheirBody = (base epoch place sequence : ℕ) (payload : List ℕ) → DependsOn (Stretch (base + place + 1) (body_sectors payload)) (λ c. HasRecord c base epoch place sequence payload)

-- What an append needs, on the sectors up to the closed gate.
abbrev pub ReadyDependsOnItsSectors : Type 0
ReadyDependsOnItsSectors = (base epoch place : ℕ) (payloads : List (List ℕ)) → DependsOn (Stretch base (place + 1)) (λ c. IsReady c base epoch payloads place)

-- That no later record is at the first place depends on the gate of that place and the sector after it.
abbrev pub NoLaterDependsOnTheFirstPlace : Type 0
NoLaterDependsOnTheFirstPlace = (base epoch : ℕ) → DependsOn (Stretch base 2) (λ c. HasNoLater c base epoch)

-- What replay finds, on the half.
abbrev pub ReplaysDependOnTheHalf : Type 0
ReplaysDependOnTheHalf = (base epoch : ℕ) (payloads : List (List ℕ)) → DependsOn (InHalf base) (λ c. Replays c base epoch payloads)

-- What a disk shows, on the roots and the two halves.
abbrev pub ShownDependsOnRootsAndLog : Type 0
ShownDependsOnRootsAndLog = (n : ℕ) (slot : Slot) (root : RootBody) (older newer : List (List ℕ)) → DependsOn (InShown n root.epoch) (λ c. Shown n c slot root older newer)
