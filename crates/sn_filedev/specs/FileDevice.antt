-- What a device over a file shows.
use Rattle.std.specs.Prelude.{[], Bool}
use Rattle.sn_device.specs.Disk.{Disk}
use Rattle.sn_device.specs.declared.status.Status.{Status}
use Rattle.sn_filedev.specs.declared.block.LastBlock.{LastBlock}
use Rattle.sn_filedev.specs.declared.file.FileDevice.{FileDevice}
use Rattle.sn_filedev.specs.declared.gathered.Gathered.{Gathered}

-- its ghost member `status`
abbrev pub status_of : {F : Type 0} → FileDevice F → Status
status_of d = d.status

-- the block that was read last
abbrev pub block_of : {F : Type 0} → FileDevice F → LastBlock
block_of d = d.block

-- the sectors that wait to be written to the file
abbrev pub gathered_of : {F : Type 0} → FileDevice F → Gathered
gathered_of d = d.gathered

-- the file failed a sync, after which none succeeds
abbrev pub is_lost : {F : Type 0} → FileDevice F → Bool
is_lost d = d.is_lost

-- it is there to be read alone
abbrev pub is_read_only : {F : Type 0} → FileDevice F → Bool
is_read_only d = d.is_read_only

-- in the place of what is on a device that doesn't tell its bytes
abbrev pub untold : Disk
untold = record { present = record { sectors = []; unsynced = [] }; past = [] }
