-- The past of a device in memory, read off its record, which undoes it call by call.
use Rattle.std.specs.Prelude.{ℕ, List, [], ◌∷◌, slice_set}
use Rattle.sn_device.specs.Sectors.{Contents, sector_at}
use Rattle.sn_device.specs.Disk.{Moment, Disk}
use Rattle.sn_device.specs.Fill.{filling}
use Rattle.sn_device.specs.declared.memory.Entry.{Entry}
use Rattle.sn_device.specs.declared.fill.Fill.{Fill}
use Rattle.sn_device.specs.declared.memory.Entry.TheVariants.{Write, Sync, FailedSync}

-- Of a record the newest entry comes first here.

-- the sectors written or tried since the last sync that succeeded
abbrev pub unsynced_by : List Entry → List ℕ
unsynced_by [] = []
unsynced_by (Write at before ∷ earlier) = at ∷ unsynced_by earlier
unsynced_by (Sync ∷ earlier) = []
unsynced_by (FailedSync ∷ earlier) = unsynced_by earlier

-- what was there before a call
abbrev pub undone : Entry → Contents → Contents
undone (Write at before) sectors = slice_set sectors at before
undone entry sectors = sectors

abbrev pub moment_by : List Entry → Contents → Moment
moment_by entries sectors = record { sectors = sectors; unsynced = unsynced_by entries }

abbrev pub past_by : List Entry → Contents → List Moment
past_by [] sectors = []
past_by (entry ∷ earlier) sectors = moment_by earlier (undone entry sectors) ∷ past_by earlier (undone entry sectors)

abbrev pub disk_by : List Entry → Contents → Disk
disk_by entries sectors = record { present = moment_by entries sectors; past = past_by entries sectors }

-- the sectors after a crash that fills each one written or tried since the last sync
abbrev pub crashed_by : Fill → List Entry → Contents → Contents
crashed_by fill [] sectors = sectors
crashed_by fill (Write at before ∷ earlier) sectors = crashed_by fill earlier (slice_set sectors at (filling fill at before (sector_at sectors at)))
crashed_by fill (Sync ∷ earlier) sectors = sectors
crashed_by fill (FailedSync ∷ earlier) sectors = crashed_by fill earlier sectors
