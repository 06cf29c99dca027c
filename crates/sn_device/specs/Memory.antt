-- What a device in memory shows.
use Rattle.std.specs.Prelude.{[], reverse, None}
use Rattle.sn_device.specs.Sectors.{Contents}
use Rattle.sn_device.specs.Disk.{Disk}
use Rattle.sn_device.specs.Undo.{disk_by}
use Rattle.sn_device.specs.declared.memory.MemDevice.{MemDevice}
use Rattle.sn_device.specs.declared.status.Status.{Status}
use Rattle.sn_device.specs.declared.plan.Plan.{Plan}
use Rattle.sn_device.specs.declared.plan.Stop.TheVariants.{Never}

-- its ghost member `disk`
abbrev pub disk_of : MemDevice → Disk
disk_of m = disk_by (reverse m.calls.items) m.sectors.items

-- what reads give
abbrev pub contents_of : MemDevice → Contents
contents_of m = m.sectors.items

-- its ghost member `status`
abbrev pub status_of : MemDevice → Status
status_of m = m.status

-- the faults that it is to answer with
abbrev pub plan_of : MemDevice → Plan
plan_of m = m.plan

-- a disk at its first moment
abbrev pub first : Contents → Disk
first sectors = record { present = record { sectors = sectors; unsynced = [] }; past = [] }

-- no fault is due
abbrev pub no_fault : Plan
no_fault = record { fails_in = None; stop = Never }
