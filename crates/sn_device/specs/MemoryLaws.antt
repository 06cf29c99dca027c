-- The law `time` of a device in memory.
use Rattle.std.specs.Prelude.{◌≡◌, ◌+◌, suc, List, [], ◌∷◌, length, reverse, refl}
use Rattle.std.proofs.Common.{ap, ◌∙◌}
use Rattle.std.proofs.lemmas.List.{length-reverse}
use Rattle.sn_device.specs.Sectors.{Contents}
use Rattle.sn_device.specs.Disk.{clock}
use Rattle.sn_device.specs.Undo.{undone, past_by}
use Rattle.sn_device.specs.Memory.{disk_of, status_of}
use Rattle.sn_device.specs.declared.memory.Entry.{Entry}
use Rattle.sn_device.specs.declared.memory.MemDevice.{MemDevice}

pub length-past_by : (entries : List Entry) (sectors : Contents) → length (past_by entries sectors) ≡ length entries
length-past_by [] sectors = refl
length-past_by (e ∷ earlier) sectors = ap suc (length-past_by earlier (undone e sectors))

pub clock-disk_of : (d : MemDevice) → clock (disk_of d) ≡ (status_of d).writes + (status_of d).syncs
clock-disk_of d = length-past_by (reverse d.calls.items) d.sectors.items ∙ length-reverse d.calls.items ∙ d.recorded
