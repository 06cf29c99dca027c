-- What the sessions in memory denote.
use Rattle.sn_desc.specs.InUse.{InUse, descriptors_in}
use Rattle.sn_desc.specs.OpenFiles.{files_of, room_of}
use Rattle.sn_desc.specs.declared.sessions.Sessions.{Sessions}

abbrev pub in_use_of : Sessions → InUse
in_use_of s = record { sessions = s.sessions.items; descriptors = descriptors_in (files_of s.files); room = room_of s.files }
