use Rattle.std.proofs.Common.{ap, sym, ◌∙◌}
use Rattle.sn_desc.specs.InUse.{descriptors_in}
use Rattle.sn_desc.specs.OpenFiles.{files_of, room_of}
use Rattle.sn_desc.proofs.SessionLemmas.{absent, moved_none, moves}
use Rattle.sn_desc.proofs.sessions.Sessions.set_offset.Goals as goal

pub returns-in-Some : goal.returns-in-Some
returns-in-Some c =
    let s = c.args.self.now in
    let same = ap descriptors_in c.set_offset.ensures.files ∙ moves (files_of s.files) c.args.session c.args.fd s.files.counted.seats c.in-Some.seat (sym c.in-Some.ensures) c.args.offset in
    λ i. record { sessions = s.sessions.items; descriptors = same i; room = c.set_offset.ensures.room i }

pub returns-in_default : goal.returns-in_default
returns-in_default c =
    let s = c.args.self.now in
    let none = absent (files_of s.files) c.args.session c.args.fd s.files.counted.seats (sym c.in_default.ensures) in
    let same = moved_none (descriptors_in (files_of s.files)) c.args.session c.args.fd c.args.offset none in
    λ i. record { sessions = s.sessions.items; descriptors = same i; room = room_of s.files }
