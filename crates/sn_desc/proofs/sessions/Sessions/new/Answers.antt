use Rattle.std.proofs.Common.{ap, ◌∙◌}
use Rattle.sn_desc.specs.InUse.{descriptors_in}
use Rattle.sn_desc.specs.OpenFiles.{room_of}
use Rattle.sn_desc.proofs.SeatLemmas.{none_in}
use Rattle.sn_desc.proofs.sessions.Sessions.new.Goals as goal

pub returns : goal.returns
returns c =
    let same = ap descriptors_in c.in_ok-new.ensures.files ∙ none_in in
    λ i. record { sessions = c.in_ok-free_sessions.ensures i; descriptors = same i; room = room_of c.in_ok-new.field-0 }
