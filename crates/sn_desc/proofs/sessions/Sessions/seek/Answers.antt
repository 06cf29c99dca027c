use Rattle.std.proofs.Common.{arith}
use Rattle.sn_model.specs.Descriptors.{moved_to}
use Rattle.sn_desc.specs.Sessions.{in_use_of}
use Rattle.sn_desc.proofs.SessionLemmas.{seek_ok}
use Rattle.sn_desc.proofs.sessions.Sessions.seek.Goals as goal

pub returns : goal.returns
returns c =
    let table = (in_use_of c.args.self.now).descriptors in
    (moved_to table c.args.session c.args.fd c.args.offset, seek_ok table c.args.session c.args.fd c.args.limits.now c.args.offset _ c.in_ok-get.ensures (omega arith), c.set_offset.ensures)
