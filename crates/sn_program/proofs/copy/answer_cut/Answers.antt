use Rattle.std.proofs.Common.{refl}
use Rattle.sn_device.specs.Memory.{contents_of, disk_of, status_of}
use Rattle.sn_program.proofs.CopyLemmas.{cut_short}
use Rattle.sn_program.proofs.copy.answer_cut.Goals as goal

pub returns-clause-run : goal.returns-clause-run
returns-clause-run g c =
    let ran = c.answer-ran.result.ran in
    let stopped = c.stop_at.new.self in
    cut_short (disk_of c.args.copy) (disk_of stopped) (disk_of ran.device) (status_of c.args.copy) (status_of stopped) (status_of ran.device) c.args.fill ran.end c.args.events.now ran.replies.items (contents_of c.crash.result)
    c.stop_at.ensures.disk c.stop_at.ensures.status c.args.copy.whole (c.answer-ran.ensures.run refl) c.crash.ensures.left c.crash.ensures.each
