use Rattle.std.proofs.Common.{sym}
use Rattle.sn_numbers.specs.Live.{live_of}
use Rattle.sn_plain_world.proofs.ViewLemmas.{no_snapshot}
use Rattle.sn_plain_world.proofs.view.PlainViewFileView.knows_snapshot.Goals as goal

pub returns : goal.returns
returns c told = sym (no_snapshot (live_of c.args.self.now.tree.now) _)
