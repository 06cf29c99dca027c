use Rattle.std.proofs.Common.{sym}
use Rattle.sn_numbers.specs.Live.{live_of}
use Rattle.sn_plain_world.proofs.ViewLemmas.{no_nameless}
use Rattle.sn_plain_world.proofs.view.PlainViewFileView.count_nameless.Goals as goal

pub returns-clause-found : goal.returns-clause-found
returns-clause-found c told = sym (no_nameless (live_of c.args.self.now.tree.now) _)
