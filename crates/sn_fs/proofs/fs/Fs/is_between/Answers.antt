use Rattle.std.proofs.Common.{not, ap, ◌∙◌}
use Rattle.sn_events.proofs.BasedLemmas.{none_in}
use Rattle.sn_fs.proofs.fs.Fs.is_between.Goals as goal

pub returns : goal.returns
returns g c told = none_in c.args.self.now.going (c.is_none.ensures ∙ ap not told)
