use Rattle.std.proofs.Common.{refl}
use Rattle.sn_cp_whole.proofs.AskingLemmas.{snapshots_written}
use Rattle.sn_cp_whole.proofs.planning.following_root.Goals as goal

pub returns-then-leaves_age-clause-body : goal.returns-then-leaves_age-clause-body
returns-then-leaves_age-clause-body c = c.in_ok-next.ensures.fits c.requires.body refl (snapshots_written c.args.root.now c.requires.body)
