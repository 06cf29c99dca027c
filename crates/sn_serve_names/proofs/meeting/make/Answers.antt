use Rattle.std.proofs.Common.{refl}
use Rattle.sn_plan.specs.Plans.{Makes}
use Rattle.sn_plan.proofs.Following.{knows_it, takes_it}
use Rattle.sn_serve_names.proofs.Ids.{gets, gets_none}
use Rattle.sn_serve_names.specs.Entries.{makes}
use Rattle.sn_serve_names.proofs.meeting.make.Goals as goal

pub returns-in-Ok : goal.returns-in-Ok
unfolding makes
returns-in-Ok g c = takes_it (knows_it (gets c.args.parent (Makes c.args.parent c.args.name.now c.args.number) c.in-Ok.id _ c.make.result c.in-Ok.is c.make.ensures.stale refl refl c.in-Ok.ensures.ok c.in-Ok.ensures.id))

pub returns-in-Err : goal.returns-in-Err
unfolding makes
returns-in-Err g c = gets_none c.args.parent (Makes c.args.parent c.args.name.now c.args.number) (λ kept. kept.nodes.next) c.in-Err.fault c.errno_of.result c.make.result c.in-Err.is c.make.ensures.stale c.make.ensures.refused refl refl c.make.ensures.err c.errno_of.ensures
