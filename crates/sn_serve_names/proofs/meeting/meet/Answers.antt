use Rattle.std.proofs.Common.{refl}
use Rattle.sn_node_table.specs.Tables.{given}
use Rattle.sn_plan.specs.Plans.{Meets}
use Rattle.sn_plan.proofs.Following.{knows_it, takes_it}
use Rattle.sn_serve_names.proofs.Ids.{gets, gets_none}
use Rattle.sn_serve_names.specs.Entries.{meets}
use Rattle.sn_serve_names.proofs.meeting.meet.Goals as goal

pub returns-in-Ok : goal.returns-in-Ok
unfolding meets
returns-in-Ok g c = takes_it (knows_it (gets c.args.parent (Meets c.args.parent c.args.name.now c.args.number) c.in-Ok.id _ c.meet.result c.in-Ok.is c.meet.ensures.stale refl refl c.in-Ok.ensures.ok c.in-Ok.ensures.id))

pub returns-in-Err : goal.returns-in-Err
unfolding meets
returns-in-Err g c = gets_none c.args.parent (Meets c.args.parent c.args.name.now c.args.number) (λ kept. given kept.nodes c.args.number) c.in-Err.fault c.errno_of.result c.meet.result c.in-Err.is c.meet.ensures.stale c.meet.ensures.refused refl refl c.meet.ensures.err c.errno_of.ensures
