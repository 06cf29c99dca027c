use Rattle.std.proofs.Common.{ap}
use Rattle.sn_node_table.specs.declared.path.NoPath.TheVariants.{Stale, TooLong}
use Rattle.sn_plan.specs.Places.{child_at, child_in}
use Rattle.sn_plan.proofs.Following.{fails}
use Rattle.sn_plan.proofs.Looked.{below, bytes_passed_on, path_missing, path_there, unwritten, written}
use Rattle.sn_plan.proofs.server.Server.child.Goals as goal

pub returns-in_err-path : goal.returns-in_err-path
unfolding child_at
returns-in_err-path g c = bytes_passed_on c.from_residual.result c.in_err-path.field-0.0 c.from_residual.ensures.1 (fails _ (unwritten c.path.ensures c.in_err-path.was))

pub returns-in-Ok : goal.returns-in-Ok
returns-in-Ok g c = below c.args.parent c.args.name.now _ (written c.path.ensures c.in_ok-path.was)
    (ap child_in (path_there _ c.child_path.result c.in-Ok.text c.child_path.ensures c.in-Ok.is))

pub returns-in-Err-Stale : goal.returns-in-Err-Stale
returns-in-Err-Stale g c = below c.args.parent c.args.name.now _ (written c.path.ensures c.in_ok-path.was)
    (ap child_in (path_missing _ c.child_path.result c.in-Err-Stale.field-0 Stale c.child_path.ensures c.in-Err-Stale.is c.in-Err-Stale.field-0-is))

pub returns-in-Err-TooLong : goal.returns-in-Err-TooLong
returns-in-Err-TooLong g c = below c.args.parent c.args.name.now _ (written c.path.ensures c.in_ok-path.was)
    (ap child_in (path_missing _ c.child_path.result c.in-Err-TooLong.field-0 TooLong c.child_path.ensures c.in-Err-TooLong.is c.in-Err-TooLong.field-0-is))
