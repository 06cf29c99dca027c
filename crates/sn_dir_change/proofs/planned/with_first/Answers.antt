use Rattle.std.proofs.Common.{rules, IsTrue, arith}
use Rattle.sn_dir_change.proofs.PlannedLemmas.{first_wanted}
use Rattle.sn_dir_change.proofs.planned.with_first.Goals as goal

pub returns-clause-wanted : goal.returns-clause-wanted
returns-clause-wanted c told s tree wanted =
    first_wanted (IsTrue told) s tree c.args.changes.now c.args.dirty.size c.args.dirty.keep c.args.dirty.blocks.items c.push_dirty.new.dirty.items c.clear.new.block
    (search rules) (omega (arith, c.if-dirty-gt0.false)) c.in_ok-push_dirty.ensures c.clear.ensures wanted
