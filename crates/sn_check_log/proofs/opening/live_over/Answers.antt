use Rattle.std.proofs.Common.{sym, subst}
use Rattle.sn_block.specs.Lending.{device_of}
use Rattle.sn_model.specs.declared.fault.MountFault.{MountFault}
use Rattle.sn_examine.proofs.TreeLemmas.{tree_fails, tree_reads, tree_undamaged}
use Rattle.sn_examine.specs.Failing.{IsSoOf}
use Rattle.sn_examine.specs.Rooms.{IsNoDamage}
use Rattle.sn_check_log.proofs.opening.live_over.Goals as goal

pub returns-in-Err-clause-undamaged : goal.returns-in-Err-clause-undamaged
returns-in-Err-clause-undamaged g c told =
    subst IsNoDamage (sym c.fault_of_tree.ensures) (tree_undamaged c.live_tree_of.result _ c.in-Err.fault c.in-Err.is (c.live_tree_of.ensures.damaged told (c.requires.sound told)))

pub returns-in-Err-clause-reads : goal.returns-in-Err-clause-reads
returns-in-Err-clause-reads g c = tree_reads c.live_tree_of.result _ _ c.in-Err.fault c.in-Err.is c.live_tree_of.ensures.counts

pub returns-in-Err-clause-failed : goal.returns-in-Err-clause-failed
returns-in-Err-clause-failed g c =
    let old = g.D.Device.status (device_of c.args.blocks.now) in
    let new = g.D.Device.status (device_of c.live_tree_of.new.blocks) in
    subst (λ (f : MountFault). IsSoOf f old new) (sym c.fault_of_tree.ensures) (tree_fails c.live_tree_of.result _ _ _ c.in-Err.fault c.in-Err.is c.live_tree_of.ensures.counts)
