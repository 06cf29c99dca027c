use Rattle.std.proofs.Common.{refl, arith, rules}
use Rattle.sn_node_table.specs.Stored.{links_in}
use Rattle.sn_node_table.specs.Told.{table_of}
use Rattle.sn_node_table.proofs.SweepLemmas.{after_next, after_sweep, goes_on, idle_alone, idle_last, out_fewer, out_goes, out_idle}
use Rattle.sn_node_table.proofs.table.NodeTable.+sweep.Goals as goal

pub sweep-loop-next-preserved : goal.sweep-loop-next-preserved
sweep-loop-next-preserved n c = record {
  goes = goes_on _ _ _ c.loop-next.invariant.goes c.sweep_one-next.ensures.goes;
  idle = λ other idle. after_next c.loop-next.next c.sweep_one-next.result c.in-Some.at other c.in-Some.is (c.loop-next.invariant.idle other) (c.sweep_one-next.ensures.idle other idle);
  no_more = omega (arith, c.loop-next.invariant.no_more, c.sweep_one-next.ensures.no_more);
}

pub sweep_one-returns-in_err-left-clause-goes : goal.sweep_one-returns-in_err-left-clause-goes
sweep_one-returns-in_err-left-clause-goes n c = out_goes _ _ c.args.id (c.is_idle.ensures.0 (search rules)) c.take_out-links.ensures.table

pub sweep_one-returns-in_err-left-clause-idle : goal.sweep_one-returns-in_err-left-clause-idle
sweep_one-returns-in_err-left-clause-idle n c other idle =
    idle_alone _ (links_in c.take_out-links.result) c.from_residual.result other c.take_out-links.ensures.links (c.in_err-left.ensures.none refl)
    (out_idle _ _ c.args.id other (c.is_idle.ensures.0 (search rules)) c.take_out-links.ensures.table idle)

pub sweep_one-returns-in_err-left-clause-no_more : goal.sweep_one-returns-in_err-left-clause-no_more
sweep_one-returns-in_err-left-clause-no_more n c = omega (arith, out_fewer (table_of c.args.self.now) (table_of c.take_out-links.new.self) c.args.id (c.is_idle.ensures.0 (search rules)) c.take_out-links.ensures.table)

pub sweep_one-loop-link-init : goal.sweep_one-loop-link-init
sweep_one-loop-link-init n c = record {
  goes = out_goes _ _ c.args.id (c.is_idle.ensures.0 (search rules)) c.take_out-links.ensures.table;
  idle = λ other idle.
      idle_last _ (links_in c.take_out-links.result) (links_in c.pop.new.self) c.in_ok-left.left other c.take_out-links.ensures.links c.in_ok-left.ensures.items
      (out_idle _ _ c.args.id other (c.is_idle.ensures.0 (search rules)) c.take_out-links.ensures.table idle);
  fewer = out_fewer _ _ c.args.id (c.is_idle.ensures.0 (search rules)) c.take_out-links.ensures.table;
}

pub sweep_one-loop-link-preserved : goal.sweep_one-loop-link-preserved
sweep_one-loop-link-preserved n c = record {
  goes = goes_on _ _ _ c.loop-link.invariant.goes c.sweep.ensures.goes;
  idle = λ other idle.
      after_sweep (links_in c.loop-link.links) (links_in c.pop-in-loop-link.new.self) c.in-Some.link other c.in-Some.ensures.items (c.sweep.ensures.idle other idle).1
      (c.loop-link.invariant.idle other (c.sweep.ensures.idle other idle).0);
  fewer = omega (arith, c.loop-link.invariant.fewer, c.sweep.ensures.no_more);
}
