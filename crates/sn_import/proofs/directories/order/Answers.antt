use Rattle.std.proofs.Common.{rules}
use Rattle.std.proofs.lemmas.List.Sorted.{answers_always}
use Rattle.sn_import.specs.Depths.{is_deeper}
use Rattle.sn_import.proofs.Depths.{is_order}
use Rattle.sn_import.proofs.directories.order.Goals as goal

pub returns-clause-ok : goal.returns-clause-ok
returns-clause-ok c = record {
  same = c.sort_by.ensures.permutation;
  deepest = c.in_ok-sort_by.ensures.sorted is_deeper is_order (answers_always _ _ _ (λ f a r g h. search rules));
  stable = c.sort_by.ensures.stable is_deeper is_order (answers_always _ _ _ (λ f a r g h. search rules));
}
