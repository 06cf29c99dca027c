use Rattle.std.proofs.Common.{not, eqb, rules}
use Rattle.sn_overlay.specs.Keys.{file_block_cmp}
use Rattle.sn_overlay.proofs.ListLemmas.{around, sorted_left, spanned, then}
use Rattle.sn_overlay.proofs.lists.SortedMap+FileBlock+Box+Block.take_blocks.Goals as goal

pub returns-clause-taken : goal.returns-clause-taken
returns-clause-taken c = then (spanned file_block_cmp (λ key. key.file) c.args.file c.args.self.now.entries.items _ _ c.span_of-span.ensures) (search rules)

pub returns-clause-left : goal.returns-clause-left
returns-clause-left c = then (around file_block_cmp (λ key. key.file) c.args.file c.args.self.now.entries.items _ _ c.span_of-span.ensures) (search rules)

pub invariant_of-self : goal.invariant_of-self
invariant_of-self c = record {
  sorted = sorted_left file_block_cmp (λ key. not (eqb key.file c.args.file)) c.self-1.given.0.items c.args.self.now.entries.items
      (then (around file_block_cmp (λ key. key.file) c.args.file c.args.self.now.entries.items _ _ c.span_of-span.ensures) (search rules)) c.args.self.now.sorted;
}
