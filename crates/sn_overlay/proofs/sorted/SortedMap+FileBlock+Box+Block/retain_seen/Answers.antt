use Rattle.std.proofs.Common.{not, ap, ◌∙◌, rules}
use Rattle.std.specs.Ordering.{nat_cmp}
use Rattle.std.specs.FinMap.Entries.{find, is_sorted}
use Rattle.std.proofs.lemmas.Fn.{filter_same}
use Rattle.sn_overlay.specs.Keys.{file_block_cmp}
use Rattle.sn_overlay.specs.Layers.{hides_block}
use Rattle.sn_overlay.proofs.SortedLemmas.{sorted-kept}
use Rattle.sn_overlay.proofs.sorted.SortedMap+FileBlock+Box+Block.retain_seen.Goals as goal

pub returns-clause-entries : goal.returns-clause-entries
returns-clause-entries c = filter_same _ (λ e. not (hides_block (find nat_cmp e.0.file c.args.nodes.now.entries.items) e.0.index)) _ (λ x b f called. search rules) _ _ c.retain.ensures.filtered

pub invariant_of-self : goal.invariant_of-self
invariant_of-self c = record {
  sorted = ap (is_sorted file_block_cmp) (filter_same _ (λ e. not (hides_block (find nat_cmp e.0.file c.args.nodes.now.entries.items) e.0.index)) _ (λ x b f called. search rules) _ _ c.retain.ensures.filtered)
      ∙ sorted-kept file_block_cmp (λ key. not (hides_block (find nat_cmp key.file c.args.nodes.now.entries.items) key.index)) c.args.self.now.entries.items c.args.self.now.sorted;
}
