use Rattle.std.proofs.Common.{not, eqb, ap, ◌∙◌, rules}
use Rattle.std.specs.FinMap.Entries.{is_sorted}
use Rattle.std.proofs.lemmas.Fn.{filter_same}
use Rattle.sn_overlay.specs.Keys.{file_block_cmp}
use Rattle.sn_overlay.proofs.SortedLemmas.{sorted-kept}
use Rattle.sn_overlay.proofs.sorted.SortedMap+FileBlock+Box+Block.retain_others.Goals as goal

pub returns-clause-entries : goal.returns-clause-entries
returns-clause-entries c = filter_same _ (λ e. not (eqb e.0.file c.args.file)) _ (λ x b f called. search rules) _ _ c.retain.ensures.filtered

pub invariant_of-self : goal.invariant_of-self
invariant_of-self c = record {
  sorted = ap (is_sorted file_block_cmp) (filter_same _ (λ e. not (eqb e.0.file c.args.file)) _ (λ x b f called. search rules) _ _ c.retain.ensures.filtered)
      ∙ sorted-kept file_block_cmp (λ key. not (eqb key.file c.args.file)) c.args.self.now.entries.items c.args.self.now.sorted;
}
