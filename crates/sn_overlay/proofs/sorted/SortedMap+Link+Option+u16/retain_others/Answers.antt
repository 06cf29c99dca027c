use Rattle.std.proofs.Common.{not, eqb, ap, ◌∙◌, rules}
use Rattle.std.specs.FinMap.Entries.{is_sorted}
use Rattle.std.proofs.lemmas.Fn.{filter_same}
use Rattle.sn_model.specs.Tree.{link_cmp}
use Rattle.sn_overlay.proofs.SortedLemmas.{sorted-kept}
use Rattle.sn_overlay.proofs.sorted.SortedMap+Link+Option+u16.retain_others.Goals as goal

pub returns-clause-entries : goal.returns-clause-entries
returns-clause-entries c = filter_same _ (λ e. not (eqb e.0.directory c.args.directory)) _ (λ x b f called. search rules) _ _ c.retain.ensures.filtered

pub invariant_of-self : goal.invariant_of-self
invariant_of-self c = record {
  sorted = ap (is_sorted link_cmp) (filter_same _ (λ e. not (eqb e.0.directory c.args.directory)) _ (λ x b f called. search rules) _ _ c.retain.ensures.filtered)
      ∙ sorted-kept link_cmp (λ key. not (eqb key.directory c.args.directory)) c.args.self.now.entries.items c.args.self.now.sorted;
}
