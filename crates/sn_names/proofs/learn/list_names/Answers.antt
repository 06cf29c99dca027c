use Rattle.std.proofs.Common.{inl, inr, List, ◌∷◌, get_or, sym, subst, ap, ◌∙◌}
use Rattle.std.specs.List.{Contains}
use Rattle.std.proofs.lemmas.List.Elements.{Contains-get_or}
use Rattle.sn_layout_node.specs.Directory.{Link}
use Rattle.sn_names.specs.Prints.{entry_at, entry_for}
use Rattle.sn_names.specs.Ordered.{numbers_of}
use Rattle.sn_names.proofs.LearnLemmas.{contains_cases, contains_first, contains_more, contains_none}
use Rattle.sn_names.proofs.learn.list_names.Goals as goal

pub loop-entry-init : goal.loop-entry-init
loop-entry-init c = record {
  kept = λ n has. has;
  listed = λ link has. inl (subst (λ (links : List Link). Contains links link) (sym (c.into_iter-entry-iterator.ensures.into_iter_gives ∙ c.entries-entry-items.ensures.entries)) has);
}

pub loop-entry-preserved : goal.loop-entry-preserved
loop-entry-preserved c =
    let entries = numbers_of c.loop-entry.entries in
    let more = numbers_of c.add.new.self in
    let is = c.entry_at.ensures ∙ ap (λ p. entry_at p c.args.i) c.of.ensures in
    record {
      kept = λ n has. c.in_ok-add.ensures n (contains_more _ entries n (c.loop-entry.invariant.kept n has));
      listed = λ link has. elim (c.loop-entry.invariant.listed link has) [
        | inl left ↦ elim (contains_cases _ _ link (subst (λ (links : List Link). Contains links link) c.in-Some.ensures.steps left)) [
          | inl here ↦ inr (c.in_ok-add.ensures _ (subst (λ n. Contains (n ∷ entries) (entry_for link.name c.args.i)) (sym is) (subst (λ (l : Link). Contains (entry_for c.in-Some.entry.name.now c.args.i ∷ entries) (entry_for l.name c.args.i)) (sym here) (contains_first _ entries))))
          | inr later ↦ inl later
        ]
        | inr done ↦ inr (c.in_ok-add.ensures _ (contains_more _ entries _ done))
      ];
    }

pub returns-clause-kept : goal.returns-clause-kept
returns-clause-kept c = c.loop-entry.invariant.kept

pub returns-clause-listed : goal.returns-clause-listed
returns-clause-listed c = λ k d within. elim (c.loop-entry.invariant.listed (get_or c.args.names.now k d) (Contains-get_or c.args.names.now k d within)) [
  | inl left ↦ absurd (contains_none _ (subst (λ (links : List Link). Contains links (get_or c.args.names.now k d)) c.in-None.ensures.steps.0 left))
  | inr done ↦ done
]
