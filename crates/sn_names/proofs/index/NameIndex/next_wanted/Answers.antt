use Rattle.std.proofs.Common.{◌≡◌, ◌<◌, ℕ, inl, inr, slice_index, sym, subst, ap, ◌∙◌, arith}
use Rattle.std.specs.List.{Contains}
use Rattle.std.proofs.lemmas.Bool.{cases_lt}
use Rattle.sn_names.specs.Prints.{entry_at}
use Rattle.sn_names.specs.Index.{entries_of}
use Rattle.sn_names.proofs.PrintLemmas.{print_at, print_among}
use Rattle.sn_names.proofs.ToldLemmas.{seen_unwanted}
use Rattle.sn_names.proofs.index.NameIndex.next_wanted.Goals as goal

pub loop-print-preserved : goal.loop-print-preserved
loop-print-preserved c =
    let prints = c.args.prints.now in
    let entries = entries_of c.args.self.now in
    let here : slice_index prints c.loop-print.print-index ≡ c.print-item.result = print_at prints c.loop-print.print-index c.print-item.result c.loop-print-test.true c.print-item.is in
    record {
      after = let a = c.loop-print.invariant.after in let b = c.next_listed.ensures.after in omega (arith, c.min-until.ensures);
      end = let a = c.loop-print.invariant.end in omega (arith, c.min-until.ensures);
      none = λ k before i low high has.
          let sooner : i < c.loop-print.until = omega (arith, c.min-until.ensures) in
          let listed : i < c.next_listed.result = omega (arith, c.min-until.ensures) in
          elim (cases_lt k c.loop-print.print-index) [
            | inl w ↦ c.loop-print.invariant.none k w i low sooner has
            | inr w ↦
                let same : k ≡ c.loop-print.print-index = omega arith in
                let is = ap (λ (n : ℕ). slice_index prints n) same ∙ here in
                c.next_listed.ensures.none i low listed (subst (λ (p : ℕ). Contains entries (entry_at p i)) is has)
          ];
    }

pub returns-clause-passed : goal.returns-clause-passed
returns-clause-passed c = λ sectors s i told low high.
    let index = c.args.self.now in
    let prints = c.args.prints.now in
    let sooner : i < c.loop-print.until = let h = c.next_roomy.ensures.end in omega arith in
    seen_unwanted sectors s index.tree index.numbers.items index.rooms.items (entries_of index) index.level told i prints c.args.least
    (c.next_roomy.ensures.below i low high)
    (λ p among has.
    let at = print_among prints p among in
    let before : at.0 < c.loop-print.print-index = let h : at.0 < _ = at.1 in let g = c.loop-print-test.false in omega arith in
    c.loop-print.invariant.none at.0 before i low sooner (subst (λ (q : ℕ). Contains (entries_of index) (entry_at q i)) (sym at.2) has))
