use Rattle.std.proofs.Common.{◌≡◌, ◌<◌, ℕ, length, get_or, refl, sym, subst, ◌∙◌, inl, inr, arith}
use Rattle.std.specs.List.{All}
use Rattle.std.proofs.lemmas.Bool.{cases_lt}
use Rattle.std.proofs.lemmas.List.{get_or_default}
use Rattle.std.proofs.lemmas.List.Edits.{get_or-remove_below}
use Rattle.sn_names.specs.declared.kept.KeptIndex.{KeptIndex}
use Rattle.sn_names.specs.Index.{RestsOn, Tells}
use Rattle.sn_names.proofs.IndexesLemmas.{all_removed}
use Rattle.sn_names.proofs.indexes.NameIndexes.let_go.Goals as goal

pub loop-k-preserved-then-rests_on : goal.loop-k-preserved-then-rests_on
loop-k-preserved-then-rests_on c =
    let list = c.loop-k.self.list in
    let within : c.loop-k.k < length list.items = omega (arith, c.loop-k-test.true, c.len.ensures, list.ok.0) in
    record {
      within = omega (arith, c.loop-k-test.true, c.len.ensures, c.remove.ensures.len);
      told = λ sectors s all.
          let P = λ (kept : KeptIndex). Tells sectors s kept.index in
          subst (All P) (sym c.remove.ensures.items) (all_removed P list.items c.loop-k.k within (c.loop-k.invariant.told sectors s all));
      gone = λ j d before.
          let same : get_or c.remove.new.self.items j d ≡ get_or list.items j d = rw c.remove.ensures.items (get_or-remove_below list.items c.loop-k.k d j before within) in
          subst (λ (kept : KeptIndex). RestsOn kept.index c.args.number → ⊥) (sym same) (c.loop-k.invariant.gone j d before);
    }

pub loop-k-preserved : goal.loop-k-preserved
loop-k-preserved c =
    let list = c.loop-k.self.list in
    let kept = c.index.result.now in
    record {
      within = omega (arith, c.loop-k-test.true, c.len.ensures);
      told = c.loop-k.invariant.told;
      gone = λ j d before. elim (cases_lt j c.loop-k.k) [
        | inl sooner ↦ c.loop-k.invariant.gone j d sooner
        | inr later ↦
            let here : j ≡ c.loop-k.k = omega arith in
            let within : c.loop-k.k < length list.items = omega (arith, c.loop-k-test.true, c.len.ensures, list.ok.0) in
            let same : kept ≡ get_or list.items c.loop-k.k d = c.index.ensures ∙ get_or_default list.items c.loop-k.k kept d within in
            subst (λ (k : ℕ). RestsOn (get_or list.items k d).index c.args.number → ⊥) (sym here)
            (subst (λ (k : KeptIndex). RestsOn k.index c.args.number → ⊥) same (c.if-rests_on.ensures refl))
      ];
    }

pub returns-clause-gone : goal.returns-clause-gone
returns-clause-gone c = λ k d within.
    let before : k < c.loop-k.k = omega (arith, c.loop-k-test.false, c.len.ensures, c.loop-k.self.list.ok.0) in
    c.loop-k.invariant.gone k d before
