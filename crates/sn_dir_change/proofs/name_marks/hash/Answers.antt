use Rattle.std.proofs.Common.{◌+◌, ◌*◌, ◌%◌, ℕ, List, fold, get_or, take_all, sym, ap, ◌∙◌, arith}
use Rattle.std.proofs.lemmas.List.Sums.{fold_more}
use Rattle.sn_dir_change.specs.NameMarks.{hash_of}
use Rattle.sn_dir_change.proofs.name_marks.hash.Goals as goal

pub loop-byte-preserved : goal.loop-byte-preserved
loop-byte-preserved c =
    let name = c.args.name.now in
    let i = c.loop-byte.byte-index in
    let h = c.loop-byte.hash in
    record {
      value = ap (λ (b : ℕ). (31 * h + b) % 4096) c.from.ensures
          ∙ ap (λ (k : ℕ). (31 * k + get_or name i 0) % 4096) c.loop-byte.invariant.value
          ∙ sym (fold_more (λ hash byte. (31 * hash + byte) % 4096) 0 name i 0 c.loop-byte-test.true);
      within = omega arith;
    }

pub returns-clause-value : goal.returns-clause-value
unfolding hash_of
returns-clause-value c = c.loop-byte.invariant.value ∙ ap (λ (xs : List ℕ). fold (λ hash byte. (31 * hash + byte) % 4096) 0 xs) (take_all c.loop-byte.byte-index c.args.name.now (omega (arith, c.loop-byte-test.false)))
