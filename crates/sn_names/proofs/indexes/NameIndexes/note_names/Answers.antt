use Rattle.std.proofs.Common.{◌<◌, length, sym, subst, arith}
use Rattle.std.specs.Result.{is_ok}
use Rattle.std.specs.List.{All}
use Rattle.sn_names.specs.declared.kept.KeptIndex.{KeptIndex}
use Rattle.sn_names.specs.Index.{Tells}
use Rattle.sn_names.proofs.IndexesLemmas.{all_removed, all_pushed, of_all, on_ok}
use Rattle.sn_names.proofs.indexes.NameIndexes.note_names.Goals as goal

pub returns-then-is_err : goal.returns-then-is_err
returns-then-is_err c = λ sectors s all bytes.
    let list = c.args.self.now.list in
    let P = λ (kept : KeptIndex). Tells sectors s kept.index in
    let within : c.in-Some.k < length list.items = let w = c.in-Some.ensures.within in omega (arith, list.ok.0) in
    subst (All P) (sym c.remove-kept.ensures.items) (all_removed P list.items c.in-Some.k within all)

pub returns : goal.returns
returns c = λ sectors s all bytes.
    let list = c.args.self.now.list in
    let P = λ (kept : KeptIndex). Tells sectors s kept.index in
    let within : c.in-Some.k < length list.items = let w = c.in-Some.ensures.within in omega (arith, list.ok.0) in
    let told = of_all P list.items c.in-Some.k c.remove-kept.result within c.remove-kept.ensures.value all in
    let learned = on_ok c.note.result _ (sym c.if-is_err.ensures.value) c.note.ensures.told in
    c.trim.ensures sectors s (all_pushed P c.remove-kept.new.self.items c.push-kept.new.self.items c.note.new.self (is_ok c.push-kept.result) c.push-kept.ensures.items
    (subst (All P) (sym c.remove-kept.ensures.items) (all_removed P list.items c.in-Some.k within all))
    (learned sectors s told bytes))
