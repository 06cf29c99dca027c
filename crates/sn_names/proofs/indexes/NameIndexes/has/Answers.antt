use Rattle.std.proofs.Common.{◌<◌, length, sym, subst, arith}
use Rattle.std.specs.Result.{is_ok}
use Rattle.std.specs.List.{All}
use Rattle.sn_names.specs.declared.kept.KeptIndex.{KeptIndex}
use Rattle.sn_names.specs.Index.{Tells}
use Rattle.sn_names.proofs.IndexesLemmas.{all_removed, all_pushed, of_all}
use Rattle.sn_names.proofs.indexes.NameIndexes.has.Goals as goal

pub returns-in-Some : goal.returns-in-Some
returns-in-Some c = λ sectors s all.
    let list = c.args.self.now.list in
    let P = λ (kept : KeptIndex). Tells sectors s kept.index in
    let within : c.in-Some.k < length list.items = let w = c.in-Some.ensures.within in omega (arith, list.ok.0) in
    all_pushed P c.remove-kept.new.self.items c.push.new.self.items c.remove-kept.result (is_ok c.push.result) c.push.ensures.items
    (subst (All P) (sym c.remove-kept.ensures.items) (all_removed P list.items c.in-Some.k within all))
    (of_all P list.items c.in-Some.k c.remove-kept.result within c.remove-kept.ensures.value all)
