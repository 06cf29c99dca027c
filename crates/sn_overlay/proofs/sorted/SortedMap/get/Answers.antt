use Rattle.std.proofs.Common.{Some, sym, ap, ◌∙◌}
use Rattle.sn_overlay.proofs.SortedLemmas.{find-at, find-gap}
use Rattle.sn_overlay.proofs.sorted.SortedMap.get.Goals as goal

pub returns-in-Ok : goal.returns-in-Ok
returns-in-Ok g c = ap (λ entry. Some entry.1) c.index.ensures
    ∙ sym (find-at g.met.K.Ord.total c.args.self.now.entries.items c.args.key.now c.in-Ok.at c.index.result.now c.args.self.now.sorted c.in-Ok.ensures)

pub returns-in-Err : goal.returns-in-Err
returns-in-Err g c = sym (find-gap g.met.K.Ord.total c.args.self.now.entries.items c.args.key.now c.in-Err.field-0 c.in-Err.ensures)
