use Rattle.std.proofs.Common.{◌+◌, ap, ◌∙◌, arith, drop}
use Rattle.sn_import_entry.specs.Acls.{numbered}
use Rattle.sn_import_entry.proofs.Valid.{next_numbered}
use Rattle.sn_import_entry.proofs.acls.numbered.Goals as goal

pub loop-first-preserved : goal.loop-first-preserved
loop-first-preserved c =
    let said = c.args.said.now in
    let i = c.loop-first.first-index in
    record {
      same = ap (λ es. numbered c.args.names.now es (drop (i + 1) said)) c.place.ensures.items
          ∙ next_numbered c.args.names.now c.loop-first.entries.items said i c.first-item.result c.in_ok-entry.entry (omega arith) c.first-item.is c.in_ok-entry.ensures c.loop-first.invariant.same;
      count = omega (arith, c.place.ensures.longer, c.loop-first.invariant.count);
    }
