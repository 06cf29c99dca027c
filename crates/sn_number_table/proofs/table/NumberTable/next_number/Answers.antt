use Rattle.std.proofs.Common.{arith}
use Rattle.sn_number_table.proofs.MarkLemmas.{passed_on}
use Rattle.sn_number_table.proofs.TableLemmas.{free_next, kept_next, none_next}
use Rattle.sn_number_table.proofs.table.NumberTable.next_number.Goals as goal

pub returns-then-free-from : goal.returns-then-free-from
returns-then-free-from c tree tells =
    let old = c.args.self.now in
    let free = c.first_free-free.result in
    let searched = c.first_free-free.ensures in
    free_next c.args.limits.now tree old tells free (passed_on old.marks old.next free old.passed searched.low searched.high searched.used) (searched.free (omega arith)) (omega arith)

pub returns-then-kept_back-from : goal.returns-then-kept_back-from
returns-then-kept_back-from c tree tells =
    let old = c.args.self.now in
    let free = c.first_free-free.result in
    let searched = c.first_free-free.ensures in
    let kept = c.first_without_node-kept_back.ensures in
    kept_next c.args.limits.now tree old tells free (passed_on old.marks old.next free old.passed searched.low searched.high searched.used) (omega arith)
    c.first_without_node-kept_back.result (omega arith) (λ n low high. kept.taken n (omega (arith, low)) high) (kept.unused (omega arith)) (omega arith)

pub returns : goal.returns
returns c tree tells =
    let old = c.args.self.now in
    let free = c.first_free-free.result in
    let searched = c.first_free-free.ensures in
    let kept = c.first_without_node-kept_back.ensures in
    none_next c.args.limits.now tree old tells free (passed_on old.marks old.next free old.passed searched.low searched.high searched.used) (omega arith)
    c.first_without_node-kept_back.result (λ n low high. kept.taken n (omega (arith, low)) high) (omega arith)
