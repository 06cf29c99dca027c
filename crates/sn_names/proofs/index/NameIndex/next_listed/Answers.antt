use Rattle.std.proofs.Common.{refl, arith}
use Rattle.sn_names.specs.Prints.{entry_at}
use Rattle.sn_names.proofs.PrintLemmas.{of_print}
use Rattle.sn_names.proofs.index.NameIndex.next_listed.Goals as goal

pub returns-in-Some-block_of-clause-none : goal.returns-in-Some-block_of-clause-none
returns-in-Some-block_of-clause-none c = λ i low high has.
    let no_later = c.in-Some.ensures.least (entry_at c.args.print i) has (omega (arith, c.entry_at.ensures)) in
    omega (arith, c.in-Some-block_of.ensures.found, c.min.ensures)

pub returns-in-None-block_of-clause-none : goal.returns-in-None-block_of-clause-none
returns-in-None-block_of-clause-none c = λ i low high has.
    let no_later = c.in-Some.ensures.least (entry_at c.args.print i) has (omega (arith, c.entry_at.ensures)) in
    c.in-None-block_of.ensures.other refl (of_print c.in-Some.entry c.args.print c.args.from i (omega (arith, c.len-count.ensures, c.args.self.now.few)) (omega (arith, c.entry_at.ensures, c.in-Some.ensures.after)) no_later)

pub returns-in-None-clause-none : goal.returns-in-None-clause-none
returns-in-None-clause-none c = λ i low high has. c.in-None.ensures.least (entry_at c.args.print i) has (omega (arith, c.entry_at.ensures))
