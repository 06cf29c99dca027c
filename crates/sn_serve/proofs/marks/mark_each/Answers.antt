use Rattle.std.proofs.Common.{subst}
use Rattle.sn_serve.specs.Dating.{AreMarked}
use Rattle.sn_serve.specs.declared.marks.Marks.{Marks}
use Rattle.sn_serve.proofs.marks.mark_each.Goals as goal

pub returns : goal.returns
returns c = subst (λ (marks : Marks). AreMarked marks c.args.now c.args.times.now c.mark_one-4.new.times) c.marks_of-marks.ensures (record {
  after_first = c.mark_one.new.times;
  first = c.mark_one.ensures;
  after_second = c.mark_one-2.new.times;
  second = c.mark_one-2.ensures;
  after_third = c.mark_one-3.new.times;
  third = c.mark_one-3.ensures;
  fourth = c.mark_one-4.ensures;
})
