use Rattle.std.proofs.Common.{sym, ◌∙◌}
use Rattle.std.proofs.lemmas.Bool.{true≢false}
use Rattle.sn_marks.proofs.MarkLemmas.{astray_outside, astray_twice}
use Rattle.sn_marks.proofs.marking.mark.Goals as goal

pub returns-then-not-is_data-clause-fault : goal.returns-then-not-is_data-clause-fault
returns-then-not-is_data-clause-fault c =
    astray_outside c.args.root.now.geometry c.args.root.now.bit c.args.pointer c.args.map.now c.if-pointer-eq0.false (λ is. true≢false (sym (c.is_data.ensures.1 is) ∙ c.if-not-is_data.true))

pub returns-then-has_bit-clause-fault : goal.returns-then-has_bit-clause-fault
returns-then-has_bit-clause-fault c =
    astray_twice c.args.root.now.geometry c.args.root.now.bit c.args.pointer c.args.map.now c.if-pointer-eq0.false (c.has_bit.ensures.0 c.if-has_bit.true)
