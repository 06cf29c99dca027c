use Rattle.std.proofs.Common.{◌≡◌, ◌+◌, ◌-◌, refl, sym, ◌∙◌, arith}
use Rattle.sn_check_root.proofs.NameLemmas.{once_sorted, side_by_side}
use Rattle.sn_check_root.proofs.directories.are_once.Goals as goal

pub returns-then-eq-clause-twice : goal.returns-then-eq-clause-twice
returns-then-eq-clause-twice c = λ no.
    let next : c.loop-i.i ≡ (c.loop-i.i - 1) + 1 = omega (arith, c.loop-i.auto.i) in
    side_by_side c.args.names.now (c.loop-i.i - 1) c.loop-i.i (c.loop-i.i - 1) c.index-names-i.result c.index-names-i-in-loop-i.result next refl c.loop-i-test.true
    (sym c.eq.ensures ∙ c.if-eq.true)

pub returns-clause-once : goal.returns-clause-once
returns-clause-once c = λ yes. once_sorted c.args.names.now c.requires (λ k d within. c.loop-i.invariant.apart k d (omega (arith, within, c.loop-i-test.false)))
