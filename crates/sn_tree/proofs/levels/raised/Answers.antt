use Rattle.std.proofs.Common.{◌≡◌, ℕ, ◌+◌, ◌*◌, ◌≤◌, List, refl, ap, subst, ◌∙◌, arith, IsTrue}
use Rattle.std.specs.Prelude.{◌^◌, Err}
use Rattle.std.proofs.lemmas.Result.{err_from_is_err_and}
use Rattle.sn_tree.specs.Fronts.{AreHolesFrom, PlannedFront}
use Rattle.sn_tree.specs.declared.fault.PlanFault.TheVariants.{Full}
use Rattle.sn_tree.proofs.SpanLemmas.{span_more}
use Rattle.sn_tree.proofs.FrontLemmas.{front_most-whole}
use Rattle.sn_tree.proofs.levels.raised.Goals as goal

-- what is zeros from a height on is so from a greater one
bare_above : (from depth : ℕ) (old : List ℕ → ℕ → List ℕ) → from ≤ depth → AreHolesFrom (16 * 1024 ^ from) old → AreHolesFrom (16 * 1024 ^ depth) old
bare_above from depth old up bare hole i past = bare hole i (omega (arith, past, span_more from depth up))

pub loop-depth-init : goal.loop-depth-init
loop-depth-init g c = record {
  same = λ _. refl;
  status = refl;
  count = omega arith;
  rise = c.requires.rise;
  planned = λ aim bare front. front;
}

pub loop-depth-preserved : goal.loop-depth-preserved
loop-depth-preserved g c =
    let inv = c.loop-depth.invariant in
    let depth = c.loop-depth.depth in
    record {
      same = λ told. c.raise.ensures.same told ∙ inv.same told;
      status = c.in_ok-raised.ensures.counts.other (λ failed. absurd cc) ∙ inv.status;
      count = c.in_ok-raised.ensures.count;
      rise = c.in_ok-raised.ensures.rise;
      planned = λ aim bare front.
          c.in_ok-raised.ensures.planned aim (bare_above c.args.from depth aim.old (omega arith) (bare (omega arith))) (inv.planned aim bare front);
    }

pub returns-in_err-raised-clause-full : goal.returns-in_err-raised-clause-full
returns-in_err-raised-clause-full g c = λ aim bare front is.
    let inv = c.loop-depth.invariant in
    let depth = c.loop-depth.depth in
    let p = err_from_is_err_and c.from_residual.result c.from_residual.ensures.1 in
    let fault : c.in_err-raised.field-0.0 ≡ Full = cc (p.1, p.2) in
    let few = c.in_err-raised.ensures.full aim (bare_above c.args.from depth aim.old (omega arith) (bare (omega arith))) (inv.planned aim bare front) (ap (λ fault. Err fault) fault) in
    omega (arith, few, front_most-whole (depth + 1) (16 * 1024 ^ (depth + 1)) c.args.levels aim.dirty (omega arith))

pub returns-clause-planned : goal.returns-clause-planned
returns-clause-planned g c = λ aim bare front.
    let inv = c.loop-depth.invariant in
    let top : c.loop-depth.depth ≡ c.args.levels = omega arith in
    subst (λ (n : ℕ). PlannedFront (IsTrue g.D.Device.tells_bytes) aim n (16 * 1024 ^ n) c.loop-depth.dirty.items c.loop-depth.raised c.loop-depth.build) top (inv.planned aim bare front)
