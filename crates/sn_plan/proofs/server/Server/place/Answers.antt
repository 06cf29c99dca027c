use Rattle.std.proofs.Common.{◌≡◌, ◌∙◌, ◌-◌, ℕ, suc, arith, subst, sym}
use Rattle.sn_plan.specs.Follows.{Goes, kept_of}
use Rattle.sn_plan.specs.Places.{tries, tries_all}
use Rattle.sn_plan.proofs.Following.{goes_none}
use Rattle.sn_plan.proofs.Looked.{ends_so, failed_first, found_first, next_tried, none_left, numbered, text_passed_on, told_error, told_none, told_text, unnumbered}
use Rattle.sn_plan.proofs.server.Server.place.Goals as goal

pub returns-in-None : goal.returns-in-None
returns-in-None g c = unnumbered g.F.FileSystem.did c.args.self.now c.args.id (sym c.inode.ensures ∙ c.in-None.is)

pub loop-place-init : goal.loop-place-init
loop-place-init g c = subst (λ (n : ℕ). Goes g.F.FileSystem.did c.args.self.now c.args.self.now (tries_all (kept_of c.args.self.now) c.args.id c.in-Some.number) (tries n c.args.id c.in-Some.number))
    (sym c.links-left.ensures) (goes_none g.F.FileSystem.did c.args.self.now (tries_all (kept_of c.args.self.now) c.args.id c.in-Some.number))

pub returns-in_err-place : goal.returns-in_err-place
returns-in_err-place g c =
    let e = c.in_err-place.field-0.0 in
    text_passed_on c.from_residual.result e c.from_residual.ensures.1
    (numbered c.args.id c.in-Some.number (sym c.inode.ensures ∙ c.in-Some.is)
    (ends_so {p = tries_all (kept_of c.args.self.now) c.args.id c.in-Some.number} c.loop-place.invariant (failed_first c.args.id c.in-Some.number c.loop-place.left e (told_error c.try_place.ensures c.in_err-place.was))))

pub returns-in-Some-place : goal.returns-in-Some-place
returns-in-Some-place g c = numbered c.args.id c.in-Some.number (sym c.inode.ensures ∙ c.in-Some.is)
    (ends_so {p = tries_all (kept_of c.args.self.now) c.args.id c.in-Some.number} c.loop-place.invariant (found_first c.args.id c.in-Some.number c.loop-place.left c.in-Some-place.text.items (told_text c.try_place.ensures c.in_ok-place.was c.in-Some-place.is)))

pub returns-then-left-eq0 : goal.returns-then-left-eq0
returns-then-left-eq0 g c = numbered c.args.id c.in-Some.number (sym c.inode.ensures ∙ c.in-Some.is)
    (ends_so {p = tries_all (kept_of c.args.self.now) c.args.id c.in-Some.number} c.loop-place.invariant (none_left c.args.id c.in-Some.number c.loop-place.left _ c.if-left-eq0.true (told_none c.try_place.ensures c.in_ok-place.was c.in_default.not-Some)))

pub loop-place-preserved : goal.loop-place-preserved
loop-place-preserved g c =
    let more : c.loop-place.left ≡ suc (c.loop-place.left - 1) = omega arith in
    next_tried {p = tries_all (kept_of c.args.self.now) c.args.id c.in-Some.number} c.args.id c.in-Some.number c.loop-place.left (c.loop-place.left - 1) c.loop-place.invariant more (told_none c.try_place.ensures c.in_ok-place.was c.in_default.not-Some)
