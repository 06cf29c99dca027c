use Rattle.std.proofs.Common.{◌∙◌, sym, ap, subst, arith, length, List, ◌++◌, append_assoc, Option, Result, Ok}
use Rattle.std.proofs.lemmas.Result.{err_from_is_err_and}
use Rattle.sn_walk.specs.Gives.{Fails}
use Rattle.sn_walk.specs.LookUps.{LookUp, looks_from, looks_in}
use Rattle.sn_walk.specs.Walks.{walk_from}
use Rattle.sn_walk.specs.declared.object.Object.{Object}
use Rattle.sn_walk.specs.declared.walking.WalkRefusal.{WalkRefusal}
use Rattle.sn_walk.specs.declared.walking.Walked.{Walked}
use Rattle.sn_walk.proofs.WalkLemmas.{ends_at, walk-fails, walk-missing, walk-on, walk-last}
use Rattle.sn_walk.proofs.LookUpLemmas.{looks-end, looks-last, looks-missing, looks-on, looks-stop}
use Rattle.sn_walk.proofs.walking.walk.Goals as goal

pub returns-in_err-child-clause-exact : goal.returns-in_err-child-clause-exact
returns-in_err-child-clause-exact g c told =
    let p = err_from_is_err_and c.from_residual.result c.from_residual.ensures.1 in
    let same = c.loop-next.invariant.same told in
    let here = rw same at c.in_err-child.ensures.exact told in
    rw (p.1, p.2) (subst (λ (w : Result Walked WalkRefusal). Fails c.in_err-child.field-0.0 w) (c.loop-next.invariant.rest told) (walk-fails _ _ _ _ _ c.loop-next.rest c.in_err-child.field-0.0 here))

pub returns-in_default-2-clause-exact : goal.returns-in_default-2-clause-exact
returns-in_default-2-clause-exact g c told =
    let same = c.loop-next.invariant.same told in
    let here = rw same at c.in_ok-child.ensures.exact told in
    sym (c.loop-next.invariant.rest told) ∙ ap (walk_from _ _ _ _ _) c.in-Some-split_first.ensures.names ∙ walk-missing _ _ _ _ _ _ _ (here ∙ ap (λ (o : Option Object). Ok o) c.in_default-2.is)

pub loop-next-preserved : goal.loop-next-preserved
loop-next-preserved g c = record {
  kept = c.pass.ensures.left.0;
  follows = g.met.T.TreeView.follows_on _ _ _ c.loop-next.invariant.follows c.pass.ensures.left.1;
  same = λ told. c.pass.ensures.left.2 told ∙ c.loop-next.invariant.same told;
  rest = λ told.
      let same = c.loop-next.invariant.same told in
      let here = rw same at c.in_ok-child.ensures.exact told in
      sym (walk-on _ _ _ _ _ _ _ _ (here ∙ ap (λ (o : Option Object). Ok o) c.in-Some-2.is)) ∙ ap (walk_from _ _ _ _ _) (sym c.in-Some-split_first.ensures.names) ∙ c.loop-next.invariant.rest told;
  looked_up = λ told.
      let same = c.loop-next.invariant.same told in
      let here = rw same at c.in_ok-child.ensures.exact told in
      let made = rw same at c.in_ok-child.ensures.looked_up told in
      let before = c.loop-next.invariant.looked_up told in (
        before.0 ++ looks_in (g.T.TreeView.shows c.args.view.now) c.args.cred.now c.loop-next.place c.loop-next.directory c.loop-next.name.now,
        before.1 ∙ ap (λ (l : List LookUp). before.0 ++ l) (ap (looks_from _ _ _ _ _) c.in-Some-split_first.ensures.names ∙ looks-on _ _ _ _ _ _ _ _ (here ∙ ap (λ (o : Option Object). Ok o) c.in-Some-2.is)) ∙ sym (append_assoc before.0 _ _),
        g.met.T.TreeView.looked_up_more _ _ _ _ _ before.2 made,
      );
  short = omega (arith, c.loop-next.invariant.short, ap length c.in-Some-split_first.ensures.names);
}

pub returns-in_err-object-clause-exact : goal.returns-in_err-object-clause-exact
returns-in_err-object-clause-exact g c told =
    let p = err_from_is_err_and c.from_residual-in_err-object.result c.from_residual-in_err-object.ensures.1 in
    let same = c.loop-next.invariant.same told in
    let here = rw same at c.in_err-object.ensures.exact told in
    rw (p.1, p.2) (subst (λ (w : Result Walked WalkRefusal). Fails c.in_err-object.field-0.0 w) (c.loop-next.invariant.rest told) (walk-fails _ _ _ _ _ c.loop-next.rest c.in_err-object.field-0.0 here))

pub returns-clause-exact : goal.returns-clause-exact
returns-clause-exact g c told =
    let same = c.loop-next.invariant.same told in
    let here = rw same at c.in_ok-object.ensures.exact told in
    sym (c.loop-next.invariant.rest told) ∙ ap (walk_from _ _ _ _ _) c.in_default-split_first.ensures.names ∙ walk-last _ _ _ _ _ _ here

pub returns-clause-ends : goal.returns-clause-ends
returns-clause-ends g c told =
    let same = c.loop-next.invariant.same told in
    let here = rw same at c.in_ok-object.ensures.exact told in
    ends_at _ c.args.cred.now _ _ (sym (c.loop-next.invariant.rest told) ∙ ap (walk_from _ _ _ _ _) c.in_default-split_first.ensures.names ∙ walk-last _ _ _ _ _ _ here)

pub returns-in_err-child-clause-looked_up : goal.returns-in_err-child-clause-looked_up
returns-in_err-child-clause-looked_up g c told =
    let p = err_from_is_err_and c.from_residual.result c.from_residual.ensures.1 in
    let same = c.loop-next.invariant.same told in
    let here = rw same at c.in_err-child.ensures.exact told in
    let made = rw same at c.in_err-child.ensures.looked_up told in
    let before = c.loop-next.invariant.looked_up told in
    rw (p.1, p.2) (looks-stop (λ l. g.T.TreeView.looked_up l c.args.view.now c.pass.new.view) (λ l. g.T.TreeView.looked_up l c.loop-next.view c.pass.new.view) _ _ _ _ _ _ c.in_err-child.field-0.0 _ before.0 before.1 here made (λ more after. g.met.T.TreeView.looked_up_more _ _ _ _ _ before.2 after))

pub returns-in_default-2-clause-looked_up : goal.returns-in_default-2-clause-looked_up
returns-in_default-2-clause-looked_up g c told =
    let same = c.loop-next.invariant.same told in
    let here = rw same at c.in_ok-child.ensures.exact told in
    let made = rw same at c.in_ok-child.ensures.looked_up told in
    let before = c.loop-next.invariant.looked_up told in
    looks-end (λ l. g.T.TreeView.looked_up l c.args.view.now c.pass.new.view) (λ l. g.T.TreeView.looked_up l c.loop-next.view c.pass.new.view) _ before.0 _ _ before.1
    (ap (looks_from _ _ _ _ _) c.in-Some-split_first.ensures.names ∙ looks-missing _ _ _ _ _ _ _ (here ∙ ap (λ (o : Option Object). Ok o) c.in_default-2.is))
    made (λ more after. g.met.T.TreeView.looked_up_more _ _ _ _ _ before.2 after)

pub returns-in_err-object-clause-looked_up : goal.returns-in_err-object-clause-looked_up
returns-in_err-object-clause-looked_up g c told =
    let p = err_from_is_err_and c.from_residual-in_err-object.result c.from_residual-in_err-object.ensures.1 in
    let same = c.loop-next.invariant.same told in
    let here = rw same at c.in_err-object.ensures.exact told in
    let made = rw same at c.in_err-object.ensures.looked_up told in
    let before = c.loop-next.invariant.looked_up told in
    rw (p.1, p.2) (looks-stop (λ l. g.T.TreeView.looked_up l c.args.view.now c.pass-2.new.view) (λ l. g.T.TreeView.looked_up l c.loop-next.view c.pass-2.new.view) _ _ _ _ _ _ c.in_err-object.field-0.0 _ before.0 before.1 here made (λ more after. g.met.T.TreeView.looked_up_more _ _ _ _ _ before.2 after))

pub returns-clause-looked_up : goal.returns-clause-looked_up
returns-clause-looked_up g c told =
    let same = c.loop-next.invariant.same told in
    let made = rw same at c.in_ok-object.ensures.looked_up told in
    let before = c.loop-next.invariant.looked_up told in
    looks-end (λ l. g.T.TreeView.looked_up l c.args.view.now c.pass-2.new.view) (λ l. g.T.TreeView.looked_up l c.loop-next.view c.pass-2.new.view) _ before.0 _ _ before.1
    (ap (looks_from _ _ _ _ _) c.in_default-split_first.ensures.names ∙ looks-last _ _ _ _ _)
    made (λ more after. g.met.T.TreeView.looked_up_more _ _ _ _ _ before.2 after)
