use Rattle.std.proofs.Common.{◌∙◌, sym, ap}
use Rattle.sn_walk.specs.Walks.{admitted}
use Rattle.sn_walk.proofs.LookUpLemmas.{looks-to-fault}
use Rattle.sn_walk.proofs.walking.pass.Goals as goal

pub returns-in-Err-child_of-clause-looked_up : goal.returns-in-Err-child_of-clause-looked_up
returns-in-Err-child_of-clause-looked_up g c told =
    let passes = ap (admitted c.args.cred.now c.args.place) (sym (c.in-Ok.ensures.found told)) ∙ sym c.admit.ensures ∙ c.in_ok-admit.was in
    looks-to-fault _ (g.T.TreeView.shows c.args.view.now) c.args.cred.now c.args.place c.args.directory.now c.args.name.now tt passes (g.met.T.TreeView.looked_up_more _ _ _ _ _ c.in-Ok.ensures.looked_up c.in-Err-child_of.ensures.looked_up)
