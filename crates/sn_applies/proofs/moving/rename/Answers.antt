use Rattle.std.proofs.Common.{sym, ◌∙◌}
use Rattle.sn_model.specs.Tree.{link_to}
use Rattle.sn_applies.proofs.MoveLemmas.{renamed_none, renamed_later}
use Rattle.sn_applies.proofs.moving.rename.Goals as goal

pub returns-in_default-clause-found : goal.returns-in_default-clause-found
returns-in_default-clause-found g c told h =
    renamed_none c.args.limits.now (g.T.Below.shows c.args.tree.now) (link_to c.args.from c.args.old_name.now) (link_to c.args.to c.args.new_name.now) (sym (c.in_ok-number.ensures.found told) ∙ c.in_default.is)

pub returns-clause-found : goal.returns-clause-found
returns-clause-found g c told h =
    renamed_later c.args.limits.now _ _ c.args.from c.in-Some.number c.args.old_name.now (link_to c.args.to c.args.new_name.now) c.move_number.result (c.in_ok-number.ensures.left.2 told) h (sym (c.in_ok-number.ensures.found told) ∙ c.in-Some.is) (c.move_number.ensures.found told)
