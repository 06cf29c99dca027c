use Rattle.std.proofs.Common.{◌∙◌, sym}
use Rattle.sn_plan.proofs.Following.{after_given, and_then, fails_given, passed_on, stops}
use Rattle.sn_serve_names.specs.Messages.{rename}
use Rattle.sn_serve_names.proofs.moving.rename.Goals as goal

pub returns-in_err-keeps : goal.returns-in_err-keeps
unfolding rename
returns-in_err-keeps g c = passed_on c.from_residual.result c.in_err-keeps.field-0.0 c.from_residual.ensures.1 (fails_given _ (sym c.keeps_target.ensures ∙ c.in_err-keeps.was))

pub returns-in_err-old : goal.returns-in_err-old
unfolding rename
returns-in_err-old g c = after_given _ (sym c.keeps_target.ensures ∙ c.in_ok-keeps.was)
    (stops _ c.from_residual-in_err-old.result c.from_residual-in_err-old.ensures.1 c.child_of.ensures c.in_err-old.was)

pub returns-in_err-new : goal.returns-in_err-new
unfolding rename
returns-in_err-new g c = after_given _ (sym c.keeps_target.ensures ∙ c.in_ok-keeps.was)
    (and_then _ c.child_of.ensures c.in_ok-old.was
    (stops _ c.from_residual-in_err-new.result c.from_residual-in_err-new.ensures.1 c.child_of-2.ensures c.in_err-new.was))

pub returns-in_err-spare : goal.returns-in_err-spare
unfolding rename
returns-in_err-spare g c = after_given _ (sym c.keeps_target.ensures ∙ c.in_ok-keeps.was)
    (and_then _ c.child_of.ensures c.in_ok-old.was
    (and_then _ c.child_of-2.ensures c.in_ok-new.was
    (stops _ c.from_residual-in_err-spare.result c.from_residual-in_err-spare.ensures.1 c.spare.ensures c.in_err-spare.was)))

pub returns-in_err-rename_child : goal.returns-in_err-rename_child
unfolding rename
returns-in_err-rename_child g c = after_given _ (sym c.keeps_target.ensures ∙ c.in_ok-keeps.was)
    (and_then _ c.child_of.ensures c.in_ok-old.was
    (and_then _ c.child_of-2.ensures c.in_ok-new.was
    (and_then _ c.spare.ensures c.in_ok-spare.was
    (stops _ c.from_residual-in_err-rename_child.result c.from_residual-in_err-rename_child.ensures.1 c.rename_child.ensures c.in_err-rename_child.was))))

pub returns : goal.returns
unfolding rename
returns g c = after_given _ (sym c.keeps_target.ensures ∙ c.in_ok-keeps.was)
    (and_then _ c.child_of.ensures c.in_ok-old.was
    (and_then _ c.child_of-2.ensures c.in_ok-new.was
    (and_then _ c.spare.ensures c.in_ok-spare.was
    (and_then _ c.rename_child.ensures c.in_ok-rename_child.was c.renamed.ensures))))
