use Rattle.std.proofs.Common.{◌∙◌, ap, sym}
use Rattle.sn_plan.specs.Asking.{login_by}
use Rattle.sn_plan.proofs.Following.{does_same, knows_it}
use Rattle.sn_serve_setattr.specs.Messages.{new_size, size_by}
use Rattle.sn_serve_setattr.proofs.setting.new_size.Goals as goal

pub returns-in-Some : goal.returns-in-Some
unfolding new_size
returns-in-Some g c = knows_it (does_same (ap (size_by (login_by c.args.asker.now) c.args.node c.args.new.now) (sym (sym c.file_of.ensures.file ∙ c.in-Some.is))) c.size_of_open.ensures)

pub returns-in-None : goal.returns-in-None
unfolding new_size
returns-in-None g c = knows_it (does_same (ap (size_by (login_by c.args.asker.now) c.args.node c.args.new.now) (sym (sym c.file_of.ensures.file ∙ c.in-None.is))) c.size_of_node.ensures)
