use Rattle.std.proofs.Common.{ap, ◌∙◌}
use Rattle.std.specs.Prelude.{ok_or}
use Rattle.sn_fuse_replies.specs.declared.errno.Errno.TheVariants.{ENFILE}
use Rattle.sn_plan.proofs.Following.{gives_as, knows_it}
use Rattle.sn_plan.specs.Handles.{vacant}
use Rattle.sn_plan.proofs.server.Server.vacant.Goals as goal

pub returns-clause-does : goal.returns-clause-does
unfolding vacant
returns-clause-does g c = knows_it (gives_as (c.ok_or.ensures.value ∙ ap (λ x. ok_or x ENFILE) c.vacant.ensures.first))
