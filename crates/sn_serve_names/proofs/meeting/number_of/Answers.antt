use Rattle.std.proofs.Common.{ap, ◌∙◌}
use Rattle.std.specs.Prelude.{ok_or}
use Rattle.sn_fuse_replies.specs.declared.errno.Errno.TheVariants.{ESTALE}
use Rattle.sn_plan.proofs.Following.{gives_as, knows_it}
use Rattle.sn_serve_names.specs.Entries.{number_of}
use Rattle.sn_serve_names.proofs.meeting.number_of.Goals as goal

pub returns : goal.returns
unfolding number_of
returns g c = knows_it (gives_as (c.ok_or.ensures.value ∙ ap (λ x. ok_or x ESTALE) c.inode.ensures))
