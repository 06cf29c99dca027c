use Rattle.std.proofs.Common.{ℕ, ap}
use Rattle.sn_model.specs.declared.call.Call.TheVariants.{Ftruncate}
use Rattle.sn_plan.specs.Asking.{calls}
use Rattle.sn_plan.proofs.Following.{after, does_same, gives_as}
use Rattle.sn_serve_files.specs.Messages.{size_of_open}
use Rattle.sn_serve_files.proofs.sizing.size_of_open.Goals as goal

pub returns : goal.returns
unfolding size_of_open
returns g c = after _ (does_same (ap (λ (s : ℕ). calls s (Ftruncate c.args.file.descriptor c.args.size)) c.session_of.ensures) c.call-reply.ensures) (gives_as c.done.ensures)
