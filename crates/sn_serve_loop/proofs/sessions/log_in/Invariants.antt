use Rattle.std.proofs.Common.{List}
use Rattle.sn_plan.specs.Acts.{Act, Grows}
use Rattle.sn_serve_loop.specs.Sessions.{LogIn}
use Rattle.sn_serve_loop.proofs.sessions.log_in.Given as goal

-- so many logins were made
abbrev pub invariant-loop-block : goal.invariant-loop-block
invariant-loop-block g l = (acts : List Act) × LogIn l.block acts × Grows (g.F.FileSystem.did l.fn.file_system) (g.F.FileSystem.did l.file_system) acts
