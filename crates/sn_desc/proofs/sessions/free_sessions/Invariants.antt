use Rattle.std.proofs.Common.{◌≡◌, None, replicate}
use Rattle.sn_desc.proofs.sessions.free_sessions.Given as goal

abbrev pub invariant-loop-session : goal.invariant-loop-session
invariant-loop-session l = l.sessions.items ≡ replicate l._session None
