use Rattle.std.proofs.Common.{◌≡◌, ◌≤◌, ◌<◌, ℕ, None, get_or}
use Rattle.std.specs.FinMap as map
use Rattle.sn_desc.specs.Sessions.{in_use_of}
use Rattle.sn_desc.proofs.sessions.Sessions.clear.Given as goal

-- those so far are logged out
abbrev pub invariant-loop-session : goal.invariant-loop-session
invariant-loop-session l = record {
  out : (s : ℕ) → s < l.session → get_or (in_use_of l.self).sessions s None ≡ None;
  closed : (s fd : ℕ) → s < l.session → map.get (in_use_of l.self).descriptors (s, fd) ≡ None;
  room : (in_use_of l.fn.self).room ≤ (in_use_of l.self).room;
}
