use Rattle.std.proofs.Common.{◌≡◌, ◌<◌, ℕ, true, is_some}
use Rattle.std.specs.FinMap as map
use Rattle.sn_desc.specs.Sessions.{in_use_of}
use Rattle.sn_desc.proofs.sessions.Sessions.next_descriptor.Given as goal

-- all so far are open
abbrev pub invariant-loop-fd : goal.invariant-loop-fd
invariant-loop-fd l = (k : ℕ) → k < l.fd → is_some (map.get (in_use_of l.self).descriptors (l.session, k)) ≡ true
