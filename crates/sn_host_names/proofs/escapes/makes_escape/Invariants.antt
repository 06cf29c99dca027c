use Rattle.std.proofs.Common.{◌≡◌, length}
use Rattle.sn_host_names.specs.Escapes.{makes_escape}
use Rattle.sn_host_names.proofs.escapes.makes_escape.Given as goal

abbrev pub invariant-loop-rest : goal.invariant-loop-rest
invariant-loop-rest l = makes_escape l.bytes ≡ makes_escape l.rest

abbrev pub decreases-loop-rest : goal.decreases-loop-rest
decreases-loop-rest l = length l.rest
