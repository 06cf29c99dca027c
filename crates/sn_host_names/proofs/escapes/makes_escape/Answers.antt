use Rattle.std.proofs.Common.{sym, ◌∙◌, arith}
use Rattle.sn_host_names.proofs.ImageNames.{makes_escape_ends}
use Rattle.sn_host_names.proofs.escapes.makes_escape.Goals as goal
use Rattle.sn_host_names.proofs.escapes.makes_escape.Goals.{in_default, in_default-2, in_default-3}

pub returns-in-len2-up : goal.returns-in-len2-up
returns-in-len2-up c =
    c.are_digits.ensures ∙ sym (c.loop-rest.invariant ∙ makes_escape_ends c.loop-rest.rest.now (omega arith) (λ two five.
    elim c.if-rest-lt2.branch [
      | in_default w ↦ omega arith
      | in_default-2 w ↦ omega arith
      | in_default-3 w ↦ omega arith
    ]))
