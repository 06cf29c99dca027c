use Rattle.std.proofs.Common.{◌∙◌, append_assoc}
use Rattle.sn_script.proofs.Printed.{on_ok}
use Rattle.sn_script.proofs.printing.push_status.Goals as goal

pub returns : goal.returns
returns c = on_ok c.writeln.result (λ e. let kind = c.kind_name-kind.ensures in let one = c.in_ok-write.ensures.bytes in let two = c.in_ok-push_octal.ensures in let mode = c.status_mode.ensures.value in
    e ∙ rw (two, one, mode, kind) (simp append_assoc)) c.writeln.ensures.bytes
