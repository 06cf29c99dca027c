use Rattle.std.proofs.Common.{◌++◌, ap, ◌∙◌}
use Rattle.sn_script.proofs.Printed.{on_ok, four_digits}
use Rattle.sn_script.proofs.printing.push_octal.Goals as goal

pub returns : goal.returns
returns c = on_ok c.write.result (λ e. e ∙ ap (λ t. c.args.text.now.items ++ t) (four_digits c.args.number c.requires)) c.write.ensures.bytes
