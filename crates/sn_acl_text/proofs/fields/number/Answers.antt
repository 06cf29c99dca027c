use Rattle.std.proofs.Common.{sym, ◌∙◌, arith}
use Rattle.sn_acl_text.proofs.Numbers.{number_is, as_tried}
use Rattle.sn_acl_text.proofs.fields.number.Goals as goal

pub returns : goal.returns
returns c =
    c.ok.ensures.value ∙ as_tried c.try_from.result c.in_ok-number.number c.try_from.ensures
    ∙ sym (number_is c.args.digits.now c.in_ok-number.number (omega arith) c.in_ok-number.ensures.found)
