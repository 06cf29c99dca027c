use Rattle.std.proofs.Common.{ap, sym, length, ◌∙◌}
use Rattle.std.specs.Prelude.{Some}
use Rattle.std.proofs.lemmas.Bool.{eqb-true}
use Rattle.sn_acl.proofs.Reading.{user-without, group-without}
use Rattle.sn_acl.proofs.text.read_tag.Goals as goal

pub returns-in-117-true : goal.returns-in-117-true
returns-in-117-true c = λ t fits kind digits.
    ap Some (user-without t fits (sym c.in-117-true.is-0 ∙ kind)
    (ap length (sym digits) ∙ eqb-true (length c.args.digits.now) 0 (sym c.in-117-true.ensures)))

pub returns-in-103-true : goal.returns-in-103-true
returns-in-103-true c = λ t fits kind digits.
    ap Some (group-without t fits (sym c.in-103-true.is-0 ∙ kind)
    (ap length (sym digits) ∙ eqb-true (length c.args.digits.now) 0 (sym c.in-103-true.ensures)))
