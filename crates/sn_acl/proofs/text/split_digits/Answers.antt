use Rattle.std.proofs.Common.{ap, drop, take, ◌∙◌}
use Rattle.std.specs.Char.{is_ascii_digit}
use Rattle.sn_acl.proofs.Reading.{length-take_while-le, take-take_while}
use Rattle.sn_acl.proofs.text.split_digits.Goals as goal

pub split_at-requires : goal.split_at-requires
split_at-requires c = rw c.count_digits.ensures (length-take_while-le is_ascii_digit c.args.text.now)

pub returns-clause-digits : goal.returns-clause-digits
returns-clause-digits c =
    c.split_at.ensures.front ∙ (ap (λ n. take n c.args.text.now) c.count_digits.ensures ∙ take-take_while is_ascii_digit c.args.text.now)

pub returns-clause-rest : goal.returns-clause-rest
returns-clause-rest c = c.split_at.ensures.back ∙ ap (λ n. drop n c.args.text.now) c.count_digits.ensures
