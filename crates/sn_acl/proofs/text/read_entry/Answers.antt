use Rattle.std.proofs.Common.{◌≡◌, ap, drop, get_or, refl, ◌∙◌}
use Rattle.sn_acl.proofs.Reading.{digits-read, rest-read, entry-numbers}
use Rattle.sn_acl.proofs.text.read_entry.Goals as goal

pub returns-in_err-tag-clause-only : goal.returns-in_err-tag-clause-only
returns-in_err-tag-clause-only c = λ e more fits is.
    let numbers = entry-numbers e fits in
    let digits = digits-read e.tag e.permissions more c.split_at.result.1.now c.split_digits.result.0.now numbers.1 (c.split_at.ensures.back ∙ ap (drop 2) is) c.split_digits.ensures.digits in
    let tag = c.read_tag.ensures e.tag numbers.1 (ap (λ t. get_or t 0 0) is) digits in
    absurd (cc (tag, c.in_err-tag.was))

pub returns-in_err-permissions-clause-only : goal.returns-in_err-permissions-clause-only
returns-in_err-permissions-clause-only c = λ e more fits is.
    let numbers = entry-numbers e fits in
    let rest = rest-read e.tag e.permissions more c.split_at.result.1.now c.split_digits.result.1.now numbers.1 (c.split_at.ensures.back ∙ ap (drop 2) is) c.split_digits.ensures.rest in
    let told = c.read_permissions.ensures.only e.permissions more numbers.0 rest in
    absurd (cc (told, c.in_err-permissions.was))

pub returns-clause-only : goal.returns-clause-only
returns-clause-only c = λ e more fits is.
    let numbers = entry-numbers e fits in
    let tail = c.split_at.ensures.back ∙ ap (drop 2) is in
    let digits = digits-read e.tag e.permissions more c.split_at.result.1.now c.split_digits.result.0.now numbers.1 tail c.split_digits.ensures.digits in
    let rest = rest-read e.tag e.permissions more c.split_at.result.1.now c.split_digits.result.1.now numbers.1 tail c.split_digits.ensures.rest in
    let told = c.read_tag.ensures e.tag numbers.1 (ap (λ t. get_or t 0 0) is) digits in
    let held = c.read_permissions.ensures.only e.permissions more numbers.0 rest in
    let tag : c.in_ok-tag.tag ≡ e.tag = cc (told, c.in_ok-tag.was) in
    let permissions : c.in_ok-permissions.permissions ≡ e.permissions = cc (held, c.in_ok-permissions.was) in
    (rw (tag, permissions) refl, c.split_at-2.ensures.back ∙ ap (drop 4) rest)
