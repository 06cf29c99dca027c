use Rattle.std.proofs.Common.{sym, ap, refl, subst, ◌∙◌}
use Rattle.std.specs.Cmp.Lexicographic.{bytes_decides}
use Rattle.std.proofs.lemmas.Bool.{true≢false}
use Rattle.sn_acl.specs.AccessList.{IsValid}
use Rattle.sn_acl.specs.Text.{acl_text}
use Rattle.sn_acl.proofs.Spelling.{spelled, spells-none}
use Rattle.sn_acl.proofs.list.Acl.parse.Goals as goal

pub returns-in_err-read_entries : goal.returns-in_err-read_entries
returns-in_err-read_entries c = c.from_residual.ensures ∙ spells-none c.args.text.now (λ es valid is. c.in_err-read_entries.ensures es valid is)

pub returns-in_err-acl : goal.returns-in_err-acl
returns-in_err-acl c =
    c.from_residual-in_err-acl.ensures ∙ spells-none c.args.text.now (λ es valid is.
    c.in_err-acl.ensures.refused refl (subst IsValid (sym (c.as_slice.ensures.value ∙ c.in_ok-read_entries.ensures es valid is)) valid))

pub returns-then-eq : goal.returns-then-eq
returns-then-eq c =
    let same = (bytes_decides c.as_bytes.result.now c.args.text.now).0 (sym c.eq.ensures ∙ c.if-eq.true) in
    sym (spelled c.args.text.now c.in_ok-acl.acl
    (subst IsValid (sym c.in_ok-acl.ensures.found.0) c.in_ok-acl.ensures.found.1)
    (sym same ∙ c.as_bytes.ensures.value ∙ c.as_str.ensures.value ∙ c.print.ensures))

pub returns-else-eq : goal.returns-else-eq
returns-else-eq c =
    spells-none c.args.text.now (λ es valid is.
    let acl = c.in_ok-acl.ensures.found.0 ∙ c.as_slice.ensures.value ∙ c.in_ok-read_entries.ensures es valid is in
    let same = c.as_bytes.ensures.value ∙ c.as_str.ensures.value ∙ c.print.ensures ∙ ap acl_text acl ∙ sym is in
    true≢false (sym ((bytes_decides c.as_bytes.result.now c.args.text.now).1 same) ∙ sym c.eq.ensures ∙ c.if-eq.false))
