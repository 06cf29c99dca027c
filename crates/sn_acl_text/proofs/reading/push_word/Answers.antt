use Rattle.std.proofs.Common.{◌≡◌, length, sym, ap, ◌∙◌, false}
use Rattle.std.specs.Prelude.{◌==◌}
use Rattle.std.proofs.lemmas.Bool.{eqb-true}
use Rattle.sn_acl_text.specs.Reading.{uncommented, entry_said, entries_said, onto}
use Rattle.sn_acl_text.proofs.Words.{taken, full}
use Rattle.sn_acl_text.proofs.reading.push_word.Goals as goal

pub returns-then-is_full-clause-refused : goal.returns-then-is_full-clause-refused
returns-then-is_full-clause-refused c = λ _ words all whole.
    let word = c.args.word.now in
    let some : (length (uncommented word) == 0) ≡ false = ap (λ w. length w == 0) (sym c.uncommented-word.ensures) ∙ sym c.is_empty.ensures ∙ c.if-is_empty.false in
    let is = ap entry_said (sym c.uncommented-word.ensures) ∙ sym c.parse_entry.ensures ∙ c.in-Some.is in
    full c.args.entries.now.items word c.in-Some.entry words all some is (eqb-true _ 36 (sym c.if-is_full.ensures.value)) whole

pub returns-clause-taken : goal.returns-clause-taken
returns-clause-taken c = λ _ words.
    let word = c.args.word.now in
    let some : (length (uncommented word) == 0) ≡ false = ap (λ w. length w == 0) (sym c.uncommented-word.ensures) ∙ sym c.is_empty.ensures ∙ c.if-is_empty.false in
    let is = ap entry_said (sym c.uncommented-word.ensures) ∙ sym c.parse_entry.ensures ∙ c.in-Some.is in
    taken c.args.entries.now.items word c.in-Some.entry words some is ∙ ap (λ items. onto items (entries_said words)) (sym c.push.ensures.items)
