use Rattle.std.proofs.Common.{List, [], sym, ap, ◌∙◌, rules}
use Rattle.std.specs.List.{slice_split}
use Rattle.sn_acl_text.specs.declared.entries.TextEntry.{TextEntry}
use Rattle.sn_acl_text.specs.Reading.{is_separator, said, onto, entries_said}
use Rattle.sn_acl_text.proofs.Words.{nothing_yet, all_taken}
use Rattle.sn_acl_text.proofs.reading.parse_entries.Goals as goal

pub loop-word-init : goal.loop-word-init
loop-word-init c = nothing_yet (said c.args.text.now) ∙ ap (λ (items : List TextEntry). onto items (said c.args.text.now)) (sym c.new-entries.ensures)

pub loop-word-preserved : goal.loop-word-preserved
loop-word-preserved c =
    c.loop-word.invariant ∙ ap (λ words. onto c.loop-word.entries.items (entries_said words)) c.in-Some.ensures.found
    ∙ c.if-not-push_word.ensures.taken (search rules) (slice_split is_separator c.in-Some.more.now)

pub returns-then-push_word-clause-found : goal.returns-then-push_word-clause-found
returns-then-push_word-clause-found c =
    c.loop-word.invariant ∙ ap (λ words. onto c.loop-word.entries.items (entries_said words)) (c.in_default.ensures.last (search rules))
    ∙ c.if-push_word.ensures.taken (search rules) [] ∙ all_taken c.push_word-2.new.entries.items

pub returns-else-push_word-clause-none : goal.returns-else-push_word-clause-none
returns-else-push_word-clause-none c = λ _ all is.
    c.if-push_word.ensures.refused (search rules) [] all
    (sym (c.loop-word.invariant ∙ ap (λ words. onto c.loop-word.entries.items (entries_said words)) (c.in_default.ensures.last (search rules))) ∙ is)
