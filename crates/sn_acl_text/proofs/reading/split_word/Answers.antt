use Rattle.std.proofs.Common.{◌∷◌, ◌+◌, take, sym, ap, ◌∙◌}
use Rattle.std.specs.List.{slice_split}
use Rattle.std.proofs.lemmas.List.{take_rest}
use Rattle.sn_acl_text.specs.Reading.{is_separator}
use Rattle.sn_acl_text.proofs.Words.{word_first, word_alone}
use Rattle.sn_acl_text.proofs.reading.split_word.Goals as goal

pub returns-in_err-at-clause-last : goal.returns-in_err-at-clause-last
returns-in_err-at-clause-last c = λ _. word_alone c.args.text.now (sym c.place.ensures ∙ c.in_err-at.was)

pub returns-clause-found : goal.returns-clause-found
returns-clause-found c =
    let text = c.args.text.now in
    let at = c.in_ok-at.at in
    word_first text at (sym c.place.ensures ∙ c.in_ok-at.was) ∙ ap (λ rest. take at text ∷ slice_split is_separator rest) (sym (take_rest text (at + 1)))
