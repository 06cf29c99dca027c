use Rattle.std.proofs.Common.{[], ◌++◌, sym, ap, ◌∙◌}
use Rattle.std.specs.List.{slice_split}
use Rattle.std.specs.Option.{option_to_list}
use Rattle.sn_caller_groups.specs.Status.{is_line_end, lists_in}
use Rattle.sn_caller_groups.proofs.Parts.{first_line, last_line}
use Rattle.sn_caller_groups.proofs.status.first_list.Goals as goal

pub returns-in-Some-list_in-clause-found : goal.returns-in-Some-list_in-clause-found
returns-in-Some-list_in-clause-found c =
    let others = c.in-Some.others.now in
    c.loop-line.invariant ∙ first_line c.loop-line.rest.now c.in-Some.line.now others c.in-Some.ensures.found c.in-Some.ensures.first
    ∙ ap (λ list. option_to_list list ++ lists_in (slice_split is_line_end others)) (sym c.in-Some-list_in.ensures)

pub loop-line-preserved : goal.loop-line-preserved
loop-line-preserved c =
    let others = c.in-Some.others.now in
    c.loop-line.invariant ∙ first_line c.loop-line.rest.now c.in-Some.line.now others c.in-Some.ensures.found c.in-Some.ensures.first
    ∙ ap (λ list. option_to_list list ++ lists_in (slice_split is_line_end others)) (sym c.in_default-list_in.ensures)

pub returns-in_err-list-clause-none : goal.returns-in_err-list-clause-none
returns-in_err-list-clause-none c = λ _. c.loop-line.invariant ∙ last_line c.loop-line.rest.now c.in_default.ensures.none ∙ ap (λ list. option_to_list list ++ []) (sym c.in_err-list.ensures)

pub returns-clause-found : goal.returns-clause-found
returns-clause-found c = c.loop-line.invariant ∙ last_line c.loop-line.rest.now c.in_default.ensures.none ∙ ap (λ list. option_to_list list ++ []) (sym c.in_ok-list.ensures)
