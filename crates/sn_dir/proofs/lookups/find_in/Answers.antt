use Rattle.std.proofs.Common.{List, Err, ap, ◌∙◌}
use Rattle.sn_layout_node.specs.Directory.{Link, number_of}
use Rattle.sn_dir.proofs.BlockLemmas.{names_read, can_read, unfetched, misspelt}
use Rattle.sn_dir.proofs.lookups.find_in.Goals as goal

pub returns-in_err-number-clause-damaged : goal.returns-in_err-number-clause-damaged
returns-in_err-number-clause-damaged g c told block is =
    unfetched _ _ c.args.tree.now c.args.i _ _ c.from_residual.ensures.1 is (λ at fault. c.in_err-number.ensures.damaged told at (ap (λ f. Err f) fault))

pub returns-in_err-names-clause-damaged : goal.returns-in_err-names-clause-damaged
returns-in_err-names-clause-damaged g c told block is =
    misspelt _ _ c.args.tree.now c.args.i _ _ c.from_residual-in_err-names.ensures.1 is c.fetched.result.now (c.fetched.ensures.value ∙ c.note_names.ensures.bytes ∙ c.in_ok-number.ensures.block told) c.in_ok-number.number (c.in_ok-number.ensures.number told) c.in_err-names.ensures.damaged

pub returns-clause-number : goal.returns-clause-number
returns-clause-number g c told =
    c.find.ensures
    ∙ ap (λ (links : List Link). number_of c.args.name.now links)
    (names_read c.fetched.result.now _ c.in_ok-names.names (c.fetched.ensures.value ∙ c.note_names.ensures.bytes ∙ c.in_ok-number.ensures.block told) c.in_ok-names.ensures.spelled)

pub returns-clause-read : goal.returns-clause-read
returns-clause-read g c told =
    can_read _ _ c.args.tree.now c.args.i c.fetched.result.now (c.fetched.ensures.value ∙ c.note_names.ensures.bytes ∙ c.in_ok-number.ensures.block told) c.in_ok-names.names (c.in_ok-number.ensures.there told) c.in_ok-names.ensures.spelled
