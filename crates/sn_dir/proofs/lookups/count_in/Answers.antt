use Rattle.std.proofs.Common.{List, Err, length, ap, ◌∙◌, arith}
use Rattle.sn_layout_node.specs.Directory.{Link}
use Rattle.sn_dir.proofs.BlockLemmas.{names_read, few_names, can_read, unfetched, misspelt}
use Rattle.sn_dir.proofs.lookups.count_in.Goals as goal

pub returns-in_err-number-clause-damaged : goal.returns-in_err-number-clause-damaged
returns-in_err-number-clause-damaged g c told block is =
    unfetched _ _ c.args.tree.now c.args.i _ _ c.from_residual.ensures.1 is (λ at fault. c.in_err-number.ensures.damaged told at (ap (λ f. Err f) fault))

pub returns-in_err-names-clause-damaged : goal.returns-in_err-names-clause-damaged
returns-in_err-names-clause-damaged g c told block is =
    misspelt _ _ c.args.tree.now c.args.i _ _ c.from_residual-in_err-names.ensures.1 is c.fetched.result.now (c.fetched.ensures.value ∙ c.in_ok-number.ensures.block told) c.in_ok-number.number (c.in_ok-number.ensures.number told) c.in_err-names.ensures.damaged

pub returns-clause-count : goal.returns-clause-count
returns-clause-count g c told =
    c.len.ensures
    ∙ ap (λ (links : List Link). length links)
    (names_read c.fetched.result.now _ c.in_ok-names.names (c.fetched.ensures.value ∙ c.in_ok-number.ensures.block told) c.in_ok-names.ensures.spelled)

pub returns-clause-few : goal.returns-clause-few
returns-clause-few g c = omega (arith, c.len.ensures, few_names c.in_ok-names.names, c.in_ok-names.ensures.spelled.fit.room)

pub returns-clause-read : goal.returns-clause-read
returns-clause-read g c told =
    can_read _ _ c.args.tree.now c.args.i c.fetched.result.now (c.fetched.ensures.value ∙ c.in_ok-number.ensures.block told) c.in_ok-names.names (c.in_ok-number.ensures.there told) c.in_ok-names.ensures.spelled
