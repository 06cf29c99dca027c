use Rattle.std.proofs.Common.{◌++◌, List, Err, map, ap, ◌∙◌}
use Rattle.sn_layout_node.specs.Directory.{Link}
use Rattle.sn_dir.specs.Listed.{link_of}
use Rattle.sn_dir.proofs.BlockLemmas.{names_read, can_read, unfetched, misspelt}
use Rattle.sn_dir.proofs.listings.push_names.Goals as goal

pub returns-in_err-number-clause-damaged : goal.returns-in_err-number-clause-damaged
returns-in_err-number-clause-damaged g c told block is =
    unfetched _ _ c.args.tree.now c.args.i _ _ c.from_residual.ensures.1 is (λ at fault. c.in_err-number.ensures.damaged told at (ap (λ f. Err f) fault))

pub returns-in_err-block-clause-damaged : goal.returns-in_err-block-clause-damaged
returns-in_err-block-clause-damaged g c told block is =
    misspelt _ _ c.args.tree.now c.args.i _ _ c.from_residual-in_err-block.ensures.1 is c.fetched.result.now (c.fetched.ensures.value ∙ c.in_ok-number.ensures.block told) c.in_ok-number.number (c.in_ok-number.ensures.number told) c.in_err-block.ensures.damaged

pub returns-clause-names : goal.returns-clause-names
returns-clause-names g c told =
    c.in_ok-push_entries.ensures
    ∙ ap (λ (links : List Link). map link_of c.args.names.now.items ++ links)
    (names_read c.fetched.result.now _ c.in_ok-block.block (c.fetched.ensures.value ∙ c.in_ok-number.ensures.block told) c.in_ok-block.ensures.spelled)

pub returns-clause-read : goal.returns-clause-read
returns-clause-read g c told =
    can_read _ _ c.args.tree.now c.args.i c.fetched.result.now (c.fetched.ensures.value ∙ c.in_ok-number.ensures.block told) c.in_ok-block.block (c.in_ok-number.ensures.there told) c.in_ok-block.ensures.spelled
