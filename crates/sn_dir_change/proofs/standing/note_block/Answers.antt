use Rattle.std.proofs.Common.{List, Err, map, sym, ap, ◌∙◌}
use Rattle.sn_layout_node.specs.Directory.{Link}
use Rattle.sn_dir.proofs.BlockLemmas.{names_read, unfetched, misspelt}
use Rattle.sn_dir_change.specs.Standing.{change_of, seen_too}
use Rattle.sn_dir_change.specs.declared.standing.Sought.{Sought}
use Rattle.sn_dir_change.proofs.StandingLemmas.{seen-all, listed-too}
use Rattle.sn_dir_change.proofs.standing.note_block.Goals as goal

pub returns-then-all_stand-clause-sought : goal.returns-then-all_stand-clause-sought
returns-then-all_stand-clause-sought g c = λ told. sym (seen-all _ _ (c.all_stand.ensures.0 c.if-all_stand.true))

pub returns-in_err-number-clause-damaged : goal.returns-in_err-number-clause-damaged
returns-in_err-number-clause-damaged g c told block is =
    unfetched _ _ c.args.tree.now c.args.i _ _ c.from_residual.ensures.1 is (λ at fault. c.in_err-number.ensures.damaged told at (ap (λ f. Err f) fault))

pub returns-in_err-names-clause-damaged : goal.returns-in_err-names-clause-damaged
returns-in_err-names-clause-damaged g c told block is =
    misspelt _ _ c.args.tree.now c.args.i _ _ c.from_residual-in_err-names.ensures.1 is c.fetched.result.now (c.fetched.ensures.value ∙ c.in_ok-number.ensures.block told) c.in_ok-number.number (c.in_ok-number.ensures.number told) c.in_err-names.ensures.damaged

pub returns-clause-sought : goal.returns-clause-sought
returns-clause-sought g c = λ told.
    c.note_names.ensures
    ∙ ap (λ (links : List Link). map (seen_too links) c.args.list.now)
    (names_read c.fetched.result.now _ c.in_ok-names.names (c.fetched.ensures.value ∙ c.in_ok-number.ensures.block told) c.in_ok-names.ensures.spelled)

pub returns-clause-listed : goal.returns-clause-listed
returns-clause-listed g c = ap (λ (xs : List Sought). map change_of xs) c.note_names.ensures ∙ listed-too c.in_ok-names.names c.args.list.now
