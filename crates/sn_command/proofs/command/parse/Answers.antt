use Rattle.std.proofs.Common.{◌≡◌, ◌∙◌, ap, sym, false, true≢false, map, Some, []}
use Rattle.std.specs.List.{list_any}
use Rattle.std.proofs.lemmas.Result.{IfOk-weaker}
use Rattle.clap.specs.Faults.{fault_of, is_simple_and_free}
use Rattle.clap.specs.Matches.{found_of}
use Rattle.clap.specs.Simple.{is_simple, subcommand_of}
use Rattle.clap.specs.Walk.{rows_of}
use Rattle.clap.specs.declared.parser.matches.ArgMatches.TheViews.{out-ArgMatches}
use Rattle.clap.proofs.WalkLemmas.{list_any-map}
use Rattle.sn_command.specs.Commands.{snapfs}
use Rattle.sn_command.specs.Words.{is_misfit}
use Rattle.sn_command.proofs.AskLemmas.{found, found_at, memory_kind, reads_rows, reads_values, spelled, subcommand_is}
use Rattle.sn_command.proofs.NumberLemmas.{err_is}
use Rattle.sn_command.proofs.TopLemmas.{simple, simple_and_free}
use Rattle.sn_command.proofs.command.parse.Goals as goal

-- src/command.rt:55:9
pub returns-then-has_misfit-clause-known : goal.returns-then-has_misfit-clause-known
returns-then-has_misfit-clause-known g c = λ task asks. absurd (true≢false
    (sym c.if-has_misfit.true ∙ c.has_misfit.ensures ∙ list_any-map is_misfit g.S.AsStr.text c.args.words.now ∙ asks.0))

-- src/command.rt:57:19
pub returns-in_err-matches-clause-known : goal.returns-in_err-matches-clause-known
returns-in_err-matches-clause-known g c = λ task asks.
    let texts = map g.S.AsStr.text c.args.words.now in
    let app = c.in_ok-commands.ensures.app in
    let kinds = c.in_err-matches.ensures.kinds (ap is_simple_and_free app ∙ simple_and_free) in
    let faultless = ap (λ a. fault_of a texts) app ∙ (found texts task asks).faultless in
    err_is c.from_residual-in_err-matches.result _ _ c.from_residual-in_err-matches.ensures.1 (λ y p. p.1 (memory_kind _ c.in_err-matches.field-0.0 faultless kinds))

-- src/command.rt:53:1
pub returns-in-Some-clause-asked : goal.returns-in-Some-clause-asked
returns-in-Some-clause-asked g c =
    let texts = map g.S.AsStr.text c.args.words.now in
    let app = c.in_ok-commands.ensures.app in
    let fit : list_any is_misfit texts ≡ false = sym (list_any-map is_misfit g.S.AsStr.text c.args.words.now) ∙ sym c.has_misfit.ensures ∙ c.if-has_misfit.false in
    let faultless : fault_of snapfs texts ≡ [] = sym (ap (λ a. fault_of a texts) app) ∙ c.in_ok-matches.ensures.kinds (ap is_simple_and_free app ∙ simple_and_free) in
    let values = found_of c.in-Some.found.now in
    let met : subcommand_of snapfs texts ≡ Some (c.in-Some.name.now, rows_of values) = sym (ap (λ a. subcommand_of a texts) app)
    ∙ sym (c.in_ok-matches.ensures.matches (ap is_simple app ∙ simple)).1
    ∙ subcommand_is (out-ArgMatches c.in_ok-matches.matches).subcommand c.in-Some.name.now (rows_of values) c.in-Some.ensures.name c.in-Some.ensures.rows in
    IfOk-weaker c.task_of.result _ _ (λ t h. (
      fit,
      spelled texts fit faultless (c.in-Some.name.now, rows_of values) met t
          (reads_rows values c.in-Some.name.now t h),
    )) c.task_of.ensures.read

-- src/command.rt:53:1
pub returns-in-Some-clause-known : goal.returns-in-Some-clause-known
returns-in-Some-clause-known g c = λ task asks.
    let texts = map g.S.AsStr.text c.args.words.now in
    let app = c.in_ok-commands.ensures.app in
    let values = found_of c.in-Some.found.now in
    let met : subcommand_of snapfs texts ≡ Some (c.in-Some.name.now, rows_of values) = sym (ap (λ a. subcommand_of a texts) app)
    ∙ sym (c.in_ok-matches.ensures.matches (ap is_simple app ∙ simple)).1
    ∙ subcommand_is (out-ArgMatches c.in_ok-matches.matches).subcommand c.in-Some.name.now (rows_of values) c.in-Some.ensures.name c.in-Some.ensures.rows in
    c.task_of.ensures.unread task (reads_values values c.in-Some.name.now task (found_at texts task c.in-Some.name.now (rows_of values) (found texts task asks) met))
