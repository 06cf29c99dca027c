use Rattle.std.proofs.Common.{◌≡◌, ◌∙◌, ap, ap₂, true}
use Rattle.clap.specs.Simple.{app_of_fields, on_top}
use Rattle.clap.specs.Words.{App, app_of, with_subcommand}
use Rattle.sn_command.specs.Commands.{top}
use Rattle.sn_command.proofs.commands.commands.Goals as goal

pub returns-clause-app : goal.returns-clause-app
returns-clause-app c =
    let first : app_of c.disable_help_subcommand.result ≡ top = ap app_of_fields c.disable_help_subcommand.ensures
    ∙ ap (on_top (λ s. record s { disable_help_subcommand = true })) (ap app_of_fields c.subcommand_required.ensures
    ∙ ap (on_top (λ s. record s { subcommand_required = true })) (ap app_of_fields c.no_binary_name.ensures
    ∙ ap (on_top (λ s. record s { no_binary_name = true })) c.new.ensures.app)) in
    c.in_ok-command.ensures.shape c.in_ok-serve.ensures.local
    ∙ ap₂ with_subcommand (c.in_ok-subcommand-6.ensures.shape c.in_ok-import.ensures.local
    ∙ ap₂ with_subcommand (c.in_ok-subcommand-5.ensures.shape c.in_ok-export.ensures.local
    ∙ ap₂ with_subcommand (c.in_ok-subcommand-4.ensures.shape c.in_ok-check.ensures.local
    ∙ ap₂ with_subcommand (c.in_ok-subcommand-3.ensures.shape c.in_ok-stop_at.ensures.local
    ∙ ap₂ with_subcommand (c.in_ok-subcommand-2.ensures.shape c.in_ok-run.ensures.local
    ∙ ap₂ with_subcommand (c.in_ok-subcommand.ensures.shape c.in_ok-mkfs.ensures.local
    ∙ ap₂ with_subcommand first (ap (λ (a : App). a.top) c.in_ok-mkfs.ensures.app))
    (ap (λ (a : App). a.top) c.in_ok-run.ensures.app)) (ap (λ (a : App). a.top) c.in_ok-stop_at.ensures.app)) (ap (λ (a : App). a.top) c.in_ok-check.ensures.app))
    (ap (λ (a : App). a.top) c.in_ok-export.ensures.app))
    (ap (λ (a : App). a.top) c.in_ok-import.ensures.app))
    (ap (λ (a : App). a.top) c.in_ok-serve.ensures.app)
