use Rattle.std.proofs.Common.{◌∙◌, ap₂}
use Rattle.clap.specs.Words.{with_rule}
use Rattle.sn_command.proofs.commands.stop_at.Goals as goal

pub returns-clause-app : goal.returns-clause-app
returns-clause-app c = c.in_ok-command.ensures.shape c.word-5.ensures.local
    ∙ ap₂ with_rule (c.in_ok-arg-4.ensures.shape c.word-4.ensures.local
    ∙ ap₂ with_rule (c.in_ok-arg-3.ensures.shape c.word-3.ensures.local
    ∙ ap₂ with_rule (c.in_ok-arg-2.ensures.shape c.word-2.ensures.local
    ∙ ap₂ with_rule (c.in_ok-arg.ensures.shape c.word.ensures.local
    ∙ ap₂ with_rule c.new.ensures.app c.word.ensures.rule)
    c.word-2.ensures.rule) c.word-3.ensures.rule) c.word-4.ensures.rule) c.word-5.ensures.rule
