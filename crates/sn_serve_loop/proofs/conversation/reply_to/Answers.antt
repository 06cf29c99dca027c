use Rattle.std.proofs.Common.{◌∙◌, sym, []}
use Rattle.sn_serve.specs.Exchanges.{acts_for}
use Rattle.sn_serve_loop.specs.Conversations.{answers, refuses}
use Rattle.sn_serve_loop.proofs.conversation.reply_to.Goals as goal

pub returns-then-has_stopped : goal.returns-then-has_stopped
returns-then-has_stopped g c = let r = c.refuse_message.ensures in (r.0, [], refuses (sym c.has_stopped.ensures ∙ c.if-has_stopped.true) r.1, r.2)

pub returns : goal.returns
returns g c = let r = c.answer.ensures in (r.0, acts_for r.1, answers (sym c.has_stopped.ensures ∙ c.if-has_stopped.false) r.1, r.2)
