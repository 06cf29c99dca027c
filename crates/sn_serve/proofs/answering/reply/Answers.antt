use Rattle.std.proofs.Common.{◌∙◌, Bool, refl, sym, subst}
use Rattle.std.proofs.lemmas.List.{append-nil}
use Rattle.std.specs.Prelude.{None, Some}
use Rattle.sn_serve.specs.Exchanges.{IsReplyBy}
use Rattle.sn_serve.proofs.answering.reply.Goals as goal

pub returns-then-has_reply : goal.returns-then-has_reply
returns-then-has_reply c =
    let e = c.reply_told.ensures in
    (Some e.0, subst (λ (b : Bool). IsReplyBy b c.args.last c.args.told.now (Some e.0)) (sym (sym c.has_reply.ensures ∙ c.if-has_reply.true)) e.1, e.2)

pub returns-else-has_reply : goal.returns-else-has_reply
returns-else-has_reply c = (None, subst (λ (b : Bool). IsReplyBy b c.args.last c.args.told.now None) (sym (sym c.has_reply.ensures ∙ c.if-has_reply.false)) refl, sym (append-nil _))
