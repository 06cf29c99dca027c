use Rattle.std.proofs.Common.{◌≡◌, ◌∙◌, ◌++◌, Bool, [], sym, subst}
use Rattle.std.proofs.lemmas.List.{append-nil}
use Rattle.std.specs.Prelude.{None, Some, OnOk, if◌then◌else◌}
use Rattle.sn_fuse_replies.specs.declared.answer.Answer.TheVariants.{Error}
use Rattle.sn_fuse_replies.specs.declared.errno.Errno.TheVariants.{EINVAL, EIO, ENOSYS}
use Rattle.sn_serve.specs.Exchanges.{has_reply, spelled}
use Rattle.sn_serve.specs.Exchanges.IsRefusal.{short, unknown, misspelt, request}
use Rattle.sn_serve.proofs.answering.refuse_message.Goals as goal

pub returns-in-Short : goal.returns-in-Short
returns-in-Short c = ([], short (c.decode.ensures.short.0 c.in-Short.is), sym (append-nil c.args.out.now.items))

pub returns-in-Unknown : goal.returns-in-Unknown
returns-in-Unknown c =
    let h = c.in-Unknown.head in
    (spelled h.unique (Some (Error ENOSYS)), unknown ((c.decode.ensures.unknown h).0 c.in-Unknown.is), c.refuse.ensures.ok)

pub returns-in-Misspelt : goal.returns-in-Misspelt
returns-in-Misspelt c =
    let h = c.in-Misspelt.head in
    (spelled h.unique (Some (Error EINVAL)), misspelt ((c.decode.ensures.misspelt h).0 c.in-Misspelt.is), c.refuse-in-Misspelt.ensures.ok)

pub returns-then-has_reply : goal.returns-then-has_reply
returns-then-has_reply c =
    let h = c.in-Request.head in
    let op = c.in-Request.op in (
      spelled h.unique (if has_reply op then Some (Error EIO) else None),
      request op ((c.decode.ensures.request h op).0 c.in-Request.is),
      subst (λ (b : Bool). OnOk c.refuse-then-has_reply.result (c.refuse-then-has_reply.new.out.items ≡ c.args.out.now.items ++ spelled h.unique (if b then Some (Error EIO) else None)))
          (sym (sym c.has_reply.ensures ∙ c.if-has_reply.true)) c.refuse-then-has_reply.ensures.ok,
    )

pub returns-else-has_reply : goal.returns-else-has_reply
returns-else-has_reply c =
    let h = c.in-Request.head in
    let op = c.in-Request.op in (
      spelled h.unique (if has_reply op then Some (Error EIO) else None),
      request op ((c.decode.ensures.request h op).0 c.in-Request.is),
      subst (λ (b : Bool). c.args.out.now.items ≡ c.args.out.now.items ++ spelled h.unique (if b then Some (Error EIO) else None))
          (sym (sym c.has_reply.ensures ∙ c.if-has_reply.false)) (sym (append-nil c.args.out.now.items)),
    )
