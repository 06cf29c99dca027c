use Rattle.std.proofs.Common.{◌≡◌, ◌++◌, ℕ, List, inl, inr, refl, subst}
use Rattle.std.specs.Prelude.{OnOk}
use Rattle.sn_fuse_replies.specs.Answer.{reply_bytes}
use Rattle.sn_fuse_replies.specs.declared.answer.Answer.TheVariants.{Error}
use Rattle.sn_fuse_replies.specs.declared.errno.Errno.TheVariants.{ENOMEM}
use Rattle.sn_serve.specs.Answers.{reply_of}
use Rattle.sn_serve.proofs.answering.reply_told.Goals as goal

pub returns-in-Ok : goal.returns-in-Ok
returns-in-Ok c = (reply_of c.args.last c.args.told.now, inl refl, c.in-Ok.ensures.ok)

pub returns-in-Err : goal.returns-in-Err
returns-in-Err c = (
  Error ENOMEM,
  inr refl,
  subst (λ (xs : List ℕ). OnOk c.refuse.result (c.refuse.new.out.items ≡ xs ++ reply_bytes c.args.unique (Error ENOMEM))) c.in-Err.ensures.err c.refuse.ensures.ok,
)
