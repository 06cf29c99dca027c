use Rattle.std.proofs.Common.{subst}
use Rattle.sn_fuse.specs.declared.message.Decoded.{Decoded}
use Rattle.sn_fuse.specs.declared.message.Decoded.TheVariants.{Short, Unknown, Misspelt, Request}
use Rattle.sn_fuse.specs.Message.{IsAnswer}
use Rattle.sn_fuse.proofs.Messages.{one_answer}
use Rattle.sn_fuse.proofs.message.decode.Goals as goal

pub returns-clause-short : goal.returns-clause-short
returns-clause-short c =
    let bytes = c.args.bytes.now in
    let is = c.answer_to.ensures in
    (λ e. subst (λ (a : Decoded). IsAnswer bytes a) e is, one_answer bytes c.answer_to.result Short is)

pub returns-clause-unknown : goal.returns-clause-unknown
returns-clause-unknown c = λ head.
    let bytes = c.args.bytes.now in
    let is = c.answer_to.ensures in
    (λ e. subst (λ (a : Decoded). IsAnswer bytes a) e is, one_answer bytes c.answer_to.result (Unknown head) is)

pub returns-clause-misspelt : goal.returns-clause-misspelt
returns-clause-misspelt c = λ head.
    let bytes = c.args.bytes.now in
    let is = c.answer_to.ensures in
    (λ e. subst (λ (a : Decoded). IsAnswer bytes a) e is, one_answer bytes c.answer_to.result (Misspelt head) is)

pub returns-clause-request : goal.returns-clause-request
returns-clause-request c = λ head op.
    let bytes = c.args.bytes.now in
    let is = c.answer_to.ensures in
    (λ e. subst (λ (a : Decoded). IsAnswer bytes a) e is, one_answer bytes c.answer_to.result (Request head op) is)
