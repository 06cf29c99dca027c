use Rattle.std.proofs.Common.{◌∙◌}
use Rattle.sn_output.proofs.OutputLemmas.{appends_none, front_kept, front_of}
use Rattle.sn_program.proofs.output.write_replies.Goals as goal

pub returns-in_err-text-clause-front : goal.returns-in_err-text-clause-front
returns-in_err-text-clause-front g c = (0, appends_none (g.W.Write.contents c.args.out.now))

pub returns-in_err-on_file-clause-front : goal.returns-in_err-on_file-clause-front
returns-in_err-on_file-clause-front g c = front_of _ _ _ _ (c.as_slice.ensures.value ∙ c.in_ok-text.ensures) c.write_front.ensures.front

pub returns-clause-front : goal.returns-clause-front
returns-clause-front g c = front_kept _ _ _ _ (front_of _ _ _ _ (c.as_slice.ensures.value ∙ c.in_ok-text.ensures) c.write_front.ensures.front) c.flush.ensures.bytes
