use Rattle.sn_acl_text.proofs.Again.{written}
use Rattle.sn_acl_text.proofs.laws.written_texts_are_read.Goals as goal

pub returns : goal.returns
returns c = written
