use Rattle.sn_core_decide_rules.proofs.DecidedLemmas.{if_any}
use Rattle.sn_core_decide.proofs.deciding.decide_of_file.Goals as goal

pub returns-in-Open : goal.returns-in-Open
returns-in-Open g c = record {
  left = c.decide_open.ensures.left;
  decided = λ told world shows. rw c.in-Open.is (c.decide_open.ensures.decided told world shows);
  cause = c.decide_open.ensures.cause;
  numbers = rw c.in-Open.is (if_any c.decide_open.result);
}

pub returns-in-Read : goal.returns-in-Read
returns-in-Read g c = record {
  left = c.decide_read.ensures.left;
  decided = λ told world shows. rw c.in-Read.is (c.decide_read.ensures.decided told world shows);
  cause = c.decide_read.ensures.cause;
  numbers = rw c.in-Read.is (if_any c.decide_read.result);
}

pub returns-in-Write : goal.returns-in-Write
returns-in-Write g c = record {
  left = c.decide_write.ensures.left;
  decided = λ told world shows. rw c.in-Write.is (c.decide_write.ensures.decided told world shows);
  cause = c.decide_write.ensures.cause;
  numbers = rw c.in-Write.is (if_any c.decide_write.result);
}
