use Rattle.sn_core_decide_rules.proofs.DecidedLemmas.{if_any}
use Rattle.sn_core_decide.proofs.deciding.decide_of_names.Goals as goal

pub returns-in-Rmdir : goal.returns-in-Rmdir
returns-in-Rmdir g c = record {
  left = c.decide_rmdir.ensures.left;
  decided = λ told world shows. rw c.in-Rmdir.is (c.decide_rmdir.ensures.decided told world shows);
  cause = c.decide_rmdir.ensures.cause;
  numbers = rw c.in-Rmdir.is (if_any c.decide_rmdir.result);
}

pub returns-in-Unlink : goal.returns-in-Unlink
returns-in-Unlink g c = record {
  left = c.decide_unlink.ensures.left;
  decided = λ told world shows. rw c.in-Unlink.is (c.decide_unlink.ensures.decided told world shows);
  cause = c.decide_unlink.ensures.cause;
  numbers = rw c.in-Unlink.is (if_any c.decide_unlink.result);
}

pub returns-in-Link : goal.returns-in-Link
returns-in-Link g c = record {
  left = c.decide_link.ensures.left;
  decided = λ told world shows. rw c.in-Link.is (c.decide_link.ensures.decided told world shows);
  cause = c.decide_link.ensures.cause;
  numbers = rw c.in-Link.is (if_any c.decide_link.result);
}

pub returns-in-Rename : goal.returns-in-Rename
returns-in-Rename g c = record {
  left = c.decide_rename.ensures.left;
  decided = λ told world shows. rw c.in-Rename.is (c.decide_rename.ensures.decided told world shows);
  cause = c.decide_rename.ensures.cause;
  numbers = rw c.in-Rename.is (if_any c.decide_rename.result);
}

pub returns-in-Readdir : goal.returns-in-Readdir
returns-in-Readdir g c = record {
  left = c.decide_readdir.ensures.left;
  decided = λ told world shows. rw c.in-Readdir.is (c.decide_readdir.ensures.decided told world shows);
  cause = c.decide_readdir.ensures.cause;
  numbers = rw c.in-Readdir.is (if_any c.decide_readdir.result);
}
