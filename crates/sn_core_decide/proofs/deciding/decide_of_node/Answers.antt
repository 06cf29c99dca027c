use Rattle.sn_core_decide_rules.proofs.DecidedLemmas.{if_any}
use Rattle.sn_core_decide.proofs.deciding.decide_of_node.Goals as goal

pub returns-in-Mkdir : goal.returns-in-Mkdir
returns-in-Mkdir g c = record {
  left = c.decide_mkdir.ensures.left;
  decided = λ told world shows. rw c.in-Mkdir.is (c.decide_mkdir.ensures.decided told world shows);
  cause = c.decide_mkdir.ensures.cause;
  numbers = rw c.in-Mkdir.is (if_any c.decide_mkdir.result);
}

pub returns-in-Chmod : goal.returns-in-Chmod
returns-in-Chmod g c = record {
  left = c.decide_chmod.ensures.left;
  decided = λ told world shows. rw c.in-Chmod.is (c.decide_chmod.ensures.decided told world shows);
  cause = c.decide_chmod.ensures.cause;
  numbers = rw c.in-Chmod.is (if_any c.decide_chmod.result);
}

pub returns-in-Chown : goal.returns-in-Chown
returns-in-Chown g c = record {
  left = c.decide_chown.ensures.left;
  decided = λ told world shows. rw c.in-Chown.is (c.decide_chown.ensures.decided told world shows);
  cause = c.decide_chown.ensures.cause;
  numbers = rw c.in-Chown.is (if_any c.decide_chown.result);
}

pub returns-in-Stat : goal.returns-in-Stat
returns-in-Stat g c = record {
  left = c.decide_stat.ensures.left;
  decided = λ told world shows. rw c.in-Stat.is (c.decide_stat.ensures.decided told world shows);
  cause = c.decide_stat.ensures.cause;
  numbers = rw c.in-Stat.is (if_any c.decide_stat.result);
}

pub returns-in-Access : goal.returns-in-Access
returns-in-Access g c = record {
  left = c.decide_access.ensures.left;
  decided = λ told world shows. rw c.in-Access.is (c.decide_access.ensures.decided told world shows);
  cause = c.decide_access.ensures.cause;
  numbers = rw c.in-Access.is (if_any c.decide_access.result);
}

pub returns-in-GetAcl : goal.returns-in-GetAcl
returns-in-GetAcl g c = record {
  left = c.decide_getacl.ensures.left;
  decided = λ told world shows. rw c.in-GetAcl.is (c.decide_getacl.ensures.decided told world shows);
  cause = c.decide_getacl.ensures.cause;
  numbers = rw c.in-GetAcl.is (if_any c.decide_getacl.result);
}

pub returns-in-SetAcl : goal.returns-in-SetAcl
returns-in-SetAcl g c = record {
  left = c.decide_setacl.ensures.left;
  decided = λ told world shows. rw c.in-SetAcl.is (c.decide_setacl.ensures.decided told world shows);
  cause = c.decide_setacl.ensures.cause;
  numbers = rw c.in-SetAcl.is (if_any c.decide_setacl.result);
}
