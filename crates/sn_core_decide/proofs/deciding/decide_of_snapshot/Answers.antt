use Rattle.std.proofs.Common.{refl}
use Rattle.sn_desc.specs.InUse.{in_world}
use Rattle.sn_desc.specs.Sessions.{in_use_of}
use Rattle.sn_core_decide_rules.proofs.DecidedLemmas.{if_any, if_never}
use Rattle.sn_core_decide.proofs.deciding.decide_of_snapshot.Goals as goal

pub returns-in-SnapCreate : goal.returns-in-SnapCreate
returns-in-SnapCreate g c = record {
  left = c.decide_snap_create.ensures.left;
  decided = λ told world shows. rw c.in-SnapCreate.is (c.decide_snap_create.ensures.decided told world shows);
  refused = λ told world shown. rw c.in-SnapCreate.is (λ asked. absurd asked);
  cause = c.decide_snap_create.ensures.cause;
  numbers = rw c.in-SnapCreate.is (if_any c.decide_snap_create.result);
}

pub returns-in-SnapDelete : goal.returns-in-SnapDelete
returns-in-SnapDelete g c = record {
  left = (c.requires.holds, g.met.V.TreeView.follows_itself _, λ told. refl);
  decided = λ told world shows. c.unviewed.ensures.decided (in_world (in_use_of c.args.sessions.now) world) c.args.session c.args.call.now (rw c.in-SnapDelete.is (c.decide_snap_delete.ensures told world shows.trees_are));
  refused = λ told world shown. c.unviewed.ensures.refused (in_world (in_use_of c.args.sessions.now) world) c.args.session c.args.call.now (rw c.in-SnapDelete.is (c.decide_snap_delete.ensures told world shown));
  cause = if_never _ c.unviewed.result c.unviewed.ensures.cause;
  numbers = rw c.in-SnapDelete.is (if_any c.unviewed.result);
}

pub returns-in-SnapRestore : goal.returns-in-SnapRestore
returns-in-SnapRestore g c = record {
  left = c.decide_snap_restore.ensures.left;
  decided = λ told world shows. rw c.in-SnapRestore.is (c.decide_snap_restore.ensures.decided told world shows);
  refused = λ told world shown. rw c.in-SnapRestore.is (c.decide_snap_restore.ensures.refused told world shown);
  cause = c.decide_snap_restore.ensures.cause;
  numbers = rw c.in-SnapRestore.is (if_any c.decide_snap_restore.result);
}

pub returns-in-SnapList : goal.returns-in-SnapList
returns-in-SnapList g c = record {
  left = c.decide_snap_list.ensures.left;
  decided = λ told world shows. rw c.in-SnapList.is (c.decide_snap_list.ensures.decided told world shows);
  refused = λ told world shown. rw c.in-SnapList.is (λ asked. absurd asked);
  cause = c.decide_snap_list.ensures.cause;
  numbers = rw c.in-SnapList.is (if_any c.decide_snap_list.result);
}
