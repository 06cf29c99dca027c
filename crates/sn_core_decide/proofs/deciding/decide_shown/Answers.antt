use Rattle.std.proofs.Common.{◌≡◌, refl, sym, ◌∙◌}
use Rattle.sn_desc.specs.InUse.{in_world}
use Rattle.sn_desc.specs.Sessions.{in_use_of}
use Rattle.sn_core_decide_rules.proofs.DecidedLemmas.{if_never}
use Rattle.sn_core_decide.specs.declared.groups.Group.TheVariants.{Snapshots, Nodes, Names, Files}
use Rattle.sn_core_decide.proofs.SnapshotLemmas.{at_once_group}
use Rattle.sn_core_decide.proofs.deciding.decide_shown.Goals as goal

pub returns-in-Sessions : goal.returns-in-Sessions
returns-in-Sessions g c = record {
  left = (c.requires, g.met.V.TreeView.follows_itself _, λ told. refl);
  decided = λ told world shows. c.unviewed.ensures.decided (in_world (in_use_of c.args.sessions.now) world) c.args.session c.args.call.now (c.decide_of_session.ensures.decided world);
  refused = λ told world shown. c.unviewed.ensures.refused (in_world (in_use_of c.args.sessions.now) world) c.args.session c.args.call.now (c.decide_of_session.ensures.decided world);
  cause = if_never _ c.unviewed.result c.unviewed.ensures.cause;
  numbers = c.unviewed.ensures.numbers c.args.call.now c.decide_of_session.ensures.numbers;
}

pub returns-in-Nodes : goal.returns-in-Nodes
returns-in-Nodes g c = record {
  left = c.decide_of_node.ensures.left;
  decided = λ told world shows. c.decide_of_node.ensures.decided told world shows;
  refused = λ told world shown asked. let same : Snapshots ≡ Nodes = sym (at_once_group c.args.call.now asked) ∙ sym c.group_of.ensures ∙ c.in-Nodes.is in cc;
  cause = c.decide_of_node.ensures.cause;
  numbers = c.decide_of_node.ensures.numbers;
}

pub returns-in-Names : goal.returns-in-Names
returns-in-Names g c = record {
  left = c.decide_of_names.ensures.left;
  decided = λ told world shows. c.decide_of_names.ensures.decided told world shows;
  refused = λ told world shown asked. let same : Snapshots ≡ Names = sym (at_once_group c.args.call.now asked) ∙ sym c.group_of.ensures ∙ c.in-Names.is in cc;
  cause = c.decide_of_names.ensures.cause;
  numbers = c.decide_of_names.ensures.numbers;
}

pub returns-in-Files : goal.returns-in-Files
returns-in-Files g c = record {
  left = c.decide_of_file.ensures.left;
  decided = λ told world shows. c.decide_of_file.ensures.decided told world shows;
  refused = λ told world shown asked. let same : Snapshots ≡ Files = sym (at_once_group c.args.call.now asked) ∙ sym c.group_of.ensures ∙ c.in-Files.is in cc;
  cause = c.decide_of_file.ensures.cause;
  numbers = c.decide_of_file.ensures.numbers;
}

pub returns-in-Snapshots : goal.returns-in-Snapshots
returns-in-Snapshots g c = record {
  left = c.decide_of_snapshot.ensures.left;
  decided = λ told world shows. c.decide_of_snapshot.ensures.decided told world shows;
  refused = λ told world shown. c.decide_of_snapshot.ensures.refused told world shown;
  cause = c.decide_of_snapshot.ensures.cause;
  numbers = c.decide_of_snapshot.ensures.numbers;
}
