use Rattle.std.proofs.Common.{arith}
use Rattle.sn_nodes.specs.Stored.{stored_of}
use Rattle.sn_plain.proofs.RenamingLemmas.{names_two, links_two, moved_counted}
use Rattle.sn_plain.proofs.moving.move_link.Goals as goal

pub count_link-requires-clause-names : goal.count_link-requires-clause-names
count_link-requires-clause-names c = omega (arith, c.requires.names, names_two c.args.from c.args.to c.args.number (stored_of c.args.nodes.now) (stored_of c.uncount_link.new.self) (stored_of c.set_parent.new.self) c.uncount_link.ensures.stored c.set_parent.ensures.stored c.args.to)

pub count_link-requires-clause-links : goal.count_link-requires-clause-links
count_link-requires-clause-links c = omega (arith, c.requires.links, links_two c.args.from c.args.to c.args.number (stored_of c.args.nodes.now) (stored_of c.uncount_link.new.self) (stored_of c.set_parent.new.self) c.uncount_link.ensures.stored c.set_parent.ensures.stored)

pub returns-clause-stored : goal.returns-clause-stored
returns-clause-stored c = moved_counted c.args.from c.args.to c.args.number (stored_of c.args.nodes.now) (stored_of c.uncount_link.new.self) (stored_of c.set_parent.new.self) c.uncount_link.ensures.stored c.set_parent.ensures.stored (stored_of c.count_link.new.self) c.count_link.ensures.stored
