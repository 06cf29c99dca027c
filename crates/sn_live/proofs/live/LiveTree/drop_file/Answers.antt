use Rattle.sn_live.proofs.DropLemmas.{dropped, dropped_shows}
use Rattle.sn_live.proofs.live.LiveTree.drop_file.Goals as goal

pub returns-clause-live : goal.returns-clause-live
returns-clause-live c below live nameless =
    dropped c.args.self.now below live c.args.number c.args.by_close nameless c.drop_node.new.self c.drop_node.ensures.layer c.note_drop.new.numbers c.remove.new.self c.saturating_sub-self.result c.note_drop.ensures.tells c.remove.ensures c.saturating_sub-self.ensures

pub returns-clause-shown : goal.returns-clause-shown
returns-clause-shown c below live nameless = dropped_shows c.args.self.now below live c.args.number c.args.by_close nameless c.drop_node.new.self c.drop_node.ensures.layer
