use Rattle.sn_live.proofs.PointLemmas.{ended_shows, point_ended}
use Rattle.sn_live.proofs.live.LiveTree.end_point.Goals as goal

pub returns-clause-live : goal.returns-clause-live
returns-clause-live c root next lies is live = point_ended c.args.self.now root next is c.new.result c.new.ensures c.end_point.new.self lies c.end_point.ensures.taken live

pub returns-clause-shown : goal.returns-clause-shown
returns-clause-shown c root next is = ended_shows c.args.self.now root next is c.new.result c.new.ensures
