use Rattle.sn_live.proofs.LiveLemmas.{begun, live_begun}
use Rattle.sn_overlay.specs.Overlays.{layer_of}
use Rattle.sn_live.proofs.live.LiveTree.over.Goals as goal

pub returns-clause-live : goal.returns-clause-live
returns-clause-live c root whole directories numbers files nameless = live_begun _ root c.new.ensures c.new-2.ensures whole directories numbers files nameless

pub returns-clause-shown : goal.returns-clause-shown
returns-clause-shown c root = begun (layer_of c.new.result) (layer_of c.new-2.result) root c.new.ensures c.new-2.ensures
