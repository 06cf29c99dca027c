use Rattle.std.proofs.Common.{◌∙◌}
use Rattle.sn_overlay.specs.Overlays.{layer_of}
use Rattle.sn_live.proofs.LiveLemmas.{begun}
use Rattle.sn_live.proofs.PointLemmas.{replaced_live}
use Rattle.sn_live.proofs.live.LiveTree.replace_root.Goals as goal

pub returns-clause-live : goal.returns-clause-live
returns-clause-live c root next is live = replaced_live c.args.self.now root next is c.args.since c.new.result c.requires.empty c.new.ensures c.release_all.new.self c.release_all.ensures.taken live

pub returns-clause-shown : goal.returns-clause-shown
returns-clause-shown c root next is = begun (layer_of c.args.since) (layer_of c.new.result) next c.requires.empty c.new.ensures ∙ is
