use Rattle.std.proofs.Common.{◌∙◌}
use Rattle.sn_live.specs.Live.{changes_of, shown_of}
use Rattle.sn_overlay.specs.Overlays.{layer_of}
use Rattle.sn_live.proofs.GoneLemmas.{drops_nameless}
use Rattle.sn_live.proofs.live.LiveTree.settled_changes.Goals as goal

pub returns : goal.returns
returns c below live =
    drops_nameless (shown_of c.args.self.now below) (changes_of c.args.self.now) (layer_of c.reserve.new.self) (layer_of c.drop_each.new.overlay) c.in_ok-files.files.items c.as_slice-listed.result.now
    (c.in_ok-files.ensures.gone below live) (c.in_ok-reserve.ensures.same ∙ c.in_ok-changed.ensures) c.as_slice-listed.ensures.value c.drop_each.ensures.layer
