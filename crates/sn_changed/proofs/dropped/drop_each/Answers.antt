use Rattle.std.proofs.Common.{◌≡◌, sym, subst, arith}
use Rattle.std.proofs.lemmas.Grind.{common_steps}
use Rattle.sn_overlay.specs.Overlays.{layer_of}
use Rattle.sn_changed.specs.Dropped.{LeadsOn, with_drops}
use Rattle.sn_changed.proofs.DroppedLemmas.{leads_on}
use Rattle.sn_changed.proofs.dropped.drop_each.Goals as goal

pub returns-clause-changed : goal.returns-clause-changed
returns-clause-changed c =
    let old = layer_of c.args.overlay.now in
    let same : layer_of c.loop-file.overlay ≡ with_drops old c.args.files.now = grind (arith, common_steps, c.loop-file.invariant.layer) in
    subst (LeadsOn old c.args.files.now) (sym same) (leads_on old c.args.files.now)
