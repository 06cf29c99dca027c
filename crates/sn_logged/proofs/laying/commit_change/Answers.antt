use Rattle.std.proofs.Common.{ap, ◌∙◌}
use Rattle.sn_overlay.specs.Merges.{merge}
use Rattle.sn_overlay.specs.Overlays.{layer_of}
use Rattle.sn_logged.proofs.LaidLemmas.{laid_now, still_shown}
use Rattle.sn_logged.proofs.laying.commit_change.Goals as goal

pub returns-clause-shown : goal.returns-clause-shown
returns-clause-shown c limits below change version shown can =
    still_shown limits (layer_of c.args.overlay.now) below c.args.directories.now c.note_moves.new.directories change c.args.prepared (layer_of c.merge.new.self) shown can c.merge.ensures.layer
    version c.merges_show_both.ensures c.merges_lie.ensures c.changes_keep_the_tree.ensures c.note_moves.ensures

pub returns-clause-laid : goal.returns-clause-laid
returns-clause-laid c limits below change version shown can =
    laid_now limits (layer_of c.args.overlay.now) below c.args.directories.now c.note_moves.new.directories change c.args.prepared (layer_of c.merge.new.self) shown can c.merge.ensures.layer c.merges_show_both.ensures

pub returns-clause-merged : goal.returns-clause-merged
returns-clause-merged c limits live change can = c.merge.ensures.layer ∙ ap (merge (layer_of c.args.overlay.now)) can.layer
