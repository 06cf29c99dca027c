use Rattle.std.proofs.Common.{sym, ◌∙◌}
use Rattle.sn_logged.proofs.MoveLemmas.{gained, lost, stayed}
use Rattle.sn_logged.proofs.moving.note_moves.Goals as goal

pub returns-in-Stay : goal.returns-in-Stay
returns-in-Stay c tree after change whole is applied tells = stayed tree after c.args.directories.now tells change (sym c.in-Stay.is ∙ is) applied

pub returns-in-Gain : goal.returns-in-Gain
returns-in-Gain c tree after change whole is applied tells = gained tree after whole c.args.directories.now c.gain.new.self tells c.in-Gain.directory c.in-Gain.number change c.gain.ensures (sym c.in-Gain.is ∙ is) applied

pub returns-in-Lose : goal.returns-in-Lose
returns-in-Lose c tree after change whole is applied tells = lost tree after whole c.args.directories.now c.lose.new.self tells c.in-Lose.directory change c.lose.ensures (sym c.in-Lose.is ∙ is) applied
