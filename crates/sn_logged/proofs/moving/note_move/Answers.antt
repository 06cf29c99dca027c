use Rattle.sn_logged.proofs.MoveLemmas.{moved_told}
use Rattle.sn_logged.proofs.moving.note_move.Goals as goal

pub returns : goal.returns
returns c tree after change whole is applied tells =
    moved_told tree after whole c.args.directories.now c.lose_if.new.directories c.lose.new.self c.gain.new.self tells c.args.from c.args.to c.args.number c.args.replaces c.lose_if.ensures.lost c.lose_if.ensures.same c.lose.ensures c.gain.ensures change is applied
