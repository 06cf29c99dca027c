use Rattle.std.proofs.Common.{◌+◌, ℕ, Option, cond, is_some, sym, ap, subst, arith}
use Rattle.sn_live_world.specs.Dropping.{DropsLost}
use Rattle.sn_live_world.proofs.DropLemmas.{fewer_drops, one_lost}
use Rattle.sn_live_world.proofs.world.LiveWorld.drop_lost.Goals as goal

pub returns-in-Some-clause-drops : goal.returns-in-Some-clause-drops
returns-in-Some-clause-drops c below over =
    subst (λ (lost : Option ℕ). DropsLost lost c.args.self.now c.drop_if.new.self below) (sym c.in-Some.is) (one_lost c.in-Some.number c.args.self.now c.drop_if.new.self below (c.drop_if.ensures.drops below over))

pub returns-in-Some-clause-room : goal.returns-in-Some-clause-room
returns-in-Some-clause-room c n has =
    let one = ap {B = ℕ} (λ (lost : Option ℕ). cond (is_some lost) 1 0) c.in-Some.is in
    c.drop_if.ensures.room n (fewer_drops c.args.self.now.live (n + cond (is_some c.args.lost) 1 0) (n + 1) (omega (arith, one)) has)
