use Rattle.std.proofs.Common.{◌≡◌, ◌+◌, ◌≤◌, ℕ, take}
use Rattle.sn_live_world.specs.Dropping.{DropsClosed}
use Rattle.sn_live_world.specs.World.{HasDrops, HasSessions, IsOver, nameless_of, point_of}
use Rattle.sn_model.specs.Tree.{Tree}
use Rattle.sn_live_world.proofs.world.LiveWorld.drop_each_closed.Given as goal

-- those so far were looked at
abbrev pub invariant-loop-number : goal.invariant-loop-number
invariant-loop-number l = record {
  drops : (below : Tree) → IsOver l.fn.self below → DropsClosed (take l.number-index l.numbers) l.fn.self l.self below;
  sessions : HasSessions l.fn.self l.self;
  point : point_of l.self ≡ point_of l.fn.self;
  counted : nameless_of l.self ≤ nameless_of l.fn.self;
  room : (n : ℕ) → HasDrops l.fn.self (n + l.number-index) → HasDrops l.self n;
}
