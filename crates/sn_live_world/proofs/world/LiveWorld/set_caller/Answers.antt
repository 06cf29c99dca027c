use Rattle.std.proofs.Common.{◌≡◌, ◌+◌, cond, is_some, length, refl, ap, ◌∙◌, arith}
use Rattle.sn_caller.proofs.CallerLemmas.{has_room}
use Rattle.sn_desc.specs.InUse.{InUse, live_in}
use Rattle.sn_desc.specs.Sessions.{in_use_of}
use Rattle.sn_live_world.specs.Dropping.{DropsClosed, DropsLost}
use Rattle.sn_live_world.specs.Turned.{Turns}
use Rattle.sn_live_world.specs.World.{descriptors_of, kept_of, kept_since_of, room_of, world_over}
use Rattle.sn_live_world.specs.declared.world.LiveWorld.{LiveWorld}
use Rattle.sn_live_world.proofs.DropLemmas.{fewer_drops}
use Rattle.sn_live_world.proofs.TurnLemmas.{turned_drops, turned_kept, turned_world}
use Rattle.sn_model.specs.Outcomes.{is_opening}
use Rattle.sn_model.specs.Tree.{Tree}
use Rattle.sn_live_world.proofs.world.LiveWorld.set_caller.Goals as goal

pub turn-released-requires : goal.turn-released-requires
turn-released-requires c = has_room (room_of c.args.self.now) c.args.caller c.requires.room

pub drop_each_closed-requires : goal.drop_each_closed-requires
drop_each_closed-requires c =
    let opening = cond (is_opening c.args.caller) 1 0 in
    let losing = cond (is_some c.args.lost) 1 0 in
    fewer_drops c.args.self.now.live (live_in (descriptors_of c.args.self.now) + opening + losing) (length c.as_slice.result.now) (omega (arith, c.turn-released.ensures.few, ap length c.as_slice.ensures.value)) c.requires.drops

-- what is left once those that closed are looked at
pub drop_lost-requires : goal.drop_lost-requires
drop_lost-requires c =
    let opening = cond (is_opening c.args.caller) 1 0 in
    let losing = cond (is_some c.args.lost) 1 0 in
    c.drop_each_closed.ensures.room losing
    (fewer_drops c.args.self.now.live (live_in (descriptors_of c.args.self.now) + opening + losing) (losing + length c.as_slice.result.now) (omega (arith, c.turn-released.ensures.few, ap length c.as_slice.ensures.value)) c.requires.drops)

pub returns-clause-left : goal.returns-clause-left
returns-clause-left c =
    let opening = cond (is_opening c.args.caller) 1 0 in
    let losing = cond (is_some c.args.lost) 1 0 in
    let n = live_in (descriptors_of c.drop_lost.new.self) in
    let same : n ≡ live_in (in_use_of c.turn-released.new.sessions).descriptors = ap (λ (u : InUse). live_in u.descriptors) (c.drop_lost.ensures.sessions ∙ c.drop_each_closed.ensures.sessions) in
    c.drop_lost.ensures.room n
    (c.drop_each_closed.ensures.room (n + losing)
    (fewer_drops c.args.self.now.live (live_in (descriptors_of c.args.self.now) + opening + losing) (n + losing + length c.as_slice.result.now) (omega (arith, same, c.turn-released.ensures.few, ap length c.as_slice.ensures.value)) c.requires.drops))

-- ---- over a tree below to which it belongs

module _ (c : goal.After-drop_lost) (below : Tree) (turns : Turns c.args.self.now below c.args.session c.args.caller c.args.lost) where
  abbrev turned : LiveWorld
  turned = record { live = c.args.self.now.live; sessions = c.turn-released.new.sessions }

  closed : DropsClosed c.as_slice.result.now turned c.drop_each_closed.new.self below
  closed = c.drop_each_closed.ensures.drops below turns.over

  last : DropsLost c.args.lost c.drop_each_closed.new.self c.drop_lost.new.self below
  last = c.drop_lost.ensures.drops below closed.over

pub returns-clause-over : goal.returns-clause-over
returns-clause-over c below t = (last c below t).over

pub returns-clause-world : goal.returns-clause-world
returns-clause-world c below t =
    let before = world_over c.args.self.now below in
    turned_world c.args.self.now (turned c below t) c.drop_each_closed.new.self c.drop_lost.new.self below c.args.session c.args.caller c.args.lost c.turn-released.result.items c.as_slice.result.now c.as_slice.ensures.value
    (c.turn-released.ensures.world before t.can) (c.turn-released.ensures.released before) (c.turn-released.ensures.held before) t.only (closed c below t) (last c below t)

pub returns-clause-kept : goal.returns-clause-kept
returns-clause-kept c below t =
    let before = world_over c.args.self.now below in
    turned_kept c.args.self.now (turned c below t) c.drop_each_closed.new.self c.drop_lost.new.self below c.args.session c.args.caller c.args.lost c.turn-released.result.items c.as_slice.result.now c.as_slice.ensures.value
    (c.turn-released.ensures.world before t.can) (c.turn-released.ensures.released before) (c.turn-released.ensures.held before) t.only (closed c below t) (last c below t)
    (kept_of c.args.self.now) (kept_of c.drop_each_closed.new.self) (kept_of c.drop_lost.new.self) (closed c below t).kept (last c below t).kept

pub returns-clause-since : goal.returns-clause-since
returns-clause-since c below t =
    let before = world_over c.args.self.now below in
    turned_kept c.args.self.now (turned c below t) c.drop_each_closed.new.self c.drop_lost.new.self below c.args.session c.args.caller c.args.lost c.turn-released.result.items c.as_slice.result.now c.as_slice.ensures.value
    (c.turn-released.ensures.world before t.can) (c.turn-released.ensures.released before) (c.turn-released.ensures.held before) t.only (closed c below t) (last c below t)
    (kept_since_of c.args.self.now) (kept_since_of c.drop_each_closed.new.self) (kept_since_of c.drop_lost.new.self) (closed c below t).since (last c below t).since

pub returns-clause-dropped : goal.returns-clause-dropped
returns-clause-dropped c below t =
    let before = world_over c.args.self.now below in
    turned_drops c.args.self.now (turned c below t) c.drop_each_closed.new.self c.drop_lost.new.self below c.args.session c.args.caller c.args.lost c.turn-released.result.items c.as_slice.result.now c.as_slice.ensures.value
    (c.turn-released.ensures.world before t.can) (c.turn-released.ensures.released before) (c.turn-released.ensures.held before) t.only (closed c below t) (last c below t) refl
