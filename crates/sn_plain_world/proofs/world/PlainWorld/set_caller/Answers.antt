use Rattle.std.proofs.Common.{◌≡◌, length, sym, ap, subst, ◌∙◌, arith}
use Rattle.std.specs.Prelude.{All}
use Rattle.sn_changed.specs.Dropped.{TellsGone}
use Rattle.sn_desc.specs.InUse.{live_in}
use Rattle.sn_model.specs.Settling.{dropped, is_held}
use Rattle.sn_model.specs.World.{World}
use Rattle.sn_plain_world.specs.Plain.{kept_of, kept_since_of, world_of}
use Rattle.sn_caller.specs.Told.{dropped_lost}
use Rattle.sn_caller.proofs.CallerLemmas.{live_after, turned_lost, turned_numbers}
use Rattle.sn_caller.proofs.ToldLemmas.{caller_closed, caller_tells, closed_kept, lost_descriptors, lost_few, lost_world}
use Rattle.sn_plain_world.proofs.world.PlainWorld.set_caller.Goals as goal

pub drop_each_closed-dropped-requires-clause-numbers : goal.drop_each_closed-dropped-requires-clause-numbers
drop_each_closed-dropped-requires-clause-numbers c = turned_numbers (world_of c.args.self.now) _ c.args.session c.args.caller c.turn-released.ensures.world c.requires.whole

pub drop_lost-requires-clause-numbers : goal.drop_lost-requires-clause-numbers
drop_lost-requires-clause-numbers c n e = turned_numbers (world_of c.args.self.now) _ c.args.session c.args.caller c.turn-released.ensures.world c.requires.whole n (c.drop_each_closed-dropped.ensures.left n e).0

pub returns-clause-world : goal.returns-clause-world
returns-clause-world c =
    let mid = world_of c.drop_each_closed-dropped.new.self in
    let only = turned_lost (world_of c.args.self.now) _ c.args.session c.args.caller c.turn-released.ensures.world mid c.turn-released.result.items c.as_slice.result.now c.args.lost c.as_slice.ensures.value c.turn-released.ensures.released c.requires.lost c.drop_each_closed-dropped.ensures.left in
    c.drop_lost.ensures.world ∙ lost_world mid c.args.lost only ∙ c.drop_each_closed-dropped.ensures.world ∙ ap dropped c.turn-released.ensures.world

pub returns-clause-kept : goal.returns-clause-kept
returns-clause-kept c n =
    let old = world_of c.args.self.now in
    let turned = world_of c.turn-released.new.self in
    let mid = world_of c.drop_each_closed-dropped.new.self in
    let live = live_after old turned c.args.session c.args.caller c.turn-released.ensures.world in
    closed_kept old turned mid c.turn-released.result.items c.as_slice.result.now c.as_slice.ensures.value live c.turn-released.ensures.released c.turn-released.ensures.held c.drop_each_closed-dropped.ensures.gone c.drop_each_closed-dropped.ensures.left c.args.lost
    (world_of c.drop_lost.new.self) (kept_of c.turn-released.new.self) (kept_of c.args.self.now) (kept_of c.drop_lost.new.self) n c.drop_lost.ensures.world c.turn-released.ensures.kept (c.drop_lost.ensures.kept n ∙ c.drop_each_closed-dropped.ensures.kept n)

pub returns-clause-since : goal.returns-clause-since
returns-clause-since c n =
    let old = world_of c.args.self.now in
    let turned = world_of c.turn-released.new.self in
    let mid = world_of c.drop_each_closed-dropped.new.self in
    let live = live_after old turned c.args.session c.args.caller c.turn-released.ensures.world in
    closed_kept old turned mid c.turn-released.result.items c.as_slice.result.now c.as_slice.ensures.value live c.turn-released.ensures.released c.turn-released.ensures.held c.drop_each_closed-dropped.ensures.gone c.drop_each_closed-dropped.ensures.left c.args.lost
    (world_of c.drop_lost.new.self) (kept_since_of c.turn-released.new.self) (kept_since_of c.args.self.now) (kept_since_of c.drop_lost.new.self) n c.drop_lost.ensures.world c.turn-released.ensures.since (c.drop_lost.ensures.since n ∙ c.drop_each_closed-dropped.ensures.since n)

pub returns-clause-told : goal.returns-clause-told
returns-clause-told c =
    let old = world_of c.args.self.now in
    let turned = world_of c.turn-released.new.self in
    let mid = world_of c.drop_each_closed-dropped.new.self in
    let live = live_after old turned c.args.session c.args.caller c.turn-released.ensures.world in
    subst (λ (w : World). TellsGone old.live w.live c.drop_lost.new.dropped.items) (sym c.drop_lost.ensures.world)
    (subst (TellsGone old.live (dropped_lost mid c.args.lost).live) (sym c.drop_lost.ensures.told)
    (caller_tells old turned mid c.turn-released.result.items c.as_slice.result.now c.as_slice.ensures.value live c.turn-released.ensures.released c.turn-released.ensures.held c.drop_each_closed-dropped.ensures.gone c.drop_each_closed-dropped.ensures.left c.args.lost c.drop_each_closed-dropped.result.items c.drop_each_closed-dropped.ensures.told))

pub returns-clause-closed : goal.returns-clause-closed
returns-clause-closed c =
    let old = world_of c.args.self.now in
    let turned = world_of c.turn-released.new.self in
    let mid = world_of c.drop_each_closed-dropped.new.self in
    let live = live_after old turned c.args.session c.args.caller c.turn-released.ensures.world in
    subst (All (λ file. file.by_close ≡ is_held old file.number)) (sym c.drop_lost.ensures.told)
    (caller_closed old turned mid c.turn-released.result.items c.as_slice.result.now c.as_slice.ensures.value live c.turn-released.ensures.released c.turn-released.ensures.held c.drop_each_closed-dropped.ensures.gone c.drop_each_closed-dropped.ensures.left c.args.lost c.drop_each_closed-dropped.result.items c.drop_each_closed-dropped.ensures.told c.drop_each_closed-dropped.ensures.closed)

pub returns-clause-few : goal.returns-clause-few
returns-clause-few c =
    let mid = world_of c.drop_each_closed-dropped.new.self in
    let left : live_in (world_of c.drop_lost.new.self).descriptors ≡ live_in (world_of c.turn-released.new.self).descriptors =
    ap (λ (w : World). live_in w.descriptors) c.drop_lost.ensures.world ∙ ap live_in (lost_descriptors mid c.args.lost) ∙ ap (λ (w : World). live_in w.descriptors) c.drop_each_closed-dropped.ensures.world in
    omega (arith, left, c.turn-released.ensures.few, c.drop_each_closed-dropped.ensures.few, ap length c.as_slice.ensures.value, ap length c.drop_lost.ensures.told, lost_few mid c.args.lost c.drop_each_closed-dropped.result.items)
