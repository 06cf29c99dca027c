use Rattle.std.proofs.Common.{◌+◌, ℕ, List, length, slice_index_or, take, refl, sym, subst, ◌∙◌, arith}
use Rattle.std.proofs.lemmas.List.{take_all}
use Rattle.sn_live_world.specs.Dropping.{DropsClosed}
use Rattle.sn_live_world.proofs.DropLemmas.{fewer_drops, none_closed, one_closed, take_next}
use Rattle.sn_live_world.proofs.world.LiveWorld.drop_each_closed.Goals as goal

pub loop-number-init : goal.loop-number-init
loop-number-init c = record {
  drops = λ below over. none_closed c.args.self.now below over;
  sessions = refl;
  point = refl;
  counted = omega arith;
  room = λ n has. fewer_drops c.args.self.now.live (n + 0) n (omega arith) has;
}

pub drop_if-requires : goal.drop_if-requires
drop_if-requires c =
    c.loop-number.invariant.room 1 (fewer_drops c.args.self.now.live (length c.args.numbers.now) (1 + c.loop-number.number-index) (omega (arith, c.loop-number-test.true)) c.requires)

pub loop-number-preserved : goal.loop-number-preserved
loop-number-preserved c =
    let start = c.args.self.now in
    let numbers = c.args.numbers.now in
    let index = c.loop-number.number-index in
    let number = slice_index_or numbers index 0 in
    record {
      drops = λ below over.
          let before = c.loop-number.invariant.drops below over in
          subst (λ (seen : List ℕ). DropsClosed seen start c.drop_if.new.self below) (sym (take_next numbers index c.loop-number-test.true))
          (one_closed (take index numbers) number start c.loop-number.self c.drop_if.new.self below before (c.drop_if.ensures.drops below before.over));
      sessions = c.drop_if.ensures.sessions ∙ c.loop-number.invariant.sessions;
      point = c.drop_if.ensures.point ∙ c.loop-number.invariant.point;
      counted = omega (arith, c.drop_if.ensures.counted, c.loop-number.invariant.counted);
      room = λ n has. c.drop_if.ensures.room n (c.loop-number.invariant.room (n + 1) (fewer_drops start.live (n + (index + 1)) ((n + 1) + index) (omega arith) has));
    }

pub returns-clause-drops : goal.returns-clause-drops
returns-clause-drops c below over =
    subst (λ (seen : List ℕ). DropsClosed seen c.args.self.now c.loop-number.self below) (take_all c.loop-number.number-index c.args.numbers.now c.loop-number-test.false) (c.loop-number.invariant.drops below over)

pub returns-clause-room : goal.returns-clause-room
returns-clause-room c n has =
    let index = c.loop-number.number-index in
    c.loop-number.invariant.room n (fewer_drops c.args.self.now.live (n + length c.args.numbers.now) (n + index) (omega (arith, c.loop-number.auto.number-index-end)) has)
