use Rattle.std.proofs.Common.{◌≡◌, [], ap, ◌∙◌, arith}
use Rattle.sn_model.specs.Descriptors.{closed}
use Rattle.sn_desc.specs.InUse.{InUse, live_in}
use Rattle.sn_desc.specs.OpenFiles.{files_of}
use Rattle.sn_desc.specs.Sessions.{in_use_of}
use Rattle.sn_desc.proofs.LogoutLemmas.{all_below, more_below, none_below}
use Rattle.sn_desc.proofs.SeatLemmas.{get_far}
use Rattle.sn_desc.proofs.ReleaseLemmas.{held_before, more_released, none_released, pushed_few, released_live}
use Rattle.sn_desc.proofs.sessions.Sessions.close_all.Goals as goal

pub loop-fd-init : goal.loop-fd-init
loop-fd-init c =
    let u = in_use_of c.args.self.now in
    record {
      in_use = λ i. record u { descriptors = none_below u.descriptors c.args.session i };
      released = let none : c.new-released.result.items ≡ [] = c.new-released.ensures in rw none (none_released u.descriptors);
      was_held = λ number e. e;
      few = rw c.new-released.ensures (omega arith);
      live = rw c.new-released.ensures (omega arith);
      room = omega arith;
    }

pub loop-fd-preserved : goal.loop-fd-preserved
loop-fd-preserved c =
    let u = in_use_of c.args.self.now in
    let mid = in_use_of c.loop-fd.self in
    let new = in_use_of c.close_if_open-number.new.self in
    let i = c.loop-fd.invariant in
    let is_new = ap (λ (v : InUse). v.descriptors) c.close_if_open-number.ensures.in_use in
    record {
      in_use =
          c.close_if_open-number.ensures.in_use
          ∙ (λ j. record (i.in_use j) { descriptors = closed (i.in_use j).descriptors c.args.session c.loop-fd.fd; room = new.room })
          ∙ (λ j. record u { descriptors = more_below u.descriptors c.args.session c.loop-fd.fd j; room = new.room });
      released = more_released u.descriptors mid.descriptors new.descriptors c.args.session c.loop-fd.fd c.loop-fd.released.items _ _ i.released i.was_held is_new c.close_if_open-number.ensures.released c.push_some.ensures;
      was_held = λ number e. i.was_held number (held_before mid.descriptors new.descriptors c.args.session c.loop-fd.fd is_new number e);
      few = pushed_few _ _ _ _ c.push_some.ensures i.few;
      live = released_live mid.descriptors new.descriptors c.args.session c.loop-fd.fd c.loop-fd.released.items _ _ (live_in u.descriptors) is_new c.close_if_open-number.ensures.released c.push_some.ensures i.live;
      room = omega (arith, i.room, c.close_if_open-number.ensures.room);
    }

pub returns-clause-in_use : goal.returns-clause-in_use
returns-clause-in_use c =
    let u = in_use_of c.args.self.now in
    c.loop-fd.invariant.in_use ∙ (λ j. record u { descriptors = all_below u.descriptors c.args.session c.loop-fd.fd (omega arith) (λ s k. get_far (files_of c.args.self.now.files) s k) j; room = (in_use_of c.loop-fd.self).room })
