use Rattle.std.proofs.Common.{◌≡◌, ◌||◌, ℕ, Ok, refl, sym, ap, subst, ◌∙◌}
use Rattle.std.proofs.lemmas.Result.{err_from_is_err_and}
use Rattle.sn_limits.specs.Versions.{limits_written}
use Rattle.sn_model.specs.NameTree.{IsTree}
use Rattle.sn_model.specs.Settling.{OnlyLost, dropped}
use Rattle.sn_model.specs.Steps.{with_caller, with_live}
use Rattle.sn_model.specs.World.{World}
use Rattle.sn_plain_world.specs.declared.world.PlainWorld.{PlainWorld}
use Rattle.sn_caller.specs.Called.{CanTurn, HasRoom}
use Rattle.sn_caller.specs.Numbering.{has_closed}
use Rattle.sn_plain_world.specs.Plain.{kept_of, room_of, world_of}
use Rattle.sn_caller.specs.Choosing.{Chooses, HasNumber}
use Rattle.sn_plain_world.specs.Served.{MakesChange}
use Rattle.sn_plain_world.proofs.AskedLemmas.{plain_stays, point_takes}
use Rattle.sn_caller.proofs.StepLemmas.{IsServed, change_takes, choosing, chosen_lost, chosen_served, chosen_turns, chosen_whole, has_number, opening_takes, served_whole}
use Rattle.sn_plain_world.proofs.StepLemmas.{IsMade, lacking, none_made, some_made}
use Rattle.sn_plain_world.proofs.world.PlainWorld.served.Goals as goal
use Rattle.sn_plain_world.proofs.world.PlainWorld.served.Goals.{in-Some+in-Ok, in-None}

pub returns-in_err-prepare-clause-served : goal.returns-in_err-prepare-clause-served
returns-in_err-prepare-clause-served c =
    let takes = opening_takes (world_of c.args.self.now) c.args.session c.args.call.now c.in_ok-change.field-0 c.in_ok-change.ensures.decided c.in_err-prepare.ensures.opening in
    let p = err_from_is_err_and c.from_residual-in_err-prepare.result c.from_residual-in_err-prepare.ensures.1 in
    rw (p.1, p.2) ((takes.0, takes.1, c.in_err-prepare.ensures.world), c.in_err-prepare.ensures.kept)

pub returns-in_err-memory_for-clause-served : goal.returns-in_err-memory_for-clause-served
returns-in_err-memory_for-clause-served c =
    let takes = point_takes (world_of c.args.self.now) c.args.session c.args.call.now c.in_ok-change.field-0 c.in_err-memory_for.field-0.0 c.in_ok-change.ensures.decided c.in_err-memory_for.ensures in
    let p = err_from_is_err_and c.from_residual-in_err-memory_for.result c.from_residual-in_err-memory_for.ensures.1 in
    rw (p.1, p.2, takes.2) ((takes.0, takes.1, refl), refl)

pub choose-change-requires : goal.choose-change-requires
choose-change-requires c =
    subst (λ (w : World). HasNumber w.live c.in_ok-change.field-0.change) (sym c.in_ok-prepare.ensures.world)
    (has_number (world_of c.args.self.now) c.args.session c.args.call.now c.in_ok-change.field-0 c.in_ok-change.ensures.decided)

pub returns-in-Err-clause-served : goal.returns-in-Err-clause-served
returns-in-Err-clause-served c =
    let old = world_of c.args.self.now in
    let o = c.in_ok-change.field-0 in
    let kept = kept_of c.args.self.now in
    let takes = change_takes old kept c.args.session c.args.call.now o c.choose-change.result c.in-Some.change c.in_ok-change.ensures.decided (choosing (world_of c.prepare.new.self) old (kept_of c.prepare.new.self) kept o c.choose-change.result c.in_ok-prepare.ensures.world c.in_ok-prepare.ensures.kept c.choose-change.ensures) c.in-Some.is in
    ((takes.0, takes.1, lacking c.in-Err.field-0 c.in-Some.change _ (world_of c.apply.new.self) c.in-Err.ensures.made ∙ c.in_ok-prepare.ensures.world), (λ i n. c.in-Err.ensures.same n i) ∙ c.in_ok-prepare.ensures.kept)

-- what was chosen has been made
made : (c : goal.After-set_caller-arg-1) → IsMade (world_of c.args.self.now) (kept_of c.args.self.now) c.choose-change.result (room_of c.prepare.new.self) c.match-change.self
made c =
    let old = world_of c.args.self.now in
    let kept = kept_of c.args.self.now in
    elim c.match-change.branch [
      | in-Some+in-Ok w ↦
          some_made old (world_of c.prepare.new.self) kept (kept_of c.prepare.new.self) c.choose-change.result (room_of c.prepare.new.self) c.match-change.self w.in-Some.change c.in_ok-prepare.ensures.world c.in_ok-prepare.ensures.kept w.in-Some.is
          (subst (λ (x : PlainWorld). MakesChange (Ok tt) w.in-Some.change (world_of c.prepare.new.self) (world_of x)) (sym w.self-is) w.in-Ok.ensures.made)
          (λ n. ap (λ (x : PlainWorld). kept_of x n) w.self-is ∙ w.in-Ok.ensures.kept n)
          (ap room_of w.self-is ∙ w.in-Ok.ensures.room)
      | in-None w ↦
          none_made old kept c.choose-change.result (room_of c.prepare.new.self) c.match-change.self (ap world_of w.self-is ∙ c.in_ok-prepare.ensures.world) (ap kept_of w.self-is ∙ c.in_ok-prepare.ensures.kept) w.in-None.is (ap room_of w.self-is)
    ]

chosen : (c : goal.After-set_caller-arg-1) → Chooses (world_of c.args.self.now).live (kept_of c.args.self.now) c.in_ok-change.field-0.change c.in_ok-change.field-0.caller c.choose-change.result
chosen c = choosing (world_of c.prepare.new.self) (world_of c.args.self.now) (kept_of c.prepare.new.self) (kept_of c.args.self.now) c.in_ok-change.field-0 c.choose-change.result c.in_ok-prepare.ensures.world c.in_ok-prepare.ensures.kept c.choose-change.ensures

pub set_caller-requires-clause-whole : goal.set_caller-requires-clause-whole
set_caller-requires-clause-whole c =
    let m = made c in
    subst (λ (w : World). IsTree limits_written w.live) (sym m.world)
    (chosen_whole (world_of c.args.self.now) (kept_of c.args.self.now) c.args.session c.args.call.now c.in_ok-change.field-0 c.choose-change.result m.tree c.in_ok-change.ensures.numbers c.requires c.in_ok-change.ensures.decided (chosen c) m.done)

pub set_caller-requires-clause-opens : goal.set_caller-requires-clause-opens
set_caller-requires-clause-opens c =
    let m = made c in
    subst (λ (w : World). CanTurn w.descriptors (room_of c.match-change.self) c.args.session c.choose-change.result.caller) (sym m.world)
    (chosen_turns (world_of c.args.self.now) (kept_of c.args.self.now) c.args.session c.args.call.now c.in_ok-change.field-0 c.choose-change.result m.tree c.in_ok-change.ensures.numbers c.requires c.in_ok-change.ensures.decided (chosen c) m.done
    (room_of c.match-change.self) (subst (λ (n : ℕ). HasRoom c.in_ok-change.field-0.caller n) (sym m.room_is) c.in_ok-prepare.ensures.room))

pub set_caller-requires-clause-lost : goal.set_caller-requires-clause-lost
set_caller-requires-clause-lost c =
    let m = made c in
    subst (λ (w : World). OnlyLost w c.choose-change.result.lost) (sym m.world)
    (chosen_lost (world_of c.args.self.now) (kept_of c.args.self.now) c.args.session c.args.call.now c.in_ok-change.field-0 c.choose-change.result m.tree c.in_ok-change.ensures.numbers c.requires c.in_ok-change.ensures.decided (chosen c) m.done)

served_so : (c : goal.After-set_caller) → IsServed (world_of c.args.self.now) (kept_of c.args.self.now) c.args.session c.args.call.now c.in_ok-change.field-0.told (world_of c.set_caller.new.self) (kept_of c.set_caller.new.self)
served_so c =
    let old = world_of c.args.self.now in
    let kept = kept_of c.args.self.now in
    let o = c.in_ok-change.field-0 in
    let m = made c.before in
    let turn = λ (w : World). dropped (with_caller w c.args.session c.choose-change.result.caller) in
    let new : world_of c.set_caller.new.self ≡ turn (with_live old m.tree) = c.set_caller.ensures.world ∙ ap turn m.world in
    let last : (n : ℕ) → kept_of c.set_caller.new.self n ≡ (has_closed (with_live old m.tree) (turn (with_live old m.tree)) n || kept_of c.match-change.self n) =
    (λ n. c.set_caller.ensures.kept n ∙ ap (λ (w : World). has_closed (world_of c.match-change.self) w n || kept_of c.match-change.self n) new ∙ ap (λ (w : World). has_closed w (turn (with_live old m.tree)) n || kept_of c.match-change.self n) m.world) in
    let stays = plain_stays o.point (turn (with_live old m.tree)) c.in_ok-memory_for.ensures (ap (λ (w : World). w.frozen) (sym new)) in
    subst (λ (w : World). IsServed old kept c.args.session c.args.call.now o.told w (kept_of c.set_caller.new.self)) (sym new)
    (chosen_served old kept c.args.session c.args.call.now o c.choose-change.result m.tree c.in_ok-change.ensures.numbers c.requires c.in_ok-change.ensures.decided (chosen c.before) m.done (kept_of c.match-change.self) (kept_of c.set_caller.new.self) m.kept_is last stays)

pub returns-clause-served : goal.returns-clause-served
returns-clause-served c = served_so c

pub returns-clause-whole : goal.returns-clause-whole
returns-clause-whole c = served_whole (world_of c.args.self.now) (world_of c.set_caller.new.self) c.args.session c.args.call.now c.in_ok-change.field-0.told (served_so c).0 c.in_ok-change.ensures.numbers c.requires
