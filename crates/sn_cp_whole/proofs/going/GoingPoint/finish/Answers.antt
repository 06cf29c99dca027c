use Rattle.std.proofs.Common.{Err, Ok, ap, subst, sym, ◌∙◌}
use Rattle.sn_block.specs.Lending.{device_of}
use Rattle.sn_cp.specs.Points.{Work}
use Rattle.sn_cp_progress.proofs.EndLemmas.{point_finishes}
use Rattle.sn_cp_progress.specs.Meaning.{progress_over}
use Rattle.sn_cp_progress.specs.Progress.{world_to}
use Rattle.sn_held.specs.Held.{Kept}
use Rattle.sn_cp_whole.specs.Going.{FinishesTo, going_of, with_disk}
use Rattle.sn_cp_whole.proofs.going.GoingPoint.finish.Goals as goal

pub returns-in-Err-clause-leads : goal.returns-in-Err-clause-leads
returns-in-Err-clause-leads g c told h world live trees on =
    point_finishes (with_disk h (g.D.Device.disk (device_of c.args.blocks.now))) world live (progress_over (going_of c.args.self) trees) (Err c.in-Err.fault) _ on (g.met.D.Device.whole (device_of c.finish.new.blocks) told) (c.in-Err.ensures.bytes told)

pub returns-in-Err-clause-finishes : goal.returns-in-Err-clause-finishes
returns-in-Err-clause-finishes g c told h world trees on = returns-in-Err-clause-leads g c told h world world.live trees on

pub returns-in-Err-clause-touched : goal.returns-in-Err-clause-touched
returns-in-Err-clause-touched g c told = (c.in-Err.ensures.bytes told).touched

pub returns-clause-leads : goal.returns-clause-leads
returns-clause-leads g c told h world live trees on =
    let after = c.in-Ok.ensures.same in
    let p = progress_over (going_of c.args.self) trees in
    let done = point_finishes (with_disk h (g.D.Device.disk (device_of c.args.blocks.now))) world live p (Ok (tt {0})) _ on (g.met.D.Device.whole (device_of c.finish.new.blocks) told) (c.in-Ok.ensures.bytes told) in
    subst (λ (k : Kept). FinishesTo (Ok (tt {0})) world (world_to live p world) h c.args.self.free k (g.D.Device.disk (device_of c.args.blocks.now)) (g.D.Device.disk (device_of c.finish.new.blocks)))
    (λ i. record {
      slot = (sym (c.other-base.ensures ∙ c.requires.slot)) i;
      root = (sym (c.into_root-root.ensures.root ∙ ap (λ (w : Work). w.plan.next) after)) i;
      words = (sym (c.into_root-root.ensures.words ∙ ap (λ (w : Work). w.plan.words) after)) i;
      changed = h.base.changed;
    }) done

pub returns-clause-finishes : goal.returns-clause-finishes
returns-clause-finishes g c told h world trees on = returns-clause-leads g c told h world world.live trees on

pub returns-clause-touched : goal.returns-clause-touched
returns-clause-touched g c told = (c.in-Ok.ensures.bytes told).touched

pub returns-clause-base : goal.returns-clause-base
returns-clause-base g c =
    let after = c.in-Ok.ensures.same in
    (λ i. record {
      slot = (c.other-base.ensures ∙ c.requires.slot) i;
      root = (c.into_root-root.ensures.root ∙ ap (λ (w : Work). w.plan.next) after) i;
      map = (c.into_root-root.ensures.words ∙ ap (λ (w : Work). w.plan.words) after) i;
    })
