use Rattle.std.proofs.Common.{◌≡◌, Option, None, sym, subst, ◌∙◌}
use Rattle.sn_cp_whole.specs.declared.going.GoingPoint.{GoingPoint}
use Rattle.sn_fs.specs.Filesystem.{IsFs, held}
use Rattle.sn_events.specs.Pointing.{Finishes}
use Rattle.sn_events.proofs.BasedLemmas.{none_there}
use Rattle.sn_events.proofs.FinishLemmas.{none_finishes}
use Rattle.sn_fs.proofs.fs.Fs.finish.Goals as goal

pub end-requires-clause-sound : goal.end-requires-clause-sound
end-requires-clause-sound g c = subst (λ (x : Option GoingPoint). IsFs (record c.args.self.now { going = x })) (sym c.take.ensures.value ∙ c.in-Some.is) c.requires.sound

pub end-requires-clause-alone : goal.end-requires-clause-alone
end-requires-clause-alone g c = none_there c.take.new.self c.take.ensures.after

pub returns-in-Some-clause-finishes : goal.returns-in-Some-clause-finishes
returns-in-Some-clause-finishes g c told =
    subst (λ (x : Option GoingPoint). Finishes c.end.result (held (record c.args.self.now { going = x })) (held c.end.new.self)) (sym (sym c.take.ensures.value ∙ c.in-Some.is)) (c.end.ensures.finishes told)

pub returns-in-None-clause-finishes : goal.returns-in-None-clause-finishes
returns-in-None-clause-finishes g c told = none_finishes (held c.args.self.now) _ (none_there c.args.self.now.going none) (λ i. held (record c.args.self.now { going = (c.take.ensures.after ∙ sym none) i }))
  where
    none : c.args.self.now.going ≡ None
    none = sym c.take.ensures.value ∙ c.in-None.is
