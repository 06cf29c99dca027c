use Rattle.std.proofs.Common.{refl, sym, ap, subst, ◌∙◌}
use Rattle.std.proofs.lemmas.Result.{IfOk-weaker}
use Rattle.sn_times.specs.declared.stamps.Mark.{Mark}
use Rattle.sn_times.specs.declared.stamps.Mark.TheVariants.{Made, Modified, Changed, Dated}
use Rattle.sn_times.specs.Dates.{IsExact, KeepsNone, changed_at, dated_at, frozen_as, gone, met, modified_at, put}
use Rattle.sn_times.proofs.DatesLemmas.{exact-frozen, exact-met, exact-put, exact-thawed, none-thawed}
use Rattle.sn_times.proofs.times.Times.try_mark.Goals as goal

pub returns-in-Made-clause-exact : goal.returns-in-Made-clause-exact
returns-in-Made-clause-exact c =
    let number = c.in-Made.number in
    IfOk-weaker c.put.result _ _ (λ _ done. subst (λ (m : Mark). IsExact m c.args.now c.args.self.now c.put.new.self) (sym c.in-Made.is)
    (exact-put (Made number) c.args.now c.args.self.now c.put.new.self number _ (record { stamps = λ _. refl; homes = refl }) (done ∙ ap (put c.args.self.now number) c.at.ensures))) c.put.ensures.ok

pub returns-in-Modified-clause-exact : goal.returns-in-Modified-clause-exact
returns-in-Modified-clause-exact c =
    let number = c.in-Modified.number in
    let new = c.put-in-Modified.new.self in
    IfOk-weaker c.put-in-Modified.result _ _ (λ _ done. subst (λ (m : Mark). IsExact m c.args.now c.args.self.now new) (sym c.in-Modified.is)
    (exact-put (Modified number) c.args.now c.args.self.now new number _ (record { stamps = λ _. refl; homes = refl }) (done ∙ ap (put c.args.self.now number) (c.modified-stamps.ensures ∙ ap (modified_at c.args.now) c.stamps.ensures)))) c.put-in-Modified.ensures.ok

pub returns-in-Changed-clause-exact : goal.returns-in-Changed-clause-exact
returns-in-Changed-clause-exact c =
    let number = c.in-Changed.number in
    let new = c.put-in-Changed.new.self in
    IfOk-weaker c.put-in-Changed.result _ _ (λ _ done. subst (λ (m : Mark). IsExact m c.args.now c.args.self.now new) (sym c.in-Changed.is)
    (exact-put (Changed number) c.args.now c.args.self.now new number _ (record { stamps = λ _. refl; homes = refl }) (done ∙ ap (put c.args.self.now number) (c.changed-stamps.ensures ∙ ap (changed_at c.args.now) c.stamps-in-Changed.ensures)))) c.put-in-Changed.ensures.ok

pub returns-in-Dated-clause-exact : goal.returns-in-Dated-clause-exact
returns-in-Dated-clause-exact c =
    let number = c.in-Dated.number in
    let new = c.put-in-Dated.new.self in
    IfOk-weaker c.put-in-Dated.result _ _ (λ _ done. subst (λ (m : Mark). IsExact m c.args.now c.args.self.now new) (sym c.in-Dated.is)
    (exact-put (Dated number c.in-Dated.accessed c.in-Dated.modified) c.args.now c.args.self.now new number _ (record { stamps = λ _. refl; homes = refl })
    (done ∙ ap (put c.args.self.now number) (c.dated-stamps.ensures ∙ ap (dated_at c.args.now c.in-Dated.accessed c.in-Dated.modified) c.stamps-in-Dated.ensures)))) c.put-in-Dated.ensures.ok

pub returns-in-Frozen-clause-exact : goal.returns-in-Frozen-clause-exact
returns-in-Frozen-clause-exact c =
    let home = c.in-Frozen.home in
    let new = c.freeze_as.new.self in
    IfOk-weaker c.freeze_as.result _ _ (λ _ done. subst (λ (m : Mark). IsExact m c.args.now c.args.self.now new) (sym c.in-Frozen.is)
    (exact-frozen c.args.now c.args.self.now new home c.in-Frozen.name (done ∙ ap (frozen_as c.args.self.now home) c.as_bytes.ensures))) c.freeze_as.ensures

pub returns-in-Thawed-clause-exact : goal.returns-in-Thawed-clause-exact
returns-in-Thawed-clause-exact c =
    let new = c.drop_name.new.self in
    subst (λ (m : Mark). IsExact m c.args.now c.args.self.now new) (sym c.in-Thawed.is)
    (exact-thawed c.args.now c.args.self.now new c.in-Thawed.name (c.drop_name.ensures ∙ ap (gone c.args.self.now) c.as_bytes-in-Thawed.ensures))

pub returns-in-Thawed-clause-gone : goal.returns-in-Thawed-clause-gone
returns-in-Thawed-clause-gone c =
    let new = c.drop_name.new.self in
    subst (λ (m : Mark). KeepsNone m c.args.self.now new) (sym c.in-Thawed.is)
    (none-thawed c.args.self.now new c.in-Thawed.name (c.drop_name.ensures ∙ ap (gone c.args.self.now) c.as_bytes-in-Thawed.ensures))

pub returns-in-Met-clause-exact : goal.returns-in-Met-clause-exact
returns-in-Met-clause-exact c =
    let home = c.in-Met.home in
    let new = c.meet.new.self in
    IfOk-weaker c.meet.result _ _ (λ _ done. subst (λ (m : Mark). IsExact m c.args.now c.args.self.now new) (sym c.in-Met.is)
    (exact-met c.args.now c.args.self.now new home c.in-Met.name (done ∙ ap (met c.args.self.now home) c.as_bytes-in-Met.ensures))) c.meet.ensures.ok
