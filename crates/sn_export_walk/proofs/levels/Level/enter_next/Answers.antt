use Rattle.std.proofs.Common.{◌∙◌, List, Some, ℕ, ap, refl, sym}
use Rattle.std.specs.Prelude.{slice_get}
use Rattle.sn_export_walk.proofs.Places.{get_here, get_past, next_place, none_left}
use Rattle.sn_export_walk.proofs.levels.Level.enter_next.Goals as goal

pub returns-in_default-clause-next : goal.returns-in_default-clause-next
returns-in_default-clause-next c = λ trees home tree own are is.
    (let all = ap (λ (ns : List (List ℕ)). slice_get ns c.args.self.now.met) (sym c.as_slice.ensures) in
    none_left trees home tree c.args.self.now own is (all ∙ get_past c.as_slice.result.now c.args.self.now.met c.in_default.ensures.lookup.3))

pub returns-clause-next : goal.returns-clause-next
returns-clause-next c = λ trees home tree own are is.
    (let all = ap (λ (ns : List (List ℕ)). slice_get ns c.args.self.now.met) (sym c.as_slice.ensures) in
    let here = get_here c.as_slice.result.now c.args.self.now.met c.in-Some.name.now c.in-Some.ensures.lookup.3.0 c.in-Some.ensures.lookup.1 in
    next_place trees home tree c.args.self.now own is _ c.in_ok-paths.paths c.as_bytes.result.now are refl (all ∙ here ∙ ap (λ (n : List ℕ). Some n) (sym c.as_bytes.ensures)) c.in_ok-paths.ensures.valid
    c.in_ok-paths.ensures.image c.in_ok-paths.ensures.told)
