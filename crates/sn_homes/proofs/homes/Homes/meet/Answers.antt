use Rattle.std.proofs.Common.{◌≡◌, ◌∙◌, [], ◌∷◌, ◌++◌, List, Some, None, ℕ, position, length, rules, sym, ap, ap₂}
use Rattle.std.specs.Prelude.{vec_len}
use Rattle.sn_homes.specs.Homes.{Places, has_name, place_of}
use Rattle.sn_homes.proofs.PlaceLemmas.{met_found, met_pushed, place_pushed}
use Rattle.sn_homes.proofs.homes.Homes.meet.Goals as goal

pub returns-in-Some-clause-met : goal.returns-in-Some-clause-met
returns-in-Some-clause-met c =
    met_found c.args.self.now c.args.name.now c.in-Some.place
    (ap (λ (n : List ℕ). position (has_name n) c.args.self.now) (sym c.as_bytes.ensures.value) ∙ sym c.place.ensures.place ∙ c.in-Some.is)

is_absent : (c : goal.In_ok-push) → position (has_name c.args.name.now) c.args.self.now ≡ None
is_absent c = ap (λ (n : List ℕ). position (has_name n) c.args.self.now) (sym c.as_bytes.ensures.value) ∙ sym c.place.ensures.place ∙ c.in_default.is

pushed : (c : goal.In_ok-push) → c.push.new.self.items ≡ c.args.self.now ++ Some c.args.name.now ∷ []
pushed c = c.in_ok-push.ensures.items ∙ ap₂ (λ (ps : Places) (n : List ℕ). ps ++ Some n ∷ []) c.self.view_is c.copy.ensures

len_is : (c : goal.In_ok-push) → vec_len c.self.inside.places ≡ length c.self.inside.places.items
len_is c = search rules

pub returns-clause-place : goal.returns-clause-place
returns-clause-place c =
    c.len-place.ensures ∙ len_is c ∙ ap (λ (ps : Places). length ps) c.self.view_is ∙ place_pushed c.args.self.now c.args.name.now (is_absent c)
    ∙ ap (λ (ps : Places). place_of ps c.args.name.now) (sym (pushed c))

pub returns-clause-met : goal.returns-clause-met
returns-clause-met c = pushed c ∙ met_pushed c.args.self.now c.args.name.now (is_absent c)
