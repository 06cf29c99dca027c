use Rattle.std.proofs.Common.{inl, inr, ℕ, List, sym, subst}
use Rattle.std.specs.List.{Contains}
use Rattle.std.proofs.lemmas.List.Elements.{Contains-append_cases}
use Rattle.sn_names.proofs.share.shared_entries.Goals as goal

pub returns : goal.returns
returns c = λ n has is.
    let first = rw c.as_slice-numbers.ensures.value at c.in_ok-take_entries.ensures.taken in
    let second = rw c.as_slice-numbers.ensures.value at c.in_ok-take_entries-2.ensures.taken in
    elim (Contains-append_cases c.parts.result.0.now c.parts.result.1.now n (subst (λ (l : List ℕ). Contains l n) (sym c.parts.ensures) has)) [
      | inl sooner ↦ c.in_ok-take_entries-2.ensures.kept n (first n sooner is)
      | inr later ↦ second n later is
    ]
