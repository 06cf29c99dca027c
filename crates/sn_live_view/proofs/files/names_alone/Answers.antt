use Rattle.std.proofs.Common.{◌≡◌, ℕ, List, [], ◌∷◌, ◌++◌, map, length, append-nil, sym, ap, ◌∙◌, arith}
use Rattle.std.proofs.lemmas.List.{append_assoc}
use Rattle.std.specs.Vec.Iter.{into_iter_items}
use Rattle.sn_model.specs.declared.link.Link.{Link}
use Rattle.sn_overlay.proofs.PutLemmas.{nothing_left}
use Rattle.sn_live_view.proofs.files.names_alone.Goals as goal

abbrev names_of : List (Link × ℕ) → List (List ℕ)
names_of = map (λ (e : Link × ℕ). e.0.name)

pub loop-link-preserved : goal.loop-link-preserved
loop-link-preserved c =
    let rest = names_of (into_iter_items c.next.new.self) in
    let steps = c.in-Some.ensures.steps.0 in
    let gone = c.in-Some.ensures.steps.1 in
    let short = ap length steps in (
      ap (λ (names : List (List ℕ)). names ++ rest) c.in_ok-push.ensures.items
          ∙ append_assoc c.loop-link.names.items (c.in-Some.link.name ∷ []) rest
          ∙ ap (λ (es : List (Link × ℕ)). c.loop-link.names.items ++ names_of es) (sym steps)
          ∙ c.loop-link.invariant.0,
      omega (arith, c.loop-link.invariant.1),
    )

pub returns : goal.returns
returns c =
    let empty : into_iter_items c.loop-link.link-iterator ≡ [] = nothing_left _ (sym c.loop-link.invariant.1 ∙ c.in-None.ensures.steps.0) in
    c.new.ensures
    ∙ sym (append-nil c.loop-link.names.items)
    ∙ ap (λ (es : List (Link × ℕ)). c.loop-link.names.items ++ names_of es) (sym empty)
    ∙ c.loop-link.invariant.0
    ∙ ap names_of c.into_iter-link-iterator.ensures.into_iter_gives.0
