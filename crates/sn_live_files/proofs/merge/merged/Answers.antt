use Rattle.std.proofs.Common.{◌≡◌, ℕ, Bool, cond, List, [], ◌∷◌, ◌++◌, Option, length, sym, ap, ◌∙◌, arith}
use Rattle.std.proofs.lemmas.List.{append_assoc}
use Rattle.std.specs.Vec.Iter.{into_iter_items}
use Rattle.sn_model.specs.declared.link.Link.{Link}
use Rattle.sn_model.specs.Tree.{link_cmp}
use Rattle.sn_overlay.proofs.PutLemmas.{nothing_left}
use Rattle.sn_live_files.specs.Listing.{merged}
use Rattle.sn_live_files.proofs.merge.merged.Goals as goal

pub loop-name-preserved-in-Continue-branch-2 : goal.loop-name-preserved-in-Continue-branch-2
unfolding merged
loop-name-preserved-in-Continue-branch-2 c =
    let passed = c.put_up_to.new.names.items in
    let others = into_iter_items c.next.new.self in
    let rest = merged link_cmp c.in_ok-passed.passed.rest.now others in
    let entry : Link × ℕ = (c.in-Some.name, c.in-Some.number) in
    let steps = c.in-Some.ensures.steps.0 in
    let gone = c.in-Some.ensures.steps.1 in
    let short = ap length steps in (
      ap (λ (es : List (Link × ℕ)). es ++ rest) c.in_ok-push.ensures.items
          ∙ append_assoc passed (entry ∷ []) rest
          ∙ ap (λ (b : Bool). passed ++ cond b rest (entry ∷ rest)) (sym c.if-not-passed.true)
          ∙ sym (c.in_ok-passed.ensures c.in-Some.number (λ (es : List (Link × Option ℕ)). merged link_cmp es others))
          ∙ ap (λ (es : List (Link × ℕ)). c.loop-name.names.items ++ merged link_cmp c.loop-name.rest.now es) (sym steps)
          ∙ c.loop-name.invariant.0,
      omega (arith, c.loop-name.invariant.1),
    )

pub loop-name-preserved : goal.loop-name-preserved
unfolding merged
loop-name-preserved c =
    let passed = c.put_up_to.new.names.items in
    let others = into_iter_items c.next.new.self in
    let rest = merged link_cmp c.in_ok-passed.passed.rest.now others in
    let entry : Link × ℕ = (c.in-Some.name, c.in-Some.number) in
    let steps = c.in-Some.ensures.steps.0 in
    let gone = c.in-Some.ensures.steps.1 in
    let short = ap length steps in (
      ap (λ (b : Bool). passed ++ cond b rest (entry ∷ rest)) (sym c.if-not-passed.false)
          ∙ sym (c.in_ok-passed.ensures c.in-Some.number (λ (es : List (Link × Option ℕ)). merged link_cmp es others))
          ∙ ap (λ (es : List (Link × ℕ)). c.loop-name.names.items ++ merged link_cmp c.loop-name.rest.now es) (sym steps)
          ∙ c.loop-name.invariant.0,
      omega (arith, c.loop-name.invariant.1),
    )

pub returns : goal.returns
unfolding merged
returns c =
    let empty : into_iter_items c.loop-name.name-iterator ≡ [] = nothing_left _ (sym c.loop-name.invariant.1 ∙ c.in-None.ensures.steps.0) in
    c.in_ok-put_all.ensures
    ∙ ap (λ (es : List (Link × ℕ)). c.loop-name.names.items ++ merged link_cmp c.loop-name.rest.now es) (sym empty)
    ∙ c.loop-name.invariant.0
    ∙ ap (λ (es : List (Link × ℕ)). merged link_cmp c.args.changed.now es) c.into_iter-name-iterator.ensures.into_iter_gives.0
