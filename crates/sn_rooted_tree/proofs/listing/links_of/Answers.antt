use Rattle.std.proofs.Common.{◌≡◌, ℕ, List, [], ◌∷◌, ◌++◌, map, append-nil, length, sym, ap, ◌∙◌, arith}
use Rattle.std.proofs.lemmas.List.{append_assoc}
use Rattle.std.specs.Vec.Iter.{into_iter_items}
use Rattle.sn_dir.specs.declared.listings.ListedName.{ListedName}
use Rattle.sn_model.specs.declared.link.Link.{Link}
use Rattle.sn_model.specs.Tree.{link_to}
use Rattle.sn_overlay.proofs.PutLemmas.{nothing_left}
use Rattle.sn_rooted_tree.proofs.listing.links_of.Goals as goal

abbrev links : ℕ → List ListedName → List (Link × ℕ)
links directory names = map (λ (x : ListedName). (link_to directory x.name, x.number)) names

pub loop-listed-preserved : goal.loop-listed-preserved
loop-listed-preserved c =
    let directory = c.args.directory in
    let rest = links directory (into_iter_items c.next.new.self) in
    let entry : Link × ℕ = (link_to directory c.in-Some.listed.name, c.in-Some.listed.number) in
    let steps = c.in-Some.ensures.steps.0 in
    let gone = c.in-Some.ensures.steps.1 in
    let short = ap length steps in (
      ap (λ (es : List (Link × ℕ)). es ++ rest) c.in_ok-push.ensures.items
          ∙ append_assoc c.loop-listed.links.items (entry ∷ []) rest
          ∙ ap (λ (names : List ListedName). c.loop-listed.links.items ++ links directory names) (sym steps)
          ∙ c.loop-listed.invariant.0,
      omega (arith, c.loop-listed.invariant.1),
    )

pub returns : goal.returns
returns c =
    let empty : into_iter_items c.loop-listed.listed-iterator ≡ [] = nothing_left _ (sym c.loop-listed.invariant.1 ∙ c.in-None.ensures.steps.0) in
    sym (append-nil c.loop-listed.links.items)
    ∙ ap (λ (names : List ListedName). c.loop-listed.links.items ++ links c.args.directory names) (sym empty)
    ∙ c.loop-listed.invariant.0
    ∙ ap (links c.args.directory) c.into_iter-listed-iterator.ensures.into_iter_gives.0
