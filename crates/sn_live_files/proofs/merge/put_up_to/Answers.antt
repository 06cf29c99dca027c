use Rattle.std.proofs.Common.{◌≡◌, ℕ, List, [], ◌∷◌, ◌++◌, Option, sym, ap, ◌∙◌}
use Rattle.std.specs.declared.cmp.Ordering.TheVariants.{Less, Equal, Greater}
use Rattle.sn_model.specs.declared.link.Link.{Link}
use Rattle.sn_model.specs.Tree.{link_cmp}
use Rattle.sn_overlay.proofs.PutLemmas.{nothing_left}
use Rattle.sn_live_files.specs.Listing.{one_merged}
use Rattle.sn_live_files.proofs.MergeLemmas.{one-equal, one-greater, one-less, one-none}
use Rattle.sn_live_files.proofs.merge.put_up_to.Goals as goal
use Rattle.sn_live_files.proofs.merge.put_up_to.Goals.{in-Some+in-Greater, in_default}

pub returns-in-Equal : goal.returns-in-Equal
returns-in-Equal c number on =
    let names = c.loop-first.names.items in
    let below : Link × ℕ = (c.args.name.now, number) in
    let first = c.in-Some.first.now in
    let others = c.in-Some.others.now in
    let order : link_cmp first.0 c.args.name.now ≡ Equal = sym c.cmp.ensures ∙ c.in-Equal.is in
    c.loop-first.invariant number on
    ∙ ap (λ (es : List (Link × Option ℕ)). names ++ one_merged link_cmp below on es) c.in-Some.ensures.cases.0
    ∙ ap (λ (es : List (Link × ℕ)). names ++ es) (one-equal link_cmp below on first others order)
    ∙ sym (c.in_ok-put-in-Equal.ensures (on others))

pub loop-first-preserved : goal.loop-first-preserved
loop-first-preserved c number on =
    let names = c.loop-first.names.items in
    let below : Link × ℕ = (c.args.name.now, number) in
    let first = c.in-Some.first.now in
    let others = c.in-Some.others.now in
    let order : link_cmp first.0 c.args.name.now ≡ Less = sym c.cmp.ensures ∙ c.in-Less.is in
    c.loop-first.invariant number on
    ∙ ap (λ (es : List (Link × Option ℕ)). names ++ one_merged link_cmp below on es) c.in-Some.ensures.cases.0
    ∙ ap (λ (es : List (Link × ℕ)). names ++ es) (one-less link_cmp below on first others order)
    ∙ sym (c.in_ok-put-in-Less.ensures (one_merged link_cmp below on others))

pub returns : goal.returns
returns c number on =
    let names = c.loop-first.names.items in
    let rest = c.loop-first.rest.now in
    let below : Link × ℕ = (c.args.name.now, number) in
    let last : one_merged link_cmp below on rest ≡ below ∷ on rest =
    elim c.match-split_first.branch [
      | in-Some+in-Greater w ↦
          let split = w.in-Some.ensures.cases.0 in
          let order : link_cmp w.in-Some.first.now.0 c.args.name.now ≡ Greater = sym w.cmp.ensures ∙ w.in-Greater.is in
          ap (one_merged link_cmp below on) split ∙ one-greater link_cmp below on w.in-Some.first.now w.in-Some.others.now order ∙ ap (λ (es : List (Link × Option ℕ)). below ∷ on es) (sym split)
      | in_default w ↦
          let none : rest ≡ [] = nothing_left rest w.in_default.ensures.cases in
          ap (one_merged link_cmp below on) none ∙ one-none link_cmp below on ∙ ap (λ (es : List (Link × Option ℕ)). below ∷ on es) (sym none)
    ] in
    c.loop-first.invariant number on ∙ ap (λ (es : List (Link × ℕ)). names ++ es) last
