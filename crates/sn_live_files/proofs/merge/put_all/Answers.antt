use Rattle.std.proofs.Common.{◌≡◌, ◌≤◌, ◌+◌, ℕ, List, ◌∷◌, ◌++◌, Option, append-nil, drop, length, arith, sym, ap, ◌∙◌}
use Rattle.std.proofs.lemmas.List.{drop_all, drop_more}
use Rattle.sn_model.specs.declared.link.Link.{Link}
use Rattle.sn_live_files.specs.Listing.{set_all}
use Rattle.sn_live_files.proofs.merge.put_all.Goals as goal

pub loop-change-preserved : goal.loop-change-preserved
unfolding set_all
loop-change-preserved c =
    let changed = c.args.changed.now in
    let i = c.loop-change.change-index in
    let behind = drop (i + 1) changed in
    let next : drop i changed ≡ c.change-item.result ∷ behind =
    drop_more changed i c.change-item.result c.loop-change-test.true ∙ ap (λ (change : Link × Option ℕ). change ∷ behind) (sym c.change-item.is) in
    c.in_ok-put.ensures (set_all behind) ∙ ap (λ (es : List (Link × Option ℕ)). c.loop-change.names.items ++ set_all es) (sym next) ∙ c.loop-change.invariant

pub returns : goal.returns
unfolding set_all
returns c =
    let changed = c.args.changed.now in
    let far : length changed ≤ c.loop-change.change-index = omega (arith, c.loop-change-test.false) in
    sym (append-nil c.loop-change.names.items)
    ∙ ap (λ (es : List (Link × Option ℕ)). c.loop-change.names.items ++ set_all es) (sym (drop_all c.loop-change.change-index changed far))
    ∙ c.loop-change.invariant
