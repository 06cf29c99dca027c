use Rattle.std.proofs.Common.{ℕ, List, [], ◌∷◌, ◌++◌, sym, ap, ◌∙◌}
use Rattle.std.proofs.lemmas.List.{append_assoc}
use Rattle.sn_model.specs.declared.link.Link.{Link}
use Rattle.sn_model.specs.Tree.{link_to}
use Rattle.sn_live_files.proofs.MergeLemmas.{set_first-none, set_first-some}
use Rattle.sn_live_files.proofs.merge.put.Goals as goal

pub returns-in_default : goal.returns-in_default
returns-in_default c rest = ap (λ (es : List (Link × ℕ)). c.args.names.now.items ++ es) (sym (set_first-none c.args.change.now rest c.in_default.is))

pub returns : goal.returns
returns c rest =
    let names = c.args.names.now.items in
    let directory = c.args.change.now.0.directory in
    ap (λ (es : List (Link × ℕ)). es ++ rest) c.in_ok-push.ensures.items
    ∙ append_assoc names ((link_to directory c.in_ok-new.field-0, c.in-Some.number) ∷ []) rest
    ∙ ap (λ (bytes : List ℕ). names ++ ((link_to directory bytes, c.in-Some.number) ∷ rest)) (c.in_ok-new.ensures ∙ c.as_bytes.ensures)
    ∙ ap (λ (es : List (Link × ℕ)). names ++ es) (sym (set_first-some c.args.change.now c.in-Some.number rest c.in-Some.is))
