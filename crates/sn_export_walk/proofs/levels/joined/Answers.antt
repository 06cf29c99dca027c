use Rattle.std.proofs.Common.{◌∙◌, List, ℕ, ◌++◌, ap, append_assoc}
use Rattle.sn_export_walk.proofs.levels.joined.Goals as goal

pub returns-clause-bytes : goal.returns-clause-bytes
returns-clause-bytes c =
    c.in_ok-extend_from_slice-2.ensures.items ∙ ap (λ (s : List ℕ). s ++ c.args.rest.now) (c.in_ok-extend_from_slice.ensures.items ∙ ap (λ (s : List ℕ). s ++ c.args.middle.now) c.in_ok-bytes.ensures.items)
    ∙ append_assoc c.args.front.now c.args.middle.now c.args.rest.now
