use Rattle.std.proofs.Common.{◌≡◌, ℕ, ◌-◌, List, ◌++◌, length, drop, ap, ◌∙◌}
use Rattle.std.proofs.lemmas.List.{drop-replicate}
use Rattle.sn_layout.specs.Bytes.{zeros}
use Rattle.sn_content.proofs.inline.inline_block.Goals as goal

drop-zeros : (n : ℕ) → drop n (zeros 4096) ≡ zeros (4096 - n)
unfolding zeros
drop-zeros n = drop-replicate n 4096 0

pub returns : goal.returns
returns c =
    let bytes = c.as_slice-bytes.result.now in
    ap (λ (front : List ℕ). front ++ drop (length bytes) c.hole-block.result) c.copy_from_slice.ensures.after
    ∙ ap (λ (back : List ℕ). bytes ++ back) (ap (drop (length bytes)) c.hole-block.ensures ∙ drop-zeros (length bytes))
    ∙ ap (λ (b : List ℕ). b ++ zeros (4096 - length b)) c.as_slice-bytes.ensures.value
