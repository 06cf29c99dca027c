use Rattle.std.proofs.Common.{◌≡◌, ◌-◌, [], ◌++◌, length, take, drop, replicate, ap, ◌∙◌, arith, length-drop}
use Rattle.std.proofs.lemmas.List.{append-nil, drop_all, length-take}
use Rattle.sn_overlay.specs.Pieces.{zeros}
use Rattle.sn_overlay_change.proofs.made.zero_from.Goals as goal

pub returns : goal.returns
unfolding zeros
returns c =
    let block = c.args.block.now in
    let from = c.args.from in
    let told = c.told-block in
    let gone : drop (4096 - from) (drop from block) ≡ [] = drop_all (4096 - from) (drop from block) (omega (arith, length-drop from block)) in
    let count : length (take (4096 - from) (drop from block)) ≡ 4096 - from = omega (arith, length-take (4096 - from) (drop from block), length-drop from block) in
    ap (λ rest. take from block ++ (c.fill.new.self ++ rest)) gone
    ∙ ap (λ part. take from block ++ part) (append-nil c.fill.new.self ∙ c.fill.ensures.after (λ y h. h) ∙ ap (λ n. replicate n 0) count)
