use Rattle.std.proofs.Common.{◌≡◌, ◌∙◌, ◌+◌, ◌-◌, ◌*◌, ◌++◌, [], ℕ, List, take, drop, ap, arith}
use Rattle.std.proofs.lemmas.List.{append-nil, drop_all, drop-drop, length-take-le, length-drop}
use Rattle.sn_layout.specs.Bytes.{number_bytes}
use Rattle.sn_layout_node.proofs.Numbers.{block_set}
use Rattle.sn_layout_node.proofs.indirect.IndirectBlock.set_pointer.Goals as goal

pub returns : goal.returns
unfolding number_bytes
returns c =
    let at = 4 * c.args.index in
    let count = at + 4 - at in
    let part = take count (drop at c.args.block.now) in
    let none : drop 4 part ≡ [] = drop_all 4 part (omega (arith, length-take-le count (drop at c.args.block.now) (omega (arith, c.told-block, length-drop at c.args.block.now)))) in
    let written : c.write_u32.new.buf ≡ number_bytes 4 c.args.pointer = c.write_u32.ensures ∙ ap (λ (r : List ℕ). number_bytes 4 c.args.pointer ++ r) none ∙ append-nil (number_bytes 4 c.args.pointer) in
    let after : drop count (drop at c.args.block.now) ≡ drop (at + 4) c.args.block.now = drop-drop count at c.args.block.now ∙ ap (λ (k : ℕ). drop k c.args.block.now) (omega arith) in
    ap (λ (buf : List ℕ). take at c.args.block.now ++ (buf ++ drop count (drop at c.args.block.now))) written
    ∙ ap (λ (r : List ℕ). take at c.args.block.now ++ (number_bytes 4 c.args.pointer ++ r)) after
    ∙ block_set c.args.block.now c.args.index c.args.pointer c.told-block c.fits-block c.requires
