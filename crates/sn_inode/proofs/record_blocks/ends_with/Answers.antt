use Rattle.std.proofs.Common.{◌≡◌, ◌≢◌, ◌-◌, ℕ, get_or, deque_len, sym, ap, ◌∙◌, arith}
use Rattle.std.proofs.lemmas.Bool.{eqb-false}
use Rattle.sn_tree.specs.declared.new_block.DirtyBlock.{DirtyBlock}
use Rattle.sn_inode.proofs.BlockLemmas.{all_below}
use Rattle.sn_inode.proofs.record_blocks.ends_with.Goals as goal

pub returns-in-Some-clause-clean : goal.returns-in-Some-clause-clean
returns-in-Some-clause-clean c = λ not.
    let last = c.in-Some.last.now in
    let items = c.args.dirty.now.items in
    all_below 0 c.args.index items last c.requires.rise (λ k e.
    let at : k ≡ deque_len c.args.dirty.now - 1 = omega (arith, e, c.args.dirty.now.ok) in
    let here : get_or items k last ≡ last = ap (λ (n : ℕ). get_or items n last) at ∙ sym c.in-Some.ensures.lookup in
    let index : (get_or items k last).index ≡ last.index = ap (λ (d : DirtyBlock). d.index) here in
    let other : last.index ≢ c.args.index = eqb-false last.index c.args.index not in
    omega (arith, index, other, c.requires.most k last (omega (arith, e))))
