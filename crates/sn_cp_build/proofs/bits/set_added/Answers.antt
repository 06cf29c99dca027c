use Rattle.std.proofs.Common.{ℕ, ◌<◌, ◌∷◌, ◌++◌, [], List, length, take, sym, ap, subst, ◌∙◌}
use Rattle.std.proofs.lemmas.List.{map-append, take_more}
use Rattle.sn_tree.specs.Drafts.{numbers_of}
use Rattle.sn_tree.specs.declared.new_block.NewBlock.{NewBlock}
use Rattle.sn_cp_build.specs.Bits.{PutsBits}
use Rattle.sn_cp_build.proofs.BitLemmas.{puts_more, puts_none, number_within}
use Rattle.sn_cp_build.proofs.bits.set_added.Goals as goal

pub loop-block-init : goal.loop-block-init
loop-block-init c = puts_none 1 c.args.map.now

pub set_bit-requires-clause-block : goal.set_bit-requires-clause-block
set_bit-requires-clause-block c =
    subst (λ (n : ℕ). c.block-item.result.number < n) (sym c.loop-block.invariant.as_many)
    (number_within (length c.args.map.now) c.args.added.now c.loop-block.block-index c.block-item.result c.loop-block-test.true c.block-item.is c.requires)

pub loop-block-preserved : goal.loop-block-preserved
loop-block-preserved c =
    let added = c.args.added.now in
    let k = c.loop-block.block-index in
    let item = c.block-item.result in
    let more = take_more added k item c.loop-block-test.true ∙ ap (λ (x : NewBlock). take k added ++ x ∷ []) (sym c.block-item.is) in
    let numbers = ap (λ (bs : List NewBlock). numbers_of bs) more ∙ map-append (λ (b : NewBlock). b.number) (take k added) (item ∷ []) in
    subst (λ (ns : List ℕ). PutsBits 1 ns c.args.map.now c.set_bit.new.self) (sym numbers)
    (puts_more 1 (numbers_of (take k added)) item.number c.args.map.now c.loop-block.map c.set_bit.new.self c.loop-block.invariant c.set_bit.ensures)
