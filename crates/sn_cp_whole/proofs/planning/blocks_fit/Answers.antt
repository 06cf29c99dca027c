use Rattle.std.proofs.Common.{◌≡◌, ℕ, ◌==◌, Bool, true, false, get_or, length, refl, sym, ap, ◌∙◌, arith}
use Rattle.std.proofs.lemmas.Bool.{eqb-true, eqb-false}
use Rattle.std.proofs.lemmas.List.{get_or_default}
use Rattle.sn_tree.specs.declared.new_block.NewBlock.{NewBlock}
use Rattle.sn_cp_whole.specs.Planning.{IsWholeBlock}
use Rattle.sn_cp_whole.proofs.planning.blocks_fit.Goals as goal

pub loop-block-preserved : goal.loop-block-preserved
loop-block-preserved c k d within = told (k == c.loop-block.block-index) refl
  where
    told : (here : Bool) → (k == c.loop-block.block-index) ≡ here → IsWholeBlock (get_or c.args.blocks.now k d)
    told true e =
        let blocks = c.args.blocks.now in
        let item = c.block-item.result in
        ap (λ (b : NewBlock). length b.bytes.value) (ap (λ (n : ℕ). get_or blocks n d) (eqb-true k c.loop-block.block-index e) ∙ get_or_default blocks c.loop-block.block-index d item c.loop-block-test.true ∙ sym c.block-item.is)
        ∙ ap length (sym c.deref.ensures) ∙ c.block_fits.ensures
    told false e = let apart = eqb-false k c.loop-block.block-index e in c.loop-block.invariant k d (omega (arith, within, apart))

pub returns : goal.returns
returns c k d within = c.loop-block.invariant k d (omega (arith, within, c.loop-block-test.false))
