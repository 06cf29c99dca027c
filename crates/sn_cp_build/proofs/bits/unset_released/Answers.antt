use Rattle.std.proofs.Common.{ℕ, List, sym, subst, take}
use Rattle.std.proofs.lemmas.List.{take_more}
use Rattle.sn_cp_build.specs.Bits.{PutsBits}
use Rattle.sn_cp_build.proofs.BitLemmas.{puts_more}
use Rattle.sn_cp_build.proofs.bits.unset_released.Goals as goal

pub loop-block-preserved : goal.loop-block-preserved
loop-block-preserved c =
    let released = c.args.released.now in
    let k = c.loop-block.block-index in
    subst (λ (ns : List ℕ). PutsBits 0 ns c.args.map.now c.unset_bit.new.self) (sym (take_more released k 0 c.loop-block-test.true))
    (puts_more 0 (take k released) _ c.args.map.now c.loop-block.map c.unset_bit.new.self c.loop-block.invariant c.unset_bit.ensures)
