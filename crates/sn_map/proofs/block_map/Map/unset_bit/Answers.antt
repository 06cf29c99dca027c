use Rattle.std.proofs.Common.{ap, ◌∙◌, arith}
use Rattle.sn_map.specs.Bits.{with_bit}
use Rattle.sn_map.proofs.BitsLemmas.{puts_bit, bit_removed}
use Rattle.sn_map.proofs.block_map.Map.unset_bit.Goals as goal

pub returns : goal.returns
returns c =
    let word = bit_removed c.word.result c.args.k (omega arith) (omega arith) ∙ ap (λ w. with_bit w c.args.k 0) c.word.ensures in
    puts_bit c.args.self.now c.set_word.new.self c.args.block c.args.k 0 _ c.requires.block (omega arith) c.set_word.ensures word
