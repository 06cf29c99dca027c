use Rattle.std.proofs.Common.{arith}
use Rattle.std.proofs.lemmas.Simd.{length-put_chunk}
use Rattle.sn_map.specs.Bits.{with_bit_cleared}
use Rattle.sn_map.proofs.VectorLemmas.{map_vector, map_tail}
use Rattle.sn_map.proofs.lanes.clear_bit.Goals as goal

pub vectors-preserved : goal.vectors-preserved
vectors-preserved c = (
  omega (arith, length-put_chunk c.vectors.at c.vectors.words c.bit_cleared.result),
  map_vector (with_bit_cleared c.args.k) c.args.words.now c.vectors.words c.bit_cleared.result c.vectors.at 16 (omega arith) c.vectors.invariant.1 c.bit_cleared.ensures,
)

pub returns : goal.returns
returns c = map_tail (with_bit_cleared c.args.k) c.args.words.now c.vectors.words c.clear_bit.new.words c.vectors.at (omega arith) c.vectors.invariant.1 c.clear_bit.ensures
