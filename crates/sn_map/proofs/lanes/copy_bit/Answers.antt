use Rattle.std.proofs.Common.{arith}
use Rattle.std.proofs.lemmas.Simd.{length-put_chunk}
use Rattle.sn_map.specs.Bits.{with_bit_copied}
use Rattle.sn_map.proofs.VectorLemmas.{map_vector, map_tail}
use Rattle.sn_map.proofs.lanes.copy_bit.Goals as goal

pub vectors-preserved : goal.vectors-preserved
vectors-preserved c = (
  omega (arith, length-put_chunk c.vectors.at c.vectors.words c.bit_copied.result),
  map_vector (with_bit_copied c.args.from c.args.to) c.args.words.now c.vectors.words c.bit_copied.result c.vectors.at 16 (omega arith) c.vectors.invariant.1 c.bit_copied.ensures,
)

pub returns : goal.returns
returns c = map_tail (with_bit_copied c.args.from c.args.to) c.args.words.now c.vectors.words c.copy_bit.new.words c.vectors.at (omega arith) c.vectors.invariant.1 c.copy_bit.ensures
