use Rattle.std.proofs.Common.{ℕ, ◌-◌, ◌*◌, ◌%◌, ◌^◌, ◌∙◌, Fits, bit_and, arith, w32}
use Rattle.std.proofs.lemmas.Simd.{zip2_splat}
use Rattle.sn_map.specs.Bits.{with_bit_cleared}
use Rattle.sn_map.proofs.BitsLemmas.{bit_removed}
use Rattle.sn_map.proofs.VectorLemmas.{map_lanes}
use Rattle.sn_map.proofs.lanes.bit_cleared.Goals as goal

pub returns : goal.returns
returns c =
    let k = c.args.k in
    let keep : ℕ = 4294967295 - 1 * 2 ^ k % 4294967296 in
    zip2_splat bit_and c.args.words 16 keep c.fits-words.0
    ∙ map_lanes (Fits w32) (λ x. bit_and x keep) (with_bit_cleared k) (λ x fits. bit_removed x k (omega arith) c.requires) c.args.words c.fits-words.1
