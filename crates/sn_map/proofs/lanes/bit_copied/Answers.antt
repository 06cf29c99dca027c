use Rattle.std.proofs.Common.{ℕ, ◌-◌, ◌*◌, ◌/◌, ◌%◌, ◌^◌, ◌∙◌, Fits, bit_and, bit_or, arith, w32}
use Rattle.std.proofs.lemmas.Simd.{zip2_splat, zip2_of_maps, splat_is_map}
use Rattle.sn_map.specs.Bits.{with_bit_copied}
use Rattle.sn_map.proofs.BitsLemmas.{bit_moved}
use Rattle.sn_map.proofs.VectorLemmas.{map_lanes}
use Rattle.sn_map.proofs.lanes.bit_copied.Goals as goal

pub returns : goal.returns
returns c =
    let words = c.args.words in
    let from = c.args.from in
    let to = c.args.to in
    let len = c.fits-words.0 in
    let keep : ℕ = 4294967295 - 1 * 2 ^ to % 4294967296 in
    let kept = zip2_splat bit_and words 16 keep len in
    let down = zip2_splat (λ x k. x / 2 ^ k) words 16 from len in
    let bit = zip2_of_maps bit_and (λ x. x / 2 ^ from) (λ _. 1) words down (splat_is_map words 16 1 len) in
    let up = zip2_of_maps (λ x k. x * 2 ^ k % 4294967296) (λ x. bit_and (x / 2 ^ from) 1) (λ _. to) words bit (splat_is_map words 16 to len) in
    zip2_of_maps bit_or (λ x. bit_and x keep) (λ x. bit_and (x / 2 ^ from) 1 * 2 ^ to % 4294967296) words kept up
    ∙ map_lanes (Fits w32) _ (with_bit_copied from to) (λ x fits. bit_moved x from to (omega arith) c.requires.to) words c.fits-words.1
