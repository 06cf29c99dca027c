use Rattle.std.proofs.Common.{◌≡◌, ℕ, ◌+◌, ◌-◌, ◌%◌, leb, cond, bit_or, length, take, w8, refl, arith}
use Rattle.std.proofs.lemmas.List.{length-take-le}
use Rattle.std.proofs.lemmas.Simd.{zip2_splat, chunk-fits}
use Rattle.sn_limits.proofs.NameLemmas.{joined, same_everywhere, others_mask}
use Rattle.sn_limits.proofs.name.other_bytes.Goals as goal

pub returns : goal.returns
returns c =
    let v = take 16 c.args.bytes.now in
    let long : length v ≡ 16 = length-take-le 16 c.args.bytes.now c.requires in
    let from_first = zip2_splat {Y = ℕ} (λ a b. (a + (256 - b)) % 256) v 16 33 long in
    let outside = joined (λ a b. cond (leb a b) 255 0) _ _ v (same_everywhere v 16 94 long) from_first in
    others_mask _ v _ (omega arith) (chunk-fits w8 0 16 c.args.bytes.now c.type_inv.bytes) (joined bit_or _ _ v outside (zip2_splat {Y = ℕ} _ v 16 47 long)) refl
