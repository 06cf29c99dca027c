use Rattle.std.proofs.Common.{eqb, arith, w32}
use Rattle.std.specs.Simd.Lanes.{chunk}
use Rattle.std.proofs.lemmas.Simd.{bitmask_splat, length-chunk}
use Rattle.sn_map.proofs.lanes.free_lanes.Goals as goal

pub returns : goal.returns
returns c =
    let words = c.args.words.now in
    bitmask_splat w32 eqb (chunk c.args.at 64 words) 64 0 (length-chunk c.args.at 64 words c.requires) (omega arith)
