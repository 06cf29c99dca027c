use Rattle.std.proofs.Common.{◌≡◌, ◌*◌, length, refl, ◌∙◌, arith, rules}
use Rattle.sn_inode.proofs.BlockLemmas.{put_here, put_others}
use Rattle.sn_inode.proofs.record_blocks.put_record.Goals as goal

pub returns-clause-here : goal.returns-clause-here
returns-clause-here c =
    let long : length c.encode.new.bytes ≡ 128 = search rules in
    put_here c.args.block.now c.put_bytes.new.block c.encode.new.bytes c.args.index (128 * c.args.index) c.put_bytes.result refl c.put_bytes.ensures long (omega (arith, c.told-block, c.requires.index)) ∙ c.encode.ensures

pub returns-clause-others : goal.returns-clause-others
returns-clause-others c = λ i other.
    let long : length c.encode.new.bytes ≡ 128 = search rules in
    put_others c.args.block.now c.put_bytes.new.block c.encode.new.bytes c.args.index (128 * c.args.index) c.put_bytes.result refl c.put_bytes.ensures long (omega (arith, c.told-block, c.requires.index)) i other
