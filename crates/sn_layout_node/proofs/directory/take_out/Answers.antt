use Rattle.std.proofs.Common.{arith}
use Rattle.sn_layout_node.proofs.Changes.{taken_out}
use Rattle.sn_layout_node.proofs.directory.take_out.Goals as goal

pub returns : goal.returns
returns c =
    taken_out c.args.block.now c.copy_within.new.self c.put_zeros.new.block c.args.start c.args.end c.args.size c.put_zeros.result c.requires.block c.requires.start c.requires.end c.requires.size c.copy_within.ensures.after c.put_zeros.ensures.bytes.front c.put_zeros.ensures.next (omega (arith, c.put_zeros.auto.block, c.copy_within.auto.self))
