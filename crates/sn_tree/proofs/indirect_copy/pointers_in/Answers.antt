use Rattle.sn_layout_node.specs.Indirect.{pointers_of}
use Rattle.sn_layout_node.proofs.Numbers.{block_read, block_fits}
use Rattle.sn_tree.proofs.indirect_copy.pointers_in.Goals as goal

pub returns-clause-value : goal.returns-clause-value
returns-clause-value c = c.decode.ensures.only (pointers_of c.args.block.now) (block_fits c.args.block.now c.fits-block) (block_read c.args.block.now c.told-block c.fits-block)
