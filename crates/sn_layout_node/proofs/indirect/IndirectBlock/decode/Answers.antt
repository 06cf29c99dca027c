use Rattle.std.proofs.Common.{◌∙◌, sym, ap, subst}
use Rattle.sn_layout_node.specs.Indirect.{ArePointers, pointers_bytes}
use Rattle.sn_layout_node.proofs.Numbers.{block_read, block_fits, block_only}
use Rattle.sn_layout_node.proofs.indirect.IndirectBlock.decode.Goals as goal

pub returns-clause-read : goal.returns-clause-read
returns-clause-read c = block_read c.args.block.now c.told-block c.fits-block ∙ ap pointers_bytes (sym c.over.ensures)

pub returns-clause-fits : goal.returns-clause-fits
returns-clause-fits c = subst ArePointers (sym c.over.ensures) (block_fits c.args.block.now c.fits-block)

pub returns-clause-only : goal.returns-clause-only
returns-clause-only c = λ pointers fits e. c.over.ensures ∙ block_only c.args.block.now c.told-block c.fits-block pointers fits e
