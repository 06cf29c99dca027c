use Rattle.std.proofs.Common.{◌∙◌, arith}
use Rattle.std.specs.FinMap as map
use Rattle.sn_overlay.specs.Layers.{bytes_of}
use Rattle.sn_overlay_change.proofs.SpliceLemmas.{block_written}
use Rattle.sn_overlay_change.proofs.changing.written_block.Goals as goal

pub returns-clause-block : goal.returns-clause-block
returns-clause-block g c told =
    c.in_ok-boxed.ensures ∙ c.splice.ensures
    ∙ block_written (bytes_of (map.get (g.B.Below.shows c.args.below.now).nodes c.args.file_block.file)) c.args.offset c.args.bytes.now c.args.file_block.index c.in_ok-block.block
    c.saturating_sub-from.result c.saturating_sub-skip.result c.min-count.result c.requires.high c.requires.low c.in_ok-block.ensures.long (omega arith) (omega arith) (omega arith) (λ few. c.in_ok-block.ensures.block told few)
