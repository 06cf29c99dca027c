use Rattle.std.proofs.Common.{◌-◌, arith, ◌∙◌}
use Rattle.sn_file_bytes.specs.Bytes.{byte_of}
use Rattle.sn_file_bytes.proofs.ListLemmas.{none_read, more_read}
use Rattle.sn_file_bytes.proofs.blocks.Blocks.read.Goals as goal

pub loop-at-init : goal.loop-at-init
loop-at-init c = record { bytes = none_read (byte_of c.args.self.now) c.args.offset (c.args.offset - c.args.offset) c.args.out.now.items (omega arith); low = omega arith; high = c.requires }

pub loop-at-preserved : goal.loop-at-preserved
loop-at-preserved c =
    let i = c.loop-at.invariant in
    record {
      bytes = c.in_ok-extend_from_slice.ensures.items ∙ more_read (byte_of c.args.self.now) c.args.offset c.loop-at.at c.loop-at.out.items c.args.out.now.items c.piece-piece.result.now i.low i.bytes c.piece-piece.ensures.bytes;
      low = omega (arith, i.low);
      high = omega (arith, i.high, c.piece-piece.ensures.few, c.loop-at-test.true);
    }
