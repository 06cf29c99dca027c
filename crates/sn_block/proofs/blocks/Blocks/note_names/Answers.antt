use Rattle.std.proofs.Common.{sym, ap, ◌∙◌}
use Rattle.sn_device.specs.Disk.{reads}
use Rattle.sn_ondisk.specs.Blocks.{block_at}
use Rattle.sn_block.proofs.TellLemmas.{first-bytes}
use Rattle.sn_block.proofs.blocks.Blocks.note_names.Goals as goal

pub invariant_of-self : goal.invariant_of-self
invariant_of-self g c = record {
  coheres = c.args.self.now.coheres;
  told = λ told.
      let disk = reads (g.D.Device.disk c.args.self.now.device) in
      let lent = first-bytes disk _ c.first_number-number.result (c.args.self.now.coheres told) c.first_number-number.ensures in
      c.note_names.ensures _ _ (c.args.self.now.told told) (ap (block_at disk) c.in-Ok.ensures.1 ∙ lent ∙ sym c.first-block.ensures);
}
