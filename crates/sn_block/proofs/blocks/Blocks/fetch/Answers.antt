use Rattle.std.proofs.Common.{◌∙◌, ⊎_elim, sym, ap}
use Rattle.sn_device.specs.Disk.{reads, Disk}
use Rattle.sn_ondisk.specs.Blocks.{block_at}
use Rattle.sn_block.proofs.TellLemmas.{AllTell-same}
use Rattle.sn_block.proofs.blocks.Blocks.fetch.Goals as goal

pub invariant_of-self-in-Break-1 : goal.invariant_of-self-in-Break-1
invariant_of-self-in-Break-1 g c = record {
  coheres = λ told e among. c.args.self.now.coheres told e (c.find.ensures.others e (c.take_room.ensures.others e among));
  told = c.args.self.now.told;
}

pub invariant_of-self-in-Break-branch-2 : goal.invariant_of-self-in-Break-branch-2
invariant_of-self-in-Break-branch-2 g c = record {
  coheres = λ told e among.
      c.args.self.now.coheres told e (c.find.ensures.others e (c.take_room.ensures.others e among))
      ∙ sym (ap (λ (d : Disk). block_at (reads d) e.0) (c.read_sectors.ensures.same told));
  told = λ told. AllTell-same _ _ _ _ c.args.self.now.names c.read_sectors.ensures.sectors (c.read_sectors.ensures.same told) (c.args.self.now.told told);
}

pub invariant_of-self-2 : goal.invariant_of-self-2
invariant_of-self-2 g c = record {
  coheres = λ told e among. ⊎_elim
      (λ was.
      c.args.self.now.coheres told e (c.find.ensures.others e (c.take_room.ensures.others e was))
      ∙ sym (ap (λ (d : Disk). block_at (reads d) e.0) (c.read_sectors.ensures.same told)))
      (λ put.
      put.1
      ∙ c.in_ok-read_sectors.ensures.bytes told
      ∙ sym (ap (λ n. block_at (reads (g.D.Device.disk c.args.self.now.device)) n) (put.0 ∙ c.from-2.ensures))
      ∙ sym (ap (λ (d : Disk). block_at (reads d) e.0) (c.read_sectors.ensures.same told)))
      (c.put.ensures.others e among);
  told = λ told. AllTell-same _ _ _ _ c.args.self.now.names c.read_sectors.ensures.sectors (c.read_sectors.ensures.same told) (c.args.self.now.told told);
}
