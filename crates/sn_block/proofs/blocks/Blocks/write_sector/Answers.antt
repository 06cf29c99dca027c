use Rattle.sn_block.proofs.EffectLemmas.{WritesSector-write, Coheres-write}
use Rattle.sn_block.proofs.TellLemmas.{AllTell-write}
use Rattle.sn_block.proofs.blocks.Blocks.write_sector.Goals as goal

pub invariant_of-self : goal.invariant_of-self
invariant_of-self g c = record {
  coheres = λ told.
      Coheres-write c.args.at c.args.sector.now c.write.result _ _ _ _ _ c.forget.ensures.others (c.args.self.now.coheres told) (c.write.ensures.disk told);
  told = λ told.
      AllTell-write c.args.at c.args.sector.now c.write.result _ _ _ _ _ c.args.self.now.names c.forget-2.new.self c.forget-2.ensures c.write.ensures.sectors (c.args.self.now.told told) (c.write.ensures.disk told);
}

pub returns-clause-disk : goal.returns-clause-disk
returns-clause-disk g c told = WritesSector-write _ _ _ _ _ _ (c.write.ensures.disk told)
