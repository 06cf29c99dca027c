use Rattle.sn_block.proofs.blocks.Blocks.has_index.Goals as goal

pub invariant_of-self : goal.invariant_of-self
invariant_of-self g c = record {
  coheres = c.args.self.now.coheres;
  told = λ told. c.has.ensures _ _ (c.args.self.now.told told);
}
