use Rattle.sn_block.proofs.blocks.Blocks.keep_index.Goals as goal

pub invariant_of-self : goal.invariant_of-self
invariant_of-self g c = record {
  coheres = c.args.self.now.coheres;
  told = λ told. c.keep.ensures _ _ (c.args.self.now.told told) (c.requires.told told);
}
