use Rattle.sn_block.proofs.blocks.Blocks.next_wanted.Goals as goal

pub returns-clause-passed : goal.returns-clause-passed
returns-clause-passed g c told i from until = c.next_wanted.ensures.passed _ _ i (c.args.self.now.told told) from until
