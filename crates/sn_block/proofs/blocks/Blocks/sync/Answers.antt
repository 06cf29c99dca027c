use Rattle.sn_block.proofs.EffectLemmas.{SyncsAll-sync}
use Rattle.sn_block.proofs.blocks.Blocks.sync.Goals as goal

pub returns-clause-disk : goal.returns-clause-disk
returns-clause-disk g c told = SyncsAll-sync _ _ _ _ (c.sync.ensures.disk told)
