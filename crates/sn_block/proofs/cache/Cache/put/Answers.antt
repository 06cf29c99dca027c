use Rattle.sn_block.proofs.CacheLemmas.{first-put, others-put}
use Rattle.sn_block.proofs.cache.Cache.put.Goals as goal

pub returns-clause-first : goal.returns-clause-first
returns-clause-first c = rw c.in_ok-put.ensures.entries (first-put c.args.self.now.blocks c.args.number c.args.block)

pub returns-clause-others : goal.returns-clause-others
returns-clause-others c e among =
    others-put c.args.self.now.blocks c.args.number c.args.block e (rw c.in_ok-put.ensures.entries at among)
