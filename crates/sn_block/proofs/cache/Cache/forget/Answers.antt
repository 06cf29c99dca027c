use Rattle.sn_block.proofs.CacheLemmas.{others-removed}
use Rattle.sn_block.proofs.cache.Cache.forget.Goals as goal

pub returns : goal.returns
returns c = record {
  others = λ e among.
      others-removed c.args.number c.args.self.now.blocks.entries c.len-kept.ensures.valid.0 e (rw c.pop.ensures.entries at among);
}
