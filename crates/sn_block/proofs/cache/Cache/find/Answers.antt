use Rattle.std.proofs.Common.{nat_eq, sym, ◌∙◌}
use Rattle.lru.proofs.CallerLemmas.{Contains-promoted}
use Rattle.sn_block.proofs.CacheLemmas.{first-promoted}
use Rattle.sn_block.proofs.cache.Cache.find.Goals as goal

pub returns-clause-first : goal.returns-clause-first
returns-clause-first c is =
    rw c.promote.ensures.entries (first-promoted c.args.number c.args.self.now.blocks.entries (sym c.promote.ensures.value ∙ is))

pub returns-clause-others : goal.returns-clause-others
returns-clause-others c e among =
    Contains-promoted (nat_eq c.args.number) c.args.self.now.blocks.entries e (rw c.promote.ensures.entries at among)
