use Rattle.std.proofs.Common.{ℕ, vec_len}
use Rattle.sn_ondisk.specs.Trees.{Store}
use Rattle.sn_names.specs.Indexes.{AllTell}
use Rattle.sn_names.proofs.indexes.NameIndexes.trim.Given as goal

abbrev pub invariant-loop-self : goal.invariant-loop-self
invariant-loop-self l = record {
  told : (sectors : ℕ) (s : Store) → AllTell sectors s l.initial.self → AllTell sectors s l.self;
}

abbrev pub decreases-loop-self : goal.decreases-loop-self
decreases-loop-self l = vec_len l.self.list
