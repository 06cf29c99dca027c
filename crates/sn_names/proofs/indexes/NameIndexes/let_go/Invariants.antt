use Rattle.std.proofs.Common.{◌-◌, ◌<◌, ◌≤◌, ℕ, vec_len, get_or}
use Rattle.sn_ondisk.specs.Trees.{Store}
use Rattle.sn_names.specs.declared.kept.KeptIndex.{KeptIndex}
use Rattle.sn_names.specs.Index.{RestsOn}
use Rattle.sn_names.specs.Indexes.{AllTell}
use Rattle.sn_names.proofs.indexes.NameIndexes.let_go.Given as goal

abbrev pub invariant-loop-k : goal.invariant-loop-k
invariant-loop-k l = record {
  within : l.k ≤ vec_len l.self.list;
  told : (sectors : ℕ) (s : Store) → AllTell sectors s l.initial.self → AllTell sectors s l.self;
  gone : (j : ℕ) (d : KeptIndex) → j < l.k → RestsOn (get_or l.self.list.items j d).index l.number → ⊥;
}

abbrev pub decreases-loop-k : goal.decreases-loop-k
decreases-loop-k l = vec_len l.self.list - l.k
