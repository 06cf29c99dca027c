use Rattle.std.proofs.Common.{◌<◌, IfSome, vec_len}
use Rattle.sn_names.proofs.indexes.NameIndexes.most_alike.Given as goal

abbrev pub invariant-loop-k : goal.invariant-loop-k
invariant-loop-k l = IfSome l.best (λ k. k < vec_len l.self.list)
