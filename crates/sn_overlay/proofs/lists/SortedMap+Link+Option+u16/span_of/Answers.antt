use Rattle.std.proofs.Common.{◌≡◌, true, false, ltb, leb, rules}
use Rattle.std.specs.List.Sorted.{IsPartitionPoint}
use Rattle.std.proofs.lemmas.List.Sorted.{IsPartitionPoint-from_clause, IsPartitionedBy-leb, IsPartitionedBy-ltb}
use Rattle.sn_overlay.proofs.ListLemmas.{span_found, rising-names}
use Rattle.sn_overlay.proofs.lists.SortedMap+Link+Option+u16.span_of.Goals as goal

pub returns : goal.returns
returns c =
    let es = c.args.self.now.entries.items in
    let rises = rising-names es c.args.self.now.sorted in
    let low : IsPartitionPoint (λ e. ltb e.0.directory c.args.directory ≡ true) (λ e. ltb e.0.directory c.args.directory ≡ false) es c.partition_point-start.result =
    IsPartitionPoint-from_clause (λ e. ltb e.0.directory c.args.directory) es _ (rw c.deref.ensures.value at c.partition_point-start.ensures.partitioned) (IsPartitionedBy-ltb (λ e. e.0.directory) es c.args.directory rises) (λ a r f called. search rules) in
    let high : IsPartitionPoint (λ e. leb e.0.directory c.args.directory ≡ true) (λ e. leb e.0.directory c.args.directory ≡ false) es c.partition_point-end.result =
    IsPartitionPoint-from_clause (λ e. leb e.0.directory c.args.directory) es _ (rw c.deref-2.ensures.value at c.partition_point-end.ensures.partitioned) (IsPartitionedBy-leb (λ e. e.0.directory) es c.args.directory rises) (λ a r f called. search rules) in
    span_found (λ key. key.directory) c.args.directory es _ _ (rw c.deref.ensures.value at c.partition_point-start.ensures.bound) (rw c.deref-2.ensures.value at c.partition_point-end.ensures.bound) low high
