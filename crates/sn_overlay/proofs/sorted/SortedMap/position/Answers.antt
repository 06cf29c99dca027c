use Rattle.std.proofs.Common.{rules}
use Rattle.std.proofs.lemmas.Fn.{always_returns_same}
use Rattle.sn_overlay.proofs.SortedLemmas.{searched}
use Rattle.sn_overlay.proofs.sorted.SortedMap.position.Goals as goal

pub returns : goal.returns
returns g c =
    let facts = c.binary_search_by.ensures in
    let by_key = facts.position (λ entry. g.K.Ord.cmp entry.0 c.args.key.now) (always_returns_same _ _ _ (λ a r g called. search rules)) in
    rw (← c.deref.ensures.value) (searched g.met.K.Ord.total _ c.args.key.now _ (rw c.deref.ensures.value c.args.self.now.sorted) facts.bound by_key)
