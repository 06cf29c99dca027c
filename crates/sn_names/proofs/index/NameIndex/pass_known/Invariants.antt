use Rattle.std.proofs.Common.{◌≡◌, ◌-◌, vec_len}
use Rattle.sn_names.proofs.index.NameIndex.pass_known.Given as goal

abbrev pub invariant-loop-self : goal.invariant-loop-self
invariant-loop-self l = record {
  tree : l.self.tree ≡ l.initial.self.tree;
  numbers : l.self.numbers.items ≡ l.initial.self.numbers.items;
  rooms : l.self.rooms.items ≡ l.initial.self.rooms.items;
  entries : l.self.entries ≡ l.initial.self.entries;
}

abbrev pub decreases-loop-self : goal.decreases-loop-self
decreases-loop-self l = vec_len l.self.rooms - l.self.first_unknown
