use Rattle.std.proofs.Common.{◌≡◌, ◌+◌, ◌-◌, ◌++◌, List, length, take}
use Rattle.sn_listings.specs.Fitting.{fitting}
use Rattle.sn_listings.specs.declared.entry.HeldEntry.{HeldEntry}
use Rattle.sn_listings.proofs.filling.fill_from.Given as goal

-- whatever comes after the entries so far, the answer goes on with as much of it as it would have
abbrev pub invariant-loop-entry : goal.invariant-loop-entry
invariant-loop-entry l = record {
  place : l.place ≡ l.from + l.entry-index;
  room : l.answer.room ≡ l.fn.answer.room;
  filled : (more : List HeldEntry) → l.answer.bytes ++ fitting (l.answer.room - length l.answer.bytes) l.place more
      ≡ l.fn.answer.bytes ++ fitting (l.fn.answer.room - length l.fn.answer.bytes) l.from (take l.entry-index l.entries ++ more);
}
