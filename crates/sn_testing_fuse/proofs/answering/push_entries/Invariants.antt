use Rattle.std.proofs.Common.{◌≡◌}
use Rattle.sn_testing_fuse.proofs.answering.push_entries.Given as goal

abbrev pub invariant-loop-word : goal.invariant-loop-word
invariant-loop-word l = l.listing.room ≡ l.initial.listing.room
