use Rattle.std.proofs.Common.{arith}
use Rattle.sn_acl.proofs.Lists.{length-valid}
use Rattle.sn_acl.proofs.list.Acl.from_entries.Goals as goal
use Rattle.sn_acl.proofs.list.Acl.from_entries.Goals.{then-entries-gt-MAX_ENTRIES-via-then-entries-gt-MAX_ENTRIES, then-entries-gt-MAX_ENTRIES-via-else-entries-gt-MAX_ENTRIES+then-not-is_valid}

pub returns-then-entries-gt-MAX_ENTRIES-clause-refused : goal.returns-then-entries-gt-MAX_ENTRIES-clause-refused
returns-then-entries-gt-MAX_ENTRIES-clause-refused c = λ none valid.
    elim c.then-entries-gt-MAX_ENTRIES.branch [
      | then-entries-gt-MAX_ENTRIES-via-then-entries-gt-MAX_ENTRIES w ↦ absurd (omega (arith, length-valid c.args.entries.now valid))
      | then-entries-gt-MAX_ENTRIES-via-else-entries-gt-MAX_ENTRIES+then-not-is_valid w ↦ w.is_valid.ensures.refused w.if-not-is_valid.true valid
    ]
