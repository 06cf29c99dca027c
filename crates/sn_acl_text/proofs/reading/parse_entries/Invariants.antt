use Rattle.std.proofs.Common.{◌≡◌, length}
use Rattle.sn_acl_text.specs.Reading.{said, onto}
use Rattle.sn_acl_text.proofs.reading.parse_entries.Given as goal

abbrev pub invariant-loop-word : goal.invariant-loop-word
invariant-loop-word l = said l.fn.text ≡ onto l.entries.items (said l.rest)

abbrev pub decreases-loop-word : goal.decreases-loop-word
decreases-loop-word l = length l.rest
