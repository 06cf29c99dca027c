use Rattle.std.proofs.Common.{◌≡◌, ◌++◌, List, length}
use Rattle.sn_acl.specs.declared.entries.Entry.{Entry}
use Rattle.sn_acl.specs.AccessList.{IsValid}
use Rattle.sn_acl.specs.Text.{more_text, acl_text}
use Rattle.sn_acl.proofs.text.read_entries.Given as goal

-- where the text is that of a valid ACL, the entries read are its first ones, and the rest is that of the others
abbrev pub invariant-loop-tail : goal.invariant-loop-tail
invariant-loop-tail l =
    (es : List Entry) → IsValid es → l.fn.text ≡ acl_text es → (others : List Entry) × (es ≡ l.entries.items ++ others) × (l.rest ≡ more_text others)

abbrev pub decreases-loop-tail : goal.decreases-loop-tail
decreases-loop-tail l = length l.rest
