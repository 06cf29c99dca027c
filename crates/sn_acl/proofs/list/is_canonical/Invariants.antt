use Rattle.std.proofs.Common.{◌≡◌, ◌-◌, drop}
use Rattle.sn_acl.specs.AccessList.{is_canonical}
use Rattle.sn_acl.proofs.list.is_canonical.Given as goal

abbrev pub invariant-loop-i : goal.invariant-loop-i
invariant-loop-i l = is_canonical l.entries ≡ is_canonical (drop (l.i - 1) l.entries)
