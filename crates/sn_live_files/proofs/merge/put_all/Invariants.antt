use Rattle.std.proofs.Common.{◌≡◌, ◌++◌, drop}
use Rattle.sn_live_files.specs.Listing.{set_all}
use Rattle.sn_live_files.proofs.merge.put_all.Given as goal

abbrev pub invariant-loop-change : goal.invariant-loop-change
invariant-loop-change l = l.names.items ++ set_all (drop l.change-index l.changed) ≡ l.fn.names.items ++ set_all l.changed
