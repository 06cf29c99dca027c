use Rattle.std.proofs.Common.{◌≡◌}
use Rattle.sn_filedev.proofs.file.FileDevice.store.Given as goal

abbrev pub invariant-loop-at : goal.invariant-loop-at
invariant-loop-at g l = l.self.status ≡ l.initial.self.status
