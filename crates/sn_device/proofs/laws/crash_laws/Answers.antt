use Rattle.std.proofs.Common.{IsTrue, Contains, arith}
use Rattle.sn_device.proofs.DiskLemmas.{CrashSince-now, CrashSince_clock, CrashSince-next, CrashSince-added, MayLeave-written, MayLeave-torn, MayLeave-synced, MayLeave-settled}
use Rattle.sn_device.proofs.CrashLemmas.{CrashSince-touched, CrashSince-before, Always-kept, IsSynced-only, IsSynced-reads, Touches-within}
use Rattle.sn_device.specs.Sectors.{Stretch}
use Rattle.sn_device.proofs.SectorLemmas.{Stretch-within}
use Rattle.sn_device.proofs.laws.crash_laws.Goals as goal

pub returns-clause-now_counts : goal.returns-clause-now_counts
returns-clause-now_counts c = CrashSince-now

pub returns-clause-only_now : goal.returns-clause-only_now
returns-clause-only_now c = CrashSince_clock

pub returns-clause-call_adds : goal.returns-clause-call_adds
returns-clause-call_adds c d m t f before = (CrashSince-next d m t f before, CrashSince-added d m t f before)

pub returns-clause-write_tears : goal.returns-clause-write_tears
returns-clause-write_tears c at bytes m f = (λ left. (MayLeave-written at bytes m f left, left.whole), MayLeave-torn at bytes m f)

pub returns-clause-sync_settles : goal.returns-clause-sync_settles
returns-clause-sync_settles c m f whole = (MayLeave-synced m f, MayLeave-settled m f whole)

pub returns-clause-stretch_tears : goal.returns-clause-stretch_tears
returns-clause-stretch_tears c at n old new f = CrashSince-touched (Stretch at n) old new f

pub returns-clause-clock_moves_on : goal.returns-clause-clock_moves_on
returns-clause-clock_moves_on c d m = omega arith

pub returns-clause-touches_tear : goal.returns-clause-touches_tear
returns-clause-touches_tear c touched old new f = CrashSince-before (Contains touched) old new f

pub returns-clause-others_are_kept : goal.returns-clause-others_are_kept
returns-clause-others_are_kept c touched others test old new whole apart depends = Always-kept (Contains touched) (Contains others) (λ f. IsTrue (test f)) depends apart old new whole

pub returns-clause-synced_is_read : goal.returns-clause-synced_is_read
returns-clause-synced_is_read c d f whole is_synced = (IsSynced-only d f is_synced, IsSynced-reads d f whole)

pub returns-clause-stretch_widens : goal.returns-clause-stretch_widens
returns-clause-stretch_widens c at n from m old new low high = Touches-within (Stretch at n) (Stretch from m) old new (Stretch-within at n from m low high)
