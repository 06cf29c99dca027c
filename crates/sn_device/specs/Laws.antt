-- Laws of what a crash may leave. Where a premise says that reads give whole sectors, it is since a crash leaves nothing else: with others there no content could be left at all, and what holds of each would say nothing.
use Rattle.std.specs.Prelude.{◌≡◌, ◌⊎◌, ◌↔◌, ℕ, ◌+◌, ◌≤◌, Bool, List, Contains, IsTrue}
use Rattle.sn_device.specs.Sectors.{Contents, AreSectors, AgreesOutside, AreDisjoint, DependsOn, Single, Stretch, Union}
use Rattle.sn_device.specs.Disk.{Moment, Disk, clock, reads, IsSynced, Always, next, written, synced, MayLeave, CrashNow, CrashSince}
use Rattle.sn_device.specs.Crash.{Touches}

-- What is possible now counts as possible since any moment.
abbrev pub NowCounts : Type 0
NowCounts = (d : Disk) (t : ℕ) (c : Contents) → CrashNow d c → CrashSince d t c

-- Since this very moment nothing else is possible.
abbrev pub OnlyNow : Type 0
OnlyNow = (d : Disk) (c : Contents) → CrashSince d (clock d) c → CrashNow d c

-- A write or a sync advances the clock by one.
abbrev pub ClockMovesOn : Type 0
ClockMovesOn = (d : Disk) (m : Moment) → clock (next d m) ≡ clock d + 1

-- A call adds what a crash may leave after it, and takes nothing away. Since a moment that hasn't come, it is alone.
abbrev pub CallAdds : Type 0
CallAdds = (d : Disk) (m : Moment) (t : ℕ) (c : Contents) → t ≤ clock d → CrashSince (next d m) t c ↔ (MayLeave m c ⊎ CrashSince d t c)

-- After a write or a try a crash may leave any bytes in its sector too.
abbrev pub WriteTears : Type 0
WriteTears = (at : ℕ) (bytes : List ℕ) (m : Moment) (c : Contents)
    → MayLeave (written at bytes m) c ↔ (AgreesOutside (Union (Single at) (Contains m.unsynced)) m.sectors c × AreSectors c)

-- After a sync a crash leaves what reads give.
abbrev pub SyncSettles : Type 0
SyncSettles = (m : Moment) (c : Contents) → AreSectors m.sectors → MayLeave (synced m) c ↔ (c ≡ m.sectors)

-- A crash in the course of calls that write a stretch of sectors may leave any bytes in those and in what was unsynced.
abbrev pub StretchTears : Type 0
StretchTears = (at n : ℕ) (old new : Disk) (c : Contents) → Touches (Stretch at n) old new → CrashSince new (clock old) c
    → AgreesOutside (Union (Stretch at n) (Contains old.present.unsynced)) old.present.sectors c

-- What a crash in the course of calls might have left is what one before them might have left, with any bytes in the sectors that they touched.
abbrev pub TouchesTear : Type 0
TouchesTear = (touched : List ℕ) (old new : Disk) (c : Contents) → AreSectors (reads old) → Touches (Contains touched) old new → CrashSince new (clock old) c
    → (d : Contents) × CrashNow old d × AgreesOutside (Contains touched) d c

-- A test of other sectors than those touched, which every content passed that a crash could leave, is still passed by every one.
abbrev pub OthersAreKept : Type 0
OthersAreKept = (touched others : List ℕ) (test : Contents → Bool) (old new : Disk) → AreSectors (reads old) → AreDisjoint (Contains touched) (Contains others)
    → DependsOn (Contains others) (λ c. IsTrue (test c)) → Always old (λ c. IsTrue (test c)) → Touches (Contains touched) old new → Always new (λ c. IsTrue (test c))

-- Where nothing is unsynced, a crash leaves what reads give and nothing else.
abbrev pub SyncedIsRead : Type 0
SyncedIsRead = (d : Disk) (c : Contents) → AreSectors (reads d) → IsSynced d → CrashNow d c ↔ (c ≡ reads d)

-- Calls that touch a stretch of sectors touch each longer run round it.
abbrev pub StretchWidens : Type 0
StretchWidens = (at n from m : ℕ) (old new : Disk) → from ≤ at → at + n ≤ from + m → Touches (Stretch at n) old new → Touches (Stretch from m) old new
