-- An append, from what its writes touch to what a crash leaves.
use Rattle.std.proofs.Common.{◌⊎◌, inl, ℕ, ◌+◌, List, [], ◌∷◌, ◌++◌, length, arith}
use Rattle.sn_device.specs.Sectors.{Contents, AreSectors, Single, Stretch}
use Rattle.sn_device.specs.Disk.{Disk, Always, reads}
use Rattle.sn_device.specs.Crash.{Touches, LeavesOnly}
use Rattle.sn_device.proofs.CrashLemmas.{LeavesOnly-touched, LeavesOnly-now, LeavesOnly-weaker, LeavesOnly-join, CrashSince-before}
use Rattle.sn_ondisk.specs.Gates.{IsClosed}
use Rattle.sn_ondisk.specs.LogHalf.{HasRecord, IsReady, place_after, body_sectors}
use Rattle.sn_ondisk.proofs.LogLemmas.{ready-same, gate_adds}

module _ (base epoch place : ℕ) (ps : List (List ℕ)) (p : List ℕ) where
  abbrev Before : Contents → Type 0
  Before c = IsReady c base epoch ps place

  abbrev Either : Contents → Type 0
  Either c = IsReady c base epoch ps place ⊎ IsReady c base epoch (ps ++ p ∷ []) (place_after place p)

  pub append_adds : (old mid new : Disk) → AreSectors (reads old) → AreSectors (reads mid) → Always old Before → Touches (Stretch (base + place + 1) (body_sectors p + 1)) old mid
      → Always mid (λ c. HasRecord c base epoch place (length ps) p × IsClosed c (base + place_after place p)) → Touches (Single (base + place)) mid new → LeavesOnly old new Either
  append_adds old mid new whole whole_mid before behind written gate =
      let first : LeavesOnly old mid Before = LeavesOnly-touched (Stretch (base + place + 1) (body_sectors p + 1)) (Stretch base (place + 1)) Before
      (λ c d whole_c whole_d agrees ready. ready-same c d base epoch place ps (λ i from to. agrees.same i (from, to)) ready)
      (λ i far near. omega (arith, far.0, near.1)) old mid whole before behind in
      let second : LeavesOnly mid new Either = record {
        follows = (gate.since, gate.follows);
        each = λ c since. let was = CrashSince-before (Single (base + place)) mid new c whole_mid gate since in
            gate_adds was.0 c base epoch place ps p (record { ready = LeavesOnly-now old mid Before first was.0 was.1; body = (written was.0 was.1).0; shut = (written was.0 was.1).1 }) was.2;
      } in
      LeavesOnly-join old mid new Either (LeavesOnly-weaker old mid Before Either (λ c ready. inl ready) first) second
