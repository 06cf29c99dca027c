-- Counts of calls one after another.
use Rattle.std.proofs.Common.{◌≡◌, ◌⊎◌, inl, inr, ℕ, ◌+◌, ◌-◌, ◌^◌, ◌≤◌, ◌||◌, nat_le, true, IsTrue, Result, refl, sym, subst, ◌∙◌, ap, arith}
use Rattle.std.proofs.lemmas.Bool.{le-leb, leb-true, or_cases, or_left, or_right}
use Rattle.sn_device.specs.Status.{has_ended}
use Rattle.sn_device.specs.declared.status.Status.{Status}
use Rattle.sn_block.specs.Counts.{called, CountsCalls, IsLater}

pub called-none : (s : Status) → s ≡ called 0 0 s
called-none s =
    let w : s.writes ≡ s.writes + 0 = omega arith in
    let y : s.syncs ≡ s.syncs + 0 = omega arith in
    λ k. record s { writes = w k; syncs = y k }

-- after calls that succeeded
pub called-after : (i j a b : ℕ) (old mid new : Status) → mid ≡ called i j old → new ≡ called a b mid → new ≡ called (i + a) (j + b) old
called-after i j a b old mid new from is =
    let w : old.writes + i + a ≡ old.writes + (i + a) = omega arith in
    let y : old.syncs + j + b ≡ old.syncs + (j + b) = omega arith in
    is ∙ ap (called a b) from ∙ (λ k. record old { writes = w k; syncs = y k })

-- ---- later statuses

pub later-called : (w y : ℕ) (s : Status) → IsLater s (called w y s)
later-called w y s = record { sectors = refl; failures = omega arith; writes = omega arith; syncs = omega arith; spent = λ was. was }

pub later-same : (old new : Status) → new ≡ old → IsLater old new
later-same old new same = subst (IsLater old) (sym same) (record { sectors = refl; failures = omega arith; writes = omega arith; syncs = omega arith; spent = λ was. was })

pub later-is : (w y : ℕ) (old new : Status) → new ≡ called w y old → IsLater old new
later-is w y old new is = subst (IsLater old) (sym is) (later-called w y old)

pub later-join : (old mid new : Status) → IsLater old mid → IsLater mid new → IsLater old new
later-join old mid new first second = record {
  sectors = second.sectors ∙ first.sectors;
  failures = omega (arith, first.failures, second.failures);
  writes = omega (arith, first.writes, second.writes);
  syncs = omega (arith, first.syncs, second.syncs);
  spent = λ was. second.spent (first.spent was);
}

pub later-calls : {T E : Type 0} (w y : ℕ) (r : Result T E) (old new : Status) → CountsCalls w y r old new → IsLater old new
later-calls w y r old new counts = record { sectors = counts.sectors; failures = counts.failures; writes = counts.writes.0; syncs = counts.syncs.0; spent = counts.spent }

-- what has ended stays so
still_top : (a b : ℕ) → nat_le (2 ^ 64 - 1) a ≡ true → a ≤ b → nat_le (2 ^ 64 - 1) b ≡ true
still_top a b is more = le-leb (2 ^ 64 - 1) b (omega (arith, leb-true (2 ^ 64 - 1) a is, more))

pub later-ended : (old new : Status) → IsLater old new → IsTrue (has_ended old) → IsTrue (has_ended new)
later-ended old new later ended = from (or_cases (old.is_spent || nat_le (2 ^ 64 - 1) old.failures) (nat_le (2 ^ 64 - 1) (old.writes + old.syncs)) ended)
  where
    failed : (old.is_spent ≡ true) ⊎ (nat_le (2 ^ 64 - 1) old.failures ≡ true) → (new.is_spent || nat_le (2 ^ 64 - 1) new.failures) ≡ true
    failed (inl is) = or_left new.is_spent (nat_le (2 ^ 64 - 1) new.failures) (later.spent is)
    failed (inr is) = or_right new.is_spent (nat_le (2 ^ 64 - 1) new.failures) (still_top old.failures new.failures is later.failures)

    from : ((old.is_spent || nat_le (2 ^ 64 - 1) old.failures) ≡ true) ⊎ (nat_le (2 ^ 64 - 1) (old.writes + old.syncs) ≡ true) → has_ended new ≡ true
    from (inl is) = or_left (new.is_spent || nat_le (2 ^ 64 - 1) new.failures) (nat_le (2 ^ 64 - 1) (new.writes + new.syncs)) (failed (or_cases old.is_spent (nat_le (2 ^ 64 - 1) old.failures) is))
    from (inr is) = or_right (new.is_spent || nat_le (2 ^ 64 - 1) new.failures) (nat_le (2 ^ 64 - 1) (new.writes + new.syncs)) (still_top (old.writes + old.syncs) (new.writes + new.syncs) is (omega (arith, later.writes, later.syncs)))
