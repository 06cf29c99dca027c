-- What holds of each content that a crash might have left, carried over calls.
use Rattle.std.proofs.Common.{◌≡◌, ◌≢◌, ◌⊎◌, inl, inr, ⊎_elim, ℕ, ◌-◌, ◌<◌, ◌≤◌, List, [], ◌∷◌, ◌++◌, length, take, slice_set, Contains, refl, sym, ◌∙◌, ap, subst, arith}
use Rattle.std.proofs.lemmas.List.{length-set, get_or-set_same, get_or-set_other, get_or_past, set_past}
use Rattle.std.proofs.lemmas.Bool.{cases_eq, cases_lt}
use Rattle.sn_device.specs.Sectors.{Contents, sector_at, AreSectors, AgreesOutside, DependsOn, AreDisjoint, IsWithin, Union}
use Rattle.sn_device.specs.Disk.{Moment, Disk, clock, reads, IsSynced, Always, next, written, synced, MayLeave, CrashNow, MayLeaveAtOne, CrashSince}
use Rattle.sn_device.specs.Crash.{FollowsBy, LeavesOnly, TouchesOnly, Touches}
use Rattle.std.specs.List.{AllByRecursion}
use Rattle.sn_device.proofs.SectorLemmas.{AreSectors-set, Contains-more, Contains-first, Contains-cases}
use Rattle.sn_device.proofs.DiskLemmas.{CrashSince_clock, CrashSince-next, FollowsBy-clock, FollowsBy-join, CrashSince-follows, CrashSince-later, CrashNow-contents, MayLeave-synced}

FollowsBy-le : (since : List Moment) (old new : Disk) → FollowsBy since old new → clock old ≤ clock new
FollowsBy-le since old new follows = omega (arith, FollowsBy-clock since old new follows)

pub clock-LeavesOnly : (old new : Disk) (P : Contents → Type 0) → LeavesOnly old new P → clock old ≤ clock new
clock-LeavesOnly old new P run = FollowsBy-le run.follows.0 old new run.follows.1

one-whole : (ms : List Moment) (c : Contents) → MayLeaveAtOne ms c → AreSectors c
one-whole [] c one = absurd one
one-whole (m ∷ ms) c (inl left) = left.whole
one-whole (m ∷ ms) c (inr more) = one-whole ms c more

-- what a crash leaves is made of sectors
pub CrashSince-whole : (d : Disk) (t : ℕ) (c : Contents) → CrashSince d t c → AreSectors c
CrashSince-whole d t c since = one-whole (d.present ∷ take (clock d - t) d.past) c since

-- before the first call
pub LeavesOnly-start : (d : Disk) (P : Contents → Type 0) → Always d P → LeavesOnly d d P
LeavesOnly-start d P here = record { follows = ([], refl); each = λ c since. here c (CrashSince_clock d c since) }

-- one call more
pub LeavesOnly-next : (old mid : Disk) (m : Moment) (P : Contents → Type 0) → LeavesOnly old mid P → ((c : Contents) → MayLeave m c → P c) → LeavesOnly old (next mid m) P
LeavesOnly-next old mid m P run here = record {
  follows = (m ∷ run.follows.0, ap (λ ms. m ∷ ms) run.follows.1);
  each = λ c since. ⊎_elim (here c) (run.each c) (CrashSince-next mid m (clock old) c (clock-LeavesOnly old mid P run) since);
}

-- one run after another
pub LeavesOnly-join : (old mid new : Disk) (P : Contents → Type 0) → LeavesOnly old mid P → LeavesOnly mid new P → LeavesOnly old new P
LeavesOnly-join old mid new P first second = record {
  follows = (second.follows.0 ++ first.follows.0, FollowsBy-join first.follows.0 second.follows.0 old mid new first.follows.1 second.follows.1);
  each = λ c since. ⊎_elim
      (λ later. second.each c (CrashSince-later second.follows.0 mid new (clock mid) c second.follows.1 (omega arith) (inl later)))
      (first.each c)
      (CrashSince-follows second.follows.0 mid new (clock old) c second.follows.1 (clock-LeavesOnly old mid P first) since);
}

pub LeavesOnly-weaker : (old new : Disk) (P Q : Contents → Type 0) → ((c : Contents) → P c → Q c) → LeavesOnly old new P → LeavesOnly old new Q
LeavesOnly-weaker old new P Q weaker run = record { follows = run.follows; each = λ c since. weaker c (run.each c since) }

-- what holds at every moment holds now
pub LeavesOnly-now : (old new : Disk) (P : Contents → Type 0) → LeavesOnly old new P → Always new P
LeavesOnly-now old new P run c now = run.each c (inl now)

module _ (F : ℕ → Type 0) where
  pub TouchesOnly-refl : (m : Moment) → TouchesOnly F m m
  TouchesOnly-refl m = record { others = record { count = refl; same = λ i out. refl }; unsynced = λ i among. inr among }

  pub TouchesOnly-join : (old mid new : Moment) → TouchesOnly F old mid → TouchesOnly F mid new → TouchesOnly F old new
  TouchesOnly-join old mid new first second = record {
    others = record { count = second.others.count ∙ first.others.count; same = λ i out. second.others.same i out ∙ first.others.same i out };
    unsynced = λ i among. ⊎_elim (λ is_in. inl is_in) (first.unsynced i) (second.unsynced i among);
  }

  pub TouchesOnly-written : (at : ℕ) (bytes : List ℕ) (m : Moment) → F at → TouchesOnly F m (written at bytes m)
  TouchesOnly-written at bytes m is_in = record {
    others = record { count = length-set m.sectors at bytes; same = λ i out. get_or-set_other m.sectors at i bytes [] (λ same. out (subst F (sym same) is_in)) };
    unsynced = λ i among. ⊎_elim (λ same. inl (subst F (sym same) is_in)) (λ more. inr more) (Contains-cases at m.unsynced i among);
  }

  pub TouchesOnly-synced : (m : Moment) → TouchesOnly F m (synced m)
  TouchesOnly-synced m = record { others = record { count = refl; same = λ i out. refl }; unsynced = λ i (k, past, is). absurd (omega arith) }

  pub TouchesOnly-within : (G : ℕ → Type 0) (old new : Moment) → IsWithin F G → TouchesOnly F old new → TouchesOnly G old new
  TouchesOnly-within G old new within touches = record {
    others = record { count = touches.others.count; same = λ i out. touches.others.same i (λ is_in. out (within i is_in)) };
    unsynced = λ i among. ⊎_elim (λ is_in. inl (within i is_in)) (λ was. inr was) (touches.unsynced i among);
  }

  -- what a crash may leave after calls in the set
  pub MayLeave-touched : (old new : Moment) (c : Contents) → TouchesOnly F old new → MayLeave new c → AgreesOutside (Union F (Contains old.unsynced)) old.sectors c
  MayLeave-touched old new c touches left = record {
    count = left.others.count ∙ touches.others.count;
    same = λ i out. left.others.same i (λ among. out (touches.unsynced i among)) ∙ touches.others.same i (λ is_in. out (inl is_in));
  }

  touched_at_one : (old : Moment) (ms : List Moment) (c : Contents) → AllByRecursion (TouchesOnly F old) ms → MayLeaveAtOne ms c → AgreesOutside (Union F (Contains old.unsynced)) old.sectors c
  touched_at_one old [] c each one = absurd one
  touched_at_one old (m ∷ ms) c each (inl left) = MayLeave-touched old m c each.0 left
  touched_at_one old (m ∷ ms) c each (inr more) = touched_at_one old ms c each.1 more

  -- what a crash in the course of such calls may leave
  pub CrashSince-touched : (old new : Disk) (c : Contents) → Touches F old new → CrashSince new (clock old) c → AgreesOutside (Union F (Contains old.present.unsynced)) old.present.sectors c
  CrashSince-touched old new c run since = ⊎_elim
      (touched_at_one old.present run.since c run.each)
      (λ now. MayLeave-touched old.present old.present c (TouchesOnly-refl old.present) (CrashSince_clock old c now))
      (CrashSince-follows run.since old new (clock old) c run.follows (omega arith) since)

  touch_only_append : (old : Moment) (ms ns : List Moment) → AllByRecursion (TouchesOnly F old) ms → AllByRecursion (TouchesOnly F old) ns → AllByRecursion (TouchesOnly F old) (ms ++ ns)
  touch_only_append old [] ns first second = second
  touch_only_append old (m ∷ ms) ns first second = (first.0, touch_only_append old ms ns first.1 second)

  touch_only_from : (old mid : Moment) (ms : List Moment) → TouchesOnly F old mid → AllByRecursion (TouchesOnly F mid) ms → AllByRecursion (TouchesOnly F old) ms
  touch_only_from old mid [] first each = tt
  touch_only_from old mid (m ∷ ms) first each = (TouchesOnly-join old mid m first each.0, touch_only_from old mid ms first each.1)

  pub Touches-start : (d : Disk) → Touches F d d
  Touches-start d = record { since = []; follows = refl; each = tt }

  -- the present moment is the newest of those since, or the old one
  newest : (since : List Moment) (old new : Disk) → FollowsBy since old new → AllByRecursion (TouchesOnly F old.present) since → TouchesOnly F old.present new.present
  newest [] old new follows each =
      let same : new.present ≡ old.present = cc in subst (TouchesOnly F old.present) (sym same) (TouchesOnly-refl old.present)
  newest (m ∷ ms) old new follows each =
      let same : new.present ≡ m = cc in subst (TouchesOnly F old.present) (sym same) each.0

  pub Touches-present : (old new : Disk) → Touches F old new → TouchesOnly F old.present new.present
  Touches-present old new run = newest run.since old new run.follows run.each

  pub Touches-next : (old mid : Disk) (m : Moment) → Touches F old mid → TouchesOnly F mid.present m → Touches F old (next mid m)
  Touches-next old mid m run touches = record {
    since = m ∷ run.since;
    follows = ap (λ ms. m ∷ ms) run.follows;
    each = (TouchesOnly-join old.present mid.present m (Touches-present old mid run) touches, run.each);
  }

  pub Touches-join : (old mid new : Disk) → Touches F old mid → Touches F mid new → Touches F old new
  Touches-join old mid new first second = record {
    since = second.since ++ first.since;
    follows = FollowsBy-join first.since second.since old mid new first.follows second.follows;
    each = touch_only_append old.present second.since first.since (touch_only_from old.present mid.present second.since (Touches-present old mid first) second.each) first.each;
  }

-- these sectors of c, and the others of s
mixed : List ℕ → Contents → Contents → Contents
mixed [] c s = s
mixed (at ∷ rest) c s = slice_set (mixed rest c s) at (sector_at c at)

length-mixed : (from : List ℕ) (c s : Contents) → length (mixed from c s) ≡ length s
unfolding mixed
length-mixed [] c s = refl
length-mixed (at ∷ rest) c s = length-set (mixed rest c s) at (sector_at c at) ∙ length-mixed rest c s

mixed-others : (from : List ℕ) (c s : Contents) (i : ℕ) → (Contains from i → ⊥) → sector_at (mixed from c s) i ≡ sector_at s i
unfolding mixed
mixed-others [] c s i out = refl
mixed-others (at ∷ rest) c s i out =
    get_or-set_other (mixed rest c s) at i (sector_at c at) [] (λ same. out (subst (Contains (at ∷ rest)) (sym same) (Contains-first at rest)))
    ∙ mixed-others rest c s i (λ more. out (Contains-more at rest i more))

mixed-either : (from : List ℕ) (c s : Contents) → length c ≡ length s → (i : ℕ) → (sector_at (mixed from c s) i ≡ sector_at c i) ⊎ (Contains from i → ⊥)
unfolding mixed
mixed-either [] c s count i = inr (λ (k, past, is). omega arith)
mixed-either (at ∷ rest) c s count i = ⊎_elim
    (λ (same : i ≡ at). inl (subst (λ j. sector_at (mixed (at ∷ rest) c s) j ≡ sector_at c j) (sym same) put))
    (λ (other : i ≢ at). ⊎_elim
    (λ was. inl (get_or-set_other (mixed rest c s) at i (sector_at c at) [] other ∙ was))
    (λ none. inr (λ among. ⊎_elim other none (Contains-cases at rest i among)))
    (mixed-either rest c s count i))
    (cases_eq i at)
  where
    put : sector_at (slice_set (mixed rest c s) at (sector_at c at)) at ≡ sector_at c at
    put = ⊎_elim
        (λ (within : at < length (mixed rest c s)). get_or-set_same (mixed rest c s) at (sector_at c at) [] within)
        (λ (past : length (mixed rest c s) ≤ at).
        let past_set : length (slice_set (mixed rest c s) at (sector_at c at)) ≤ at = omega (arith, length-set (mixed rest c s) at (sector_at c at), past) in
        let past_c : length c ≤ at = omega (arith, length-mixed rest c s, past, count) in
        get_or_past (slice_set (mixed rest c s) at (sector_at c at)) at [] past_set ∙ sym (get_or_past c at [] past_c))
        (cases_lt at (length (mixed rest c s)))

AreSectors-mixed : (from : List ℕ) (c s : Contents) → length c ≡ length s → AreSectors c → AreSectors s → AreSectors (mixed from c s)
unfolding mixed
AreSectors-mixed [] c s count whole_c whole_s = whole_s
AreSectors-mixed (at ∷ rest) c s count whole_c whole_s =
    let was = AreSectors-mixed rest c s count whole_c whole_s in ⊎_elim
    (λ (within : at < length c). AreSectors-set (mixed rest c s) at (sector_at c at) was (whole_c at within))
    (λ (past : length c ≤ at). let past_set : length (mixed rest c s) ≤ at = omega (arith, length-mixed rest c s, past, count) in
    subst AreSectors (sym (set_past (mixed rest c s) at (sector_at c at) past_set)) was)
    (cases_lt at (length c))

-- A fact of sectors that no call touched still holds of each content that a crash may leave.
module _ (F G : ℕ → Type 0) (P : Contents → Type 0) (depends : DependsOn G P) (apart : AreDisjoint F G) where
  pub MayLeave-kept : (old new : Moment) → AreSectors old.sectors → ((c : Contents) → MayLeave old c → P c) → TouchesOnly F old new → (c : Contents) → MayLeave new c → P c
  MayLeave-kept old new whole here touches c left =
      let agrees = MayLeave-touched F old new c touches left in
      let d = mixed old.unsynced c old.sectors in
      let whole_d : AreSectors d = AreSectors-mixed old.unsynced c old.sectors agrees.count left.whole whole in
      let possible : MayLeave old d = record {
        others = record { count = length-mixed old.unsynced c old.sectors; same = λ i out. mixed-others old.unsynced c old.sectors i out };
        whole = whole_d;
      } in
      depends d c whole_d left.whole (record {
        count = agrees.count ∙ sym (length-mixed old.unsynced c old.sectors);
        same = λ i is_in. ⊎_elim
            (λ same. sym same)
            (λ none. agrees.same i (λ touched. ⊎_elim (λ in_F. apart i in_F is_in) none touched) ∙ sym (mixed-others old.unsynced c old.sectors i none))
            (mixed-either old.unsynced c old.sectors agrees.count i);
      }) (here d possible)

  at_one : (old : Moment) → AreSectors old.sectors → ((c : Contents) → MayLeave old c → P c) → (ms : List Moment) → AllByRecursion (TouchesOnly F old) ms → (c : Contents) → MayLeaveAtOne ms c → P c
  at_one old whole here [] each c one = absurd one
  at_one old whole here (m ∷ ms) each c (inl left) = MayLeave-kept old m whole here each.0 c left
  at_one old whole here (m ∷ ms) each c (inr more) = at_one old whole here ms each.1 c more

  pub LeavesOnly-touched : (old new : Disk) → AreSectors (reads old) → Always old P → Touches F old new → LeavesOnly old new P
  LeavesOnly-touched old new whole here run = record {
    follows = (run.since, run.follows);
    each = λ c since. ⊎_elim
        (at_one old.present whole here run.since run.each c)
        (λ now. here c (CrashSince_clock old c now))
        (CrashSince-follows run.since old new (clock old) c run.follows (omega arith) since);
  }

  -- and so it always holds afterwards
  pub Always-kept : (old new : Disk) → AreSectors (reads old) → Always old P → Touches F old new → Always new P
  Always-kept old new whole here run = LeavesOnly-now old new P (LeavesOnly-touched old new whole here run)

-- What a crash may leave after calls in a set is what one before them might have left, with any bytes in the set.
module _ (F : ℕ → Type 0) where
  pub MayLeave-before : (old new : Moment) (c : Contents) → AreSectors old.sectors → TouchesOnly F old new → MayLeave new c → (d : Contents) × MayLeave old d × AgreesOutside F d c
  MayLeave-before old new c whole touches left =
      let agrees = MayLeave-touched F old new c touches left in
      let possible : MayLeave old (mixed old.unsynced c old.sectors) = record {
        others = record { count = length-mixed old.unsynced c old.sectors; same = λ i out. mixed-others old.unsynced c old.sectors i out };
        whole = AreSectors-mixed old.unsynced c old.sectors agrees.count left.whole whole;
      } in (
        mixed old.unsynced c old.sectors,
        possible,
        record {
          count = agrees.count ∙ sym (length-mixed old.unsynced c old.sectors);
          same = λ i out. ⊎_elim
              (λ same. sym same)
              (λ none. agrees.same i (λ touched. ⊎_elim out none touched) ∙ sym (mixed-others old.unsynced c old.sectors i none))
              (mixed-either old.unsynced c old.sectors agrees.count i);
        },
      )

  before_one : (old : Moment) (ms : List Moment) (c : Contents) → AreSectors old.sectors → AllByRecursion (TouchesOnly F old) ms → MayLeaveAtOne ms c → (d : Contents) × MayLeave old d × AgreesOutside F d c
  before_one old [] c whole each one = absurd one
  before_one old (m ∷ ms) c whole each (inl left) = MayLeave-before old m c whole each.0 left
  before_one old (m ∷ ms) c whole each (inr more) = before_one old ms c whole each.1 more

  pub CrashSince-before : (old new : Disk) (c : Contents) → AreSectors (reads old) → Touches F old new → CrashSince new (clock old) c → (d : Contents) × CrashNow old d × AgreesOutside F d c
  CrashSince-before old new c whole run since = ⊎_elim
      (before_one old.present run.since c whole run.each)
      (λ now. MayLeave-before old.present old.present c whole (TouchesOnly-refl F old.present) (CrashSince_clock old c now))
      (CrashSince-follows run.since old new (clock old) c run.follows (omega arith) since)

  -- where P becomes Q with any bytes in the set, each content since has Q
  pub LeavesOnly-torn : (P Q : Contents → Type 0) → ((c d : Contents) → AreSectors c → AreSectors d → AgreesOutside F c d → P c → Q d)
      → (old new : Disk) → AreSectors (reads old) → Always old P → Touches F old new → LeavesOnly old new Q
  LeavesOnly-torn P Q turns old new whole here run = record {
    follows = (run.since, run.follows);
    each = λ c since. let before = CrashSince-before old new c whole run since in turns before.0 c before.1.whole (CrashSince-whole new (clock old) c since) before.2 (here before.0 before.1);
  }

  -- calls in a set are calls in each wider one
  pub Touches-within : (G : ℕ → Type 0) (old new : Disk) → IsWithin F G → Touches F old new → Touches G old new
  Touches-within G old new within run = record { since = run.since; follows = run.follows; each = all_within run.since run.each }
    where
      all_within : (ms : List Moment) → AllByRecursion (TouchesOnly F old.present) ms → AllByRecursion (TouchesOnly G old.present) ms
      all_within [] each = tt
      all_within (m ∷ ms) each = (TouchesOnly-within F G old.present m within each.0, all_within ms each.1)

-- After a sync a crash leaves what reads give.
pub IsSynced-only : (d : Disk) (c : Contents) → IsSynced d → CrashNow d c → c ≡ reads d
IsSynced-only d c is_synced now =
    let same : d.present ≡ synced d.present = ap (λ (u : List ℕ). record { sectors = d.present.sectors; unsynced = u }) is_synced in
    MayLeave-synced d.present c (subst (λ m. MayLeave m c) same now)

pub IsSynced-reads : (d : Disk) (c : Contents) → AreSectors (reads d) → c ≡ reads d → CrashNow d c
IsSynced-reads d c whole is = subst (CrashNow d) (sym is) (CrashNow-contents d whole)

-- so that what holds of what reads give always holds
pub Always-synced : (d : Disk) (P : Contents → Type 0) → IsSynced d → P (reads d) → Always d P
Always-synced d P is_synced here c now = subst P (sym (IsSynced-only d c is_synced now)) here

-- what always holds holds of what reads give
pub Always-reads : (d : Disk) (P : Contents → Type 0) → AreSectors (reads d) → Always d P → P (reads d)
Always-reads d P whole here = here (reads d) (CrashNow-contents d whole)
