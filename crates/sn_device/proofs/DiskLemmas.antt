-- The moments of a disk, and what a crash may leave at them.
use Rattle.std.proofs.Common.{◌≡◌, ◌≢◌, ◌⊎◌, inl, inr, ⊎_elim, ℕ, suc, ◌+◌, ◌-◌, ◌<◌, ◌≤◌, List, [], ◌∷◌, ◌++◌, length, take, refl, sym, ◌∙◌, ap, subst, arith, Contains, length-append}
use Rattle.std.proofs.Math.Seq.{take-append-add}
use Rattle.std.proofs.lemmas.List.{append_assoc, length-set, get_or-set_other, same_lists, get_or_default}
use Rattle.sn_device.specs.Sectors.{Contents, AreSectors, AgreesOutside, Single, Union}
use Rattle.sn_device.specs.Disk.{Moment, Disk, clock, next, written, synced, MayLeave, CrashNow, MayLeaveAtOne, CrashSince}
use Rattle.sn_device.specs.Crash.{moments, FollowsBy}
use Rattle.sn_device.proofs.SectorLemmas.{Contains-more, Contains-first, Contains-cases}

-- what is possible now is possible since any moment
pub CrashSince-now : (d : Disk) (t : ℕ) (c : Contents) → CrashNow d c → CrashSince d t c
CrashSince-now d t c now = inl now

-- since this moment nothing else is
pub CrashSince_clock : (d : Disk) (c : Contents) → CrashSince d (clock d) c → CrashNow d c
CrashSince_clock d c since =
    let none : clock d - clock d ≡ 0 = omega arith in
    ⊎_elim (λ now. now) (λ nothing. absurd nothing) (subst (λ n. MayLeaveAtOne (d.present ∷ take n d.past) c) none since)

-- the moments since t, once a call has led to one more
since-next : (d : Disk) (m : Moment) (t : ℕ) → t ≤ clock d → m ∷ take (clock (next d m) - t) (next d m).past ≡ m ∷ (d.present ∷ take (clock d - t) d.past)
since-next d m t before =
    let one_more : clock (next d m) - t ≡ suc (clock d - t) = omega arith in
    ap (λ n. m ∷ take n (d.present ∷ d.past)) one_more

-- a call adds what a crash may leave after it
pub CrashSince-next : (d : Disk) (m : Moment) (t : ℕ) (c : Contents) → t ≤ clock d → CrashSince (next d m) t c → MayLeave m c ⊎ CrashSince d t c
CrashSince-next d m t c before since = subst (λ ms. MayLeaveAtOne ms c) (since-next d m t before) since

-- and takes nothing away
pub CrashSince-added : (d : Disk) (m : Moment) (t : ℕ) (c : Contents) → t ≤ clock d → MayLeave m c ⊎ CrashSince d t c → CrashSince (next d m) t c
CrashSince-added d m t c before since = subst (λ ms. MayLeaveAtOne ms c) (sym (since-next d m t before)) since

pub MayLeaveAtOne-append : (ms ns : List Moment) (c : Contents) → MayLeaveAtOne (ms ++ ns) c → MayLeaveAtOne ms c ⊎ MayLeaveAtOne ns c
MayLeaveAtOne-append [] ns c one = inr one
MayLeaveAtOne-append (m ∷ ms) ns c (inl here) = inl (inl here)
MayLeaveAtOne-append (m ∷ ms) ns c (inr there) = ⊎_elim (λ front. inl (inr front)) (λ back. inr back) (MayLeaveAtOne-append ms ns c there)

pub MayLeaveAtOne-append_left : (ms ns : List Moment) (c : Contents) → MayLeaveAtOne ms c → MayLeaveAtOne (ms ++ ns) c
MayLeaveAtOne-append_left [] ns c one = absurd one
MayLeaveAtOne-append_left (m ∷ ms) ns c (inl here) = inl here
MayLeaveAtOne-append_left (m ∷ ms) ns c (inr there) = inr (MayLeaveAtOne-append_left ms ns c there)

pub MayLeaveAtOne-append_right : (ms ns : List Moment) (c : Contents) → MayLeaveAtOne ns c → MayLeaveAtOne (ms ++ ns) c
MayLeaveAtOne-append_right [] ns c one = one
MayLeaveAtOne-append_right (m ∷ ms) ns c one = inr (MayLeaveAtOne-append_right ms ns c one)

pub FollowsBy-clock : (since : List Moment) (old new : Disk) → FollowsBy since old new → clock new ≡ length since + clock old
FollowsBy-clock since old new follows = omega (arith, ap length follows, length-append since (moments old))

-- the moments since t of a disk that follows
pub since-follows : (since : List Moment) (old new : Disk) (t : ℕ) → FollowsBy since old new → t ≤ clock old
    → new.present ∷ take (clock new - t) new.past ≡ since ++ (old.present ∷ take (clock old - t) old.past)
since-follows since old new t follows before =
    let count : suc (clock new - t) ≡ length since + suc (clock old - t) = omega (arith, FollowsBy-clock since old new follows) in
    ap (λ ms. take (suc (clock new - t)) ms) follows ∙ ap (λ n. take n (since ++ moments old)) count ∙ take-append-add since (moments old) (suc (clock old - t))

pub CrashSince-follows : (since : List Moment) (old new : Disk) (t : ℕ) (c : Contents) → FollowsBy since old new → t ≤ clock old → CrashSince new t c → MayLeaveAtOne since c ⊎ CrashSince old t c
CrashSince-follows since old new t c follows before left =
    MayLeaveAtOne-append since (old.present ∷ take (clock old - t) old.past) c (subst (λ ms. MayLeaveAtOne ms c) (since-follows since old new t follows before) left)

pub CrashSince-later : (since : List Moment) (old new : Disk) (t : ℕ) (c : Contents) → FollowsBy since old new → t ≤ clock old → MayLeaveAtOne since c ⊎ CrashSince old t c → CrashSince new t c
CrashSince-later since old new t c follows before left =
    let rest = old.present ∷ take (clock old - t) old.past in
    subst (λ ms. MayLeaveAtOne ms c) (sym (since-follows since old new t follows before)) (⊎_elim (MayLeaveAtOne-append_left since rest c) (MayLeaveAtOne-append_right since rest c) left)

pub FollowsBy-join : (first second : List Moment) (old mid new : Disk) → FollowsBy first old mid → FollowsBy second mid new → FollowsBy (second ++ first) old new
FollowsBy-join first second old mid new before after = after ∙ ap (λ ms. second ++ ms) before ∙ sym (append_assoc second first (moments old))

-- after a sync a crash leaves what reads give
pub MayLeave-synced : (m : Moment) (c : Contents) → MayLeave (synced m) c → c ≡ m.sectors
MayLeave-synced m c left =
    let none : (i : ℕ) → Contains [] i → ⊥ = λ i (k, past, is). omega arith in
    same_lists c m.sectors left.others.count (λ k d within. let inside : k < length m.sectors = omega (arith, left.others.count, within) in
    get_or_default c k d [] within ∙ left.others.same k (none k) ∙ sym (get_or_default m.sectors k d [] inside))

-- after a write or a try the sector may hold anything too
pub MayLeave-written : (at : ℕ) (bytes : List ℕ) (m : Moment) (c : Contents) → MayLeave (written at bytes m) c → AgreesOutside (Union (Single at) (Contains m.unsynced)) m.sectors c
MayLeave-written at bytes m c left = record {
  count = left.others.count ∙ length-set m.sectors at bytes;
  same = λ i out. left.others.same i (λ among. out (Contains-cases at m.unsynced i among)) ∙ get_or-set_other m.sectors at i bytes [] (λ same. out (inl same));
}

-- what reads give may always be left
pub CrashNow-contents : (d : Disk) → AreSectors d.present.sectors → CrashNow d d.present.sectors
CrashNow-contents d whole = record { others = record { count = refl; same = λ i out. refl }; whole = whole }

pub MayLeave-settled : (m : Moment) (c : Contents) → AreSectors m.sectors → c ≡ m.sectors → MayLeave (synced m) c
MayLeave-settled m c whole same =
    subst (MayLeave (synced m)) (sym same) (record { others = record { count = refl; same = λ i out. refl }; whole = whole })

pub MayLeave-torn : (at : ℕ) (bytes : List ℕ) (m : Moment) (c : Contents) → AgreesOutside (Union (Single at) (Contains m.unsynced)) m.sectors c × AreSectors c → MayLeave (written at bytes m) c
MayLeave-torn at bytes m c (agrees, whole) = record {
  others = record {
    count = agrees.count ∙ sym (length-set m.sectors at bytes);
    same = λ i out.
        let other : i ≢ at = λ same. out (subst (Contains (at ∷ m.unsynced)) (sym same) (Contains-first at m.unsynced)) in
        agrees.same i (⊎_elim other (λ among. out (Contains-more at m.unsynced i among))) ∙ sym (get_or-set_other m.sectors at i bytes [] other);
  };
  whole = whole;
}
