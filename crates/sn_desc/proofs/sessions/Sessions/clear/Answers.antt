use Rattle.std.proofs.Common.{◌≡◌, ◌≢◌, ◌⊎◌, inl, inr, ℕ, ◌+◌, ◌<◌, ◌≤◌, Bool, true, false, nat_lt, Option, None, get_or, length, replicate, set, refl, ap, sym, ◌∙◌, arith}
use Rattle.std.specs.FinMap as map
use Rattle.std.proofs.lemmas.Bool.{cases_eq, ltb-true, ltb-false}
use Rattle.std.proofs.lemmas.List.{ext_get_or, get_or-replicate, get_or-set_other, get_or-set_same, length-replicate}
use Rattle.sn_model.specs.Descriptors.{without_session}
use Rattle.sn_model.specs.declared.session.Session.{Session}
use Rattle.sn_desc.specs.InUse.{InUse}
use Rattle.sn_desc.specs.OpenFiles.{files_of}
use Rattle.sn_desc.specs.Sessions.{in_use_of}
use Rattle.sn_desc.proofs.LogoutLemmas.{all_none, without_none, without_own}
use Rattle.sn_desc.proofs.SeatLemmas.{get_past}
use Rattle.sn_desc.proofs.sessions.Sessions.clear.Goals as goal

pub loop-session-preserved : goal.loop-session-preserved
loop-session-preserved c =
    let i = c.loop-session.invariant in
    let n = c.loop-session.session in
    let mid = in_use_of c.loop-session.self in
    let is = c.logout.ensures.in_use in
    record {
      out = λ s low. ap (λ (u : InUse). get_or u.sessions s None) is ∙ out s low (cases_eq s n);
      closed = λ s fd low. ap (λ (u : InUse). map.get u.descriptors (s, fd)) is ∙ shut s fd low (cases_eq s n);
      room = omega (arith, i.room, c.logout.ensures.room);
    }
  where
    out : (s : ℕ) → s < c.loop-session.session + 1 → (s ≡ c.loop-session.session) ⊎ (s ≢ c.loop-session.session) → get_or (set (in_use_of c.loop-session.self).sessions c.loop-session.session None) s None ≡ None
    out s low (inl same) = ap (λ (k : ℕ). get_or (set (in_use_of c.loop-session.self).sessions c.loop-session.session None) k None) same ∙ get_or-set_same (in_use_of c.loop-session.self).sessions c.loop-session.session None None (omega (arith, c.loop-session.self.sessions_are_64))
    out s low (inr apart) = get_or-set_other (in_use_of c.loop-session.self).sessions c.loop-session.session s None None apart ∙ c.loop-session.invariant.out s (omega (arith, low, apart))

    shut : (s fd : ℕ) → s < c.loop-session.session + 1 → (s ≡ c.loop-session.session) ⊎ (s ≢ c.loop-session.session) → map.get (without_session (in_use_of c.loop-session.self).descriptors c.loop-session.session) (s, fd) ≡ None
    shut s fd low (inl same) = ap (λ (k : ℕ). map.get (without_session (in_use_of c.loop-session.self).descriptors c.loop-session.session) (k, fd)) same ∙ without_own (in_use_of c.loop-session.self).descriptors c.loop-session.session fd
    shut s fd low (inr apart) = without_none (in_use_of c.loop-session.self).descriptors c.loop-session.session s fd (c.loop-session.invariant.closed s fd (omega (arith, low, apart)))

pub returns-clause-in_use : goal.returns-clause-in_use
returns-clause-in_use c =
    let last = c.loop-session.self in
    let u = in_use_of last in
    let i = c.loop-session.invariant in
    let past : 64 ≤ c.loop-session.session = omega arith in
    let count : length u.sessions ≡ 64 = omega (arith, last.sessions_are_64, last.sessions.ok.0) in
    let out : u.sessions ≡ replicate 64 None =
    ext_get_or None u.sessions (replicate 64 None) (count ∙ sym (length-replicate {A = Option Session} 64 None))
    (λ k low. i.out k (omega (arith, low, count, past)) ∙ sym (get_or-replicate {A = Option Session} 64 k None None (omega (arith, low, count)))) in
    let none = all_none u.descriptors (λ s fd. split s fd (nat_lt s 64) refl) in
    λ j. record { sessions = out j; descriptors = none j; room = u.room }
  where
    split : (s fd : ℕ) (b : Bool) → nat_lt s 64 ≡ b → map.get (in_use_of c.loop-session.self).descriptors (s, fd) ≡ None
    split s fd true e = let low = ltb-true s 64 e in c.loop-session.invariant.closed s fd (omega (arith, low))
    split s fd false e = get_past (files_of c.loop-session.self.files) s fd c.loop-session.self.files.counted.seats (ltb-false s 64 e)
