-- What is in a log half, carried over changes of other sectors and over the write of a gate.
use Rattle.std.proofs.Common.{◌≡◌, ◌⊎◌, inl, inr, ⊎_elim, ℕ, ◌+◌, ◌<◌, ◌≤◌, ◌==◌, ◌||◌, if◌then◌else◌, Bool, true, false, List, [], ◌∷◌, ◌++◌, length, slice_index, take, refl, sym, ◌∙◌, ap, subst, arith}
use Rattle.std.specs.Prelude.{nat_le}
use Rattle.std.proofs.lemmas.Bool.{cases_eq, cases_lt, eqb-true, eqb-false, leb-true}
use Rattle.byteorder.specs.Endian.{little_number}
use Rattle.sn_device.specs.Sectors.{Contents, sector_at, AgreesOutside, Single}
use Rattle.sn_ondisk.specs.Gates.{gate_at, IsOpen, IsClosed}
use Rattle.sn_ondisk.proofs.BlockLemmas.{AreSame, bytes_at-same}
use Rattle.sn_ondisk.specs.LogHalf.{HasRecord, Leads, Stops, ReplaysTo, IsReady, HasPending, HasNoLater, epoch_at, place_after, body_sectors, cleared_sector}

pub gate-same : (c d : Contents) (at : ℕ) → sector_at d at ≡ sector_at c at → gate_at d at ≡ gate_at c at
gate-same c d at same = ap (λ s. slice_index s 0) same

pub closed-same : (c d : Contents) (at : ℕ) → sector_at d at ≡ sector_at c at → IsClosed c at → IsClosed d at
closed-same c d at same closed opened = closed (sym (gate-same c d at same) ∙ opened)

pub HasRecord-same : (c d : Contents) (base epoch place sequence : ℕ) (p : List ℕ) → AreSame c d (base + place + 1) (base + place_after place p) → HasRecord c base epoch place sequence p → HasRecord d base epoch place sequence p
HasRecord-same c d base epoch place sequence p same body = record {
  least = body.least;
  most = body.most;
  room = body.room;
  bytes = bytes_at-same c d (base + place + 1) (body_sectors p) (λ i from to. same i from (omega (arith, to))) ∙ body.bytes;
}

-- records take room
Leads-le : (c : Contents) (base epoch place sequence : ℕ) (ps : List (List ℕ)) (end : ℕ) → Leads c base epoch place sequence ps end → place ≤ end
Leads-le c base epoch place sequence [] end leads = omega (arith, leads)
Leads-le c base epoch place sequence (p ∷ ps) end leads =
    let rest : place_after place p ≤ end = Leads-le c base epoch (place_after place p) (sequence + 1) ps end leads.2 in omega (arith, rest)

-- and end within the half
pub Leads-end : (c : Contents) (base epoch place sequence : ℕ) (ps : List (List ℕ)) (end : ℕ) → place ≤ 255 → Leads c base epoch place sequence ps end → end ≤ 255
Leads-end c base epoch place sequence [] end near leads = omega (arith, leads, near)
Leads-end c base epoch place sequence (p ∷ ps) end near leads = Leads-end c base epoch (place_after place p) (sequence + 1) ps end leads.1.room leads.2

pub Leads-same : (c d : Contents) (base epoch place sequence : ℕ) (ps : List (List ℕ)) (end : ℕ) → AreSame c d (base + place) (base + end) → Leads c base epoch place sequence ps end → Leads d base epoch place sequence ps end
Leads-same c d base epoch place sequence [] end same leads = leads
Leads-same c d base epoch place sequence (p ∷ ps) end same leads =
    let rest : place_after place p ≤ end = Leads-le c base epoch (place_after place p) (sequence + 1) ps end leads.2 in (
      gate-same c d (base + place) (same (base + place) (omega arith) (omega (arith, rest))) ∙ leads.0,
      HasRecord-same c d base epoch place sequence p (λ i from to. same i (omega (arith, from)) (omega (arith, to, rest))) leads.1,
      Leads-same c d base epoch (place_after place p) (sequence + 1) ps end (λ i from to. same i (omega (arith, from)) to) leads.2,
    )

-- one record more
pub Leads-append : (c : Contents) (base epoch place sequence : ℕ) (ps : List (List ℕ)) (end : ℕ) (p : List ℕ) → Leads c base epoch place sequence ps end → IsOpen c (base + end)
    → HasRecord c base epoch end (sequence + length ps) p → Leads c base epoch place sequence (ps ++ p ∷ []) (place_after end p)
Leads-append c base epoch place sequence [] end p leads opened body =
    let at_end : end ≡ place = leads in (
      subst (λ x. IsOpen c (base + x)) at_end opened,
      subst (λ x. HasRecord c base epoch x sequence p) at_end (subst (λ s. HasRecord c base epoch end s p) (omega arith) body),
      ap (λ x. place_after x p) at_end,
    )
Leads-append c base epoch place sequence (q ∷ ps) end p leads opened body = (
  leads.0,
  leads.1,
  Leads-append c base epoch (place_after place q) (sequence + 1) ps end p leads.2 opened (subst (λ s. HasRecord c base epoch end s p) (omega arith) body),
)

pub ready-same : (c d : Contents) (base epoch place : ℕ) (ps : List (List ℕ)) → AreSame c d base (base + (place + 1)) → IsReady c base epoch ps place → IsReady d base epoch ps place
ready-same c d base epoch place ps same ready = record {
  leads = Leads-same c d base epoch 0 0 ps place (λ i from to. same i (omega (arith, from)) (omega (arith, to))) ready.leads;
  closed = closed-same c d (base + place) (same (base + place) (omega arith) (omega arith)) ready.closed;
}

-- a place past 253 stops replay, and of another one the gate and the epoch after it are read
pub Stops-same : (c d : Contents) (base epoch place : ℕ) → (place < 254 → AreSame c d (base + place) (base + place + 2)) → Stops c base epoch place → Stops d base epoch place
Stops-same c d base epoch place same stops = ⊎_elim (λ (near : place < 254). read (same near) stops) (λ (past : 254 ≤ place). inl past) (cases_lt place 254)
  where
    read : AreSame c d (base + place) (base + place + 2) → Stops c base epoch place → Stops d base epoch place
    read alike (inl past) = inl past
    read alike (inr (inl closed)) = inr (inl (closed-same c d (base + place) (alike (base + place) (omega arith) (omega arith)) closed))
    read alike (inr (inr other)) = inr (inr (λ is. other (ap (λ s. take 8 s) (sym (alike (base + place + 1) (omega arith) (omega arith))) ∙ is)))

pub ReplaysTo-same : (c d : Contents) (base epoch : ℕ) (ps : List (List ℕ)) (end : ℕ) → AreSame c d base (base + 256) → ReplaysTo c base epoch ps end → ReplaysTo d base epoch ps end
ReplaysTo-same c d base epoch ps end same found =
    let near : end ≤ 255 = Leads-end c base epoch 0 0 ps end (omega arith) found.leads in
    record {
      leads = Leads-same c d base epoch 0 0 ps end (λ i from to. same i (omega (arith, from)) (omega (arith, to, near))) found.leads;
      stops = Stops-same c d base epoch end (λ below i from to. same i (omega (arith, from)) (omega (arith, to, below))) found.stops;
    }

-- ---- the write of a record's gate

module _ (c d : Contents) (base epoch place : ℕ) (ps : List (List ℕ)) (p : List ℕ) (pending : HasPending c base epoch ps place p) (agrees : AgreesOutside (Single (base + place)) c d) where
  before : Leads d base epoch 0 0 ps place
  before = Leads-same c d base epoch 0 0 ps place (λ i from to. agrees.same i (λ is. omega (arith, is, to))) pending.ready.leads

  pub open_gate_adds : IsOpen d (base + place) → IsReady d base epoch (ps ++ p ∷ []) (place_after place p)
  open_gate_adds opened =
      let kept = HasRecord-same c d base epoch place (length ps) p (λ i from to. agrees.same i (λ is. omega (arith, is, from))) pending.body in
      record {
        leads = Leads-append d base epoch 0 0 ps place p before opened (subst (λ s. HasRecord d base epoch place s p) (omega arith) kept);
        closed = closed-same c d (base + place_after place p) (agrees.same (base + place_after place p) (λ is. omega (arith, is))) pending.shut;
      }

  pub gate_adds : IsReady d base epoch ps place ⊎ IsReady d base epoch (ps ++ p ∷ []) (place_after place p)
  gate_adds = ⊎_elim
      (λ (opened : gate_at d (base + place) ≡ 1). inr (open_gate_adds opened))
      (λ closed. inl (record { leads = before; closed = closed }))
      (cases_eq (gate_at d (base + place)) 1)

-- ---- the write that clears a place

module _ (c d : Contents) (base epoch place : ℕ) where
  -- the gate is written where it is open or no record has room, and else the sector after it
  abbrev Way : Type 0
  Way = (254 ≤ place) ⊎ ((IsOpen c (base + place) × AgreesOutside (Single (base + place)) c d) ⊎ (IsClosed c (base + place) × AgreesOutside (Single (base + place + 1)) c d))

  way_by : (opened past : Bool) → (gate_at c (base + place) == 1) ≡ opened → nat_le 254 place ≡ past → AgreesOutside (Single (if opened || past then base + place else base + place + 1)) c d → Way
  way_by true past is_open far agrees = inr (inl (eqb-true (gate_at c (base + place)) 1 is_open, agrees))
  way_by false true is_open far agrees = inl (leb-true 254 place far)
  way_by false false is_open far agrees = inr (inr (eqb-false (gate_at c (base + place)) 1 is_open, agrees))

  way : AgreesOutside (Single (cleared_sector c base place)) c d → Way
  way agrees = way_by (gate_at c (base + place) == 1) (nat_le 254 place) refl refl agrees

  pub clearing_stops : Stops c base epoch place → AgreesOutside (Single (cleared_sector c base place)) c d → Stops d base epoch place
  clearing_stops stops agrees = ⊎_elim (λ past. inl past) (λ near. ⊎_elim (λ gate. by_gate stops gate) by_body near) (way agrees)
    where
      by_gate : Stops c base epoch place → IsOpen c (base + place) × AgreesOutside (Single (base + place)) c d → Stops d base epoch place
      by_gate (inl past) gate = inl past
      by_gate (inr (inl closed)) gate = absurd (closed gate.0)
      by_gate (inr (inr other)) gate = inr (inr (λ is. other (ap (λ s. take 8 s) (sym (gate.1.same (base + place + 1) (λ same. omega (arith, same)))) ∙ is)))

      by_body : IsClosed c (base + place) × AgreesOutside (Single (base + place + 1)) c d → Stops d base epoch place
      by_body (closed, behind) = inr (inl (closed-same c d (base + place) (behind.same (base + place) (λ same. omega (arith, same))) closed))

  pub clearing_keeps : (ps : List (List ℕ)) → ReplaysTo c base epoch ps place → AgreesOutside (Single (cleared_sector c base place)) c d → ReplaysTo d base epoch ps place
  clearing_keeps ps found agrees = record {
    leads = Leads-same c d base epoch 0 0 ps place (λ i from to. agrees.same i (λ (is : i ≡ cleared_sector c base place). omega (arith, is, to, cleared_from))) found.leads;
    stops = clearing_stops found.stops agrees;
  }
    where
      from_place : (b : Bool) → base + place ≤ (if b then base + place else base + place + 1)
      from_place true = omega arith
      from_place false = omega arith

      cleared_from : base + place ≤ cleared_sector c base place
      cleared_from = from_place ((gate_at c (base + place) == 1) || nat_le 254 place)

-- ---- no later record at the first place

pub no_later-same : (c d : Contents) (base epoch : ℕ) → AreSame c d base (base + 2) → HasNoLater c base epoch → HasNoLater d base epoch
no_later-same c d base epoch same (inl closed) = inl (closed-same c d base (same base (omega arith) (omega arith)) closed)
no_later-same c d base epoch same (inr early) =
    let behind : epoch_at d base 0 ≡ epoch_at c base 0 = ap (little_number 8) (same (base + 0 + 1) (omega arith) (omega arith)) in
    inr (omega (arith, behind, early))

pub clearing_adds : (c d : Contents) (base epoch : ℕ) → HasNoLater c base epoch → AgreesOutside (Single (cleared_sector c base 0)) c d → HasNoLater d base epoch
clearing_adds c d base epoch none agrees = ⊎_elim
    (λ (past : 254 ≤ 0). absurd (omega (arith, past)))
    (λ near. ⊎_elim (λ gate. by_gate none gate) by_body near)
    (way c d base epoch 0 agrees)
  where
    first : base + 0 ≡ base
    first = omega arith

    by_gate : HasNoLater c base epoch → IsOpen c (base + 0) × AgreesOutside (Single (base + 0)) c d → HasNoLater d base epoch
    by_gate (inl closed) gate = absurd (closed (subst (IsOpen c) first gate.0))
    by_gate (inr early) gate =
        let behind : epoch_at d base 0 ≡ epoch_at c base 0 = ap (little_number 8) (gate.1.same (base + 0 + 1) (λ same. omega (arith, same))) in
        inr (omega (arith, behind, early))

    by_body : IsClosed c (base + 0) × AgreesOutside (Single (base + 0 + 1)) c d → HasNoLater d base epoch
    by_body (closed, behind) = inl (closed-same c d base (behind.same base (λ same. omega (arith, same))) (subst (IsClosed c) first closed))
