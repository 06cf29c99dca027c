-- Which root counts, with any bytes in a gate or in a closed slot's body.
use Rattle.std.proofs.Common.{◌≡◌, ◌≢◌, ◌⊎◌, inl, inr, ⊎_elim, ℕ, ◌+◌, ◌*◌, ◌<◌, ◌≤◌, refl, sym, ◌∙◌, subst, arith}
use Rattle.std.proofs.lemmas.Bool.{cases_eq}
use Rattle.sn_device.specs.Sectors.{Contents, AgreesOutside, Single}
use Rattle.sn_layout.specs.declared.geometry.Slot.{Slot}
use Rattle.sn_layout.specs.declared.geometry.Slot.TheVariants.{A, B}
use Rattle.sn_layout.specs.declared.root.RootBody.{RootBody}
use Rattle.sn_layout.specs.Geometry.{gate_sector, other_slot}
use Rattle.sn_ondisk.specs.Blocks.{InBlock}
use Rattle.sn_ondisk.specs.Gates.{gate_at, IsOpen, IsClosed}
use Rattle.sn_ondisk.specs.Roots.{body_block, HasRoot, IsOlder, IsNewest, HasNext}
use Rattle.sn_ondisk.proofs.BlockLemmas.{AreSame, bytes_at-same}
use Rattle.sn_ondisk.proofs.LogLemmas.{gate-same, closed-same}

pub body_from : (slot : Slot) → 8 ≤ 8 * body_block slot
body_from A = omega arith
body_from B = omega arith

pub body_below : (slot : Slot) → 8 * body_block slot + 8 ≤ 24
body_below A = omega arith
body_below B = omega arith

pub gate_from : (slot : Slot) → 24 ≤ gate_sector slot
gate_from A = omega arith
gate_from B = omega arith

pub gate_below : (slot : Slot) → gate_sector slot < 26
gate_below A = omega arith
gate_below B = omega arith

gates_differ : (slot : Slot) → gate_sector slot ≢ gate_sector (other_slot slot)
gates_differ A = λ same. omega (arith, same)
gates_differ B = λ same. omega (arith, same)

bodies_differ : (slot : Slot) (i : ℕ) → 8 * body_block slot ≤ i → i < 8 * body_block slot + 8 → InBlock (body_block (other_slot slot)) i → ⊥
bodies_differ A i from to other = omega (arith, from, to, other.0, other.1)
bodies_differ B i from to other = omega (arith, from, to, other.0, other.1)

pub other_twice : (slot : Slot) → other_slot (other_slot slot) ≡ slot
other_twice A = refl
other_twice B = refl

pub HasRoot-same : (c d : Contents) (slot : Slot) (root : RootBody) → AreSame c d (8 * body_block slot) (8 * body_block slot + 8) → HasRoot c slot root → HasRoot d slot root
HasRoot-same c d slot root same body = record { fits = body.fits; bytes = bytes_at-same c d (8 * body_block slot) 8 same ∙ body.bytes }

pub IsOlder-same : (c d : Contents) (slot : Slot) (generation : ℕ) → AreSame c d 8 26 → IsOlder c slot generation → IsOlder d slot generation
IsOlder-same c d slot generation same (inl closed) = inl (closed-same c d (gate_sector slot) (same (gate_sector slot) (omega (arith, gate_from slot)) (gate_below slot)) closed)
IsOlder-same c d slot generation same (inr older) =
    inr (older.0, HasRoot-same c d slot older.0 (λ i from to. same i (omega (arith, from, body_from slot)) (omega (arith, to, body_below slot))) older.1, older.2)

pub IsNewest-same : (c d : Contents) (slot : Slot) (root : RootBody) → AreSame c d 8 26 → IsNewest c slot root → IsNewest d slot root
IsNewest-same c d slot root same newest = record {
  is_open = gate-same c d (gate_sector slot) (same (gate_sector slot) (omega (arith, gate_from slot)) (gate_below slot)) ∙ newest.is_open;
  body = HasRoot-same c d slot root (λ i from to. same i (omega (arith, from, body_from slot)) (omega (arith, to, body_below slot))) newest.body;
  other = IsOlder-same c d (other_slot slot) root.generation same newest.other;
}

-- a change of a gate's sector leaves the root bodies
HasRoot-gate : (c d : Contents) (gate slot : Slot) (root : RootBody) → AgreesOutside (Single (gate_sector gate)) c d → HasRoot c slot root → HasRoot d slot root
HasRoot-gate c d gate slot root agrees body = HasRoot-same c d slot root (λ i from to. agrees.same i (λ is. omega (arith, is, to, body_below slot, gate_from gate))) body

-- and the other slot's gate
own_gate : (c d : Contents) (slot : Slot) → AgreesOutside (Single (gate_sector (other_slot slot))) c d → IsOpen c (gate_sector slot) → IsOpen d (gate_sector slot)
own_gate c d slot agrees was = gate-same c d (gate_sector slot) (agrees.same (gate_sector slot) (gates_differ slot)) ∙ was

pub closing_keeps : (c d : Contents) (slot : Slot) (root : RootBody) → IsNewest c slot root → IsOpen c (gate_sector (other_slot slot)) → AgreesOutside (Single (gate_sector (other_slot slot))) c d → IsNewest d slot root
closing_keeps c d slot root newest was agrees = record {
  is_open = own_gate c d slot agrees newest.is_open;
  body = HasRoot-gate c d (other_slot slot) slot root agrees newest.body;
  other = ⊎_elim
      (λ closed. absurd (closed was))
      (λ older. inr (older.0, HasRoot-gate c d (other_slot slot) (other_slot slot) older.0 agrees older.1, older.2))
      newest.other;
}

pub body_keeps : (c d : Contents) (slot : Slot) (root : RootBody) → IsNewest c slot root → IsClosed c (gate_sector (other_slot slot)) → AgreesOutside (InBlock (body_block (other_slot slot))) c d → IsNewest d slot root
body_keeps c d slot root newest was agrees = record {
  is_open = gate-same c d (gate_sector slot) (agrees.same (gate_sector slot) (λ inside. omega (arith, inside.1, body_below (other_slot slot), gate_from slot))) ∙ newest.is_open;
  body = HasRoot-same c d slot root (λ i from to. agrees.same i (bodies_differ slot i from to)) newest.body;
  other = inl (closed-same c d (gate_sector (other_slot slot)) (agrees.same (gate_sector (other_slot slot)) (λ inside. omega (arith, inside.1, body_below (other_slot slot), gate_from (other_slot slot)))) was);
}

module _ (c d : Contents) (slot : Slot) (root next : RootBody) (has_next : HasNext c slot root next) (agrees : AgreesOutside (Single (gate_sector (other_slot slot))) c d) where
  mine : HasRoot d slot root
  mine = HasRoot-gate c d (other_slot slot) slot root agrees has_next.newest.body

  pub open_root_is_newest : IsOpen d (gate_sector (other_slot slot)) → IsNewest d (other_slot slot) next
  open_root_is_newest opened = record {
    is_open = opened;
    body = HasRoot-gate c d (other_slot slot) (other_slot slot) next agrees has_next.body;
    other = subst (λ s. IsOlder d s next.generation) (sym (other_twice slot)) (inr (root, mine, has_next.later));
  }

  pub opening_changes : IsNewest d slot root ⊎ IsNewest d (other_slot slot) next
  opening_changes = ⊎_elim
      (λ (opened : gate_at d (gate_sector (other_slot slot)) ≡ 1). inr (open_root_is_newest opened))
      (λ closed. inl (record { is_open = own_gate c d slot agrees has_next.newest.is_open; body = mine; other = inl closed }))
      (cases_eq (gate_at d (gate_sector (other_slot slot))) 1)
