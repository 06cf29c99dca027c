-- Where roots, map copies and log halves lie.
use Rattle.std.proofs.Common.{◌≡◌, ◌≢◌, ◌⊎◌, inl, inr, ⊎_elim, ℕ, ◌+◌, ◌*◌, ◌/◌, ◌%◌, ◌≤◌, ◌==◌, Bool, true, false, if◌then◌else◌, refl, sym, ◌∙◌, ap, arith}
use Rattle.std.proofs.lemmas.Bool.{eqb-true, eqb-false}
use Rattle.sn_device.specs.Sectors.{AreDisjoint}
use Rattle.sn_layout.specs.declared.geometry.Slot.{Slot}
use Rattle.sn_layout.specs.declared.geometry.Slot.TheVariants.{A, B}
use Rattle.sn_layout.specs.declared.geometry.LogHalf.{LogHalf}
use Rattle.sn_layout.specs.declared.geometry.LogHalf.TheVariants.{Zero, One}
use Rattle.sn_layout.specs.declared.geometry.Area.TheVariants.{RootBody, Gates, MapCopy, Log}
use Rattle.sn_layout.specs.Geometry.{IsIn, start_of, end_of, map_blocks, gate_sector, half_of_epoch, other_slot}
use Rattle.sn_ondisk.specs.LogHalf.{InHalf, base_of}
use Rattle.sn_ondisk.specs.MapCopy.{InMap}
use Rattle.sn_ondisk.specs.Roots.{body_block}
use Rattle.sn_ondisk.specs.PlaceLaws.{AreApart}

pub roots_lie : (n : ℕ) (slot : Slot) → (body_block slot ≡ start_of n (RootBody slot)) × IsIn n Gates (gate_sector slot / 8)
roots_lie n A = (refl, record { from = omega arith; below = omega arith })
roots_lie n B = (refl, record { from = omega arith; below = omega arith })

half_ends : (n : ℕ) (half : LogHalf) → 8 * start_of n (Log half) + 256 ≡ 8 * end_of n (Log half)
half_ends n Zero = omega arith
half_ends n One = omega arith

pub halves_are : (n epoch : ℕ) → (base_of n epoch ≡ 8 * start_of n (Log (half_of_epoch epoch))) × (base_of n epoch + 256 ≡ 8 * end_of n (Log (half_of_epoch epoch)))
halves_are n epoch = (refl, half_ends n (half_of_epoch epoch))

zero_or_one : (half : LogHalf) → half ≡ One → half ≡ Zero → ⊥
zero_or_one half one zero = cc

-- the halves of an epoch and of the next one
halves_by : (a b : Bool) (x y : ℕ) → (x == 0) ≡ a → (y == 0) ≡ b → x + y ≡ 1
    → ((if a then Zero else One) ≡ Zero × (if b then Zero else One) ≡ One) ⊎ ((if a then Zero else One) ≡ One × (if b then Zero else One) ≡ Zero)
halves_by true true x y is_a is_b one = absurd (omega (arith, eqb-true x 0 is_a, eqb-true y 0 is_b, one))
halves_by true false x y is_a is_b one = inl (refl, refl)
halves_by false true x y is_a is_b one = inr (refl, refl)
halves_by false false x y is_a is_b one =
    let some_x : x ≢ 0 = eqb-false x 0 is_a in
    let some_y : y ≢ 0 = eqb-false y 0 is_b in
    absurd (omega arith)

pub halves_of : (epoch : ℕ) → ((half_of_epoch epoch ≡ Zero) × (half_of_epoch (epoch + 1) ≡ One)) ⊎ ((half_of_epoch epoch ≡ One) × (half_of_epoch (epoch + 1) ≡ Zero))
halves_of epoch = halves_by ((epoch % 2) == 0) (((epoch + 1) % 2) == 0) (epoch % 2) ((epoch + 1) % 2) refl refl (omega arith)

pub epochs_alternate : (epoch : ℕ) → half_of_epoch (epoch + 1) ≢ half_of_epoch epoch
epochs_alternate epoch same = ⊎_elim
    (λ even. zero_or_one (half_of_epoch epoch) (sym same ∙ even.1) even.0)
    (λ odd. zero_or_one (half_of_epoch (epoch + 1)) (same ∙ odd.0) odd.1)
    (halves_of epoch)

map_from : (n : ℕ) (slot : Slot) → 4 ≤ start_of n (MapCopy slot)
map_from n A = omega arith
map_from n B = omega arith

map_ends : (n : ℕ) (slot : Slot) → start_of n (MapCopy slot) + map_blocks n ≤ 4 + 2 * map_blocks n
map_ends n A = omega arith
map_ends n B = omega arith

pub half_from : (n : ℕ) (half : LogHalf) → 4 + 2 * map_blocks n ≤ start_of n (Log half)
half_from n Zero = omega arith
half_from n One = omega arith

maps_apart : (n : ℕ) (slot : Slot) → AreDisjoint (InMap n slot) (InMap n (other_slot slot))
maps_apart n A i one two = omega (arith, one.0, one.1, two.0, two.1)
maps_apart n B i one two = omega (arith, one.0, one.1, two.0, two.1)

pub halves_apart : (n epoch : ℕ) → AreDisjoint (InHalf (base_of n epoch)) (InHalf (base_of n (epoch + 1)))
halves_apart n epoch i one two =
    let place : LogHalf → ℕ = λ half. 8 * start_of n (Log half) in
    ⊎_elim
    (λ even. omega (arith, one.0, one.1, two.0, two.1, ap place even.0, ap place even.1))
    (λ odd. omega (arith, one.0, one.1, two.0, two.1, ap place odd.0, ap place odd.1))
    (halves_of epoch)

pub areas_apart : (n : ℕ) → AreApart n
areas_apart n = record {
  roots_and_maps = λ slot i one two. omega (arith, one.0, one.1, two.0, two.1, map_from n slot);
  roots_and_log = λ epoch i one two. omega (arith, one.0, one.1, two.0, two.1, half_from n (half_of_epoch epoch));
  maps = maps_apart n;
  maps_and_log = λ slot epoch i one two. omega (arith, one.0, one.1, two.0, two.1, map_ends n slot, half_from n (half_of_epoch epoch));
  halves = halves_apart n;
}
