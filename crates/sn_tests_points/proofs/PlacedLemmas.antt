-- What is so of blocks that are placed.
use Rattle.std.proofs.Common.{◌≡◌, ℕ, zero, suc, ◌+◌, ◌<◌, Bool, true, false, ◌&&◌, List, [], ◌∷◌, length, map, slice_index, refl, sym, ap, subst, arith}
use Rattle.std.specs.Prelude.{nat_le, nat_lt}
use Rattle.std.specs.List.{AllByRecursion}
use Rattle.std.specs.List.Sorted.{IsStrictlyIncreasing}
use Rattle.std.proofs.lemmas.Bool.{leb-true, ltb-true}
use Rattle.sn_layout.specs.Bytes.{AreNumbers}
use Rattle.sn_layout.specs.Geometry.{IsDiskSize, IsIn, end_of, start_of}
use Rattle.sn_layout.specs.RootBody.{IsRootBody}
use Rattle.sn_layout.specs.declared.gate.Gate.{Gate}
use Rattle.sn_layout.specs.declared.geometry.Area.TheVariants.{Data}
use Rattle.sn_layout.specs.declared.geometry.Slot.{Slot}
use Rattle.sn_layout.specs.declared.root.RootBody.{RootBody}
use Rattle.sn_opening.specs.Points.{Written, numbers_written}
use Rattle.sn_tree.specs.declared.new_block.NewBlock.{NewBlock}
use Rattle.sn_cp.specs.Points.{Work, stage_of, work_of, written_by}
use Rattle.sn_cp.specs.Steps.{IsWhole, IsWithin}
use Rattle.sn_cp.specs.declared.point.Point.{Point}
use Rattle.sn_cp.proofs.CountLemmas.{stage_within}
use Rattle.sn_tests_points.specs.Placed.{are_placed, is_data}
use Rattle.sn_tests_points.specs.Running.{CanGoOn}

both : (a b : Bool) → (a && b) ≡ true → (a ≡ true) × (b ≡ true)
both true b e = (refl, e)
both false b e = absurd cc

lies : (n number : ℕ) → is_data n number ≡ true → IsIn n Data number
lies n number is =
    let parts = both (nat_le (start_of n Data) number) (nat_lt number (end_of n Data)) is in
    record { from = leb-true (start_of n Data) number parts.0; below = ltb-true number (end_of n Data) parts.1 }

-- the first lies above a number, and those behind it above it
first_placed : (n before : ℕ) (b : NewBlock) (more : List NewBlock) → are_placed n before (b ∷ more) ≡ true
    → (before < b.number) × (IsIn n Data b.number × (are_placed n b.number more ≡ true))
first_placed n before b more is =
    let parts = both (nat_lt before b.number) (is_data n b.number && are_placed n b.number more) is in
    let rest = both (is_data n b.number) (are_placed n b.number more) parts.1 in
    (ltb-true before b.number parts.0, (lies n b.number rest.0, rest.1))

placed_lie : (n before : ℕ) (bs : List NewBlock) → are_placed n before bs ≡ true → AllByRecursion (λ (b : Written). IsIn n Data b.0) (map written_by bs)
placed_lie n before [] is = tt
placed_lie n before (b ∷ more) is =
    let first = first_placed n before b more is in
    (first.1.0, placed_lie n b.number more first.1.1)

placed_rise : (n before : ℕ) (bs : List NewBlock) → are_placed n before bs ≡ true → IsStrictlyIncreasing (numbers_written (map written_by bs))
placed_rise n before [] is k within = absurd (omega (arith, within))
placed_rise n before (b ∷ []) is k within = absurd (omega (arith, within))
placed_rise n before (b ∷ c ∷ more) is zero within =
    (first_placed n b.number c more (first_placed n before b (c ∷ more) is).1.1).0
placed_rise n before (b ∷ c ∷ more) is (suc k) within =
    let rest = placed_rise n b.number (c ∷ more) (first_placed n before b (c ∷ more) is).1.1 in
    let at : suc (k + 1) ≡ suc k + 1 = omega arith in
    subst (λ (m : ℕ). slice_index (numbers_written (map written_by (c ∷ more))) k < slice_index (numbers_written (map written_by (b ∷ c ∷ more))) m) at (rest k (omega (arith, within)))

-- a point of such blocks has its first step
pub can_go_on : (p : Point) (n : ℕ) (bs : List NewBlock) (words : List ℕ) (next : RootBody) (slot : Slot) (gate : Gate)
    → IsDiskSize n → are_placed n 0 bs ≡ true → length words ≡ n → AreNumbers 4 words → IsRootBody next
    → work_of p ≡ record { blocks = n; slot = slot; gate = gate; plan = record { blocks = map written_by bs; words = words; next = next } }
    → IsWithin (work_of p) (stage_of p) → CanGoOn p × ((work_of p).blocks ≡ n)
can_go_on p n bs words next slot gate size placed count fits root is within =
    let whole = subst (λ (w : Work). IsWhole w) (sym is) (record { size = size; place = placed_lie n 0 bs placed; once = placed_rise n 0 bs placed; words = count; fits = fits; next = root }) in
    (record { whole = whole; stage = stage_within (work_of p) (stage_of p) within }, ap (λ (w : Work). w.blocks) is)
