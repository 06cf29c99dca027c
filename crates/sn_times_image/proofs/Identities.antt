-- What images of one identity have in common.
use Rattle.std.proofs.Common.{◌≡◌, ◌≢◌, ◌⊎◌, inl, inr, ⊎_elim, ℕ, zero, suc, ◌+◌, ◌*◌, ◌<◌, ◌≤◌, Bool, true, false, List, ◌++◌, length, refl, sym, ap, ◌∙◌, arith, length-append}
use Rattle.std.specs.Prelude.{slice_index}
use Rattle.std.specs.Str.{bytes_eq}
use Rattle.std.proofs.lemmas.Bool.{cases_eq, cases_lt, true≢false}
use Rattle.std.proofs.lemmas.Slice.Eq.{bytes_eq-Decides}
use Rattle.sha2.specs.Sha256.{sha256}
use Rattle.sn_device.specs.Sectors.{Contents, AreSectors, sector_at}
use Rattle.sn_layout.proofs.Fields.{same_fronts}
use Rattle.sn_layout.specs.declared.geometry.LogHalf.{LogHalf}
use Rattle.sn_layout.specs.declared.geometry.LogHalf.TheVariants.{Zero, One}
use Rattle.sn_layout.specs.declared.geometry.Slot.{Slot}
use Rattle.sn_layout.specs.declared.geometry.Slot.TheVariants.{A, B}
use Rattle.sn_layout.specs.declared.root.RootBody.{RootBody}
use Rattle.sn_ondisk.specs.Blocks.{bytes_at, block_at}
use Rattle.sn_ondisk.specs.Gates.{IsClosed, IsOpen}
use Rattle.sn_ondisk.specs.Roots.{IsNewest}
use Rattle.sn_ondisk.proofs.BlockLemmas.{AreSame, length-bytes_at}
use Rattle.sn_ondisk.proofs.OneRootLemmas.{newest_is_one}
use Rattle.sn_ondisk.proofs.RootLemmas.{IsNewest-same}
use Rattle.sn_times_image.specs.Identity.{blocks_of, body_of, first_gate_of, gates_of, identity_of, marks_of}
use Rattle.sn_times_image.specs.IdentityLaws.{Collide, HasSameMarks, IsOfImageSize, first_gate_sector}
use Rattle.sn_times_image.proofs.Marks.{gate_within}

-- ---- lists

joined_length : (a b x y : List ℕ) → length a ≡ length b → length x ≡ length y → length (a ++ x) ≡ length (b ++ y)
joined_length a b x y front back = length-append a x ∙ ap (λ n. n + length x) front ∙ ap (λ n. length b + n) back ∙ sym (length-append b y)

joined_same : (a b x y : List ℕ) → a ≡ b → x ≡ y → a ++ x ≡ b ++ y
joined_same a b x y front back = ap (λ bytes. bytes ++ x) front ∙ ap (λ bytes. b ++ bytes) back

cases_bytes : (a b : List ℕ) → (a ≡ b) ⊎ (a ≢ b)
cases_bytes a b = told (bytes_eq a b) refl
  where
    told : (c : Bool) → bytes_eq a b ≡ c → (a ≡ b) ⊎ (a ≢ b)
    told true is = inl ((bytes_eq-Decides a b).0 is)
    told false is = inr (λ same. true≢false (sym ((bytes_eq-Decides a b).1 same) ∙ is))

-- ---- the same sectors

-- whole sectors that are the same as bytes are the same
same_sectors : (c d : Contents) (at n : ℕ) → AreSectors c → AreSectors d → at + n ≤ length c → at + n ≤ length d → bytes_at c at n ≡ bytes_at d at n → AreSame c d at (at + n)
unfolding bytes_at
same_sectors c d at zero whole_c whole_d within_c within_d same i from to = absurd (omega (arith, from, to))
same_sectors c d at (suc n) whole_c whole_d within_c within_d same i from to =
    let size_c : length (sector_at c at) ≡ 512 = (whole_c at (omega (arith, within_c))).size in
    let size_d : length (sector_at d at) ≡ 512 = (whole_d at (omega (arith, within_d))).size in
    let parts = same_fronts (sector_at c at) (sector_at d at) (bytes_at c (at + 1) n) (bytes_at d (at + 1) n) (size_c ∙ sym size_d) same in
    ⊎_elim
    (λ (here : i ≡ at). ap (λ k. sector_at d k) here ∙ sym parts.0 ∙ ap (λ k. sector_at c k) (sym here))
    (λ (other : i ≡ at → ⊥).
    let later : at + 1 ≤ i = omega (arith, from, other) in
    let before : i < at + 1 + n = omega (arith, to) in
    same_sectors c d (at + 1) n whole_c whole_d (omega (arith, within_c)) (omega (arith, within_d)) parts.1 i later before)
    (cases_eq i at)

least_sectors : (c : Contents) → IsOfImageSize c → 2048 ≤ length c
least_sectors c is = omega (arith, is.size.least)

-- ---- the marks

-- of disks with the same roots, gates and first gates
pub same_marks : (c d : Contents) → HasSameMarks c d → marks_of c ≡ marks_of d
same_marks c d same =
    joined_same _ _ _ _
    (joined_same _ _ _ _
    (joined_same _ _ _ _
    (joined_same _ _ _ _ (sym (same.bodies A)) (sym (same.bodies B)))
    (sym same.gates))
    (sym (same.first_gates Zero)))
    (sym (same.first_gates One))

pub one_identity : (c d : Contents) → HasSameMarks c d → identity_of c ≡ identity_of d
unfolding identity_of
one_identity c d same = ap sha256 (same_marks c d same)

block_length : (c : Contents) (block : ℕ) → IsOfImageSize c → 8 * block + 8 ≤ 2048 → length (block_at c block) ≡ 4096
block_length c block is within = length-bytes_at c (8 * block) 8 is.whole (omega (arith, within, least_sectors c is))

gate_length : (c : Contents) (half : LogHalf) → IsOfImageSize c → length (first_gate_of half c) ≡ 512
gate_length c half is = (is.whole (first_gate_sector half c) (gate_within (blocks_of c) (length c) half refl is.size)).size

pub marks_tell : (c d : Contents) → IsOfImageSize c → IsOfImageSize d → marks_of c ≡ marks_of d → HasSameMarks c d
marks_tell c d is_c is_d same =
    let length_a : length (body_of A c) ≡ length (body_of A d) = block_length c 1 is_c (omega arith) ∙ sym (block_length d 1 is_d (omega arith)) in
    let length_b : length (body_of B c) ≡ length (body_of B d) = block_length c 2 is_c (omega arith) ∙ sym (block_length d 2 is_d (omega arith)) in
    let length_g : length (gates_of c) ≡ length (gates_of d) = block_length c 3 is_c (omega arith) ∙ sym (block_length d 3 is_d (omega arith)) in
    let length_z : length (first_gate_of Zero c) ≡ length (first_gate_of Zero d) = gate_length c Zero is_c ∙ sym (gate_length d Zero is_d) in
    let length_ab = joined_length (body_of A c) (body_of A d) (body_of B c) (body_of B d) length_a length_b in
    let length_abg = joined_length (body_of A c ++ body_of B c) (body_of A d ++ body_of B d) (gates_of c) (gates_of d) length_ab length_g in
    let length_abgz = joined_length ((body_of A c ++ body_of B c) ++ gates_of c) ((body_of A d ++ body_of B d) ++ gates_of d) (first_gate_of Zero c) (first_gate_of Zero d) length_abg length_z in
    let four = same_fronts (((body_of A c ++ body_of B c) ++ gates_of c) ++ first_gate_of Zero c) (((body_of A d ++ body_of B d) ++ gates_of d) ++ first_gate_of Zero d) (first_gate_of One c) (first_gate_of One d) length_abgz same in
    let three = same_fronts ((body_of A c ++ body_of B c) ++ gates_of c) ((body_of A d ++ body_of B d) ++ gates_of d) (first_gate_of Zero c) (first_gate_of Zero d) length_abg four.0 in
    let two = same_fronts (body_of A c ++ body_of B c) (body_of A d ++ body_of B d) (gates_of c) (gates_of d) length_ab three.0 in
    let one = same_fronts (body_of A c) (body_of A d) (body_of B c) (body_of B d) length_a two.0 in
    record {
      bodies = elim [ A ↦ sym one.0 | B ↦ sym one.1 ];
      gates = sym two.1;
      first_gates = elim [ Zero ↦ sym three.1 | One ↦ sym four.1 ];
    }

pub marks_or_collision : (c d : Contents) → IsOfImageSize c → IsOfImageSize d → identity_of c ≡ identity_of d → HasSameMarks c d ⊎ Collide (marks_of c) (marks_of d)
unfolding identity_of
marks_or_collision c d is_c is_d same = ⊎_elim
    (λ (one : marks_of c ≡ marks_of d). inl (marks_tell c d is_c is_d one))
    (λ (other : marks_of c ≢ marks_of d). inr (record { differ = other; digest = same }))
    (cases_bytes (marks_of c) (marks_of d))

-- ---- what the marks tell

-- the roots and their gates are the same sectors
same_roots : (c d : Contents) → IsOfImageSize c → IsOfImageSize d → HasSameMarks c d → AreSame c d 8 26
same_roots c d is_c is_d same i from to =
    let room_c = least_sectors c is_c in
    let room_d = least_sectors d is_d in
    let in_a : AreSame c d 8 16 = same_sectors c d 8 8 is_c.whole is_d.whole (omega (arith, room_c)) (omega (arith, room_d)) (sym (same.bodies A)) in
    let in_b : AreSame c d 16 24 = same_sectors c d 16 8 is_c.whole is_d.whole (omega (arith, room_c)) (omega (arith, room_d)) (sym (same.bodies B)) in
    let in_g : AreSame c d 24 32 = same_sectors c d 24 8 is_c.whole is_d.whole (omega (arith, room_c)) (omega (arith, room_d)) (sym same.gates) in
    ⊎_elim
    (λ (a : i < 16). in_a i from a)
    (λ (not_a : 16 ≤ i). ⊎_elim
    (λ (b : i < 24). in_b i not_a b)
    (λ (not_b : 24 ≤ i). in_g i not_b (omega (arith, to)))
    (cases_lt i 24))
    (cases_lt i 16)

pub same_newest : (c d : Contents) (slot : Slot) (root : RootBody) → IsOfImageSize c → IsOfImageSize d → HasSameMarks c d → IsNewest c slot root → IsNewest d slot root
same_newest c d slot root is_c is_d same = IsNewest-same c d slot root (same_roots c d is_c is_d same)

pub points_told : (c d : Contents) (slot place : Slot) (root next : RootBody) → IsOfImageSize c → IsOfImageSize d → IsNewest c slot root → IsNewest d place next → root ≢ next → marks_of c ≢ marks_of d
points_told c d slot place root next is_c is_d old new other same =
    other (newest_is_one d slot place root next (same_newest c d slot root is_c is_d (marks_tell c d is_c is_d same) old) new).1

pub first_records_told : (c d : Contents) (half : LogHalf) → IsOfImageSize c → IsOfImageSize d → IsClosed c (first_gate_sector half c) → IsOpen d (first_gate_sector half d) → marks_of c ≢ marks_of d
first_records_told c d half is_c is_d closed opened same =
    closed (ap (λ (sector : List ℕ). slice_index sector 0) (sym ((marks_tell c d is_c is_d same).first_gates half)) ∙ opened)
