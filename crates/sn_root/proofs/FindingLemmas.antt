-- Which root counts, of what the two slots hold; and that a disk has one answer.
use Rattle.std.proofs.Common.{◌≡◌, ◌≢◌, ⊎_elim, ◌<◌, None, Result, Ok, Err, refl, sym, ◌∙◌, ap, arith}
use Rattle.sn_device.specs.Sectors.{Contents}
use Rattle.sn_limits.specs.Versions.{limits_of}
use Rattle.sn_layout.specs.declared.geometry.Slot.{Slot}
use Rattle.sn_layout.specs.declared.geometry.Slot.TheVariants.{A, B}
use Rattle.sn_layout.specs.declared.root.RootBody.{RootBody}
use Rattle.sn_layout.specs.Geometry.{gate_sector, other_slot}
use Rattle.sn_ondisk.specs.Gates.{IsOpen}
use Rattle.sn_ondisk.specs.Roots.{HasRoot, IsNewest}
use Rattle.sn_ondisk.proofs.OneRootLemmas.{root_is_one, newest_is_one}
use Rattle.sn_root.specs.Carried.{Holds}
use Rattle.sn_root.specs.Slots.{gate_in, version_at, IsUnknown, IsMisspelt}
use Rattle.sn_root.specs.Finding.{HasNewest, AreKnown, AreEqual, IsDamaged, Finds, IsRead}
use Rattle.sn_root.specs.declared.slots.Carried.{Carried}
use Rattle.sn_root.specs.declared.slots.Carried.TheVariants.{Nothing, UnknownVersion as Unknown, Misspelt as Wrong, Root}
use Rattle.sn_root.specs.declared.fault.RootFault.{RootFault}
use Rattle.sn_root.specs.declared.fault.RootFault.TheVariants.{NoOpenRoot, UnknownVersion, Damaged, Read}
use Rattle.sn_root.specs.declared.fault.RootDamage.{RootDamage}
use Rattle.sn_root.specs.declared.fault.RootDamage.TheVariants.{Misspelt, EqualGenerations}
use Rattle.sn_root.specs.declared.finding.NewestRoot.{NewestRoot}
use Rattle.sn_root.proofs.SlotLemmas.{root_known}

-- ---- of what the slots hold

held_root : (c : Contents) (slot : Slot) (root : RootBody) → Holds c slot (Root root) → HasRoot c slot root
held_root c slot root holds = record { fits = holds.1.0; bytes = holds.1.1 }

-- a slot that holds no unknown version has a known one, if it is open
held_known : (c : Contents) (slot : Slot) (held : Carried) → held ≢ Unknown → Holds c slot held → IsOpen c (gate_sector slot) → limits_of (version_at c slot) ≢ None
held_known c slot Nothing other holds opened = absurd (holds opened)
held_known c slot Unknown other holds opened = absurd (other refl)
held_known c slot Wrong other holds opened = holds.1.0
held_known c slot (Root root) other holds opened = root_known c slot root (held_root c slot root holds)

both_known : (c : Contents) (a b : Carried) → a ≢ Unknown → b ≢ Unknown → Holds c A a → Holds c B b → AreKnown c
both_known c a b one other in_a in_b A opened = held_known c A a one in_a opened
both_known c a b one other in_a in_b B opened = held_known c B b other in_b opened

held_misspelt : (c : Contents) (slot : Slot) → Holds c slot Wrong → IsMisspelt c slot
held_misspelt c slot holds = record { is_open = holds.0; none = λ root body. holds.1.1 root body.fits body.bytes }

-- a slot that holds something else isn't misspelt
not_misspelt : (c : Contents) (slot : Slot) (held : Carried) → held ≢ Unknown → held ≢ Wrong → Holds c slot held → IsMisspelt c slot → ⊥
not_misspelt c slot Nothing known right holds misspelt = holds misspelt.is_open
not_misspelt c slot Unknown known right holds misspelt = known refl
not_misspelt c slot Wrong known right holds misspelt = right refl
not_misspelt c slot (Root root) known right holds misspelt = misspelt.none root (held_root c slot root holds)

pub misspelt_beside : (c : Contents) (b : Carried) → b ≢ Unknown → Holds c A Wrong → Holds c B b → Finds c (Err (Damaged (Misspelt A)))
misspelt_beside c b known in_a in_b = (both_known c Wrong b (λ e. cc) known in_a in_b, held_misspelt c A in_a)

pub beside_misspelt : (c : Contents) (root : RootBody) → Holds c A (Root root) → Holds c B Wrong → Finds c (Err (Damaged (Misspelt B)))
beside_misspelt c root in_a in_b = (
  both_known c (Root root) Wrong (λ e. cc) (λ e. cc) in_a in_b,
  (held_misspelt c B in_b, not_misspelt c A (Root root) (λ e. cc) (λ e. cc) in_a),
)

pub equal_roots : (c : Contents) (one other : RootBody) → Holds c A (Root one) → Holds c B (Root other) → one.generation ≡ other.generation → Finds c (Err (Damaged EqualGenerations))
equal_roots c one other in_a in_b same = (
  both_known c (Root one) (Root other) (λ e. cc) (λ e. cc) in_a in_b,
  record { are_open = are_open; one = one; other = other; has_one = held_root c A one in_a; has_other = held_root c B other in_b; same = same },
)
  where
    are_open : (slot : Slot) → IsOpen c (gate_sector slot)
    are_open A = in_a.0
    are_open B = in_b.0

-- ---- a disk has one answer

-- an open slot of a disk with a newest root has a root
open_has : (c : Contents) (slot place : Slot) (root : RootBody) → IsNewest c slot root → IsOpen c (gate_sector place) → (other : RootBody) × HasRoot c place other
open_has c A A root newest opened = (root, newest.body)
open_has c B B root newest opened = (root, newest.body)
open_has c A B root newest opened = ⊎_elim (λ closed. absurd (closed opened)) (λ older. (older.0, older.1)) newest.other
open_has c B A root newest opened = ⊎_elim (λ closed. absurd (closed opened)) (λ older. (older.0, older.1)) newest.other

-- and no other one has its generation
not_equal : (c : Contents) (slot : Slot) (root mine theirs : RootBody) → IsNewest c slot root → IsOpen c (gate_sector (other_slot slot)) → HasRoot c slot mine → HasRoot c (other_slot slot) theirs → mine.generation ≡ theirs.generation → ⊥
not_equal c slot root mine theirs newest opened has_mine has_theirs same = ⊎_elim
    (λ closed. closed opened)
    (λ older.
    let first : root.generation ≡ mine.generation = ap (λ (r : RootBody). r.generation) (root_is_one c slot root mine newest.body has_mine) in
    let second : older.0.generation ≡ theirs.generation = ap (λ (r : RootBody). r.generation) (root_is_one c (other_slot slot) older.0 theirs older.1 has_theirs) in
    let less : older.0.generation < root.generation = older.2 in
    omega arith)
    newest.other

newest_not_equal : (c : Contents) (slot : Slot) (root : RootBody) → IsNewest c slot root → AreEqual c → ⊥
newest_not_equal c A root newest equal = not_equal c A root equal.one equal.other newest (equal.are_open B) equal.has_one equal.has_other equal.same
newest_not_equal c B root newest equal = not_equal c B root equal.other equal.one newest (equal.are_open A) equal.has_other equal.has_one (sym equal.same)

newest_not_damaged : (c : Contents) (slot : Slot) (root : RootBody) (damage : RootDamage) → IsNewest c slot root → IsDamaged c damage → ⊥
newest_not_damaged c slot root (Misspelt A) newest wrong = let has = open_has c slot A root newest wrong.is_open in wrong.none has.0 has.1
newest_not_damaged c slot root (Misspelt B) newest wrong = let has = open_has c slot B root newest wrong.0.is_open in wrong.0.none has.0 has.1
newest_not_damaged c slot root EqualGenerations newest equal = newest_not_equal c slot root newest equal

newest_known : (c : Contents) (slot place : Slot) (root : RootBody) → IsNewest c slot root → IsUnknown c place → ⊥
newest_known c slot place root newest unknown = let has = open_has c slot place root newest unknown.is_open in root_known c place has.0 has.1 unknown.version

-- a damage is in an open slot
damaged_open : (c : Contents) (damage : RootDamage) → IsDamaged c damage → (slot : Slot) × IsOpen c (gate_sector slot)
damaged_open c (Misspelt A) wrong = (A, wrong.is_open)
damaged_open c (Misspelt B) wrong = (B, wrong.0.is_open)
damaged_open c EqualGenerations equal = (A, equal.are_open A)

damage_is_one : (c : Contents) (one other : RootDamage) → IsDamaged c one → IsDamaged c other → one ≡ other
damage_is_one c (Misspelt A) (Misspelt A) f g = refl
damage_is_one c (Misspelt A) (Misspelt B) f g = absurd (g.1 f)
damage_is_one c (Misspelt A) EqualGenerations f g = absurd (f.none g.one g.has_one)
damage_is_one c (Misspelt B) (Misspelt A) f g = absurd (f.1 g)
damage_is_one c (Misspelt B) (Misspelt B) f g = refl
damage_is_one c (Misspelt B) EqualGenerations f g = absurd (f.0.none g.other g.has_other)
damage_is_one c EqualGenerations (Misspelt A) f g = absurd (g.none f.one f.has_one)
damage_is_one c EqualGenerations (Misspelt B) f g = absurd (g.0.none f.other f.has_other)
damage_is_one c EqualGenerations EqualGenerations f g = refl

found_is_one : (c : Contents) (one other : NewestRoot) → HasNewest c one → HasNewest c other → one ≡ other
found_is_one c one other f g =
    let same = newest_is_one c one.slot other.slot one.root other.root f.newest g.newest in
    let gates : one.other ≡ other.other = sym f.other ∙ ap (λ (s : Slot). gate_in c (other_slot s)) same.0 ∙ g.other in
    λ k. record { slot = same.0 k; root = same.1 k; other = gates k }

pub finding_is_one : (c : Contents) (one other : Result NewestRoot RootFault) → IsRead one → IsRead other → Finds c one → Finds c other → one ≡ other
finding_is_one c (Ok x) (Ok y) r s f g = ap Ok (found_is_one c x y f g)
finding_is_one c (Ok x) (Err NoOpenRoot) r s f g = absurd (g x.slot f.newest.is_open)
finding_is_one c (Ok x) (Err UnknownVersion) r s f g = absurd (newest_known c x.slot g.0 x.root f.newest g.1)
finding_is_one c (Ok x) (Err (Damaged e)) r s f g = absurd (newest_not_damaged c x.slot x.root e f.newest g.1)
finding_is_one c (Ok x) (Err (Read e)) r s f g = absurd (s e refl)
finding_is_one c (Err NoOpenRoot) (Ok y) r s f g = absurd (f y.slot g.newest.is_open)
finding_is_one c (Err NoOpenRoot) (Err NoOpenRoot) r s f g = refl
finding_is_one c (Err NoOpenRoot) (Err UnknownVersion) r s f g = absurd (f g.0 g.1.is_open)
finding_is_one c (Err NoOpenRoot) (Err (Damaged e)) r s f g = let at = damaged_open c e g.1 in absurd (f at.0 at.1)
finding_is_one c (Err NoOpenRoot) (Err (Read e)) r s f g = absurd (s e refl)
finding_is_one c (Err UnknownVersion) (Ok y) r s f g = absurd (newest_known c y.slot f.0 y.root g.newest f.1)
finding_is_one c (Err UnknownVersion) (Err NoOpenRoot) r s f g = absurd (g f.0 f.1.is_open)
finding_is_one c (Err UnknownVersion) (Err UnknownVersion) r s f g = refl
finding_is_one c (Err UnknownVersion) (Err (Damaged e)) r s f g = absurd (g.0 f.0 f.1.is_open f.1.version)
finding_is_one c (Err UnknownVersion) (Err (Read e)) r s f g = absurd (s e refl)
finding_is_one c (Err (Damaged d)) (Ok y) r s f g = absurd (newest_not_damaged c y.slot y.root d g.newest f.1)
finding_is_one c (Err (Damaged d)) (Err NoOpenRoot) r s f g = let at = damaged_open c d f.1 in absurd (g at.0 at.1)
finding_is_one c (Err (Damaged d)) (Err UnknownVersion) r s f g = absurd (f.0 g.0 g.1.is_open g.1.version)
finding_is_one c (Err (Damaged d)) (Err (Damaged e)) r s f g = ap (λ (x : RootDamage). Err (Damaged x)) (damage_is_one c d e f.1 g.1)
finding_is_one c (Err (Damaged d)) (Err (Read e)) r s f g = absurd (s e refl)
finding_is_one c (Err (Read d)) other r s f g = absurd (r d refl)
