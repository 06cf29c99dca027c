-- A slot has one root body, and a disk one newest root.
use Rattle.std.proofs.Common.{◌≡◌, ⊎_elim, ℕ, ◌+◌, List, refl, sym, ◌∙◌, ap, subst, arith}
use Rattle.sn_device.specs.Sectors.{Contents}
use Rattle.sn_layout.specs.declared.geometry.Slot.{Slot}
use Rattle.sn_layout.specs.declared.geometry.Slot.TheVariants.{A, B}
use Rattle.sn_layout.specs.declared.root.RootBody.{RootBody}
use Rattle.sn_layout.specs.Geometry.{other_slot}
use Rattle.sn_layout.proofs.Spelled.{same_root_bodies}
use Rattle.sn_ondisk.specs.Roots.{HasRoot, IsOlder, IsNewest}
use Rattle.sn_ondisk.specs.Shown.{Shown}
use Rattle.sn_ondisk.specs.LogHalf.{base_of}
use Rattle.sn_ondisk.specs.OneAnswer.{IsOnDisk, AreOne}
use Rattle.sn_ondisk.proofs.OneLemmas.{replay_is_one}
use Rattle.sn_ondisk.proofs.RootLemmas.{other_twice}

pub root_is_one : (c : Contents) (slot : Slot) (root other : RootBody) → HasRoot c slot root → HasRoot c slot other → root ≡ other
root_is_one c slot root other one two = same_root_bodies root other one.fits two.fits (sym one.bytes ∙ two.bytes)

-- two roots, each newest in its slot
in_other : (c : Contents) (slot : Slot) (root other : RootBody) → IsNewest c slot root → IsNewest c (other_slot slot) other → ⊥
in_other c slot root other one two = ⊎_elim
    (λ closed. closed two.is_open)
    (λ older. ⊎_elim
    (λ closed. closed one.is_open)
    (λ younger.
    let mine : older.0.generation ≡ other.generation = ap (λ (r : RootBody). r.generation) (root_is_one c (other_slot slot) older.0 other older.1 two.body) in
    let other_one : younger.0.generation ≡ root.generation = ap (λ (r : RootBody). r.generation) (root_is_one c slot younger.0 root younger.1 one.body) in
    omega (arith, mine, other_one, older.2, younger.2))
    (subst (λ s. IsOlder c s other.generation) (other_twice slot) two.other))
    one.other

pub newest_is_one : (c : Contents) (slot place : Slot) (root other : RootBody) → IsNewest c slot root → IsNewest c place other → (slot ≡ place) × (root ≡ other)
newest_is_one c A A root other one two = (refl, root_is_one c A root other one.body two.body)
newest_is_one c A B root other one two = absurd (in_other c A root other one two)
newest_is_one c B A root other one two = absurd (in_other c B root other one two)
newest_is_one c B B root other one two = (refl, root_is_one c B root other one.body two.body)

pub shown_is_one : (n : ℕ) (c : Contents) (slot place : Slot) (root other : RootBody) (older newer first second : List (List ℕ)) → IsOnDisk c (base_of n root.epoch) → IsOnDisk c (base_of n (root.epoch + 1))
    → Shown n c slot root older newer → Shown n c place other first second → AreOne slot place root other older newer first second
shown_is_one n c slot place root other older newer first second near far one two =
    let same = newest_is_one c slot place root other one.newest two.newest in
    let two_of : Shown n c place root first second = subst (λ r. Shown n c place r first second) (sym same.1) two in
    record {
      slots = same.0;
      roots = same.1;
      olders = (replay_is_one c (base_of n root.epoch) root.epoch near one.has_older.0 two_of.has_older.0 older first one.has_older.1 two_of.has_older.1).0;
      newers = (replay_is_one c (base_of n (root.epoch + 1)) (root.epoch + 1) far one.has_newer.0 two_of.has_newer.0 newer second one.has_newer.1 two_of.has_newer.1).0;
    }
