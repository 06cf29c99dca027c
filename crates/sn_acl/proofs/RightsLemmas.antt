-- Three letters name one set of rights.
use Rattle.std.proofs.Common.{◌≡◌, ℕ, ◌<◌, zero, suc, refl, arith, ap, sym, ◌∙◌}
use Rattle.std.specs.Int.Bits.{and_self}
use Rattle.std.proofs.lemmas.Nat.{and_comm, and_assoc}
use Rattle.std.proofs.Common.{true, ◌-◌, eq-eqb}
use Rattle.sn_acl.specs.declared.modes.Mode.{Mode}
use Rattle.sn_acl.specs.Modes.{IsWithin, common_mode, mode_without}
use Rattle.sn_acl.specs.Rights.{permissions_text, rights_named, contains, common, without}

pub rights_named-text : (p : ℕ) → p < 8 → rights_named (permissions_text p) ≡ p
rights_named-text zero = λ _. refl
rights_named-text (suc zero) = λ _. refl
rights_named-text (suc (suc zero)) = λ _. refl
rights_named-text (suc (suc (suc zero))) = λ _. refl
rights_named-text (suc (suc (suc (suc zero)))) = λ _. refl
rights_named-text (suc (suc (suc (suc (suc zero))))) = λ _. refl
rights_named-text (suc (suc (suc (suc (suc (suc zero)))))) = λ _. refl
rights_named-text (suc (suc (suc (suc (suc (suc (suc zero))))))) = λ _. refl
rights_named-text (suc (suc (suc (suc (suc (suc (suc (suc p)))))))) = λ small. absurd (omega arith)

pub permissions_text-injective : (p q : ℕ) → p < 8 → q < 8 → permissions_text p ≡ permissions_text q → p ≡ q
permissions_text-injective p q small small' same = sym (rights_named-text p small) ∙ (ap rights_named same ∙ rights_named-text q small')

-- what is in two sets is in each of them, and what is left of a set is in it
pub common-right : (a b : ℕ) → contains b (common a b) ≡ true
common-right a b = eq-eqb _ _ (rw (and_comm a b, ← and_assoc a b b, and_self b) refl)

pub common-left : (a b : ℕ) → contains a (common a b) ≡ true
common-left a b = eq-eqb _ _ (rw (← and_assoc b a a, and_self a) refl)

pub without-left : (a b : ℕ) → contains a (without a b) ≡ true
without-left a b = common-left a (255 - b)

pub common_mode-right : (a b : Mode) → IsWithin (common_mode a b) b
common_mode-right a b = record { owner = common-right a.owner b.owner; group = common-right a.group b.group; other = common-right a.other b.other }

pub common_mode-left : (a b : Mode) → IsWithin (common_mode a b) a
common_mode-left a b = record { owner = common-left a.owner b.owner; group = common-left a.group b.group; other = common-left a.other b.other }

pub mode_without-left : (a b : Mode) → IsWithin (mode_without a b) a
mode_without-left a b = record { owner = without-left a.owner b.owner; group = without-left a.group b.group; other = without-left a.other b.other }
