-- What is spelled alike is one value: of names, of kinds and of S bits.
use Rattle.std.proofs.Common.{◌≡◌, ◌∙◌, ℕ, Bool, true, false, List, ◌++◌, length, refl, sym, ap}
use Rattle.std.specs.Prelude.{◌%◌, ◌==◌, nat_le}
use Rattle.sn_limits.specs.declared.kind.Kind.{Kind}
use Rattle.sn_limits.specs.declared.kind.Kind.TheVariants.{File, Directory}
use Rattle.sn_layout.proofs.Fields.{same_cons, same_fronts}
use Rattle.sn_layout_node.specs.Directory.{name_bytes}
use Rattle.sn_layout_node.specs.Inode.{kind_number, flags_number}

pub same_names : (a b x y : List ℕ) → name_bytes a ++ x ≡ name_bytes b ++ y → (a ≡ b) × (x ≡ y)
same_names a b x y e =
    let heads = same_cons (length a) (length b) (a ++ x) (b ++ y) e in
    same_fronts a b x y heads.0 heads.1

set_gid_of : (a b : Bool) → (flags_number a b % 2 == 1) ≡ a
set_gid_of true true = refl
set_gid_of true false = refl
set_gid_of false true = refl
set_gid_of false false = refl

sticky_of : (a b : Bool) → nat_le 2 (flags_number a b) ≡ b
sticky_of true true = refl
sticky_of true false = refl
sticky_of false true = refl
sticky_of false false = refl

pub same_bits : (a b c d : Bool) → flags_number a b ≡ flags_number c d → (a ≡ c) × (b ≡ d)
same_bits a b c d e = (sym (set_gid_of a b) ∙ ap (λ (n : ℕ). n % 2 == 1) e ∙ set_gid_of c d, sym (sticky_of a b) ∙ ap (λ (n : ℕ). nat_le 2 n) e ∙ sticky_of c d)

pub same_kinds : (a b : Kind) → kind_number a ≡ kind_number b → a ≡ b
same_kinds File File e = refl
same_kinds Directory Directory e = refl
same_kinds _ _ e = absurd cc
