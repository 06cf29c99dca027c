-- The marks of numbers.
use Rattle.std.proofs.Common.{◌≡◌, ℕ, ◌<◌, ◌≤◌, Bool, true, false, ◌||◌, nat_lt, get_or, replicate, refl, arith}
use Rattle.std.proofs.lemmas.Bool.{ltb-true, ltb-false}
use Rattle.std.proofs.lemmas.List.{get_or-replicate, get_or_past, length-replicate}
use Rattle.sn_number_table.specs.Marked.{ArePassed, mark_at}
use Rattle.sn_number_table.specs.Marks.{has_node, is_kept, is_used, without_node}
use Rattle.sn_number_table.specs.declared.mark.Mark.{Mark}
use Rattle.sn_number_table.specs.declared.mark.Mark.TheVariants.{Free, Taken, KeptBefore, KeptSince}
use Rattle.sn_number_table.specs.declared.marks.Marks.{Marks}

pub used_is : (m : Mark) → (has_node m || is_kept m) ≡ is_used m
used_is Free = refl
used_is Taken = refl
used_is KeptBefore = refl
used_is KeptSince = refl

pub gone_is : (m : Mark) → has_node (without_node m) ≡ false
gone_is Free = refl
gone_is Taken = refl
gone_is KeptBefore = refl
gone_is KeptSince = refl

-- in a list of so many of one thing, it is at each index
pub one_everywhere : {X : Type 0} (x : X) (n k : ℕ) → get_or (replicate n x) k x ≡ x
one_everywhere {X} x n k = told (nat_lt k n) refl
  where
    told : (b : Bool) → nat_lt k n ≡ b → get_or (replicate n x) k x ≡ x
    told true e = get_or-replicate n k x x (ltb-true k n e)
    told false e = get_or_past (replicate n x) k x (omega (arith, ltb-false k n e, length-replicate n x))

-- a search continued
pub passed_on : (marks : Marks) (next end : ℕ) → ArePassed marks next → next ≤ end → end ≤ 65536 → ((n : ℕ) → next ≤ n → n < end → is_used (mark_at marks n) ≡ true) → ArePassed marks end
passed_on marks next end passed later within over = record { low = omega (arith, passed.low, later); high = within; used = λ n low high. told n low high (nat_lt n next) refl }
  where
    told : (n : ℕ) → 2 ≤ n → n < end → (b : Bool) → nat_lt n next ≡ b → is_used (mark_at marks n) ≡ true
    told n low high true e = passed.used n low (ltb-true n next e)
    told n low high false e = over n (ltb-false n next e) high
