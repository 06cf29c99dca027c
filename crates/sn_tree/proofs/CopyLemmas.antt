-- The pointers of a copy of an indirect block.
use Rattle.std.proofs.Common.{◌≡◌, ℕ, zero, suc, ◌<◌, List, [], ◌∷◌, ◌++◌, set, replicate, sym, ap, ◌∙◌, arith}
use Rattle.std.specs.Prelude.{◌^◌}
use Rattle.std.proofs.lemmas.List.{length-replicate, length-set}
use Rattle.sn_layout.specs.Bytes.{AreNumbers, zeros}
use Rattle.sn_layout.proofs.Fields.{same_lists}
use Rattle.sn_layout.proofs.Records.{zero_numbers}
use Rattle.sn_layout_node.specs.Indirect.{ArePointers, pointers_bytes}

fit-set : (numbers : List ℕ) (i number : ℕ) → AreNumbers 4 numbers → number < 256 ^ 4 → AreNumbers 4 (set numbers i number)
fit-set [] i number fit fits = tt
fit-set (x ∷ xs) zero number fit fits = (fits, fit.1)
fit-set (x ∷ xs) (suc i) number fit fits = (fit.0, fit-set xs i number fit.1 fits)

fit-holes : (n : ℕ) → AreNumbers 4 (replicate n 0)
fit-holes zero = tt
fit-holes (suc n) = (omega arith, fit-holes n)

pub are-set : (pointers : List ℕ) (i pointer : ℕ) → ArePointers pointers → pointer < 256 ^ 4 → ArePointers (set pointers i pointer)
are-set pointers i pointer are fits = record {
  count = length-set pointers i pointer ∙ are.count;
  fit = fit-set pointers i pointer are.fit fits;
}

are-holes : ArePointers (replicate 1024 0)
are-holes = record { count = length-replicate {A = ℕ} 1024 0; fit = fit-holes 1024 }

-- bytes spell one list of pointers
pub one_reading : (xs ys : List ℕ) → ArePointers xs → ArePointers ys → pointers_bytes xs ≡ pointers_bytes ys → xs ≡ ys
one_reading xs ys are is same = (same_lists 4 xs ys [] [] (are.count ∙ sym is.count) are.fit is.fit (ap (λ (bytes : List ℕ). bytes ++ []) same)).0

pub holes_read : (pointers : List ℕ) → ArePointers pointers → replicate 4096 0 ≡ pointers_bytes pointers → pointers ≡ replicate 1024 0
unfolding zeros
holes_read pointers are same = one_reading pointers (replicate 1024 0) are are-holes (sym same ∙ sym (zero_numbers 4 1024))
