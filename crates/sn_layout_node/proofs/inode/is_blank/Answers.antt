use Rattle.std.proofs.Common.{◌≡◌, ℕ, List, [], ◌∷◌, length, slice_index_or, nat_eq, refl, ap}
use Rattle.std.proofs.lemmas.Bool.{eqb-true}
use Rattle.sn_layout.specs.Bytes.{zeros}
use Rattle.sn_layout_node.proofs.inode.is_blank.Goals as goal

first_zero : (bytes : List ℕ) → bytes ≡ zeros (length bytes) → slice_index_or bytes 0 0 ≡ 0
unfolding zeros
first_zero [] e = refl
first_zero (b ∷ bytes) e = ap (λ (xs : List ℕ). slice_index_or xs 0 0) e

pub returns-else-bytes-eq0 : goal.returns-else-bytes-eq0
returns-else-bytes-eq0 c = (λ yes. absurd (c.if-bytes-eq0.false (eqb-true (slice_index_or c.args.bytes.now 0 0) 0 yes)), λ blank. ap (λ (b : ℕ). nat_eq b 0) (first_zero c.args.bytes.now blank))
