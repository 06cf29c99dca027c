-- What bytes end with.
use Rattle.std.proofs.Common.{◌≡◌, ℕ, zero, suc, ◌*◌, List, ◌++◌, length, refl, sym, ap, ◌∙◌, length-append, arith}
use Rattle.std.specs.Prelude.{slice_index}
use Rattle.std.specs.Int.{w32, to_be_bytes}
use Rattle.sha2.specs.Sha256.{digest_bytes, sha256}
use Rattle.sn_bytes.proofs.Fields.{same_fronts}
use Rattle.sn_times_file.specs.Kept.{checksum, sealed}

length-digest_bytes : (h : List ℕ) (n : ℕ) → length (digest_bytes h n) ≡ 4 * n
unfolding digest_bytes
length-digest_bytes h zero = refl
length-digest_bytes h (suc n) =
    let others = length-digest_bytes h n in
    let last : length (to_be_bytes w32 (slice_index h n)) ≡ 4 = refl in
    length-append (digest_bytes h n) (to_be_bytes w32 (slice_index h n)) ∙ omega (arith, others, last)

pub length-checksum : (bytes : List ℕ) → length (checksum bytes) ≡ 32
unfolding checksum sha256
length-checksum bytes = length-digest_bytes _ 8

-- bytes have one checksum, and one body
pub sealed_once : (bytes body front back : List ℕ) → bytes ≡ sealed body → bytes ≡ front ++ back → length back ≡ 32 → (front ≡ body) × (back ≡ checksum body)
sealed_once bytes body front back e parts long =
    let sum = length-checksum body in
    same_fronts front body back (checksum body) (omega (arith, sum, ap length e, ap length parts, length-append body (checksum body), length-append front back)) (sym parts ∙ e)
