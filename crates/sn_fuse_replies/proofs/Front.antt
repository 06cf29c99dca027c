-- The front of an answer: its numbers were written, and then the head before them.
use Rattle.std.proofs.Common.{◌≡◌, ℕ, ◌+◌, ◌≤◌, List, ◌++◌, length, take, drop, sym, ap, ◌∙◌, arith}
use Rattle.std.proofs.Math.Seq.{take-append-add}
use Rattle.std.proofs.lemmas.List.{take-append-drop, drop-take, drop_at, length-take-le}
use Rattle.sn_bytes.specs.Bytes.{Puts}

pub front_of : (a b c head numbers : List ℕ) (end : ℕ) → 16 ≤ length a → length head ≡ 16 → Puts a b 16 end numbers → Puts b c 0 16 head
    → take end c ≡ head ++ numbers
front_of a b c head numbers end room long first second =
    let n = length numbers in
    let behind : take n (drop 16 b) ≡ numbers =
    sym (drop-take 16 n b) ∙ ap (λ (k : ℕ). drop 16 (take k b)) (sym first.moved) ∙ ap (drop 16) first.front ∙ drop_at (take 16 a) numbers 16 (length-take-le 16 a room) in
    let whole : c ≡ head ++ drop 16 b =
    sym (take-append-drop 16 c) ∙ ap (λ (r : List ℕ). r ++ drop 16 c) second.front ∙ ap (λ (r : List ℕ). head ++ r) (second.back 16 (omega arith)) in
    let size : end ≡ length head + n = omega (arith, first.moved) in
    ap (take end) whole ∙ ap (λ (k : ℕ). take k (head ++ drop 16 b)) size ∙ take-append-add head (drop 16 b) n ∙ ap (λ (r : List ℕ). head ++ r) behind
