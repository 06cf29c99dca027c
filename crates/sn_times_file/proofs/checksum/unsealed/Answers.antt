use Rattle.std.proofs.Common.{◌≡◌, List, Some, take, drop, ℕ, ◌++◌, length, sym, ap, ◌∙◌, length-append, arith}
use Rattle.std.proofs.lemmas.List.{take-append-drop}
use Rattle.sn_bytes.proofs.Fields.{true_false}
use Rattle.sn_times_file.specs.Kept.{checksum}
use Rattle.sn_times_file.proofs.Checksums.{length-checksum, sealed_once}
use Rattle.sn_times_file.proofs.checksum.unsealed.Goals as goal

pub returns-then-bytes-lt-CHECKSUM_SIZE-clause-only : goal.returns-then-bytes-lt-CHECKSUM_SIZE-clause-only
returns-then-bytes-lt-CHECKSUM_SIZE-clause-only c = λ body e. absurd (omega (arith, ap length e, length-append body (checksum body), length-checksum body))

parts : (bytes front back : List ℕ) (n : ℕ) → front ≡ take n bytes → back ≡ drop n bytes → bytes ≡ front ++ back
parts bytes front back n e f = sym (take-append-drop n bytes) ∙ ap (λ (x : List ℕ). x ++ drop n bytes) (sym e) ∙ ap (λ (x : List ℕ). front ++ x) (sym f)

pub returns-then-not-are_equal-clause-only : goal.returns-then-not-are_equal-clause-only
returns-then-not-are_equal-clause-only c = λ body e.
    let front = c.split_at.result.0.now in
    let back = c.split_at.result.1.now in
    let is = sealed_once c.args.bytes.now body front back e (parts c.args.bytes.now front back _ c.split_at.ensures.front c.split_at.ensures.back) (omega arith) in
    true_false c.are_equal.result (c.are_equal.ensures.1 (is.1 ∙ ap checksum (sym is.0) ∙ sym c.checksum.ensures)) c.if-not-are_equal.true

pub returns-clause-only : goal.returns-clause-only
returns-clause-only c = λ body e.
    let front = c.split_at.result.0.now in
    let back = c.split_at.result.1.now in
    let is = sealed_once c.args.bytes.now body front back e (parts c.args.bytes.now front back _ c.split_at.ensures.front c.split_at.ensures.back) (omega arith) in
    ap (λ (x : List ℕ). Some x) is.0
