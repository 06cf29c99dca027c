use Rattle.std.proofs.Common.{◌≡◌, All, sym, ap, ◌∙◌, subst, List, ℕ}
use Rattle.sn_bytes.specs.Bytes.{zeros}
use Rattle.sn_bytes.proofs.Fields.{zeros_all, all_zeros, length-zeros}
use Rattle.sn_bytes.proofs.reader.Reader.are_zeros.Goals as goal

pub returns-clause-read : goal.returns-clause-read
returns-clause-read c = λ yes.
    let blank = zeros_all c.bytes.result.now (c.are_all_zero.ensures.0 yes) ∙ ap zeros c.bytes.ensures.count in
    rw (← blank) c.bytes.ensures.read

pub returns-clause-only : goal.returns-clause-only
returns-clause-only c = λ rest e.
    let same = c.bytes.ensures.only (zeros c.args.count) rest (length-zeros c.args.count) e in
    let P : List ℕ → Type 0 = All (λ x. x ≡ 0) in
    (c.are_all_zero.ensures.1 (subst P (sym same.0) (all_zeros c.args.count)), same.1)
