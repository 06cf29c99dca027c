use Rattle.std.proofs.Common.{◌≡◌, ◌∙◌, ◌++◌, ℕ, List, Option, Some, None, sym, ap}
use Rattle.std.specs.Prelude.{IfSome}
use Rattle.sn_layout.specs.Bytes.{zeros}
use Rattle.sn_layout.specs.Records.{numbers_then}
use Rattle.sn_layout.proofs.Fields.{true_false}
use Rattle.sn_layout_node.specs.declared.head.Head.{Head}
use Rattle.sn_layout_node.specs.declared.head.HeadNumbers.{HeadNumbers}
use Rattle.sn_layout_node.specs.Inode.{IsHead, head_bytes, head_widths, head_numbers, listed}
use Rattle.sn_layout_node.proofs.Heads.{head_flat, head_spelled}
use Rattle.sn_layout_node.proofs.head.Head.read.Goals as goal

found_from : (o : Option Head) (n : HeadNumbers) (old left rest : List ℕ) → old ≡ numbers_then head_widths (listed n) left → left ≡ zeros 36 ++ rest
    → IfSome o (λ head. IsHead head × (listed n ≡ head_numbers head)) → IfSome o (λ head. IsHead head × (old ≡ head_bytes head ++ rest))
found_from None n old left rest read blank h = tt
found_from (Some head) n old left rest read blank h = (h.0, read ∙ ap (λ (xs : List ℕ). numbers_then head_widths xs left) h.1 ∙ ap (numbers_then head_widths (head_numbers head)) blank ∙ sym (head_flat head rest))

pub returns-then-not-are_zeros-clause-only : goal.returns-then-not-are_zeros-clause-only
returns-then-not-are_zeros-clause-only c = λ h rest fits e.
    let read = head_spelled h c.read-numbers.result c.args.reader.now c.read-numbers.new.reader rest c.read-numbers.ensures.fits c.read-numbers.ensures.read fits e in
    let blank = c.are_zeros.ensures.only rest read.1 in
    true_false c.are_zeros.result blank.0 c.if-not-are_zeros.true

pub returns-clause-found : goal.returns-clause-found
returns-clause-found c =
    found_from c.head.result c.read-numbers.result c.args.reader.now c.read-numbers.new.reader c.are_zeros.new.self c.read-numbers.ensures.read (c.are_zeros.ensures.read c.if-not-are_zeros.false) c.head.ensures.found

pub returns-clause-only : goal.returns-clause-only
returns-clause-only c = λ h rest fits e.
    let read = head_spelled h c.read-numbers.result c.args.reader.now c.read-numbers.new.reader rest c.read-numbers.ensures.fits c.read-numbers.ensures.read fits e in
    (c.head.ensures.only h fits read.0, (c.are_zeros.ensures.only rest read.1).1)
