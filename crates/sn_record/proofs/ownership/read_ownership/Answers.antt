use Rattle.std.proofs.Common.{◌≡◌, ◌∙◌, ◌++◌, ℕ, List, Option, Some, None, length, length-append, sym, ap, arith}
use Rattle.std.specs.Prelude.{IfSome}
use Rattle.sn_layout.specs.Records.{numbers_then}
use Rattle.sn_layout.proofs.Fields.{some_none, some_some}
use Rattle.sn_layout_acl.specs.AclBlock.{acls_bytes}
use Rattle.sn_layout_acl.specs.declared.acl_block.AclBlock.{AclBlock}
use Rattle.sn_model.specs.declared.change.Ownership.{Ownership}
use Rattle.sn_record.specs.declared.ownership.Front.{Front}
use Rattle.sn_record.specs.Payload.{IsOwnership, lists_of, ownership_bytes, front_widths, front_numbers, listed}
use Rattle.sn_record.proofs.Fronts.{are_acls, front_flat, front_spelled}
use Rattle.sn_record.proofs.Lengths.{length-ownership}
use Rattle.sn_record.proofs.ownership.read_ownership.Goals as goal

pub returns-then-remaining-lt-FRONT_SIZE-clause-only : goal.returns-then-remaining-lt-FRONT_SIZE-clause-only
returns-then-remaining-lt-FRONT_SIZE-clause-only c = λ o rest fits e. absurd (omega (arith, ap length e, length-append (ownership_bytes o) rest, length-ownership o))

pub returns-in_err-lists-clause-only : goal.returns-in_err-lists-clause-only
returns-in_err-lists-clause-only c = λ o rest fits e.
    let front = front_spelled o c.read-front.result c.args.reader.now c.read-front.new.reader rest c.read-front.ensures.fits c.read-front.ensures.read fits e in
    let lists = c.read_lists.ensures.only (lists_of o) rest (are_acls o fits) front.1 in
    some_none c.read_lists.result (lists_of o) lists.0 c.in_err-lists.was

found_from : (r : Option Ownership) (n : Front) (lists : AclBlock) (old one left : List ℕ) → old ≡ numbers_then front_widths (listed n) one → one ≡ acls_bytes lists ++ left
    → IfSome r (λ o. IsOwnership o × (listed n ≡ front_numbers o) × (lists_of o ≡ lists)) → IfSome r (λ o. IsOwnership o × (old ≡ ownership_bytes o ++ left))
found_from None n lists old one left read spelled h = tt
found_from (Some o) n lists old one left read spelled h = (
  h.0,
  read ∙ ap (λ (xs : List ℕ). numbers_then front_widths xs one) h.1 ∙ ap (numbers_then front_widths (front_numbers o)) (spelled ∙ ap (λ (l : AclBlock). acls_bytes l ++ left) (sym h.2)) ∙ sym (front_flat o left),
)

pub returns-clause-found : goal.returns-clause-found
returns-clause-found c =
    found_from c.with.result c.read-front.result c.in_ok-lists.lists c.args.reader.now c.read-front.new.reader c.read_lists.new.reader c.read-front.ensures.read c.in_ok-lists.ensures.found.1 c.with.ensures.found

pub returns-clause-only : goal.returns-clause-only
returns-clause-only c = λ o rest fits e.
    let front = front_spelled o c.read-front.result c.args.reader.now c.read-front.new.reader rest c.read-front.ensures.fits c.read-front.ensures.read fits e in
    let lists = c.read_lists.ensures.only (lists_of o) rest (are_acls o fits) front.1 in
    let same = some_some c.read_lists.result c.in_ok-lists.lists (lists_of o) c.in_ok-lists.was lists.0 in
    (c.with.ensures.only o fits front.0 (sym same), lists.1)
