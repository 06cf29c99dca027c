use Rattle.std.proofs.Common.{ℕ, List, get_or, refl, sym, ap}
use Rattle.sn_layout.proofs.Fields.{some_none, some_some}
use Rattle.sn_layout_acl.specs.declared.acl_block.AclBlock.{AclBlock}
use Rattle.sn_layout_node.specs.declared.fields.SpecialBits.{SpecialBits}
use Rattle.sn_model.specs.declared.change.Ownership.{Ownership}
use Rattle.sn_record.specs.Payload.{objects_of}
use Rattle.sn_record.proofs.Parts.{parts_mode}
use Rattle.sn_record.proofs.ownership.Front.with.Goals as goal

abbrev bits_of : Ownership → SpecialBits
bits_of o = record { set_gid = o.set_gid; sticky = o.sticky }

pub returns-in_err-bits-clause-only : goal.returns-in_err-bits-clause-only
returns-in_err-bits-clause-only c = λ o fits numbers lists.
    some_none c.special_bits_of.result (bits_of o) (c.special_bits_of.ensures.only (bits_of o) (ap (λ (xs : List ℕ). get_or xs 0 0) numbers)) c.in_err-bits.was

pub returns-in_err-objects-clause-only : goal.returns-in_err-objects-clause-only
returns-in_err-objects-clause-only c = λ o fits numbers lists.
    some_none c.mode_of.result (objects_of o.acl) (c.mode_of.ensures.only (objects_of o.acl) (parts_mode o.acl fits.acl) (ap (λ (xs : List ℕ). get_or xs 1 0) numbers)) c.in_err-objects.was

pub returns-clause-only : goal.returns-clause-only
returns-clause-only c = λ o fits numbers lists.
    let bits = some_some c.special_bits_of.result c.in_ok-bits.bits (bits_of o) c.in_ok-bits.was (c.special_bits_of.ensures.only (bits_of o) (ap (λ (xs : List ℕ). get_or xs 0 0) numbers)) in
    let objects = some_some c.mode_of.result c.in_ok-objects.objects (objects_of o.acl) c.in_ok-objects.was (c.mode_of.ensures.only (objects_of o.acl) (parts_mode o.acl fits.acl) (ap (λ (xs : List ℕ). get_or xs 1 0) numbers)) in
    let owner = ap (λ (xs : List ℕ). get_or xs 2 0) numbers in
    let group = ap (λ (xs : List ℕ). get_or xs 3 0) numbers in
    let set_gid = ap (λ (b : SpecialBits). b.set_gid) bits in
    let sticky = ap (λ (b : SpecialBits). b.sticky) bits in
    let acl = c.joined.ensures.only o.acl fits.acl objects (ap (λ (l : AclBlock). l.access) (sym lists)) in
    let default = ap (λ (l : AclBlock). l.default) (sym lists) in
    rw (owner, group, set_gid, sticky, acl, default) refl
