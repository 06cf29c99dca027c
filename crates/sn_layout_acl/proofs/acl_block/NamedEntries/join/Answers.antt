use Rattle.std.proofs.Common.{List, sym, subst, refl, ◌∙◌}
use Rattle.sn_acl.specs.declared.entries.Entry.{Entry}
use Rattle.sn_acl.specs.AccessList.{IsValid}
use Rattle.sn_layout_acl.specs.Mode.{IsMode}
use Rattle.sn_layout_acl.specs.AclBlock.{with_objects}
use Rattle.sn_layout_acl.proofs.Joining.{joined_valid}
use Rattle.sn_layout_acl.proofs.acl_block.NamedEntries.join.Goals as goal

pub unreachable-requires : goal.unreachable-requires
unreachable-requires c =
    let named = c.as_slice.result.now in
    let part = subst (λ (es : List Entry). IsValid (with_objects es)) (sym c.as_slice.ensures.value) c.as_slice.ensures.valid in
    let valid = joined_valid c.fitting.result named (subst IsMode (sym c.fitting.ensures.same) c.fitting.ensures.fits) part in
    let spelled = c.as_slice-2.ensures.value ∙ c.joined-entries.ensures in
    c.in-None.ensures.refused refl (subst IsValid (sym spelled) valid)
