use Rattle.std.proofs.Common.{◌∙◌, [], List, sym, ap, subst, length, arith}
use Rattle.std.proofs.lemmas.List.{append-nil}
use Rattle.sn_acl_xattr.specs.declared.entries.RawEntry.{RawEntry}
use Rattle.sn_acl_xattr.specs.Values.{AreRawOf, raws_bytes}
use Rattle.sn_acl_xattr.proofs.Raws.{length-value, length-raws, length-are}
use Rattle.sn_acl_xattr.proofs.value.read_entries.Goals as goal
use Rattle.sn_acl_xattr.proofs.value.read_entries.Goals.{then-version-ne-VERSION-via-then-version-ne-VERSION, then-version-ne-VERSION-via-else-version-ne-VERSION+then-remaining-ne0, then-version-ne-VERSION-via-else-version-ne-VERSION+else-remaining-ne0+then-count-gt-MAX_ENTRIES}

pub returns-then-value-lt-HEAD_SIZE-clause-only : goal.returns-then-value-lt-HEAD_SIZE-clause-only
returns-then-value-lt-HEAD_SIZE-clause-only c = λ entries short each has. absurd (omega (arith, length-value c.args.value.now entries has))

pub returns-then-version-ne-VERSION-clause-only : goal.returns-then-version-ne-VERSION-clause-only
returns-then-version-ne-VERSION-clause-only c = λ entries short each has.
    let read = c.u32-version.ensures.only 2 (raws_bytes has.raws) (omega arith) (c.new-reader.ensures ∙ has.bytes) in
    let long = ap length read.1 ∙ length-raws has.raws in
    let count = length-are has.raws entries has.are in
    elim c.then-version-ne-VERSION.branch [
      | then-version-ne-VERSION-via-then-version-ne-VERSION w ↦ absurd (w.if-version-ne-VERSION.true read.0)
      | then-version-ne-VERSION-via-else-version-ne-VERSION+then-remaining-ne0 w ↦ absurd (omega (arith, long))
      | then-version-ne-VERSION-via-else-version-ne-VERSION+else-remaining-ne0+then-count-gt-MAX_ENTRIES w ↦ absurd (omega (arith, long, count, short))
    ]

pub returns-clause-only : goal.returns-clause-only
returns-clause-only c = λ entries short each has.
    let read = c.u32-version.ensures.only 2 (raws_bytes has.raws) (omega arith) (c.new-reader.ensures ∙ has.bytes) in
    let long = ap length read.1 ∙ length-raws has.raws in
    let raws = c.read_raws.ensures.only has.raws [] (omega (arith, long)) has.fit (read.1 ∙ sym (append-nil (raws_bytes has.raws))) in
    c.entries_of.ensures.only entries each (subst (λ (rs : List RawEntry). AreRawOf rs entries) (sym (c.as_slice.ensures.value ∙ raws.0)) has.are)
