use Rattle.std.proofs.Common.{length, ap, arith}
use Rattle.sn_acl.proofs.Lists.{length-valid}
use Rattle.sn_acl_text.proofs.Joined.{pushed, pushed-length, separated-length}
use Rattle.sn_acl_text.proofs.writing.print_long.Goals as goal

pub separate-requires : goal.separate-requires
separate-requires c =
    omega (arith, c.loop-entry.invariant.short, ap length c.entries-entry-items.ensures.value, length-valid c.args.acl.now c.entries-entry-items.ensures.valid)

pub push_entry-requires : goal.push_entry-requires
push_entry-requires c =
    omega (arith, ap length c.separate.ensures, separated-length c.loop-entry.text.bytes, c.loop-entry.invariant.short, ap length c.entries-entry-items.ensures.value, length-valid c.args.acl.now c.entries-entry-items.ensures.valid)

pub loop-entry-preserved : goal.loop-entry-preserved
loop-entry-preserved c = record {
  bytes = pushed c.entries-entry-items.result.now c.loop-entry.entry-index c.entry-item.result _ _ _
      c.loop-entry-test.true c.entry-item.is c.loop-entry.invariant.bytes c.separate.ensures c.push_entry.ensures.bytes;
  short = pushed-length c.entry-item.result c.loop-entry.entry-index _ _ _ c.loop-entry.invariant.short c.separate.ensures c.push_entry.ensures.bytes c.push_entry.ensures.short;
}
