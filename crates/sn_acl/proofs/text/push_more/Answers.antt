use Rattle.std.proofs.Common.{length}
use Rattle.sn_acl.proofs.TextLemmas.{pushed, pushed-length}
use Rattle.sn_acl.proofs.text.push_more.Goals as goal

pub loop-entry-preserved : goal.loop-entry-preserved
loop-entry-preserved c = record {
  bytes = pushed c.args.text.now.bytes c.args.entries.now c.loop-entry.entry-index c.entry-item.result _ _ _
      c.loop-entry-test.true c.entry-item.is c.loop-entry.invariant.bytes c.push_str.ensures.bytes c.push_entry.ensures.bytes;
  short = pushed-length (length c.args.text.now.bytes) c.loop-entry.entry-index c.entry-item.result _ _ _
      c.loop-entry.invariant.short c.push_str.ensures.bytes c.push_entry.ensures.bytes c.push_entry.ensures.short;
}
