use Rattle.std.proofs.Common.{lit<}
use Rattle.sn_acl.specs.Modes.{entry_under}
use Rattle.sn_acl.proofs.Lists.{room}
use Rattle.sn_acl.proofs.list.with_mode.Goals as goal

pub push-requires : goal.push-requires
push-requires c = (
  lit< tt,
  room (entry_under c.args.mode.now c.is_some-masked.result) c.args.entries.now c.loop-entry.changed.items c.loop-entry.entry-index
      c.loop-entry.invariant c.loop-entry-test.true c.requires,
)
