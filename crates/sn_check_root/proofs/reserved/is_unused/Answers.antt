use Rattle.std.proofs.Common.{refl, sym, ap, ◌∙◌}
use Rattle.sn_layout_node.specs.Inode.{record_bytes}
use Rattle.sn_layout_node.specs.declared.inode.InodeRecord.TheVariants.{Unused}
use Rattle.sn_check_root.proofs.RecordLemmas.{part_is}
use Rattle.sn_check_root.proofs.reserved.is_unused.Goals as goal

pub returns-in-Some-Unused : goal.returns-in-Some-Unused
returns-in-Some-Unused c = (
  λ yes. sym (part_is c.args.index c.args.block.now) ∙ c.in-Some-Unused.ensures.found.1 ∙ ap record_bytes c.in-Some-Unused.field-0-is,
  λ is. refl,
)

pub returns-in-Some-Used : goal.returns-in-Some-Used
returns-in-Some-Used c = (
  λ yes. absurd cc,
  λ is. absurd (cc (c.in-Some-Used.ensures.only Unused tt (part_is c.args.index c.args.block.now ∙ is), c.in-Some-Used.field-0-is)),
)

pub returns-in-None : goal.returns-in-None
returns-in-None c = (
  λ yes. absurd cc,
  λ is. absurd (cc (c.in-None.ensures.only Unused tt (part_is c.args.index c.args.block.now ∙ is))),
)
