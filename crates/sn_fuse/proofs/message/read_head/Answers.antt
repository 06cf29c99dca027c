use Rattle.std.proofs.Common.{refl, arith}
use Rattle.sn_fuse.proofs.message.read_head.Goals as goal

pub returns-clause-spelled : goal.returns-clause-spelled
returns-clause-spelled c = (c.u32-length.new.self, (omega arith, c.u32-length.ensures.read), (c.u32-opcode.new.self, (omega arith, c.u32-opcode.ensures.read), (c.u64-unique.new.self, (omega arith, c.u64-unique.ensures.read), (c.u64-node.new.self, (omega arith, c.u64-node.ensures.read), (c.u32-user.new.self, (omega arith, c.u32-user.ensures.read), (c.u32-group.new.self, (omega arith, c.u32-group.ensures.read), (c.u32-process.new.self, (omega arith, c.u32-process.ensures.read), (c.bytes.new.self, (c.bytes.result.now, c.bytes.ensures.count, c.bytes.ensures.read), refl))))))))
