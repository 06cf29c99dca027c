use Rattle.std.proofs.Common.{◌∙◌, sym, ap, length, arith}
use Rattle.sn_fuse.specs.Operation.{attribute_fields}
use Rattle.sn_fuse.proofs.Bodies.{whole_size, length_zero}
use Rattle.sn_fuse.proofs.numbers.read_attributes.Goals as goal

pub returns-then-remaining-ne88-clause-none : goal.returns-then-remaining-ne88-clause-none
returns-then-remaining-ne88-clause-none c = λ _ attributes s. absurd (omega (arith, ap length c.new-fields.ensures, whole_size (attribute_fields attributes) c.args.body.now s))

pub returns-clause-found : goal.returns-clause-found
returns-clause-found c = (c.u32.new.self, (omega arith, sym c.new-fields.ensures ∙ c.u32.ensures.read), (c.bytes.new.self, (c.bytes.result.now, c.bytes.ensures.count, c.bytes.ensures.read), (c.u64-handle.new.self, (omega arith, c.u64-handle.ensures.read), (c.u64-size.new.self, (omega arith, c.u64-size.ensures.read), (c.bytes-2.new.self, (c.bytes-2.result.now, c.bytes-2.ensures.count, c.bytes-2.ensures.read), (c.u64-accessed_seconds.new.self, (omega arith, c.u64-accessed_seconds.ensures.read), (c.u64-modified_seconds.new.self, (omega arith, c.u64-modified_seconds.ensures.read), (c.bytes-3.new.self, (c.bytes-3.result.now, c.bytes-3.ensures.count, c.bytes-3.ensures.read), (c.u32-accessed_nanoseconds.new.self, (omega arith, c.u32-accessed_nanoseconds.ensures.read), (c.u32-modified_nanoseconds.new.self, (omega arith, c.u32-modified_nanoseconds.ensures.read), (c.bytes-4.new.self, (c.bytes-4.result.now, c.bytes-4.ensures.count, c.bytes-4.ensures.read), (c.u32-mode.new.self, (omega arith, c.u32-mode.ensures.read), (c.bytes-5.new.self, (c.bytes-5.result.now, c.bytes-5.ensures.count, c.bytes-5.ensures.read), (c.u32-user.new.self, (omega arith, c.u32-user.ensures.read), (c.u32-group.new.self, (omega arith, c.u32-group.ensures.read), (c.bytes-6.new.self, (c.bytes-6.result.now, c.bytes-6.ensures.count, c.bytes-6.ensures.read), length_zero c.bytes-6.new.self (omega arith)))))))))))))))))
