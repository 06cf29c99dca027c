use Rattle.std.proofs.Common.{arith}
use Rattle.sn_record.proofs.Lengths.{length-fields}
use Rattle.sn_record.proofs.payload.put_change.Goals as goal

pub put_fields-requires-clause-room : goal.put_fields-requires-clause-room
put_fields-requires-clause-room c = omega (arith, c.put_u8-at.auto.block, c.put_u8-at.ensures.moved, c.requires.room, length-fields c.args.change.now)
