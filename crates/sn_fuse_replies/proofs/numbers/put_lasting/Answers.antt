use Rattle.sn_bytes.proofs.Fields.{puts_then}
use Rattle.sn_fuse_replies.proofs.numbers.put_lasting.Goals as goal

pub returns-clause-bytes : goal.returns-clause-bytes
returns-clause-bytes c =
    let to_2 = puts_then _ _ _ _ _ _ _ _ c.put_u64-at.ensures.bytes c.put_u32-at.ensures.bytes in
    let to_3 = puts_then _ _ _ _ _ _ _ _ to_2 c.put_zeros-at.ensures.bytes in
    puts_then _ _ _ _ _ _ _ _ to_3 c.put_attributes.ensures.bytes
