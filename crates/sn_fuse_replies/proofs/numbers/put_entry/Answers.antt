use Rattle.sn_bytes.proofs.Fields.{puts_then}
use Rattle.sn_fuse_replies.proofs.numbers.put_entry.Goals as goal

pub returns-clause-bytes : goal.returns-clause-bytes
returns-clause-bytes c =
    let to_2 = puts_then _ _ _ _ _ _ _ _ c.put_u64-at.ensures.bytes c.put_u64-at-2.ensures.bytes in
    let to_3 = puts_then _ _ _ _ _ _ _ _ to_2 c.put_u64-at-3.ensures.bytes in
    let to_4 = puts_then _ _ _ _ _ _ _ _ to_3 c.put_u64-at-4.ensures.bytes in
    let to_5 = puts_then _ _ _ _ _ _ _ _ to_4 c.put_u32-at.ensures.bytes in
    let to_6 = puts_then _ _ _ _ _ _ _ _ to_5 c.put_u32-at-2.ensures.bytes in
    puts_then _ _ _ _ _ _ _ _ to_6 c.put_attributes.ensures.bytes
