use Rattle.sn_bytes.proofs.Fields.{puts_then}
use Rattle.sn_fuse_replies.proofs.numbers.put_count.Goals as goal

pub returns-clause-bytes : goal.returns-clause-bytes
returns-clause-bytes c =
    puts_then _ _ _ _ _ _ _ _ c.put_u32-at.ensures.bytes c.put_zeros.ensures.bytes
