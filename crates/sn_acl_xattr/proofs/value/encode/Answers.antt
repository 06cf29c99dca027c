use Rattle.std.proofs.Common.{length, ap, arith}
use Rattle.sn_acl.proofs.Lists.{length-valid}
use Rattle.sn_acl_xattr.proofs.Raws.{length-raw}
use Rattle.sn_acl_xattr.proofs.value.encode.Goals as goal

pub unwrap-requires-in-loop-entry : goal.unwrap-requires-in-loop-entry
unwrap-requires-in-loop-entry c =
    c.try_extend_from_slice-in-loop-entry.ensures.variant.1 (omega (arith, length-valid c.args.acl.now c.entries-entry-items.ensures.valid, ap length c.entries-entry-items.ensures.value, ap length c.bytes-bytes.ensures, length-raw c.of.result))
