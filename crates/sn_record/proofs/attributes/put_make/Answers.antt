use Rattle.sn_layout.proofs.Fields.{puts_then}
use Rattle.sn_record.proofs.attributes.put_make.Goals as goal

pub returns : goal.returns
returns c =
    let numbers = puts_then _ _ _ _ _ _ _ _ c.put_u16-at.ensures.bytes c.put_u16-at-2.ensures.bytes in
    let node = puts_then _ _ _ _ _ _ _ _ c.put_kind-at.ensures c.put_ownership-at.ensures.bytes in
    let front = puts_then _ _ _ _ _ _ _ _ numbers node in
    puts_then _ _ _ _ _ _ _ _ front c.put_name.ensures.bytes
