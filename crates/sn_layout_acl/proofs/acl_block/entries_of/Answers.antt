use Rattle.sn_layout_acl.proofs.AclLists.{valid_short}
use Rattle.sn_layout_acl.proofs.acl_block.entries_of.Goals as goal

pub returns-in-Some-clause-room : goal.returns-in-Some-clause-room
returns-in-Some-clause-room c = rw c.entries.ensures.value (valid_short _ c.entries.ensures.valid)
