use Rattle.sn_inode.proofs.AclLemmas.{sound_acls}
use Rattle.sn_inode.proofs.RecordLemmas.{sound_record}
use Rattle.sn_inode.proofs.laws.inode_laws.Goals as goal

pub returns-clause-inodes : goal.returns-clause-inodes
returns-clause-inodes c = λ limits sectors s inodes sound all. sound_record limits sectors s inodes sound (c.read_laws.ensures.blocks sectors s inodes all)

pub returns-clause-acls : goal.returns-clause-acls
returns-clause-acls c = sound_acls
