use Rattle.sn_image.proofs.DecodeLemmas.{inode_read, unused_read, acls_read, directory_read}
use Rattle.sn_image.proofs.laws.reading_laws.Goals as goal

pub returns-clause-records : goal.returns-clause-records
returns-clause-records c = inode_read

pub returns-clause-unused : goal.returns-clause-unused
returns-clause-unused c = unused_read

pub returns-clause-acls : goal.returns-clause-acls
returns-clause-acls c = acls_read

pub returns-clause-directories : goal.returns-clause-directories
returns-clause-directories c = directory_read
