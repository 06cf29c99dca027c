use Rattle.sn_image.proofs.FootprintLemmas.{inodes_depend, roots_depend, roots_depend_on_sectors}
use Rattle.sn_image.proofs.laws.footprints.Goals as goal

pub returns-clause-inodes : goal.returns-clause-inodes
returns-clause-inodes c = inodes_depend

pub returns-clause-roots : goal.returns-clause-roots
returns-clause-roots c = roots_depend

pub returns-clause-sectors : goal.returns-clause-sectors
returns-clause-sectors c = roots_depend_on_sectors
