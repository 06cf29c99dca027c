use Rattle.sn_image.proofs.NameCountLemmas.{in_directory, for_number}
use Rattle.sn_image.proofs.WellFormedLemmas.{links_counted}
use Rattle.sn_image.proofs.laws.name_laws.Goals as goal

pub returns-clause-names_in : goal.returns-clause-names_in
returns-clause-names_in c s inodes directory few = in_directory s inodes few directory

pub returns-clause-names_for : goal.returns-clause-names_for
returns-clause-names_for c s inodes number few = for_number s inodes few number

pub returns-clause-links : goal.returns-clause-links
returns-clause-links c limits n s inodes number inode sound is = links_counted limits n s inodes sound number inode is
