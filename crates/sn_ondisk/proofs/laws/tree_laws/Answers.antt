use Rattle.sn_ondisk.proofs.TreeLemmas.{trees_depend, trees_depend_on_sectors, reach_has, reach_has_none, entry-level, bytes_of_block, levels_room, levels_least}
use Rattle.sn_ondisk.proofs.laws.tree_laws.Goals as goal

pub returns-clause-depends : goal.returns-clause-depends
returns-clause-depends c = trees_depend

pub returns-clause-sectors : goal.returns-clause-sectors
returns-clause-sectors c = trees_depend_on_sectors

pub returns-clause-every : goal.returns-clause-every
returns-clause-every c = reach_has

pub returns-clause-no_hole : goal.returns-clause-no_hole
returns-clause-no_hole c = reach_has_none

pub returns-clause-entries : goal.returns-clause-entries
returns-clause-entries c = entry-level

pub returns-clause-bytes : goal.returns-clause-bytes
returns-clause-bytes c = bytes_of_block

pub returns-clause-levels : goal.returns-clause-levels
returns-clause-levels c = levels_room

pub returns-clause-least : goal.returns-clause-least
returns-clause-least c = levels_least
