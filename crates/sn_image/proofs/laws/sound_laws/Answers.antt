use Rattle.sn_image.proofs.SoundNameLemmas.{sound_tree}
use Rattle.sn_image.proofs.WellFormedLemmas.{well_formed, tree_sound}
use Rattle.sn_image.proofs.laws.sound_laws.Goals as goal

pub returns-clause-trees : goal.returns-clause-trees
returns-clause-trees c = sound_tree

pub returns-clause-well_formed : goal.returns-clause-well_formed
returns-clause-well_formed c = well_formed

pub returns-clause-sound : goal.returns-clause-sound
returns-clause-sound c limits n s inodes placed formed tree = tree_sound limits n s inodes formed tree placed
