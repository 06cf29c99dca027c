use Rattle.sn_import_tree_laws.proofs.Again.{copies_have_the_archive}
use Rattle.sn_import_tree_laws.proofs.laws.copies_have_the_archive.Goals as goal

pub returns : goal.returns
returns c = copies_have_the_archive
