use Rattle.sn_examine.proofs.ImageLemmas.{clean_image, image_clean}
use Rattle.sn_examine.proofs.laws.image_laws.Goals as goal

pub returns-clause-clean : goal.returns-clause-clean
returns-clause-clean c = image_clean

pub returns-clause-image : goal.returns-clause-image
returns-clause-image c = clean_image
