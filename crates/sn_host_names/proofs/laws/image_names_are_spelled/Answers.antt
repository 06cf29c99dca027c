use Rattle.sn_host_names.proofs.ImageNames.{images_spelled}
use Rattle.sn_host_names.proofs.laws.image_names_are_spelled.Goals as goal

pub returns : goal.returns
returns c = images_spelled
