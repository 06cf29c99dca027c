use Rattle.sn_host_names.proofs.ImageNames.{name_is_image}
use Rattle.sn_host_names.proofs.laws.names_have_host_names.Goals as goal

pub returns : goal.returns
returns c = name_is_image
