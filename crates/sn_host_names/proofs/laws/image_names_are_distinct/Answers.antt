use Rattle.sn_host_names.proofs.ImageNames.{distinct}
use Rattle.sn_host_names.proofs.laws.image_names_are_distinct.Goals as goal

pub returns : goal.returns
returns c = distinct
