use Rattle.sn_times_file.specs.Kept.{checksum}
use Rattle.sn_times_file.proofs.checksum.checksum.Goals as goal

pub returns : goal.returns
unfolding checksum
returns c = c.digest.ensures
