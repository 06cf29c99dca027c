use Rattle.std.proofs.Common.{refl}
use Rattle.sn_file_bytes.specs.Blocks.{values_from}
use Rattle.sn_file_bytes.proofs.file.FileBytes.new.Goals as goal

pub returns : goal.returns
unfolding values_from
returns c = refl
