use Rattle.std.proofs.Common.{ℕ, refl}
use Rattle.sn_file_bytes.specs.Blocks.{byte_at}
use Rattle.sn_file_bytes.proofs.blocks.Blocks.new.Goals as goal

pub returns : goal.returns
unfolding byte_at
returns c = λ (k : ℕ). rw c.new.ensures.empty refl
