use Rattle.sn_bytes.specs.Bytes.{zeros}
use Rattle.sn_bytes.proofs.writer.fill_zeros.Goals as goal

pub returns : goal.returns
unfolding zeros
returns c = c.fill.ensures.after (λ y h. h)
