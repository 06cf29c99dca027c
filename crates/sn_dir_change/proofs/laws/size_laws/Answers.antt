use Rattle.std.proofs.Common.{IsTrue}
use Rattle.sn_dir_change.proofs.SizeLemmas.{grown_fit}
use Rattle.sn_dir_change.proofs.laws.size_laws.Goals as goal

pub returns : goal.returns
returns c = λ told. grown_fit (IsTrue told)
