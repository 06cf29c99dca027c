use Rattle.sn_homes.proofs.PlaceLemmas.{numbers_tell}
use Rattle.sn_homes.proofs.laws.numbers_tell_objects.Goals as goal

pub returns : goal.returns
returns c = numbers_tell
