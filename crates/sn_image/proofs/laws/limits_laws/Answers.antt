use Rattle.sn_image.proofs.AllowedLemmas.{snapshots_stay, sound_stays}
use Rattle.sn_image.proofs.laws.limits_laws.Goals as goal

pub returns-clause-sound : goal.returns-clause-sound
returns-clause-sound c = λ less more n s inodes allows. sound_stays less more allows n s inodes

pub returns-clause-snapshots : goal.returns-clause-snapshots
returns-clause-snapshots c = λ less more snapshots allows. snapshots_stay less more allows snapshots
