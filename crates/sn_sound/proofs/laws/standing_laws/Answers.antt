use Rattle.sn_sound.proofs.ReachLemmas.{sound_depends}
use Rattle.sn_sound.proofs.StandingLemmas.{disk_stands, lies_in_data, standing_sound}
use Rattle.sn_sound.proofs.laws.standing_laws.Goals as goal

pub returns-clause-data : goal.returns-clause-data
returns-clause-data c = lies_in_data

pub returns-clause-reach : goal.returns-clause-reach
returns-clause-reach c limits n s r inodes same sound = sound_depends s r inodes same limits n sound

pub returns-clause-crash : goal.returns-clause-crash
returns-clause-crash c = standing_sound

pub returns-clause-disk : goal.returns-clause-disk
returns-clause-disk c = disk_stands
