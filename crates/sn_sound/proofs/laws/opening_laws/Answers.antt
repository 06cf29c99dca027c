use Rattle.sn_sound.proofs.DiskLemmas.{image_holds, one_world, sound_opens}
use Rattle.sn_sound.proofs.WorldLemmas.{opens_to_found}
use Rattle.sn_sound.proofs.laws.opening_laws.Goals as goal

pub returns-clause-opens : goal.returns-clause-opens
returns-clause-opens c = sound_opens

pub returns-clause-holds : goal.returns-clause-holds
returns-clause-holds c = image_holds

pub returns-clause-one : goal.returns-clause-one
returns-clause-one c = one_world

pub returns-clause-worlds : goal.returns-clause-worlds
returns-clause-worlds c sectors contents n slot root world device sound opens = opens_to_found sectors contents n slot root device sound world opens
