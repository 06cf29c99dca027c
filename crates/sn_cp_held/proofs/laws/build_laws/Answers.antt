use Rattle.sn_cp_held.proofs.BuildLemmas.{builds_are_built, builds_are_sound}
use Rattle.sn_cp_held.proofs.LiveLemmas.{can_be_built, of_live}
use Rattle.sn_cp_held.proofs.RestoreLemmas.{restore_can_be_built, restore_of_live}
use Rattle.sn_cp_held.proofs.RoomLemmas.{builds_leave_room}
use Rattle.sn_cp_held.proofs.laws.build_laws.Goals as goal

pub returns-clause-built : goal.returns-clause-built
returns-clause-built c = builds_are_built

pub returns-clause-sound : goal.returns-clause-sound
returns-clause-sound c n s root words file layer asked bit built next of r same holds = builds_are_sound n s root words file layer asked bit built next of r same holds

pub returns-clause-room : goal.returns-clause-room
returns-clause-room c n s root words file layer asked bit built next of r same holds = builds_leave_room n s root words file layer asked bit built next of r same holds

pub returns-clause-live : goal.returns-clause-live
returns-clause-live c h world k gate asked bit built next r keeps is = of_live h world k r gate asked bit built next keeps is

pub returns-clause-fit : goal.returns-clause-fit
returns-clause-fit c h world k r = can_be_built h world k r

pub returns-clause-restored : goal.returns-clause-restored
returns-clause-restored c h world k layer name file gate bit built next r can dropped is = restore_of_live h world k r layer name can file bit is.begins dropped gate built next is

pub returns-clause-restores_fit : goal.returns-clause-restores_fit
returns-clause-restores_fit c h world k layer name file bit r can begins = restore_can_be_built h world k r layer name can file bit begins
