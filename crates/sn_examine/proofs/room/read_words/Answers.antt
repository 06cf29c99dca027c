use Rattle.std.proofs.Common.{sym, subst}
use Rattle.sn_examine.specs.Rooms.{IsNoDamage}
use Rattle.sn_examine.proofs.RoomLemmas.{read_is_none}
use Rattle.sn_examine.proofs.room.read_words.Goals as goal

pub returns-in-Err-clause-fault : goal.returns-in-Err-clause-fault
returns-in-Err-clause-fault g c = subst IsNoDamage (sym c.fault_of.ensures) (read_is_none c.in-Err.fault)
