use Rattle.sn_cp_nodes.proofs.RoomLemmas.{less_left}
use Rattle.sn_cp_nodes.proofs.laws.room_laws.Goals as goal

pub returns : goal.returns
returns c = λ told limits n s file layer number change names written draft is ground part small. less_left told is c.size_laws.ensures limits n s file layer number ground names written draft change part small
