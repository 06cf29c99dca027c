use Rattle.sn_cp_nodes.proofs.CanLemmas.{can_build}
use Rattle.sn_cp_nodes.proofs.laws.damage_laws.Goals as goal

pub returns : goal.returns
returns c = λ told limits n sectors s file layer number change names written draft is safe part.
    can_build told is c.size_laws.ensures c.inode_laws.ensures.inodes c.directory_laws.ensures limits n sectors s file layer draft safe number names written change part
