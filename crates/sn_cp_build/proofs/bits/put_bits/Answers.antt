use Rattle.sn_tree.specs.Drafts.{numbers_of}
use Rattle.sn_cp_build.proofs.BitLemmas.{bits_follow}
use Rattle.sn_cp_build.proofs.bits.put_bits.Goals as goal

pub returns-clause-bits : goal.returns-clause-bits
returns-clause-bits c = bits_follow (numbers_of c.args.added.now) c.args.released.now c.args.map.now c.take_base.new.map c.set_added.new.map c.unset_released.new.map c.apply.new.map c.args.edit c.take_base.ensures c.set_added.ensures c.unset_released.ensures c.apply.ensures
