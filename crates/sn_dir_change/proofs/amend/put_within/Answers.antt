use Rattle.sn_image.specs.Names.{names_in}
use Rattle.sn_dir_change.proofs.BlockLemmas.{no_room}
use Rattle.sn_dir_change.proofs.amend.put_within.Goals as goal

pub returns-then-takes_more-clause-full : goal.returns-then-takes_more-clause-full
returns-then-takes_more-clause-full c = λ no. no_room (names_in c.args.block.now) c.args.room c.args.change.now c.requires.room (c.takes_more.ensures c.if-takes_more.true)
