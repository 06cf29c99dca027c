use Rattle.std.proofs.Common.{◌<◌, arith}
use Rattle.sn_names.specs.Index.{entries_of}
use Rattle.sn_names.proofs.ToldLemmas.{seen_without}
use Rattle.sn_names.proofs.index.NameIndex.next_block.Goals as goal

pub returns-clause-passed : goal.returns-clause-passed
returns-clause-passed c = λ sectors s name i told is low high.
    let index = c.args.self.now in
    let listed : i < c.next_listed.result = omega (arith, c.next_unknown.ensures.end) in
    seen_without sectors s index.tree index.numbers.items index.rooms.items (entries_of index) index.level told i name c.args.print is
    (c.next_unknown.ensures.known i low high) (c.next_listed.ensures.none i low listed)
