use Rattle.std.proofs.Common.{is_some, ap, sym, ◌∙◌, arith}
use Rattle.sn_plain.specs.Plain.{tree_of}
use Rattle.sn_numbers.specs.Back.{held_of}
use Rattle.sn_number_table.proofs.FreeLemmas.{room_is, some_next}
use Rattle.sn_numbers.proofs.numbered.NumberedTree.has_room.Goals as goal

pub returns-in-Some-clause-room : goal.returns-in-Some-clause-room
returns-in-Some-clause-room c =
    let tree = tree_of c.args.self.now.tree in
    let some = some_next tree (held_of c.args.self.now.kept_back) c.args.limits.now ∙ ap is_some (sym c.next_number.ensures ∙ c.in-Some.is) in
    room_is c.args.limits.now tree c.args.directory some (omega (arith, c.names_in.ensures, c.from.ensures, c.if-names_in-from.true))
