use Rattle.std.proofs.Common.{arith, ◌∙◌, ◌++◌, ap}
use Rattle.sn_import.proofs.Pieces.{writes_filled}
use Rattle.sn_import.proofs.content.Content.fill.Goals as goal

pub returns-clause-filled : goal.returns-clause-filled
returns-clause-filled c = λ rest.
    writes_filled c.args.self.now c.exchange-piece.new.self c.args.bytes.now rest c.front.result.now c.in_ok-kept.kept.items c.extend_from_slice.new.self.items c.missing-room.result c.write.result
    c.missing-room.ensures.value c.missing-room.ensures.some (omega arith) c.requires.block
    c.front.ensures (c.in_ok-kept.ensures.items ∙ c.back.ensures)
    (c.in_ok-extend_from_slice.ensures.items ∙ ap (λ held. held ++ c.front.result.now) c.exchange-piece.ensures.given)
    c.exchange-piece.ensures.held c.write.ensures
