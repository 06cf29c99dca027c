use Rattle.std.proofs.Common.{sym}
use Rattle.std.proofs.lemmas.Bool.{eqb-true}
use Rattle.sn_words.specs.Fields.{parts}
use Rattle.sn_words.proofs.Parts.{goes_on, ends, overflows}
use Rattle.sn_words.proofs.cut.parts.Goals as goal

pub returns-then-is_full-clause-many : goal.returns-then-is_full-clause-many
returns-then-is_full-clause-many g c =
    overflows g.row.N c.args.separator c.loop-piece.pieces.items c.loop-piece.rest.now (parts c.args.separator c.args.text.now)
    (eqb-true _ _ (sym c.if-is_full.ensures.value)) c.loop-piece.invariant

pub loop-piece-preserved : goal.loop-piece-preserved
loop-piece-preserved g c =
    let added = c.push.ensures.items in
    rw added (goes_on c.args.separator c.loop-piece.pieces.items c.in-Some.piece c.loop-piece.rest.now c.in-Some.others.now (parts c.args.separator c.args.text.now)
    c.in-Some.ensures.found c.in-Some.ensures.first c.loop-piece.invariant)

pub returns-clause-found : goal.returns-clause-found
returns-clause-found g c =
    rw c.push-2.ensures.items (ends c.args.separator c.loop-piece.pieces.items c.loop-piece.rest (parts c.args.separator c.args.text.now) c.in_default.ensures.none c.loop-piece.invariant)
