use Rattle.std.proofs.Common.{◌≡◌, ◌++◌, map, length}
use Rattle.sn_words.specs.Fields.{parts}
use Rattle.sn_words.proofs.cut.parts.Given as goal

abbrev pub invariant-loop-piece : goal.invariant-loop-piece
invariant-loop-piece g l = map (λ p. p.now) l.pieces.items ++ parts l.separator l.rest ≡ parts l.separator l.text

abbrev pub decreases-loop-piece : goal.decreases-loop-piece
decreases-loop-piece g l = length l.rest
