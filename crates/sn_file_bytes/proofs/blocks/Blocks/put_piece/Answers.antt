use Rattle.std.proofs.Common.{ℕ, ◌%◌, List, get_or, rules, sym, ap, ◌∙◌}
use Rattle.std.specs.Box.{with_value}
use Rattle.sn_file_bytes.specs.Blocks.{over}
use Rattle.sn_file_bytes.proofs.BlockLemmas.{piece_put}
use Rattle.sn_file_bytes.proofs.blocks.Blocks.put_piece.Goals as goal

pub returns-in-Some-clause-bytes : goal.returns-in-Some-clause-bytes
returns-in-Some-clause-bytes c =
    piece_put c.args.self.now.map.entries _ c.args.at c.args.piece.now c.in-Some.block.now (with_value c.in-Some.block.now c.put.new.block) (sym c.in-Some.ensures.value) ((c.get_mut.follows.holds _).3 (search rules)).0
    (λ i. c.put.ensures i ∙ ap (λ (xs : List ℕ). over (λ j. get_or xs j 0) (c.args.at % 4096) c.args.piece.now i) c.deref_mut.ensures.value) c.requires.within
