use Rattle.std.proofs.Common.{ℕ, ◌%◌, List, get_or, rules, sym, ap, ◌∙◌}
use Rattle.std.specs.Box.{with_value}
use Rattle.sn_file_bytes.specs.Blocks.{cut_at}
use Rattle.sn_file_bytes.proofs.BlockLemmas.{piece_cleared, hole_cleared}
use Rattle.sn_file_bytes.proofs.blocks.Blocks.clear_piece.Goals as goal

pub returns-in-Some : goal.returns-in-Some
returns-in-Some c =
    piece_cleared c.args.self.now.map.entries _ c.args.at c.in-Some.block.now (with_value c.in-Some.block.now c.clear_from.new.block) (sym c.in-Some.ensures.value) ((c.get_mut.follows.holds _).3 (search rules)).0
    (λ i. c.clear_from.ensures i ∙ ap (λ (xs : List ℕ). cut_at (λ j. get_or xs j 0) (c.args.at % 4096) i) c.deref_mut.ensures.value)

pub returns-in_default : goal.returns-in_default
returns-in_default c = rw c.get_mut.follows.holds-at-none (hole_cleared c.args.self.now.map.entries c.args.at (sym c.in_default.ensures.value))
