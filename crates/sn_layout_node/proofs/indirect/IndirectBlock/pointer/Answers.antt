use Rattle.std.proofs.Common.{◌∙◌, ◌+◌, ◌-◌, ◌*◌, ℕ, List, get_or, sym, ap, arith}
use Rattle.sn_layout_node.proofs.Numbers.{block_at}
use Rattle.sn_layout_node.proofs.indirect.IndirectBlock.pointer.Goals as goal

pub returns : goal.returns
returns c =
    c.read_u32.ensures
    ∙ sym (block_at c.self.inside.bytes.now c.args.index (4 * c.args.index + 4 - 4 * c.args.index) c.requires (omega arith))
    ∙ ap (λ (pointers : List ℕ). get_or pointers c.args.index 0) c.self.view_is
