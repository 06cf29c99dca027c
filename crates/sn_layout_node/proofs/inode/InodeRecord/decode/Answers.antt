use Rattle.std.proofs.Common.{◌≡◌, ◌∙◌, List, ℕ, Some, refl, sym, ap}
use Rattle.sn_layout.specs.Bytes.{zeros}
use Rattle.sn_layout_node.specs.declared.inode.InodeRecord.{InodeRecord}
use Rattle.sn_layout_node.specs.declared.inode.InodeRecord.TheVariants.{Unused, Used}
use Rattle.sn_layout_node.specs.Inode.{record_bytes}
use Rattle.sn_layout_node.proofs.Heads.{not_blank}
use Rattle.sn_layout_node.proofs.inode.InodeRecord.decode.Goals as goal

unused : (bytes : List ℕ) → bytes ≡ zeros 128 → (r : InodeRecord) → bytes ≡ record_bytes r → Unused ≡ r
unused bytes blank Unused e = refl
unused bytes blank (Used inode) e = not_blank inode (sym blank ∙ e)

pub returns-then-is_blank-clause-only : goal.returns-then-is_blank-clause-only
returns-then-is_blank-clause-only c = λ r fits e.
    let blank = c.is_blank.ensures.0 c.if-is_blank.true ∙ ap zeros c.requires in
    ap Some (unused c.args.bytes.now blank r e)
