use Rattle.std.proofs.Common.{ℕ, List, ◌≡◌, ap, subst, replicate, ◌∙◌}
use Rattle.sn_layout.specs.Bytes.{Puts}
use Rattle.sn_layout_node.specs.Inode.{inode_bytes}
use Rattle.sn_mkfs.specs.Fresh.{root_directory}
use Rattle.sn_mkfs.proofs.InodeLemmas.{record_put}
use Rattle.sn_mkfs.proofs.fresh.inode_block.Goals as goal

pub returns : goal.returns
returns c =
    let record_is : c.encode.new.bytes ≡ inode_bytes root_directory = c.encode.ensures ∙ ap inode_bytes c.root_directory.ensures.value in
    record_put c.put_bytes.new.block c.put_bytes.result (subst (λ (bytes : List ℕ). Puts (replicate 4096 0) c.put_bytes.new.block 256 c.put_bytes.result bytes) record_is c.put_bytes.ensures)
