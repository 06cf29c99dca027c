use Rattle.std.proofs.Common.{sym, subst}
use Rattle.sn_layout_node.specs.declared.inode.InodeRecord.TheVariants.{Used}
use Rattle.sn_inode.specs.Changes.{acl_pointer, IsChanged}
use Rattle.sn_inode.specs.Stored.{IsPlaced, inode_in}
use Rattle.sn_inode.specs.declared.changes.RecordChange.{RecordChange}
use Rattle.sn_inode.proofs.PlacedLemmas.{placed_used}
use Rattle.sn_inode.proofs.acl_changes.new_record.Goals as goal

pub returns-in_ok-acl_block-in-Used-clause-placed : goal.returns-in_ok-acl_block-in-Used-clause-placed
returns-in_ok-acl_block-in-Used-clause-placed c =
    let made = c.with_acl_block.result in
    let was = c.args.old.now in
    subst (λ (change : RecordChange). IsPlaced (λ s. IsChanged s was change (inode_in (Used made))) (acl_pointer was) (acl_pointer (inode_in (Used made))) c.args.build.now c.place_acls.new.build) (sym c.in-Used.is)
    (placed_used c.in-Used.inode made was c.in-Used.acls c.in_ok-acl_block-in-Used.acl_block c.args.build.now c.place_acls.new.build c.with_acl_block.ensures.inode c.in_ok-acl_block-in-Used.ensures.placed)
