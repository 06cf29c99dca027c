use Rattle.std.proofs.Common.{◌≡◌, ℕ, Option, IfSome, IsTrue, true, false, sym, ap, subst, ◌∙◌}
use Rattle.sn_device.specs.Disk.{Disk, reads}
use Rattle.sn_block.specs.Lending.{device_of}
use Rattle.sn_ondisk.specs.Blocks.{block_at}
use Rattle.sn_ondisk.specs.Trees.{store_of}
use Rattle.sn_tree_read.specs.Paths.{lies_on, block_named}
use Rattle.sn_inode.proofs.AclLemmas.{none_at, none_read, off_not_read, decoded_acls, decoded_read, decoded_damaged}
use Rattle.sn_inode.proofs.acl_blocks.acls.Given.{Over}
use Rattle.sn_inode.proofs.acl_blocks.acls.Goals as goal

pub returns-then-pointer-eq0-clause-acls : goal.returns-then-pointer-eq0-clause-acls
returns-then-pointer-eq0-clause-acls g c told = c.no_acls.ensures ∙ none_at _ c.args.inode.now.acl_block c.if-pointer-eq0.true

pub returns-then-pointer-eq0-clause-read : goal.returns-then-pointer-eq0-clause-read
returns-then-pointer-eq0-clause-read g c told = none_read _ _ c.args.inode.now c.if-pointer-eq0.true

pub returns-then-not-lies_on-clause-damaged : goal.returns-then-not-lies_on-clause-damaged
returns-then-not-lies_on-clause-damaged g c told block is =
    let off : lies_on (g.D.Device.status (device_of c.args.blocks.now)).sectors c.args.inode.now.acl_block ≡ false =
    ap (λ (n : ℕ). lies_on n c.args.inode.now.acl_block) (sym c.sectors.ensures) ∙ sym c.lies_on.ensures ∙ c.if-not-lies_on.true in
    (off_not_read _ _ c.args.inode.now off, cc (is, c.at.ensures))

-- what is lent is the block of the ACLs
lent : (g : Over) (c : goal.After-decoded g) → IsTrue g.D.Device.tells_bytes → c.fetched.result.now ≡ store_of (reads (g.D.Device.disk (device_of c.args.blocks.now))) c.args.inode.now.acl_block
lent g c told =
    subst (λ (o : Option ℕ). IfSome o (λ number. c.fetched.result.now ≡ block_at (reads (g.D.Device.disk (device_of c.fetch.new.self))) number)) c.in_ok-fetch.ensures.lent (c.fetched.ensures.bytes told)
    ∙ ap (λ (d : Disk). block_at (reads d) c.args.inode.now.acl_block) (c.fetch.ensures.same told)

pub returns-clause-acls : goal.returns-clause-acls
returns-clause-acls g c told =
    let s = store_of (reads (g.D.Device.disk (device_of c.args.blocks.now))) in
    decoded_acls s 0 c.args.inode.now c.fetched.result.now (lent g c told) c.if-pointer-eq0.false c.decoded.result c.decoded.ensures.acls

pub returns-clause-read : goal.returns-clause-read
returns-clause-read g c told =
    let s = store_of (reads (g.D.Device.disk (device_of c.args.blocks.now))) in
    let lies : lies_on (g.D.Device.status (device_of c.args.blocks.now)).sectors c.args.inode.now.acl_block ≡ true =
    ap (λ (n : ℕ). lies_on n c.args.inode.now.acl_block) (sym c.sectors.ensures) ∙ sym c.lies_on.ensures ∙ c.if-not-lies_on.false in
    decoded_read s _ c.args.inode.now c.fetched.result.now (lent g c told) c.if-pointer-eq0.false c.decoded.result lies c.decoded.ensures.spelled

pub returns-clause-damaged : goal.returns-clause-damaged
returns-clause-damaged g c told at_block is =
    let s = store_of (reads (g.D.Device.disk (device_of c.args.blocks.now))) in
    decoded_damaged s _ c.args.inode.now c.fetched.result.now (lent g c told) c.if-pointer-eq0.false (block_named c.args.inode.now.acl_block) c.decoded.result c.decoded.ensures.damaged at_block is
