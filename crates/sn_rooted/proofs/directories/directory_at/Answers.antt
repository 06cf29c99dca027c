use Rattle.std.proofs.Common.{Err, IfSome, Option, sym, subst, ap, ◌∙◌}
use Rattle.std.specs.Prelude.{ℕ, ◌/◌, ◌<◌}
use Rattle.sn_device.specs.Disk.{reads}
use Rattle.sn_block.specs.Lending.{device_of}
use Rattle.sn_layout.specs.declared.tree.BlockTree.{BlockTree}
use Rattle.sn_dir.specs.Blocks.{CanRead}
use Rattle.sn_rooted.specs.Nodes.{names_if, names_tree_if}
use Rattle.sn_rooted.specs.Roots.{store_on}
use Rattle.sn_rooted.proofs.RootLemmas.{directory_names, names_read, no_names, was_damaged}
use Rattle.sn_rooted.proofs.directories.directory_at.Goals as goal

pub returns-in_default-clause-names : goal.returns-in_default-clause-names
returns-in_default-clause-names g c told =
    no_names (store_on c.args.blocks.now) c.args.file.now c.args.number (sym (c.in_ok-inode.ensures.inode told) ∙ c.in_default.is)

pub returns-in_err-inode-clause-damaged : goal.returns-in_err-inode-clause-damaged
returns-in_err-inode-clause-damaged g c told root block is =
    c.in_err-inode.ensures.damaged told root block (ap (λ f. Err f) (was_damaged _ _ c.from_residual.ensures.1 is))

pub returns-clause-names : goal.returns-clause-names
returns-clause-names g c told =
    let s = store_on c.args.blocks.now in
    let used = sym (c.in_ok-inode.ensures.inode told) ∙ c.in-Some.is in
    directory_names s c.args.file.now c.args.number c.in-Some.inode used ∙ ap (names_if s) (sym c.names_tree.ensures)

pub returns-clause-sound : goal.returns-clause-sound
returns-clause-sound g c told root =
    let disk = g.D.Device.disk (device_of c.args.blocks.now) in
    let sectors = (g.D.Device.status (device_of c.args.blocks.now)).sectors in
    let used = sym (c.in_ok-inode.ensures.inode told) ∙ c.in-Some.is in
    subst (λ (o : Option BlockTree). IfSome o (λ tree. (i : ℕ) → i < tree.size / 4096 → CanRead sectors (store_on c.args.blocks.now) tree i)) (sym c.names_tree.ensures)
    (names_read c.args.limits.now _ (reads disk) c.args.file.now (g.met.D.Device.whole (device_of c.args.blocks.now) told) (g.met.D.Device.count (device_of c.args.blocks.now) told) root c.args.number c.in-Some.inode used c.directory_laws.ensures)

pub returns-in_default-clause-tree : goal.returns-in_default-clause-tree
returns-in_default-clause-tree g c told = sym (ap names_tree_if (sym (c.in_ok-inode.ensures.inode told) ∙ c.in_default.is))

pub returns-clause-tree : goal.returns-clause-tree
returns-clause-tree g c told = c.names_tree.ensures ∙ sym (ap names_tree_if (sym (c.in_ok-inode.ensures.inode told) ∙ c.in-Some.is))

pub returns-in_err-inode-clause-unread : goal.returns-in_err-inode-clause-unread
returns-in_err-inode-clause-unread g c told block is =
    c.in_err-inode.ensures.unread told block (ap (λ f. Err f) (was_damaged _ _ c.from_residual.ensures.1 is))
