use Rattle.std.proofs.Common.{◌≡◌, Err, IfSome, None, Option, inl, inr, sym, subst, ap, ◌∙◌}
use Rattle.std.specs.Prelude.{IsSomeAnd, ℕ, ◌/◌, ◌<◌}
use Rattle.std.proofs.lemmas.Result.{IfOk-weaker}
use Rattle.sn_device.specs.Disk.{Disk, reads}
use Rattle.sn_block.specs.Lending.{device_of}
use Rattle.sn_layout.specs.declared.tree.BlockTree.{BlockTree}
use Rattle.sn_layout_node.specs.Directory.{number_of}
use Rattle.sn_layout_node.specs.declared.content.Content.TheVariants.{Tree}
use Rattle.sn_ondisk.specs.Trees.{store_of}
use Rattle.sn_image.specs.Names.{names_of}
use Rattle.sn_image.proofs.PointLemmas.{name_found}
use Rattle.sn_dir.specs.Blocks.{CanRead, IsDamagedAt}
use Rattle.sn_rooted.specs.Nodes.{names_if}
use Rattle.sn_rooted.specs.Roots.{store_on}
use Rattle.sn_rooted.proofs.RootLemmas.{at_now, at_start, never_damaged, was_damaged}
use Rattle.sn_dir.proofs.BlockLemmas.{somewhere}
use Rattle.sn_rooted.proofs.directories.link.Goals as goal

pub returns-in-None-clause-found : goal.returns-in-None-clause-found
returns-in-None-clause-found g c told =
    let s = store_on c.args.blocks.now in
    sym (name_found s c.args.file.now c.args.directory c.args.name.now ∙ ap (number_of c.args.name.now) (c.in_ok-tree.ensures.names told ∙ ap (names_if s) c.in-None.is))

pub returns-in-Some-clause-found : goal.returns-in-Some-clause-found
returns-in-Some-clause-found g c told =
    let s = store_on c.args.blocks.now in
    let same = ap (λ (d : Disk). names_of (store_of (reads d)) (Tree c.in-Some.tree)) (c.directory_at.ensures.same told) in
    let here = same ∙ sym (c.in_ok-tree.ensures.names told ∙ ap (names_if s) c.in-Some.is) in
    IfOk-weaker c.lookup.result _ _ (λ n e. e ∙ ap (number_of c.args.name.now) here ∙ sym (name_found s c.args.file.now c.args.directory c.args.name.now)) (c.lookup.ensures.number told)

pub returns-in-Some-clause-damaged : goal.returns-in-Some-clause-damaged
returns-in-Some-clause-damaged g c told root block is =
    let sectors = (g.D.Device.status (device_of c.args.blocks.now)).sectors in
    let readable = subst (λ (o : Option BlockTree). IfSome o (λ tree. (i : ℕ) → i < tree.size / 4096 → CanRead sectors (store_on c.args.blocks.now) tree i)) c.in-Some.is (c.in_ok-tree.ensures.sound told root) in
    let now = at_now _ _ _ _ _ c.in_ok-tree.ensures.counts.done c.directory_at.ensures.same (λ k r. (i : ℕ) → i < c.in-Some.tree.size / 4096 → CanRead k r c.in-Some.tree i) told readable in
    never_damaged (λ names. number_of c.args.name.now names ≡ None) _ _ c.in-Some.tree now (somewhere (λ names. number_of c.args.name.now names ≡ None) _ _ _ _ (c.lookup.ensures.damaged told block is))

pub returns-in_err-tree-clause-damaged : goal.returns-in_err-tree-clause-damaged
returns-in_err-tree-clause-damaged g c told root block is =
    c.in_err-tree.ensures.damaged told root block (ap (λ f. Err f) (was_damaged _ _ c.from_residual.ensures.1 is))

pub returns-in_err-tree-clause-unread : goal.returns-in_err-tree-clause-unread
returns-in_err-tree-clause-unread g c told block is =
    inl (c.in_err-tree.ensures.unread told block (ap (λ f. Err f) (was_damaged _ _ c.from_residual.ensures.1 is)))

pub returns-in-Some-clause-unread : goal.returns-in-Some-clause-unread
returns-in-Some-clause-unread g c told block is =
    let sectors = (g.D.Device.status (device_of c.args.blocks.now)).sectors in
    let there = sym (c.in_ok-tree.ensures.tree told) ∙ c.in-Some.is in
    let now = at_start _ _ _ _ _ c.in_ok-tree.ensures.counts.done c.directory_at.ensures.same (λ k r. IsDamagedAt (λ names. number_of c.args.name.now names ≡ None) k r c.in-Some.tree block) told (c.lookup.ensures.damaged told block is) in
    inr (subst (λ (o : Option BlockTree). IsSomeAnd o (λ tree. IsDamagedAt (λ names. number_of c.args.name.now names ≡ None) sectors (store_on c.args.blocks.now) tree block)) (sym there) now)
