use Rattle.std.proofs.Common.{Err, IfSome, List, Option, inl, inr, map, sym, subst, ap, ◌∙◌}
use Rattle.std.specs.Prelude.{⊤, IsSomeAnd, ℕ, ◌/◌, ◌<◌}
use Rattle.std.specs.List.Sorted.{IsPermutation}
use Rattle.sn_device.specs.Disk.{Disk, reads}
use Rattle.sn_block.specs.Lending.{device_of}
use Rattle.sn_layout.specs.declared.tree.BlockTree.{BlockTree}
use Rattle.sn_layout_node.specs.Directory.{Link}
use Rattle.sn_layout_node.specs.declared.content.Content.TheVariants.{Tree}
use Rattle.sn_ondisk.specs.Trees.{store_of}
use Rattle.sn_image.specs.Names.{names_of}
use Rattle.sn_dir.specs.Blocks.{CanRead, IsDamagedAt}
use Rattle.sn_dir.specs.Listed.{link_of}
use Rattle.sn_rooted.specs.Nodes.{names_if}
use Rattle.sn_rooted.specs.Roots.{store_on}
use Rattle.sn_rooted.proofs.NameLemmas.{listed_names, listed_number, none_moved, none_sorted}
use Rattle.sn_rooted.proofs.RootLemmas.{at_now, at_start, never_damaged, ok_both, was_damaged}
use Rattle.sn_dir.proofs.BlockLemmas.{somewhere}
use Rattle.sn_rooted.proofs.directories.names.Goals as goal

pub returns-in_err-tree-clause-damaged : goal.returns-in_err-tree-clause-damaged
returns-in_err-tree-clause-damaged g c told root block is =
    c.in_err-tree.ensures.damaged told root block (ap (λ f. Err f) (was_damaged _ _ c.from_residual.ensures.1 is))

pub returns-in-None-clause-names : goal.returns-in-None-clause-names
returns-in-None-clause-names g c told root =
    let s = store_on c.args.blocks.now in
    let none = c.in_ok-tree.ensures.names told ∙ ap (names_if s) c.in-None.is in
    listed_names s c.args.file.now c.args.directory c.new.result.items (none_moved _ c.new.result.items none c.new.ensures.items) (root.sound.names.once c.args.directory) (none_sorted c.new.result.items c.new.ensures.items)

pub returns-in-None-clause-numbers : goal.returns-in-None-clause-numbers
returns-in-None-clause-numbers g c told root =
    let s = store_on c.args.blocks.now in
    let none = c.in_ok-tree.ensures.names told ∙ ap (names_if s) c.in-None.is in
    listed_number s c.args.file.now c.args.directory c.new.result.items (none_moved _ c.new.result.items none c.new.ensures.items) (root.sound.names.once c.args.directory) (none_sorted c.new.result.items c.new.ensures.items)

pub returns-in-Some-clause-names : goal.returns-in-Some-clause-names
returns-in-Some-clause-names g c told root =
    let s = store_on c.args.blocks.now in
    let same = ap (λ (d : Disk). names_of (store_of (reads d)) (Tree c.in-Some.tree)) (c.directory_at.ensures.same told) in
    let here = same ∙ sym (c.in_ok-tree.ensures.names told ∙ ap (names_if s) c.in-Some.is) in
    ok_both c.names.result (c.names.ensures.names told) c.names.ensures.sorted
    (λ listed moved sorted. listed_names s c.args.file.now c.args.directory listed.items (subst (λ (ns : List Link). IsPermutation ns (map link_of listed.items)) here moved) (root.sound.names.once c.args.directory) sorted)

pub returns-in-Some-clause-numbers : goal.returns-in-Some-clause-numbers
returns-in-Some-clause-numbers g c told root =
    let s = store_on c.args.blocks.now in
    let same = ap (λ (d : Disk). names_of (store_of (reads d)) (Tree c.in-Some.tree)) (c.directory_at.ensures.same told) in
    let here = same ∙ sym (c.in_ok-tree.ensures.names told ∙ ap (names_if s) c.in-Some.is) in
    ok_both c.names.result (c.names.ensures.names told) c.names.ensures.sorted
    (λ listed moved sorted. listed_number s c.args.file.now c.args.directory listed.items (subst (λ (ns : List Link). IsPermutation ns (map link_of listed.items)) here moved) (root.sound.names.once c.args.directory) sorted)

pub returns-in-Some-clause-damaged : goal.returns-in-Some-clause-damaged
returns-in-Some-clause-damaged g c told root block is =
    let sectors = (g.D.Device.status (device_of c.args.blocks.now)).sectors in
    let readable = subst (λ (o : Option BlockTree). IfSome o (λ tree. (i : ℕ) → i < tree.size / 4096 → CanRead sectors (store_on c.args.blocks.now) tree i)) c.in-Some.is (c.in_ok-tree.ensures.sound told root) in
    let now = at_now _ _ _ _ _ c.in_ok-tree.ensures.counts.done c.directory_at.ensures.same (λ k r. (i : ℕ) → i < c.in-Some.tree.size / 4096 → CanRead k r c.in-Some.tree i) told readable in
    never_damaged (λ names. ⊤) _ _ c.in-Some.tree now (somewhere (λ names. ⊤) _ _ _ _ (c.names.ensures.damaged told block is))

pub returns-in_err-tree-clause-unread : goal.returns-in_err-tree-clause-unread
returns-in_err-tree-clause-unread g c told block is =
    inl (c.in_err-tree.ensures.unread told block (ap (λ f. Err f) (was_damaged _ _ c.from_residual.ensures.1 is)))

pub returns-in-Some-clause-unread : goal.returns-in-Some-clause-unread
returns-in-Some-clause-unread g c told block is =
    let sectors = (g.D.Device.status (device_of c.args.blocks.now)).sectors in
    let there = sym (c.in_ok-tree.ensures.tree told) ∙ c.in-Some.is in
    let now = at_start _ _ _ _ _ c.in_ok-tree.ensures.counts.done c.directory_at.ensures.same (λ k r. IsDamagedAt (λ names. ⊤) k r c.in-Some.tree block) told (c.names.ensures.damaged told block is) in
    inr (subst (λ (o : Option BlockTree). IsSomeAnd o (λ tree. IsDamagedAt (λ names. ⊤) sectors (store_on c.args.blocks.now) tree block)) (sym there) now)
