use Rattle.std.proofs.Common.{Err, IfSome, List, Option, drop, take, inl, inr, sym, subst, ap, ◌∙◌}
use Rattle.std.specs.Prelude.{IsSomeAnd, ℕ}
use Rattle.std.proofs.lemmas.Result.{IfOk-weaker}
use Rattle.sn_device.specs.Disk.{Disk, reads}
use Rattle.sn_block.specs.Lending.{device_of}
use Rattle.sn_layout_node.specs.declared.content.Content.{Content}
use Rattle.sn_ondisk.specs.Trees.{store_of}
use Rattle.sn_rooted.specs.Nodes.{bytes_if}
use Rattle.sn_rooted.specs.Roots.{IsWhole, store_on}
use Rattle.sn_rooted.proofs.RootLemmas.{at_now, at_start, none_taken, was_damaged}
use Rattle.sn_tree_read.specs.Reads.{IsOutsideAt}
use Rattle.sn_tree_read.proofs.LawLemmas.{outside_of}
use Rattle.sn_rooted.proofs.files.read.Goals as goal

pub returns-in_err-content-clause-damaged : goal.returns-in_err-content-clause-damaged
returns-in_err-content-clause-damaged g c told root block is =
    c.in_err-content.ensures.damaged told root block (ap (λ f. Err f) (was_damaged _ _ c.from_residual.ensures.1 is))

pub returns-in-None-clause-bytes : goal.returns-in-None-clause-bytes
returns-in-None-clause-bytes g c told root =
    let s = store_on c.args.blocks.now in
    c.new.ensures.items ∙ sym (none_taken c.args.most c.args.offset _ (c.in_ok-content.ensures.bytes told ∙ ap (bytes_if s) c.in-None.is))

pub returns-in-Some-clause-bytes : goal.returns-in-Some-clause-bytes
returns-in-Some-clause-bytes g c told root =
    let s = store_on c.args.blocks.now in
    let sectors = (g.D.Device.status (device_of c.args.blocks.now)).sectors in
    let whole = subst (λ (o : Option Content). IfSome o (λ content. IsWhole sectors s content)) c.in-Some.is (c.in_ok-content.ensures.sound told root) in
    let now = at_now _ _ _ _ _ c.in_ok-content.ensures.counts.done c.file_at.ensures.same (λ k r. IsWhole k r c.in-Some.content) told whole in
    let same = ap (λ (d : Disk). bytes_if (store_of (reads d)) c.in_ok-content.field-0) (c.file_at.ensures.same told) in
    let here = sym (ap (bytes_if (store_on c.file_at.new.blocks)) c.in-Some.is) ∙ same ∙ sym (c.in_ok-content.ensures.bytes told) in
    IfOk-weaker c.read.result _ _ (λ part is. c.read_laws.ensures.parts _ c.in-Some.content c.args.offset c.args.most part.items now.blocks now.size is ∙ ap (λ (bytes : List ℕ). take c.args.most (drop c.args.offset bytes)) here) (c.read.ensures.bytes told)

pub returns-in-Some-clause-damaged : goal.returns-in-Some-clause-damaged
returns-in-Some-clause-damaged g c told root block is =
    let s = store_on c.args.blocks.now in
    let sectors = (g.D.Device.status (device_of c.args.blocks.now)).sectors in
    let whole = subst (λ (o : Option Content). IfSome o (λ content. IsWhole sectors s content)) c.in-Some.is (c.in_ok-content.ensures.sound told root) in
    let now = at_now _ _ _ _ _ c.in_ok-content.ensures.counts.done c.file_at.ensures.same (λ k r. IsWhole k r c.in-Some.content) told whole in
    now.inside c.args.offset c.args.most (outside_of _ _ _ _ _ _ (c.read.ensures.damaged told block is))

pub returns-in_err-content-clause-unread : goal.returns-in_err-content-clause-unread
returns-in_err-content-clause-unread g c told block is =
    inl (c.in_err-content.ensures.unread told block (ap (λ f. Err f) (was_damaged _ _ c.from_residual.ensures.1 is)))

pub returns-in-Some-clause-unread : goal.returns-in-Some-clause-unread
returns-in-Some-clause-unread g c told block is =
    let sectors = (g.D.Device.status (device_of c.args.blocks.now)).sectors in
    let there = sym (c.in_ok-content.ensures.content told) ∙ c.in-Some.is in
    let now = at_start _ _ _ _ _ c.in_ok-content.ensures.counts.done c.file_at.ensures.same (λ k r. IsOutsideAt k r c.in-Some.content c.args.offset c.args.most block) told (c.read.ensures.damaged told block is) in
    inr (subst (λ (o : Option Content). IsSomeAnd o (λ content. IsOutsideAt sectors (store_on c.args.blocks.now) content c.args.offset c.args.most block)) (sym there) now)
