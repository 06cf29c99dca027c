use Rattle.std.proofs.Common.{◌≡◌, ℕ, Option, IfSome, sym, subst, ◌∙◌, ap}
use Rattle.sn_device.specs.Disk.{Disk, reads}
use Rattle.sn_block.specs.Lending.{device_of}
use Rattle.sn_ondisk.specs.Blocks.{block_at}
use Rattle.sn_ondisk.specs.Trees.{store_of, below}
use Rattle.sn_tree_read.proofs.PointerLemmas.{below_read}
use Rattle.sn_tree.proofs.CopyLemmas.{holes_read}
use Rattle.sn_tree.proofs.PlanLemmas.{below-none}
use Rattle.sn_tree.proofs.children.copy_below.Goals as goal

pub returns-then-pointer-eq0-clause-pointers : goal.returns-then-pointer-eq0-clause-pointers
returns-then-pointer-eq0-clause-pointers g c told =
    let s = store_of (reads (g.D.Device.disk (device_of c.args.blocks.now))) in
    holes_read c.new.result c.new.ensures.are (sym c.in_ok-zeros.ensures ∙ c.new.ensures.bytes) ∙ sym (ap (below s) c.if-pointer-eq0.true ∙ below-none s)

pub returns-clause-pointers : goal.returns-clause-pointers
returns-clause-pointers g c told =
    let s = store_of (reads (g.D.Device.disk (device_of c.args.blocks.now))) in
    let lent = subst (λ (o : Option ℕ). IfSome o (λ n. c.fetched.result.now ≡ block_at (reads (g.D.Device.disk (device_of c.fetch.new.self))) n)) c.in_ok-fetch.ensures.lent (c.fetched.ensures.bytes told) in
    let bytes : s c.args.pointer ≡ c.fetched.result.now = sym (lent ∙ ap (λ (d : Disk). block_at (reads d) c.args.pointer) (c.fetch.ensures.same told)) in
    sym (below_read s c.args.pointer c.new-2.result c.if-pointer-eq0.false c.new-2.ensures.are (bytes ∙ sym c.in_ok-boxed.ensures ∙ c.new-2.ensures.bytes))
