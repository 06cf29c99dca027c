use Rattle.std.proofs.Common.{◌≡◌, ℕ, List, Option, IfSome, sym, subst, ◌∙◌, ap, slice_index}
use Rattle.sn_device.specs.Disk.{Disk, reads}
use Rattle.sn_block.specs.Lending.{device_of}
use Rattle.sn_ondisk.specs.Blocks.{block_at}
use Rattle.sn_ondisk.specs.Trees.{store_of}
use Rattle.sn_tree_read.proofs.PointerLemmas.{below_hole, below_read}
use Rattle.sn_tree_read.proofs.entries.pointer_below.Goals as goal

pub returns-then-pointer-eq0-clause-pointer : goal.returns-then-pointer-eq0-clause-pointer
returns-then-pointer-eq0-clause-pointer g c told =
    below_hole (store_of (reads (g.D.Device.disk (device_of c.args.blocks.now)))) c.args.pointer c.args.index c.if-pointer-eq0.true c.requires

pub returns-clause-pointer : goal.returns-clause-pointer
returns-clause-pointer g c told =
    let s = store_of (reads (g.D.Device.disk (device_of c.args.blocks.now))) in
    let lent = subst (λ (o : Option ℕ). IfSome o (λ n. c.fetched.result.now ≡ block_at (reads (g.D.Device.disk (device_of c.fetch.new.self))) n)) c.in_ok-fetch.ensures.lent (c.fetched.ensures.bytes told) in
    let bytes : s c.args.pointer ≡ c.fetched.result.now = sym (lent ∙ ap (λ (d : Disk). block_at (reads d) c.args.pointer) (c.fetch.ensures.same told)) in
    let read = below_read s c.args.pointer c.decode.result c.if-pointer-eq0.false c.decode.ensures.fits (bytes ∙ c.decode.ensures.read) in
    c.pointer.ensures ∙ ap (λ (ps : List ℕ). slice_index ps c.args.index) (sym read)
