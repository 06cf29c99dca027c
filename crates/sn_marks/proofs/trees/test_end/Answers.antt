use Rattle.std.proofs.Common.{◌≡◌, ℕ, Option, IfSome, sym, subst, ap, ◌∙◌}
use Rattle.std.proofs.lemmas.Bool.{true≢false}
use Rattle.sn_device.specs.Disk.{Disk, reads}
use Rattle.sn_block.specs.Lending.{device_of}
use Rattle.sn_ondisk.specs.Blocks.{block_at}
use Rattle.sn_ondisk.specs.Trees.{store_of}
use Rattle.sn_marks.specs.Fault.{Tells}
use Rattle.sn_marks.specs.Walks.{HasTail}
use Rattle.sn_marks.specs.declared.fault.CheckFault.{CheckFault}
use Rattle.sn_marks.proofs.WalkLemmas.{end_zeros, end_tail}
use Rattle.sn_marks.proofs.trees.test_end.Goals as goal

pub returns-then-not-has_end-clause-fault : goal.returns-then-not-has_end-clause-fault
returns-then-not-has_end-clause-fault g c = λ told.
    let s = store_of (reads (g.D.Device.disk (device_of c.args.blocks.now))) in
    let lent = subst (λ (o : Option ℕ). IfSome o (λ n. c.fetched.result.now ≡ block_at (reads (g.D.Device.disk (device_of c.fetch.new.self))) n)) c.in_ok-fetch.ensures.lent (c.fetched.ensures.bytes told) in
    let bytes : c.fetched.result.now ≡ s c.args.pointer = lent ∙ ap (λ (d : Disk). block_at (reads d) c.args.pointer) (c.fetch.ensures.same told) in
    subst (λ (f : CheckFault). Tells f (HasTail s c.args.from c.args.pointer)) (sym c.misspelt.ensures)
    (end_tail s c.args.from c.args.pointer c.fetched.result.now c.requires.some bytes c.has_end.ensures.size (λ all. true≢false (sym (c.has_end.ensures.zeros.1 all) ∙ c.if-not-has_end.true)))

pub returns-clause-zeros : goal.returns-clause-zeros
returns-clause-zeros g c = λ told.
    let s = store_of (reads (g.D.Device.disk (device_of c.args.blocks.now))) in
    let lent = subst (λ (o : Option ℕ). IfSome o (λ n. c.fetched.result.now ≡ block_at (reads (g.D.Device.disk (device_of c.fetch.new.self))) n)) c.in_ok-fetch.ensures.lent (c.fetched.ensures.bytes told) in
    let bytes : c.fetched.result.now ≡ s c.args.pointer = lent ∙ ap (λ (d : Disk). block_at (reads d) c.args.pointer) (c.fetch.ensures.same told) in
    end_zeros s c.args.from c.args.pointer c.fetched.result.now c.requires.some bytes c.has_end.ensures.size (c.has_end.ensures.zeros.0 c.if-not-has_end.false)
