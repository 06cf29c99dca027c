use Rattle.std.proofs.Common.{◌≡◌, Contains, Result, Ok, Err, OnOk, take, sym, ap, subst, ◌∙◌}
use Rattle.sn_device.specs.Disk.{reads}
use Rattle.sn_block.specs.Lending.{device_of}
use Rattle.sn_ondisk.specs.Trees.{store_of}
use Rattle.sn_sound.specs.Maps.{Rooted, rooted_in}
use Rattle.sn_sound.specs.Verdicts.{OfSome}
use Rattle.sn_marks.proofs.WalkLemmas.{told_weaker}
use Rattle.sn_check_root.specs.Rules.{StandsInRoot}
use Rattle.sn_check_roots.proofs.FirstLemmas.{clear_bit, done_more, root_within}
use Rattle.sn_check_roots.proofs.RootedLemmas.{before_contains}
use Rattle.sn_check_roots.proofs.SeenLemmas.{done_copied}
use Rattle.sn_check_roots.proofs.marking.mark_one.Goals as goal

-- two facts of one answer
on_ok_both : {T E P Q R : Type 0} (result : Result T E) → (P → Q → R) → OnOk result P → OnOk result Q → OnOk result R
on_ok_both (Ok x) both one two = both one two
on_ok_both (Err e) both one two = tt

pub returns-in-Some-clause-done : goal.returns-in-Some-clause-done
returns-in-Some-clause-done g c told =
    let s = store_of (reads (g.D.Device.disk (device_of c.args.blocks.now))) in
    let roots = rooted_in c.args.root.now in
    let r : Rooted = record { bit = c.root_at-it.result.bit; inodes = c.root_at-it.result.file } in
    let earlier : Rooted = record { bit = c.root_at.result.bit; inodes = c.root_at.result.file } in
    let among : Contains (take c.args.i roots) earlier = subst (Contains (take c.args.i roots)) (c.root_at.ensures.root r) (before_contains roots c.args.i c.in-Some.j r c.in-Some.ensures.seen.before c.requires.within) in
    let same : r.inodes ≡ earlier.inodes =
    ap (λ (q : Rooted). q.inodes) (sym (c.root_at-it.ensures.root r)) ∙ c.in-Some.ensures.seen.same r ∙ ap (λ (q : Rooted). q.inodes) (c.root_at.ensures.root r) in
    done_copied c.args.geometry s c.args.root.now c.requires.fits c.args.i r r c.requires.within (c.root_at-it.ensures.root r) c.args.map.now (c.requires.done told) earlier among same
    c.set_laws.ensures.grow c.copy_bit.new.self c.copy_bit.ensures.bits

pub check_root-requires-clause-clear : goal.check_root-requires-clause-clear
check_root-requires-clause-clear g c told =
    let r : Rooted = record { bit = c.root_at-it.result.bit; inodes = c.root_at-it.result.file } in
    clear_bit c.args.geometry (store_of (reads (g.D.Device.disk (device_of c.args.blocks.now)))) c.args.root.now c.requires.fits c.args.i r r c.requires.within (c.root_at-it.ensures.root r) c.args.map.now (c.requires.done told)

pub returns-clause-done : goal.returns-clause-done
returns-clause-done g c told =
    let r : Rooted = record { bit = c.root_at-it.result.bit; inodes = c.root_at-it.result.file } in
    on_ok_both c.check_root.result
    (done_more c.args.geometry (store_of (reads (g.D.Device.disk (device_of c.args.blocks.now)))) c.args.root.now c.requires.fits c.args.i r r c.requires.within (c.root_at-it.ensures.root r) c.args.map.now (c.requires.done told) c.set_laws.ensures.grow c.check_root.new.map)
    (c.check_root.ensures.marks told)
    (c.check_root.ensures.sound told)

pub returns-clause-fault : goal.returns-clause-fault
returns-clause-fault g c told =
    let s = store_of (reads (g.D.Device.disk (device_of c.args.blocks.now))) in
    let r : Rooted = record { bit = c.root_at-it.result.bit; inodes = c.root_at-it.result.file } in
    told_weaker c.check_root.result
    (StandsInRoot c.args.root.now.limits c.args.geometry s r.inodes c.args.body)
    (λ damage block. OfSome c.args.root.now (λ q. StandsInRoot c.args.root.now.limits c.args.geometry s q.inodes c.args.body damage block))
    (λ damage block wrong. (r, root_within c.args.root.now c.args.i r c.requires.within (c.root_at-it.ensures.root r), wrong))
    (c.check_root.ensures.fault told)
