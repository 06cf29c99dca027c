use Rattle.std.proofs.Common.{◌≡◌, ℕ, sym, ap, subst, ◌∙◌}
use Rattle.std.proofs.lemmas.Result.{err_from_is_err_and}
use Rattle.sn_device.specs.Disk.{Disk, reads}
use Rattle.sn_block.specs.Lending.{device_of}
use Rattle.sn_ondisk.specs.Roots.{body_block}
use Rattle.sn_ondisk.specs.Trees.{Store, store_of}
use Rattle.sn_sound.specs.Maps.{rooted_in}
use Rattle.sn_sound.specs.Verdicts.{OfSome}
use Rattle.sn_marks.proofs.WalkLemmas.{tells_weaker}
use Rattle.sn_check_root.specs.Rules.{IsSoundButLinks}
use Rattle.sn_census.specs.Faults.{StandsInLinks}
use Rattle.sn_check_roots.specs.First.{AreLinked, IsFirstOf}
use Rattle.sn_check_roots.proofs.FirstLemmas.{all_sound, body_at, first_link}
use Rattle.sn_check_roots.proofs.checking.check_roots.Goals as goal

pub link_roots-requires-clause-checked : goal.link_roots-requires-clause-checked
link_roots-requires-clause-checked g c told r among =
    let same : store_of (reads (g.D.Device.disk (device_of c.check_marks.new.blocks))) ≡ store_of (reads (g.D.Device.disk (device_of c.args.blocks.now))) = ap (λ (d : Disk). store_of (reads d)) (c.check_marks.ensures.same told) in
    subst (λ (q : Store). IsSoundButLinks c.args.root.now.limits c.args.geometry q r.inodes) (sym same) ((c.in_ok-map.ensures.marked told).checked r among)

pub returns-in_err-link_roots-clause-fault : goal.returns-in_err-link_roots-clause-fault
returns-in_err-link_roots-clause-fault g c told =
    let disk = reads (g.D.Device.disk (device_of c.args.blocks.now)) in
    let later = store_of (reads (g.D.Device.disk (device_of c.check_marks.new.blocks))) in
    let same : later ≡ store_of disk = ap (λ (d : Disk). store_of (reads d)) (c.check_marks.ensures.same told) in
    let body : c.start-body.result ≡ body_block c.args.slot = c.start-body.ensures ∙ body_at c.args.geometry c.args.slot in
    let p = err_from_is_err_and c.from_residual-in_err-link_roots.result c.from_residual-in_err-link_roots.ensures.1 in
    rw (p.1, p.2) (tells_weaker c.in_err-link_roots.field-0.0
    (λ damage block. OfSome c.args.root.now (λ r. StandsInLinks later r.inodes c.start-body.result damage block))
    (IsFirstOf c.args.geometry disk c.args.slot c.args.root.now)
    (λ damage block wrong. first_link c.args.geometry disk c.args.slot c.args.root.now c.root_laws.ensures.faults (c.in_ok-map.ensures.marked told) damage block
    (subst (λ (q : Store). OfSome c.args.root.now (λ r. StandsInLinks q r.inodes (body_block c.args.slot) damage block)) same
    (subst (λ (b : ℕ). OfSome c.args.root.now (λ r. StandsInLinks later r.inodes b damage block)) body wrong)))
    (c.in_err-link_roots.ensures.fault told))

pub returns-clause-sound : goal.returns-clause-sound
returns-clause-sound g c told =
    let disk = reads (g.D.Device.disk (device_of c.args.blocks.now)) in
    let same : store_of (reads (g.D.Device.disk (device_of c.check_marks.new.blocks))) ≡ store_of disk = ap (λ (d : Disk). store_of (reads d)) (c.check_marks.ensures.same told) in
    all_sound c.args.geometry disk c.args.slot c.args.root.now c.root_laws.ensures.sound (c.in_ok-map.ensures.marked told)
    (subst (λ (q : Store). AreLinked q (rooted_in c.args.root.now)) same (c.in_ok-link_roots.ensures.linked told))
