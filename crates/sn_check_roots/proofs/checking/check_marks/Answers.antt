use Rattle.std.proofs.Common.{◌≡◌, ℕ, ap, subst, ◌∙◌}
use Rattle.std.proofs.lemmas.Result.{err_from_is_err_and}
use Rattle.sn_device.specs.Disk.{Disk, reads}
use Rattle.sn_device.specs.Sectors.{Contents}
use Rattle.sn_block.specs.Lending.{device_of}
use Rattle.sn_ondisk.specs.Roots.{body_block}
use Rattle.sn_ondisk.specs.Trees.{store_of}
use Rattle.sn_sound.specs.Verdicts.{OfSome}
use Rattle.sn_marks.proofs.WalkLemmas.{tells_weaker}
use Rattle.sn_check_root.specs.Rules.{StandsInRoot}
use Rattle.sn_check_roots.specs.Laws.{FitWords}
use Rattle.sn_check_roots.specs.Words.{HasOtherWord, HasWords}
use Rattle.sn_check_roots.specs.First.{IsFirstOf}
use Rattle.sn_check_roots.proofs.FirstLemmas.{body_at, first_root, first_word}
use Rattle.sn_check_roots.proofs.checking.check_marks.Goals as goal

pub returns-in_err-mark_roots-clause-fault : goal.returns-in_err-mark_roots-clause-fault
returns-in_err-mark_roots-clause-fault g c told =
    let disk = reads (g.D.Device.disk (device_of c.args.blocks.now)) in
    let body : c.start-body.result ≡ body_block c.args.slot = c.start-body.ensures ∙ body_at c.args.geometry c.args.slot in
    let p = err_from_is_err_and c.from_residual-in_err-mark_roots.result c.from_residual-in_err-mark_roots.ensures.1 in
    rw (p.1, p.2) (tells_weaker c.in_err-mark_roots.field-0.0
    (λ damage block. OfSome c.args.root.now (λ r. StandsInRoot c.args.root.now.limits c.args.geometry (store_of disk) r.inodes c.start-body.result damage block))
    (IsFirstOf c.args.geometry disk c.args.slot c.args.root.now)
    (λ damage block wrong. first_root c.args.geometry disk c.args.slot c.args.root.now damage block
    (subst (λ (b : ℕ). OfSome c.args.root.now (λ r. StandsInRoot c.args.root.now.limits c.args.geometry (store_of disk) r.inodes b damage block)) body wrong))
    (c.in_err-mark_roots.ensures.fault told))

pub returns-in_err-check_map-clause-fault : goal.returns-in_err-check_map-clause-fault
returns-in_err-check_map-clause-fault g c told =
    let disk = reads (g.D.Device.disk (device_of c.args.blocks.now)) in
    let later = reads (g.D.Device.disk (device_of c.mark_roots.new.blocks)) in
    let same : later ≡ disk = ap (λ (d : Disk). reads d) (c.mark_roots.ensures.same told) in
    let p = err_from_is_err_and c.from_residual-in_err-check_map.result c.from_residual-in_err-check_map.ensures.1 in
    rw (p.1, p.2) (tells_weaker c.in_err-check_map.field-0.0
    (HasOtherWord c.args.geometry later c.args.slot c.mark_roots.new.map)
    (IsFirstOf c.args.geometry disk c.args.slot c.args.root.now)
    (λ damage block wrong. first_word c.args.geometry disk c.args.slot c.args.root.now c.root_laws.ensures.faults (c.in_ok-mark_roots.ensures.checked told) c.set_laws.ensures.others c.mark_roots.new.map (subst FitWords c.words.ensures c.words_law.ensures) (c.in_ok-mark_roots.ensures.sets told) damage block
    (subst (λ (contents : Contents). HasOtherWord c.args.geometry contents c.args.slot c.mark_roots.new.map damage block) same wrong))
    (c.in_err-check_map.ensures.fault told))

pub returns-clause-marked : goal.returns-clause-marked
returns-clause-marked g c told =
    let disk = reads (g.D.Device.disk (device_of c.args.blocks.now)) in
    let later = reads (g.D.Device.disk (device_of c.mark_roots.new.blocks)) in
    let same : later ≡ disk = ap (λ (d : Disk). reads d) (c.mark_roots.ensures.same told) in
    record {
      checked = c.in_ok-mark_roots.ensures.checked told;
      map = c.set_laws.ensures.right c.args.geometry disk c.args.slot c.args.root.now c.mark_roots.new.map (subst FitWords c.words.ensures c.words_law.ensures) (c.in_ok-mark_roots.ensures.sets told)
          (subst (λ (contents : Contents). HasWords c.args.geometry contents c.args.slot c.mark_roots.new.map) same (c.in_ok-check_map.ensures.words told));
    }
