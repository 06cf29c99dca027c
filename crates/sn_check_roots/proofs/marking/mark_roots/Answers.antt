use Rattle.std.proofs.Common.{◌≡◌, ℕ, ◌+◌, ◌*◌, ◌≤◌, List, length, take, sym, ap, subst, ◌∙◌, arith}
use Rattle.std.proofs.lemmas.Result.{err_from_is_err_and}
use Rattle.std.proofs.lemmas.List.{length-replicate, take_all}
use Rattle.sn_device.specs.Disk.{reads}
use Rattle.sn_device.specs.declared.status.Status.{Status}
use Rattle.sn_block.specs.Lending.{device_of}
use Rattle.sn_ondisk.specs.Trees.{Store, store_of}
use Rattle.sn_sound.specs.Maps.{Rooted, rooted_in}
use Rattle.sn_sound.specs.Verdicts.{OfSome}
use Rattle.sn_marks.specs.Fault.{Tells}
use Rattle.sn_check_root.specs.Rules.{StandsInRoot}
use Rattle.sn_check_root.proofs.DeviceLemmas.{stays_begun, stays_more, at_now, at_start}
use Rattle.sn_check_roots.specs.Sets.{AreSets}
use Rattle.sn_check_roots.specs.First.{AreChecked, AreDone}
use Rattle.sn_check_roots.proofs.FirstLemmas.{done_none}
use Rattle.sn_check_roots.proofs.marking.mark_roots.Goals as goal

pub loop-i-init : goal.loop-i-init
loop-i-init g c = record {
  stays = stays_begun _ _ _;
  words = ap (λ (ws : List ℕ). length ws) c.requires.blank ∙ length-replicate {A = ℕ} c.args.geometry 0;
  done = λ told. done_none _ _ _ _ c.set_laws.ensures.begin c.requires.blank;
}

pub mark_one-requires : goal.mark_one-requires
mark_one-requires g c = record {
  fits = c.requires.fits;
  within = omega (arith, c.loop-i-test.true, c.root_count-i-end.ensures);
  words = c.loop-i.invariant.words;
  room = subst (λ (status : Status). 8 * c.args.geometry ≤ status.sectors) (sym c.loop-i.invariant.stays.status) c.requires.room;
  done = λ told. at_now _ _ _ _ _ c.loop-i.invariant.stays (λ (n : ℕ) (q : Store). AreDone c.args.geometry q c.args.root.now c.loop-i.i c.loop-i.map) told (c.loop-i.invariant.done told);
}

pub loop-i-preserved : goal.loop-i-preserved
loop-i-preserved g c = record {
  stays = stays_more _ _ _ _ _ _ _ c.loop-i.invariant.stays c.in_ok-mark_one.ensures.counts.done c.mark_one.ensures.same;
  words = c.mark_one.ensures.words;
  done = λ told.
      at_start _ _ _ _ _ c.loop-i.invariant.stays (λ (n : ℕ) (q : Store). AreDone c.args.geometry q c.args.root.now (c.loop-i.i + 1) c.mark_one.new.map) told (c.in_ok-mark_one.ensures.done told);
}

pub returns-in_err-mark_one-clause-fault : goal.returns-in_err-mark_one-clause-fault
returns-in_err-mark_one-clause-fault g c told =
    let p = err_from_is_err_and c.from_residual.result c.from_residual.ensures.1 in
    rw (p.1, p.2)
    (at_start _ _ _ _ _ c.loop-i.invariant.stays (λ (n : ℕ) (q : Store). Tells c.in_err-mark_one.field-0.0
    (λ damage block. OfSome c.args.root.now (λ r. StandsInRoot c.args.root.now.limits c.args.geometry q r.inodes c.args.body damage block))) told (c.in_err-mark_one.ensures.fault told))

pub returns-clause-sets : goal.returns-clause-sets
returns-clause-sets g c told =
    let all : take c.loop-i.i (rooted_in c.args.root.now) ≡ rooted_in c.args.root.now = take_all c.loop-i.i (rooted_in c.args.root.now) (omega (arith, c.loop-i-test.false, c.root_count-i-end.ensures)) in
    subst (λ (rs : List Rooted). AreSets (store_of (reads (g.D.Device.disk (device_of c.args.blocks.now)))) rs c.loop-i.map) all (c.loop-i.invariant.done told).sets

pub returns-clause-checked : goal.returns-clause-checked
returns-clause-checked g c told =
    let all : take c.loop-i.i (rooted_in c.args.root.now) ≡ rooted_in c.args.root.now = take_all c.loop-i.i (rooted_in c.args.root.now) (omega (arith, c.loop-i-test.false, c.root_count-i-end.ensures)) in
    subst (λ (rs : List Rooted). AreChecked c.args.geometry (store_of (reads (g.D.Device.disk (device_of c.args.blocks.now)))) c.args.root.now rs) all (c.loop-i.invariant.done told).checked
