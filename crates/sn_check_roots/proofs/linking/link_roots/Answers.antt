use Rattle.std.proofs.Common.{◌≡◌, ℕ, ◌+◌, ◌*◌, ◌≤◌, List, take, sym, subst, arith}
use Rattle.std.proofs.lemmas.Result.{err_from_is_err_and}
use Rattle.std.proofs.lemmas.List.{take_all}
use Rattle.sn_device.specs.Disk.{reads}
use Rattle.sn_device.specs.declared.status.Status.{Status}
use Rattle.sn_block.specs.Lending.{device_of}
use Rattle.sn_ondisk.specs.Trees.{Store, store_of}
use Rattle.sn_image.proofs.ListLemmas.{none_in}
use Rattle.sn_sound.specs.Maps.{Rooted, rooted_in}
use Rattle.sn_sound.specs.Verdicts.{OfSome}
use Rattle.sn_marks.specs.Fault.{Tells}
use Rattle.sn_check_root.proofs.DeviceLemmas.{stays_begun, stays_more, at_start, at_now}
use Rattle.sn_census.specs.Faults.{StandsInLinks}
use Rattle.sn_check_roots.specs.First.{AreChecked, AreLinked}
use Rattle.sn_check_roots.proofs.linking.link_roots.Goals as goal

pub loop-i-init : goal.loop-i-init
loop-i-init g c = record { stays = stays_begun _ _ _; linked = λ told r none. none_in r none }

pub link_one-requires : goal.link_one-requires
link_one-requires g c = record {
  fits = c.requires.fits;
  within = omega (arith, c.loop-i-test.true, c.root_count-i-end.ensures);
  room = subst (λ (status : Status). 8 * c.args.geometry ≤ status.sectors) (sym c.loop-i.invariant.stays.status) c.requires.room;
  checked = λ told. at_now _ _ _ _ _ c.loop-i.invariant.stays (λ (n : ℕ) (q : Store). AreChecked c.args.geometry q c.args.root.now (rooted_in c.args.root.now)) told (c.requires.checked told);
  linked = λ told. at_now _ _ _ _ _ c.loop-i.invariant.stays (λ (n : ℕ) (q : Store). AreLinked q (take c.loop-i.i (rooted_in c.args.root.now))) told (c.loop-i.invariant.linked told);
}

pub loop-i-preserved : goal.loop-i-preserved
loop-i-preserved g c = record {
  stays = stays_more _ _ _ _ _ _ _ c.loop-i.invariant.stays c.in_ok-link_one.ensures.counts.done c.link_one.ensures.same;
  linked = λ told.
      at_start _ _ _ _ _ c.loop-i.invariant.stays (λ (n : ℕ) (q : Store). AreLinked q (take (c.loop-i.i + 1) (rooted_in c.args.root.now))) told (c.in_ok-link_one.ensures.linked told);
}

pub returns-in_err-link_one-clause-fault : goal.returns-in_err-link_one-clause-fault
returns-in_err-link_one-clause-fault g c told =
    let p = err_from_is_err_and c.from_residual.result c.from_residual.ensures.1 in
    rw (p.1, p.2)
    (at_start _ _ _ _ _ c.loop-i.invariant.stays (λ (n : ℕ) (q : Store). Tells c.in_err-link_one.field-0.0
    (λ damage block. OfSome c.args.root.now (λ r. StandsInLinks q r.inodes c.args.body damage block))) told (c.in_err-link_one.ensures.fault told))

pub returns-clause-linked : goal.returns-clause-linked
returns-clause-linked g c told =
    let all : take c.loop-i.i (rooted_in c.args.root.now) ≡ rooted_in c.args.root.now = take_all c.loop-i.i (rooted_in c.args.root.now) (omega (arith, c.loop-i-test.false, c.root_count-i-end.ensures)) in
    subst (λ (rs : List Rooted). AreLinked (store_of (reads (g.D.Device.disk (device_of c.args.blocks.now)))) rs) all (c.loop-i.invariant.linked told)
