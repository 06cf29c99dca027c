use Rattle.std.proofs.Common.{◌/◌, ◌∙◌, ap, arith, ℕ, sym}
use Rattle.std.proofs.lemmas.Result.{err_from_is_err_and}
use Rattle.sn_device.specs.Disk.{Disk, reads}
use Rattle.sn_device.specs.declared.status.Status.{Status}
use Rattle.sn_layout.specs.declared.geometry.LogHalf.TheVariants.{Zero, One}
use Rattle.sn_times_image.proofs.Marks.{gate_within, marks_taken}
use Rattle.sn_times_image.proofs.Reading.{fails_after}
use Rattle.sn_times_image.proofs.Taking.{held_along}
use Rattle.sn_times_image.proofs.identity.take_marks.Goals as goal

pub take_sectors-requires : goal.take_sectors-requires
take_sectors-requires g c = omega (arith, c.first_sector-roots.ensures, c.requires.sized.least)

pub returns-in_err-take_sectors-clause-taken : goal.returns-in_err-take_sectors-clause-taken
returns-in_err-take_sectors-clause-taken g c told =
    let p = err_from_is_err_and c.from_residual.result c.from_residual.ensures.1 in
    rw p.1 tt

pub returns-in_err-take_sectors-clause-same : goal.returns-in_err-take_sectors-clause-same
returns-in_err-take_sectors-clause-same g c told = c.in_err-take_sectors.ensures.same told

pub returns-in_err-take_sectors-clause-counts : goal.returns-in_err-take_sectors-clause-counts
returns-in_err-take_sectors-clause-counts g c =
    let p = err_from_is_err_and c.from_residual.result c.from_residual.ensures.1 in
    rw p.1 (record { done = tt; failed = c.in_err-take_sectors.ensures.counts.failed })

pub take_sector-requires : goal.take_sector-requires
take_sector-requires g c =
    let kept = ap (λ (s : Status). s.sectors) c.in_ok-take_sectors.ensures.counts.done in
    let within = gate_within c.args.geometry (g.D.Device.status c.args.device.now).sectors Zero c.requires.geometry c.requires.sized in
    omega (arith, c.first_sector-zero.ensures, within, kept)

pub returns-in_err-take_sector-clause-taken : goal.returns-in_err-take_sector-clause-taken
returns-in_err-take_sector-clause-taken g c told =
    let p = err_from_is_err_and c.from_residual-in_err-take_sector.result c.from_residual-in_err-take_sector.ensures.1 in
    rw p.1 tt

pub returns-in_err-take_sector-clause-same : goal.returns-in_err-take_sector-clause-same
returns-in_err-take_sector-clause-same g c told = c.in_err-take_sector.ensures.same told ∙ c.in_ok-take_sectors.ensures.same told

pub returns-in_err-take_sector-clause-counts : goal.returns-in_err-take_sector-clause-counts
returns-in_err-take_sector-clause-counts g c =
    let p = err_from_is_err_and c.from_residual-in_err-take_sector.result c.from_residual-in_err-take_sector.ensures.1 in
    let failed = fails_after _ _ _ c.in_ok-take_sectors.ensures.counts.done c.in_err-take_sector.ensures.counts.failed in
    rw p.1 (record { done = tt; failed = failed })

pub take_sector-requires-2 : goal.take_sector-requires-2
take_sector-requires-2 g c =
    let kept = ap (λ (s : Status). s.sectors) (c.in_ok-take_sector.ensures.counts.done ∙ c.in_ok-take_sectors.ensures.counts.done) in
    let within = gate_within c.args.geometry (g.D.Device.status c.args.device.now).sectors One c.requires.geometry c.requires.sized in
    omega (arith, c.first_sector-one.ensures, within, kept)

pub returns-in_err-take_sector-2-clause-taken : goal.returns-in_err-take_sector-2-clause-taken
returns-in_err-take_sector-2-clause-taken g c told =
    let p = err_from_is_err_and c.from_residual-in_err-take_sector-2.result c.from_residual-in_err-take_sector-2.ensures.1 in
    rw p.1 tt

pub returns-in_err-take_sector-2-clause-same : goal.returns-in_err-take_sector-2-clause-same
returns-in_err-take_sector-2-clause-same g c told =
    c.in_err-take_sector-2.ensures.same told ∙ c.in_ok-take_sector.ensures.same told ∙ c.in_ok-take_sectors.ensures.same told

pub returns-in_err-take_sector-2-clause-counts : goal.returns-in_err-take_sector-2-clause-counts
returns-in_err-take_sector-2-clause-counts g c =
    let p = err_from_is_err_and c.from_residual-in_err-take_sector-2.result c.from_residual-in_err-take_sector-2.ensures.1 in
    let read = c.in_ok-take_sector.ensures.counts.done ∙ c.in_ok-take_sectors.ensures.counts.done in
    let failed = fails_after _ _ _ read c.in_err-take_sector-2.ensures.counts.failed in
    rw p.1 (record { done = tt; failed = failed })

pub returns-clause-taken : goal.returns-clause-taken
returns-clause-taken g c told message held =
    let roots = c.in_ok-take_sectors.ensures.taken told message held in
    let zero = c.in_ok-take_sector.ensures.taken told _ roots in
    let one = c.in_ok-take_sector-2.ensures.taken told _ zero in
    let same = marks_taken (reads (g.D.Device.disk c.args.device.now)) (reads (g.D.Device.disk c.take_sectors.new.device)) (reads (g.D.Device.disk c.take_sector.new.device))
    c.args.geometry c.first_sector-roots.result c.first_sector-zero.result c.first_sector-one.result message
    (c.requires.geometry ∙ ap (λ (n : ℕ). n / 8) (sym (g.met.D.Device.count c.args.device.now told)))
    c.first_sector-roots.ensures
    (ap (λ (d : Disk). reads d) (c.in_ok-take_sectors.ensures.same told))
    c.first_sector-zero.ensures
    (ap (λ (d : Disk). reads d) (c.in_ok-take_sector.ensures.same told ∙ c.in_ok-take_sectors.ensures.same told))
    c.first_sector-one.ensures in
    held_along c.take_sector-2.new.hasher _ _ same one

pub returns-clause-same : goal.returns-clause-same
returns-clause-same g c told =
    c.in_ok-take_sector-2.ensures.same told ∙ c.in_ok-take_sector.ensures.same told ∙ c.in_ok-take_sectors.ensures.same told

pub returns-clause-counts : goal.returns-clause-counts
returns-clause-counts g c = record {
  done = c.in_ok-take_sector-2.ensures.counts.done ∙ c.in_ok-take_sector.ensures.counts.done ∙ c.in_ok-take_sectors.ensures.counts.done;
  failed = tt;
}
