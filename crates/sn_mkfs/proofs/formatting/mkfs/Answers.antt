use Rattle.std.proofs.Common.{◌≡◌, ℕ, length, ap, sym, subst, refl, ◌∙◌}
use Rattle.sn_device.specs.declared.status.Status.{Status}
use Rattle.sn_device.specs.Disk.{reads}
use Rattle.sn_block.specs.Counts.{called}
use Rattle.sn_mkfs.specs.Writing.{format_writes}
use Rattle.sn_mkfs.specs.Faults.{HasRoom}
use Rattle.sn_mkfs.specs.Fresh.{IsFresh}
use Rattle.sn_mkfs.proofs.DiskLemmas.{free_is, is_image, opens_new, sound_disk}
use Rattle.sn_mkfs.proofs.formatting.mkfs.Goals as goal

pub returns-in-Ok-result-clause-opens : goal.returns-in-Ok-result-clause-opens
returns-in-Ok-result-clause-opens g c told =
    let room = subst (λ (sectors : ℕ). HasRoom sectors c.args.blocks) c.sectors.ensures (c.in-Some.ensures.some.0 refl) in
    let fresh = subst (λ (n : ℕ). IsFresh n (reads (g.D.Device.disk c.into_device-device.result))) c.in-Some.ensures.value (subst (λ device. IsFresh c.in-Some.geometry (reads (g.D.Device.disk device))) (sym c.into_device-device.ensures) (c.in-Ok-result.ensures.fresh told)) in
    opens_new _ _ _ room fresh

pub returns-in-Ok-result-clause-sound : goal.returns-in-Ok-result-clause-sound
returns-in-Ok-result-clause-sound g c told =
    let room = subst (λ (sectors : ℕ). HasRoom sectors c.args.blocks) c.sectors.ensures (c.in-Some.ensures.some.0 refl) in
    let fresh = subst (λ (n : ℕ). IsFresh n (reads (g.D.Device.disk c.into_device-device.result))) c.in-Some.ensures.value (subst (λ device. IsFresh c.in-Some.geometry (reads (g.D.Device.disk device))) (sym c.into_device-device.ensures) (c.in-Ok-result.ensures.fresh told)) in
    sound_disk _ _ _ room fresh

pub returns-in-Ok-result-clause-image : goal.returns-in-Ok-result-clause-image
returns-in-Ok-result-clause-image g c told =
    let costs : g.D.Device.status c.into_device-device.result ≡ called (format_writes c.in-Some.geometry) 4 (g.D.Device.status c.args.device) =
    ap g.D.Device.status c.into_device-device.ensures ∙ c.in-Ok-result.ensures.counts.done ∙ ap (called (format_writes c.in-Some.geometry) 4) (ap g.D.Device.status c.in-Ok.ensures.device) in
    let count : length (reads (g.D.Device.disk c.into_device-device.result)) ≡ (g.D.Device.status c.args.device).sectors = g.met.D.Device.count c.into_device-device.result told ∙ ap (λ (s : Status). s.sectors) costs in
    let room = subst (λ (sectors : ℕ). HasRoom sectors c.args.blocks) c.sectors.ensures (c.in-Some.ensures.some.0 refl) in
    let fresh = subst (λ (n : ℕ). IsFresh n (reads (g.D.Device.disk c.into_device-device.result))) c.in-Some.ensures.value (subst (λ device. IsFresh c.in-Some.geometry (reads (g.D.Device.disk device))) (sym c.into_device-device.ensures) (c.in-Ok-result.ensures.fresh told)) in
    is_image _ _ _ room fresh (g.met.D.Device.whole c.into_device-device.result told) count

pub returns-in-Ok-result-clause-free : goal.returns-in-Ok-result-clause-free
returns-in-Ok-result-clause-free g c told =
    let room = subst (λ (sectors : ℕ). HasRoom sectors c.args.blocks) c.sectors.ensures (c.in-Some.ensures.some.0 refl) in
    let fresh = subst (λ (n : ℕ). IsFresh n (reads (g.D.Device.disk c.into_device-device.result))) c.in-Some.ensures.value (subst (λ device. IsFresh c.in-Some.geometry (reads (g.D.Device.disk device))) (sym c.into_device-device.ensures) (c.in-Ok-result.ensures.fresh told)) in
    free_is _ _ _ room fresh
