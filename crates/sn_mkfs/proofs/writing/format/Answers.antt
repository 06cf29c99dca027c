use Rattle.std.proofs.Common.{subst, rules}
use Rattle.sn_device.specs.Disk.{reads}
use Rattle.sn_device.proofs.CrashLemmas.{Touches-present}
use Rattle.sn_layout.specs.Geometry.{IsDiskSize}
use Rattle.sn_layout.specs.declared.geometry.Slot.TheVariants.{A}
use Rattle.sn_layout.specs.declared.root.RootBody.{RootBody}
use Rattle.sn_ondisk.specs.Roots.{HasRoot}
use Rattle.sn_root.specs.Replacing.{InReplacing}
use Rattle.sn_block.proofs.EffectLemmas.{OnOk-both}
use Rattle.sn_block.specs.Lending.{device_of}
use Rattle.sn_mkfs.proofs.WritingLemmas.{prepared_kept}
use Rattle.sn_mkfs.proofs.writing.format.Goals as goal

pub returns-clause-fresh : goal.returns-clause-fresh
returns-clause-fresh g c told =
    let replaced = c.replace.ensures.bytes told in
    let after = reads (g.D.Device.disk (device_of c.replace.new.blocks)) in
    let size : IsDiskSize c.args.geometry = search rules in
    let kept = prepared_kept c.args.geometry _ after size (Touches-present (InReplacing A) _ _ replaced.touched).others (c.in_ok-lay_out.ensures.laid_out told).prepared in
    OnOk-both c.replace.result
    (λ is_open body. record { prepared = kept; is_open = is_open; root = subst (λ (r : RootBody). HasRoot after A r) c.fresh_root.ensures.value body })
    replaced.opened
    replaced.body
