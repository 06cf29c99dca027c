use Rattle.std.proofs.Common.{◌≤◌, length, sym, subst}
use Rattle.sn_device.specs.Disk.{reads}
use Rattle.sn_block.specs.Lending.{device_of}
use Rattle.sn_root.proofs.ReplacingLemmas.{ChangesRoot-opening}
use Rattle.sn_root.proofs.replacing.open_slot.Goals as goal

pub returns-clause-root : goal.returns-clause-root
returns-clause-root g c told next body =
    let device = device_of c.args.blocks.now in
    let room : 32 ≤ length (reads (g.D.Device.disk device)) = subst (λ n. 32 ≤ n) (sym (g.met.D.Device.count device told)) c.requires.room in
    let wrote = c.write_gate.ensures.disk told in
    ChangesRoot-opening c.args.slot next c.write_gate.result _ _ (g.met.D.Device.whole device told) room body (record { touched = wrote.touched; done = wrote.done; synced = wrote.synced })
