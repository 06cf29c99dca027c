use Rattle.std.proofs.Common.{sym, subst}
use Rattle.sn_model.specs.declared.fault.MountFault.{MountFault}
use Rattle.sn_examine.specs.Examining.{IsOfRoots}
use Rattle.sn_examine.specs.Refusing.{Refuses}
use Rattle.sn_device.specs.Disk.{reads}
use Rattle.sn_block.specs.Lending.{device_of}
use Rattle.sn_examine.proofs.ExamineLemmas.{root_of_roots, root_refuses}
use Rattle.sn_examine.proofs.examining.newest_root.Goals as goal

pub returns-in-Err-clause-refuses : goal.returns-in-Err-clause-refuses
returns-in-Err-clause-refuses g c told some =
    let disk = g.D.Device.disk (device_of c.args.blocks.now) in
    subst (λ (f : MountFault). Refuses f (g.D.Device.status (device_of c.args.blocks.now)).sectors (reads disk)) (sym c.root_fault.ensures)
    (root_refuses c.in-Err.fault (g.D.Device.status (device_of c.args.blocks.now)).sectors (reads disk) some (c.in-Err.ensures.found told))

pub returns-in-Err-clause-roots : goal.returns-in-Err-clause-roots
returns-in-Err-clause-roots g c = subst IsOfRoots (sym c.root_fault.ensures) (root_of_roots c.in-Err.fault)
