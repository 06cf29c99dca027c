use Rattle.std.proofs.Common.{◌≡◌, sym, ◌∙◌, subst}
use Rattle.sn_device.specs.Disk.{Disk, reads}
use Rattle.sn_layout.specs.declared.geometry.Slot.TheVariants.{A, B}
use Rattle.sn_block.specs.Lending.{device_of}
use Rattle.sn_root.specs.Slots.{gate_in}
use Rattle.sn_root.specs.Carried.{Holds}
use Rattle.sn_root.proofs.finding.newest.Goals as goal

pub returns-clause-found : goal.returns-clause-found
returns-clause-found g c told =
    let disk = g.D.Device.disk in
    let first : disk (device_of c.read_gates.new.blocks) ≡ disk (device_of c.args.blocks.now) = c.read_gates.ensures.same told in
    let second : disk (device_of c.look.new.blocks) ≡ disk (device_of c.args.blocks.now) = c.look.ensures.same told ∙ first in
    let gates = c.in_ok-gate_a.ensures.gates told in
    let in_a : Holds (reads (disk (device_of c.args.blocks.now))) A c.in_ok-a.a =
    subst (λ (d : Disk). Holds (reads d) A c.in_ok-a.a) first
    (c.in_ok-a.ensures.held told (subst (λ (d : Disk). gate_in (reads d) A ≡ c.in_ok-gate_a.gate_a) (sym first) gates.0)) in
    let in_b : Holds (reads (disk (device_of c.args.blocks.now))) B c.in_ok-b.b =
    subst (λ (d : Disk). Holds (reads d) B c.in_ok-b.b) second
    (c.in_ok-b.ensures.held told (subst (λ (d : Disk). gate_in (reads d) B ≡ c.in_ok-gate_a.gate_b) (sym second) gates.1)) in
    c.choose.ensures.finds (reads (disk (device_of c.args.blocks.now))) in_a in_b
