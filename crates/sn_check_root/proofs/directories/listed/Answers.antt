use Rattle.std.proofs.Common.{Err, sym, ap, subst}
use Rattle.std.specs.Prelude.{⊤}
use Rattle.sn_device.specs.Disk.{reads}
use Rattle.sn_block.specs.Lending.{device_of}
use Rattle.sn_ondisk.specs.Trees.{store_of}
use Rattle.sn_dir.specs.Blocks.{IsDamaged}
use Rattle.sn_marks.specs.Fault.{Tells}
use Rattle.sn_marks.specs.declared.fault.CheckFault.{CheckFault}
use Rattle.sn_check_root.specs.Rules.{Breaks}
use Rattle.sn_check_root.proofs.WrongLemmas.{rule_told}
use Rattle.sn_dir.proofs.BlockLemmas.{somewhere}
use Rattle.sn_check_root.proofs.directories.listed.Goals as goal

pub returns-in-Err-clause-fault : goal.returns-in-Err-clause-fault
returns-in-Err-clause-fault g c told =
    let Rule = IsDamaged (λ names. ⊤) (g.D.Device.status (device_of c.args.blocks.now)).sectors (store_of (reads (g.D.Device.disk (device_of c.args.blocks.now)))) c.args.tree.now → ⊥ in
    subst (λ (f : CheckFault). Tells f (Breaks Rule c.args.top)) (sym c.fault_at.ensures)
    (rule_told Rule c.args.top c.in-Err.fault (λ found is whole. whole (somewhere (λ names. ⊤) _ _ _ _ (c.in-Err.ensures.damaged told found (ap (λ f. Err f) is)))))
