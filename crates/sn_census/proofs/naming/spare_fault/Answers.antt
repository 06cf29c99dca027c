use Rattle.std.proofs.Common.{Option, sym, ap, subst, ◌∙◌}
use Rattle.sn_device.specs.Disk.{reads}
use Rattle.sn_block.specs.Lending.{device_of}
use Rattle.sn_limits.specs.declared.kind.Kind.{Kind}
use Rattle.sn_model.specs.declared.fault.Damage.TheVariants.{Links}
use Rattle.sn_ondisk.specs.Trees.{store_of}
use Rattle.sn_sound.specs.Faults.{record_block}
use Rattle.sn_marks.specs.Fault.{Tells}
use Rattle.sn_marks.specs.declared.fault.CheckFault.{CheckFault}
use Rattle.sn_marks.proofs.WalkLemmas.{told_weaker}
use Rattle.sn_census.specs.Counts.{blamed}
use Rattle.sn_census.specs.Faults.{IsAt, at}
use Rattle.sn_census.specs.Rows.{row_at}
use Rattle.sn_census.specs.declared.table.Row.{Row}
use Rattle.sn_census.proofs.naming.spare_fault.Goals as goal

pub returns-in-Some-clause-fault : goal.returns-in-Some-clause-fault
returns-in-Some-clause-fault g c told =
    let s = store_of (reads (g.D.Device.disk (device_of c.args.blocks.now))) in
    let kind = sym (ap (λ (r : Row). r.kind) c.row.ensures.row) ∙ c.in-Some.is in
    told_weaker c.record_fault.result (IsAt (record_block s c.args.file.now c.args.body c.args.number))
    (IsAt (blamed s c.args.file.now c.args.body c.args.pointer c.args.number (row_at c.args.census.now c.args.number).kind))
    (λ damage block is. subst (λ (k : Option Kind). IsAt (blamed s c.args.file.now c.args.body c.args.pointer c.args.number k) damage block) (sym kind) is)
    (c.record_fault.ensures.fault told)

pub returns-in-None-clause-fault : goal.returns-in-None-clause-fault
returns-in-None-clause-fault g c told =
    let s = store_of (reads (g.D.Device.disk (device_of c.args.blocks.now))) in
    let kind = sym (ap (λ (r : Row). r.kind) c.row.ensures.row) ∙ c.in-None.is in
    subst (λ (f : CheckFault). Tells f (IsAt (blamed s c.args.file.now c.args.body c.args.pointer c.args.number (row_at c.args.census.now c.args.number).kind))) (sym c.link_fault.ensures)
    (subst (λ (k : Option Kind). IsAt (blamed s c.args.file.now c.args.body c.args.pointer c.args.number k) Links c.args.pointer) (sym kind) at)
