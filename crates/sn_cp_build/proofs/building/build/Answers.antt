use Rattle.std.proofs.Common.{◌≡◌, ◌+◌, ◌<◌, Result, Err, length, IsTrue, sym, ap, subst, arith, None, ◌∙◌}
use Rattle.std.specs.Prelude.{IfErr}
use Rattle.std.proofs.lemmas.Result.{err_from_is_err_and}
use Rattle.sn_alloc.specs.Taking.{free_data}
use Rattle.sn_device.specs.Disk.{reads}
use Rattle.sn_block.specs.Lending.{device_of}
use Rattle.sn_image.specs.Reach.{reach}
use Rattle.sn_layout.specs.Geometry.{start_of}
use Rattle.sn_layout.specs.declared.geometry.Area.TheVariants.{Data}
use Rattle.sn_ondisk.specs.Trees.{store_of}
use Rattle.sn_overlay.specs.Needs.{need}
use Rattle.sn_overlay.specs.Overlays.{layer_of}
use Rattle.sn_tree.specs.Drafts.{Draft}
use Rattle.sn_tree.specs.declared.fault.PlanFault.{PlanFault}
use Rattle.sn_tree.specs.declared.fault.PlanFault.TheVariants.{Full, Tree}
use Rattle.sn_tree_read.specs.declared.fault.TreeFault.TheVariants.{Damaged}
use Rattle.sn_cp_nodes.specs.Built.{KeepsReach}
use Rattle.sn_cp_build.specs.declared.building.Built.{Built}
use Rattle.sn_cp_build.proofs.FrozenLemmas.{told_kept}
use Rattle.sn_cp_build.specs.Building.{IsTreePlanned}
use Rattle.sn_cp_build.specs.Edits.{base_bit}
use Rattle.sn_cp_build.proofs.WholeLemmas.{all_builds, begun, begun_is, released_within, well_built}
use Rattle.sn_cp_build.proofs.building.build.Goals as goal

pub returns-clause-well : goal.returns-clause-well
returns-clause-well g c =
    let s = store_of (reads (g.D.Device.disk (device_of c.args.blocks.now))) in
    let first = begun_is c.args.map.now c.in_ok-try_clone.field-0 (start_of c.args.geometry Data) c.start-first.result c.new.result c.new-build.result c.in_ok-try_clone.ensures c.start-first.ensures c.new.ensures c.new-build.ensures in
    let plan = subst (λ (d : Draft). IsTreePlanned (IsTrue g.D.Device.tells_bytes) c.args.limits.now s c.args.file.now (layer_of c.args.changes) c.in_ok-inode_file.inode_file d c.plan_tree.new.build) first c.in_ok-inode_file.ensures.planned in
    well_built (IsTrue g.D.Device.tells_bytes) c.args.geometry c.args.limits.now s c.args.file.now (layer_of c.args.changes) c.in_ok-inode_file.inode_file c.args.map.now c.plan_tree.new.build plan
    c.finished.ensures.free c.finished.ensures.rise c.args.edit c.finished.result c.finished.ensures.file c.finished.ensures.blocks c.finished.ensures.bits

pub returns-clause-builds : goal.returns-clause-builds
returns-clause-builds g c = λ told.
    let s = store_of (reads (g.D.Device.disk (device_of c.args.blocks.now))) in
    let first = begun_is c.args.map.now c.in_ok-try_clone.field-0 (start_of c.args.geometry Data) c.start-first.result c.new.result c.new-build.result c.in_ok-try_clone.ensures c.start-first.ensures c.new.ensures c.new-build.ensures in
    let plan = subst (λ (d : Draft). IsTreePlanned (IsTrue g.D.Device.tells_bytes) c.args.limits.now s c.args.file.now (layer_of c.args.changes) c.in_ok-inode_file.inode_file d c.plan_tree.new.build) first c.in_ok-inode_file.ensures.planned in
    all_builds (IsTrue g.D.Device.tells_bytes) c.args.geometry c.args.limits.now s c.args.file.now (layer_of c.args.changes) c.in_ok-inode_file.inode_file c.args.map.now c.plan_tree.new.build plan
    c.finished.ensures.free c.finished.ensures.rise told c.requires.words c.args.edit c.finished.result c.finished.ensures.file c.finished.ensures.blocks c.finished.ensures.bits

pub returns-in_err-inode_file-clause-full : goal.returns-in_err-inode_file-clause-full
returns-in_err-inode_file-clause-full g c = λ told full ground enough.
    let p = err_from_is_err_and c.from_residual-in_err-inode_file.result c.from_residual-in_err-inode_file.ensures.1 in
    let fault : c.in_err-inode_file.field-0.0 ≡ Full = cc (p.1, p.2) in
    let first = begun_is c.args.map.now c.in_ok-try_clone.field-0 (start_of c.args.geometry Data) c.start-first.result c.new.result c.new-build.result c.in_ok-try_clone.ensures c.start-first.ensures c.new.ensures c.new-build.ensures in
    let less = c.in_err-inode_file.ensures.full told (ap (λ f. Err f) fault) c.args.geometry ground in
    let here : free_data c.args.map.now (start_of c.args.geometry Data) < 0 + need c.args.limits.now (layer_of c.args.changes) =
    subst (λ (d : Draft). free_data d.words d.first < length d.added + need c.args.limits.now (layer_of c.args.changes)) first less in
    omega (arith, here, enough)

pub returns-clause-full : goal.returns-clause-full
returns-clause-full g c = λ told full ground enough.
    let bad : Full ≡ Tree (Damaged None) = subst (λ (r : Result Built PlanFault). IfErr r (λ fault. fault ≡ Tree (Damaged None))) full c.finished.ensures.fault in
    absurd cc

pub returns-in_err-inode_file-clause-damaged : goal.returns-in_err-inode_file-clause-damaged
returns-in_err-inode_file-clause-damaged g c = λ told block damaged ground tells room.
    let p = err_from_is_err_and c.from_residual-in_err-inode_file.result c.from_residual-in_err-inode_file.ensures.1 in
    let fault : c.in_err-inode_file.field-0.0 ≡ Tree (Damaged block) = cc (p.1, p.2) in
    let s = store_of (reads (g.D.Device.disk (device_of c.args.blocks.now))) in
    let file = c.args.file.now in
    let first = begun_is c.args.map.now c.in_ok-try_clone.field-0 (start_of c.args.geometry Data) c.start-first.result c.new.result c.new-build.result c.in_ok-try_clone.ensures c.start-first.ensures c.new.ensures c.new-build.ensures in
    let kept : KeepsReach s file (begun c.args.map.now (start_of c.args.geometry Data)) = λ block among. told_kept (base_bit c.args.edit) c.args.map.now (reach s file) (start_of c.args.geometry Data) block tells among in
    c.in_err-inode_file.ensures.damaged told block (ap (λ f. Err f) fault) c.args.geometry
    (record { ground = ground; room = room; kept = subst (KeepsReach s file) (sym first) kept })

pub returns-clause-damaged : goal.returns-clause-damaged
returns-clause-damaged g c = λ told block damaged ground tells room.
    let s = store_of (reads (g.D.Device.disk (device_of c.args.blocks.now))) in
    let first = begun_is c.args.map.now c.in_ok-try_clone.field-0 (start_of c.args.geometry Data) c.start-first.result c.new.result c.new-build.result c.in_ok-try_clone.ensures c.start-first.ensures c.new.ensures c.new-build.ensures in
    let plan = subst (λ (d : Draft). IsTreePlanned (IsTrue g.D.Device.tells_bytes) c.args.limits.now s c.args.file.now (layer_of c.args.changes) c.in_ok-inode_file.inode_file d c.plan_tree.new.build) first c.in_ok-inode_file.ensures.planned in
    let none : Tree (Damaged block) ≡ Tree (Damaged None) = subst (λ (r : Result Built PlanFault). IfErr r (λ fault. fault ≡ Tree (Damaged None))) damaged c.finished.ensures.fault in
    c.finished.ensures.damaged (damaged ∙ ap (λ (f : PlanFault). Err f) none)
    (released_within (IsTrue g.D.Device.tells_bytes) c.args.geometry c.args.limits.now s c.args.file.now (layer_of c.args.changes) c.in_ok-inode_file.inode_file c.args.map.now c.plan_tree.new.build plan
    c.finished.ensures.free c.finished.ensures.rise (base_bit c.args.edit) told c.requires.words (omega (arith, c.blocks-2.ensures.valid.least)) ground tells)
