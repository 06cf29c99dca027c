use Rattle.std.proofs.Common.{◌≡◌, ◌/◌, min, refl, ◌∙◌, arith}
use Rattle.sn_device.specs.Disk.{reads}
use Rattle.sn_block.specs.Lending.{device_of}
use Rattle.sn_rooted.specs.Roots.{store_on, tree_on}
use Rattle.sn_rooted_tree.proofs.CountLemmas.{all_counted, counted_on, none_counted}
use Rattle.sn_rooted_tree.proofs.SeenLemmas.{numbered, root_tree}
use Rattle.sn_rooted_tree.proofs.loading.directories_of.Goals as goal

pub loop-number-init : goal.loop-number-init
loop-number-init g c = record { counted = λ told root. none_counted _ 65536 _ c.in_ok-directories.ensures; same = λ told. refl; status = refl }

pub loop-number-preserved : goal.loop-number-preserved
loop-number-preserved g c =
    let at = c.loop-number.invariant in
    record {
      counted = λ told root. counted_on g.D.Device.tells_bytes _ _ _ _ c.args.limits.now c.args.file.now c.loop-number.number _ _ at.status at.same told root (at.counted told root) (c.in_ok-count_names.ensures.counted told);
      same = λ told. c.count_names.ensures.same told ∙ at.same told;
      status = c.in_ok-count_names.ensures.counts.done ∙ at.status;
    }

pub returns-clause-tells : goal.returns-clause-tells
returns-clause-tells g c told root =
    let disk = g.D.Device.disk (device_of c.args.blocks.now) in
    let tree = tree_on c.args.blocks.now c.args.file.now in
    let whole = root_tree c.args.limits.now _ (reads disk) c.args.file.now (g.met.D.Device.whole (device_of c.args.blocks.now) told) (g.met.D.Device.count (device_of c.args.blocks.now) told) root in
    let end : c.loop-number.number ≡ min (c.args.file.now.size / 128) 65536 = omega (arith, c.record_count-number-end.ensures) in
    all_counted tree whole c.loop-number.number (numbered (store_on c.args.blocks.now) c.args.file.now c.loop-number.number end whole)
    c.loop-number.directories (c.loop-number.invariant.counted told root)
