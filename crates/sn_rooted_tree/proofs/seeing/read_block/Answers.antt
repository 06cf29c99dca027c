use Rattle.std.proofs.Common.{◌≡◌, ◌-◌, ◌*◌, ◌^◌, ◌++◌, Err, List, ℕ, drop, length, min, take, ap, ◌∙◌, arith}
use Rattle.std.specs.FinMap as fin
use Rattle.sn_device.specs.Disk.{reads}
use Rattle.sn_block.specs.Lending.{device_of}
use Rattle.sn_overlay.specs.Layers.{bytes_of as shown_bytes}
use Rattle.sn_rooted.specs.Roots.{tree_on}
use Rattle.sn_rooted.proofs.RootLemmas.{was_damaged}
use Rattle.sn_rooted_tree.proofs.SeenLemmas.{file_short, filled, past_alike, root_tree, same_bytes}
use Rattle.sn_rooted_tree.proofs.seeing.read_block.Goals as goal

pub returns-in_err-bytes-clause-damaged : goal.returns-in_err-bytes-clause-damaged
returns-in_err-bytes-clause-damaged g c told root block is =
    c.in_err-bytes.ensures.damaged told root block (ap (λ f. Err f) (was_damaged _ _ c.from_residual.ensures.1 is))

pub returns-clause-found : goal.returns-clause-found
returns-clause-found g c told root =
    let disk = g.D.Device.disk (device_of c.args.blocks.now) in
    let tree = tree_on c.args.blocks.now c.args.file.now in
    let found = fin.get tree.nodes c.args.file_block.file in
    let index = c.args.file_block.index in
    let k = c.saturating_mul-offset.result in
    let start : k ≡ min (index * 4096) (2 ^ 64 - 1) = omega (arith, c.saturating_mul-offset.ensures) in
    let whole = root_tree c.args.limits.now _ (reads disk) c.args.file.now (g.met.D.Device.whole (device_of c.args.blocks.now) told) (g.met.D.Device.count (device_of c.args.blocks.now) told) root in
    let read = c.deref.ensures.value ∙ c.in_ok-bytes.ensures.bytes told root ∙ ap (λ (bytes : List ℕ). take 4096 (drop k bytes)) (same_bytes found) in
    c.put.ensures
    ∙ ap (λ (rest : List ℕ). take (min (length c.deref.result.now) 4096) c.deref.result.now ++ drop (min (length c.deref.result.now) 4096) rest) c.clear.ensures
    ∙ filled (shown_bytes found) c.deref.result.now index k (λ at. past_alike (shown_bytes found) index k at (file_short tree c.args.file_block.file whole) start) read
