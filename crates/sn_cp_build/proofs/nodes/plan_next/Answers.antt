use Rattle.std.proofs.Common.{ℕ, ◌+◌, ◌<◌, [], length, get_or, IsTrue, sym, subst, ap}
use Rattle.std.specs.Prelude.{IfOk}
use Rattle.sn_alloc.specs.Taking.{free_data}
use Rattle.sn_device.specs.Disk.{reads}
use Rattle.sn_block.specs.Lending.{device_of}
use Rattle.sn_ondisk.specs.Trees.{store_of}
use Rattle.sn_overlay.specs.Overlays.{layer_of}
use Rattle.sn_overlay.specs.declared.node.NodeChange.{NodeChange}
use Rattle.sn_cp_nodes.specs.Built.{BuildsNode}
use Rattle.sn_cp_build.specs.Planned.{most_for}
use Rattle.sn_cp_build.proofs.NodesLemmas.{within_second, number_is, part_of}
use Rattle.sn_cp_build.proofs.nodes.plan_next.Goals as goal

pub bounds-nodes-index-3 : goal.bounds-nodes-index-3
bounds-nodes-index-3 g c =
    let one : ℕ × NodeChange = get_or c.nodes.result.now c.args.index c.index-nodes-index.result in
    within_second (layer_of c.args.changes.now) (layer_of c.take_blocks.new.self) (layer_of c.args.changes.now) c.args.index c.nodes.result.now c.nodes-2.result.now one one [] c.in_ok-written.written.items
    c.nodes.ensures c.requires.within (ap (λ (d : ℕ × NodeChange). get_or c.nodes.result.now c.args.index d) c.index-nodes-index.is) c.in_ok-written.ensures.left c.nodes-2.ensures

pub returns-clause-builds : goal.returns-clause-builds
returns-clause-builds g c = λ layer nodes names written.
    let old = layer_of c.args.changes.now in
    let taken = layer_of c.take_blocks.new.self in
    let one : ℕ × NodeChange = get_or c.nodes.result.now c.args.index c.index-nodes-index.result in
    let two : ℕ × NodeChange = c.index-nodes-index-2.result in
    let is = number_is old taken layer c.args.index c.nodes.result.now c.nodes-2.result.now one two c.names_of-names.result.now c.in_ok-written.written.items
    c.nodes.ensures c.requires.within (ap (λ (d : ℕ × NodeChange). get_or c.nodes.result.now c.args.index d) c.index-nodes-index.is) c.in_ok-written.ensures.left c.nodes-2.ensures in
    let part = part_of old taken layer c.args.index c.nodes.result.now c.nodes-2.result.now one two c.names_of-names.result.now c.in_ok-written.written.items
    c.nodes.ensures c.requires.within (ap (λ (d : ℕ × NodeChange). get_or c.nodes.result.now c.args.index d) c.index-nodes-index.is) c.in_ok-written.ensures.left c.nodes-2.ensures c.index-nodes-index-2.is c.names_of-names.ensures c.in_ok-written.ensures.taken nodes names written in
    subst (λ (n : ℕ). IfOk c.build_node.result (λ new. BuildsNode (IsTrue g.D.Device.tells_bytes) c.args.limits.now (store_of (reads (g.D.Device.disk (device_of c.args.blocks.now)))) c.args.file.now layer n new c.args.build.now c.build_node.new.build)) (sym is)
    (c.build_node.ensures.builds layer part)

pub returns-clause-full : goal.returns-clause-full
returns-clause-full g c = λ told full n layer ground nodes names written.
    let old = layer_of c.args.changes.now in
    let taken = layer_of c.take_blocks.new.self in
    let one : ℕ × NodeChange = get_or c.nodes.result.now c.args.index c.index-nodes-index.result in
    let two : ℕ × NodeChange = c.index-nodes-index-2.result in
    let is = number_is old taken layer c.args.index c.nodes.result.now c.nodes-2.result.now one two c.names_of-names.result.now c.in_ok-written.written.items
    c.nodes.ensures c.requires.within (ap (λ (d : ℕ × NodeChange). get_or c.nodes.result.now c.args.index d) c.index-nodes-index.is) c.in_ok-written.ensures.left c.nodes-2.ensures in
    let part = part_of old taken layer c.args.index c.nodes.result.now c.nodes-2.result.now one two c.names_of-names.result.now c.in_ok-written.written.items
    c.nodes.ensures c.requires.within (ap (λ (d : ℕ × NodeChange). get_or c.nodes.result.now c.args.index d) c.index-nodes-index.is) c.in_ok-written.ensures.left c.nodes-2.ensures c.index-nodes-index-2.is c.names_of-names.ensures c.in_ok-written.ensures.taken nodes names written in
    let less = c.room_laws.ensures g.D.Device.tells_bytes c.args.limits.now n (store_of (reads (g.D.Device.disk (device_of c.args.blocks.now)))) c.args.file.now layer one.0 two.1 c.names_of-names.result.now c.in_ok-written.written.items c.args.build.now
    told ground part (c.build_node.ensures.full told full) in
    subst (λ (k : ℕ). free_data c.args.build.now.words c.args.build.now.first < length c.args.build.now.added + most_for c.args.limits.now layer k) (sym is) less

pub returns-clause-damaged : goal.returns-clause-damaged
returns-clause-damaged g c = λ told block damaged n layer nodes names written safe.
    let old = layer_of c.args.changes.now in
    let taken = layer_of c.take_blocks.new.self in
    let one : ℕ × NodeChange = get_or c.nodes.result.now c.args.index c.index-nodes-index.result in
    let two : ℕ × NodeChange = c.index-nodes-index-2.result in
    let part = part_of old taken layer c.args.index c.nodes.result.now c.nodes-2.result.now one two c.names_of-names.result.now c.in_ok-written.written.items
    c.nodes.ensures c.requires.within (ap (λ (d : ℕ × NodeChange). get_or c.nodes.result.now c.args.index d) c.index-nodes-index.is) c.in_ok-written.ensures.left c.nodes-2.ensures c.index-nodes-index-2.is c.names_of-names.ensures c.in_ok-written.ensures.taken nodes names written in
    c.build_node.ensures.damaged told block damaged
    (c.damage_laws.ensures g.D.Device.tells_bytes c.args.limits.now n (g.D.Device.status (device_of c.args.blocks.now)).sectors (store_of (reads (g.D.Device.disk (device_of c.args.blocks.now)))) c.args.file.now layer one.0 two.1 c.names_of-names.result.now c.in_ok-written.written.items c.args.build.now
    told safe part)
