use Rattle.std.proofs.Common.{◌≡◌, subst}
use Rattle.sn_block.specs.Lending.{device_of}
use Rattle.sn_device.specs.Disk.{Disk, reads}
use Rattle.sn_image.specs.Image.{image}
use Rattle.sn_model.specs.Settling.{nameless_in}
use Rattle.sn_number_table.specs.Nameless.{TellsNameless}
use Rattle.sn_number_table.specs.Table.{TellsNumbers}
use Rattle.sn_ondisk.specs.Trees.{store_of}
use Rattle.sn_rooted_tree.proofs.LookLemmas.{stays_sound}
use Rattle.sn_rooted_tree.proofs.SeenLemmas.{root_tree}
use Rattle.sn_live_world.proofs.opening.live_tree_of.Goals as goal

pub returns-clause-live : goal.returns-clause-live
returns-clause-live g c told sound =
    let disk = g.D.Device.disk (device_of c.args.blocks.now) in
    let file = c.args.file.now in
    let noted = c.in_ok-told.told in
    let same = c.directories_of.ensures.same told in
    let whole = root_tree c.args.limits.now _ (reads disk) file (g.met.D.Device.whole (device_of c.args.blocks.now) told) (g.met.D.Device.count (device_of c.args.blocks.now) told) sound in
    let there = stays_sound g.D.Device.tells_bytes _ _ _ _ c.args.limits.now file c.directories_of.ensures.counts.sectors c.directories_of.ensures.same (λ _. sound) told in
    c.over.ensures.live (image (store_of (reads disk)) file) whole (c.in_ok-directories.ensures.tells told sound)
    (subst (λ (d : Disk). TellsNumbers (image (store_of (reads d)) file) noted.numbers) same (c.in_ok-told.ensures.numbers told there))
    (subst (λ (d : Disk). TellsNameless (image (store_of (reads d)) file) noted.nameless_files) same (c.in_ok-told.ensures.nameless told there))
    (subst (λ (d : Disk). noted.nameless ≡ nameless_in (image (store_of (reads d)) file)) same (c.in_ok-told.ensures.count told there))
