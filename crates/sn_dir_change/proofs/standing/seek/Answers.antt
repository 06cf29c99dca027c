use Rattle.std.proofs.Common.{◌≡◌, IfOk, ap, map, subst, ◌∙◌}
use Rattle.sn_device.specs.Disk.{Disk, reads}
use Rattle.sn_layout_node.specs.declared.content.Content.TheVariants.{Tree}
use Rattle.sn_ondisk.specs.Trees.{store_of}
use Rattle.sn_image.specs.Names.{names_of}
use Rattle.sn_dir_change.specs.Standing.{seen}
use Rattle.sn_dir_change.proofs.standing.seek.Goals as goal

pub returns-then-has_index-clause-sought : goal.returns-then-has_index-clause-sought
returns-then-has_index-clause-sought g c told =
    let same = ap (λ b. g.D.Device.disk b) c.has_index.ensures.device ∙ c.begin_index.ensures.same told in
    subst (λ (d : Disk). IfOk c.seek_each.result (λ sought. sought.items ≡ map (seen (names_of (store_of (reads d)) (Tree c.args.tree.now))) c.args.changes.now)) same
    (c.seek_each.ensures.sought told)

pub returns-clause-sought : goal.returns-clause-sought
returns-clause-sought g c told =
    let same = ap (λ b. g.D.Device.disk b) c.has_index.ensures.device ∙ c.begin_index.ensures.same told in
    subst (λ (d : Disk). IfOk c.seek_in_turn.result (λ sought. sought.items ≡ map (seen (names_of (store_of (reads d)) (Tree c.args.tree.now))) c.args.changes.now)) same
    (c.seek_in_turn.ensures.sought told)
