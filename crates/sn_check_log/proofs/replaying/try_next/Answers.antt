use Rattle.std.proofs.Common.{ℕ, ◌+◌, ◌/◌, ◌++◌, ◌∷◌, [], Option, refl, sym, ap, subst, ◌∙◌}
use Rattle.sn_device.specs.Disk.{Disk, reads}
use Rattle.sn_model.specs.Charges.{charge_for}
use Rattle.sn_block.specs.Lending.{device_of}
use Rattle.sn_log.specs.Positions.{LogPosition, IsBehind, base_at}
use Rattle.sn_log.specs.Replaying.{Finds, changes_in, position_after}
use Rattle.sn_log.specs.declared.replay.NextRecord.{NextRecord}
use Rattle.sn_ondisk.specs.Trees.{store_of}
use Rattle.sn_image.specs.Image.{image}
use Rattle.sn_examine.specs.Replaying.{HasReplayed}
use Rattle.sn_examine.proofs.ReplayLemmas.{changes_lead, inapplicable_breaks, misspelt_breaks, replayed_more}
use Rattle.sn_rooted_tree.proofs.SeenLemmas.{root_tree}
use Rattle.sn_check_log.specs.Trying.{TriesChange, changes_if, tree_of}
use Rattle.sn_check_log.proofs.TryLemmas.{whole_of}
use Rattle.sn_check_log.proofs.replaying.try_next.Goals as goal

pub returns-in-Ok-Some-clause-replayed : goal.returns-in-Ok-Some-clause-replayed
returns-in-Ok-Some-clause-replayed g c told from done =
    let device = g.D.Device.disk (device_of c.args.blocks.now) in
    let disk = reads device in
    let limits = c.args.it.now.root.now.limits in
    let file = c.args.it.now.root.now.inode_file in
    let tree = image (store_of disk) file in
    let old = c.args.live.now in
    let new = c.try_opened.new.live in
    let at = c.args.replay.now in
    let change = c.in-Ok-Change.change in
    let finds = subst (λ (f : NextRecord). Finds disk at f) c.in-Ok-Change.field-0-is (c.in-Ok-Change.ensures.found told) in
    let moves = c.in-Ok-Change.ensures.moves ∙ ap (position_after at) c.in-Ok-Change.field-0-is in
    let behind = subst (λ (f : NextRecord). IsBehind c.next.new.self (done.changes ++ changes_in f) disk) c.in-Ok-Change.field-0-is (c.in-Ok-Change.ensures.behind told done.changes done.behind) in
    let there = subst (λ (d : Disk). TriesChange limits c.in-Ok-Some.field-0 old (image (store_of (reads d)) file) change new) (c.in-Ok-Change.ensures.same told) (c.in-Ok-Some.ensures.tries told) in
    let made = subst (λ (o : Option ℕ). TriesChange limits o old tree change new) c.in-Ok-Some.field-0-is there in
    subst (λ (k : ℕ). HasReplayed limits disk from c.next.new.self (tree_of new tree) (c.args.charges.now + k)) (sym made.charged)
    (subst (λ (p : LogPosition). HasReplayed limits disk from p (tree_of new tree) (c.args.charges.now + charge_for limits (tree_of old tree) change)) (sym moves)
    (replayed_more limits disk from at (tree_of old tree) c.args.charges.now change (tree_of new tree) done finds made.applied (subst (λ (p : LogPosition). IsBehind p (done.changes ++ change ∷ []) disk) moves behind)))

pub returns-in-Ok-Some-clause-changed : goal.returns-in-Ok-Some-clause-changed
returns-in-Ok-Some-clause-changed g c told =
    let device = g.D.Device.disk (device_of c.args.blocks.now) in
    let disk = reads device in
    let root = c.args.it.now.root.now in
    let limits = root.limits in
    let file = root.inode_file in
    let tree = image (store_of disk) file in
    let old = c.args.live.now in
    let new = c.try_opened.new.live in
    let change = c.in-Ok-Change.change in
    let there = subst (λ (d : Disk). TriesChange limits c.in-Ok-Some.field-0 old (image (store_of (reads d)) file) change new) (c.in-Ok-Change.ensures.same told) (c.in-Ok-Some.ensures.tries told) in
    let made = subst (λ (o : Option ℕ). TriesChange limits o old tree change new) c.in-Ok-Some.field-0-is there in
    let whole = whole_of old tree (root_tree limits _ disk file (g.met.D.Device.whole (device_of c.args.blocks.now) told) (g.met.D.Device.count (device_of c.args.blocks.now) told) (c.requires.sound told)) (c.requires.tried told) in
    changes_lead c.changed_laws.ensures.changes limits (c.versions_are_charged.ensures limits.version limits c.requires.version) (changes_if old) (changes_if new) (tree_of old tree) (tree_of new tree) c.args.charges.now c.in-Ok-Some.charge change whole.hierarchy made.applied made.merged made.charged

pub returns-in-Ok-None-clause-replayed : goal.returns-in-Ok-None-clause-replayed
returns-in-Ok-None-clause-replayed g c told from done =
    let device = g.D.Device.disk (device_of c.args.blocks.now) in
    let disk = reads device in
    let limits = c.args.it.now.root.now.limits in
    let file = c.args.it.now.root.now.inode_file in
    let tree = image (store_of disk) file in
    let old = c.args.live.now in
    let new = c.try_opened.new.live in
    let at = c.args.replay.now in
    let change = c.in-Ok-Change.change in
    let finds = subst (λ (f : NextRecord). Finds disk at f) c.in-Ok-Change.field-0-is (c.in-Ok-Change.ensures.found told) in
    let there = subst (λ (d : Disk). TriesChange limits c.in-Ok-None.field-0 old (image (store_of (reads d)) file) change new) (c.in-Ok-Change.ensures.same told) (c.in-Ok-None.ensures.tries told) in
    let none = subst (λ (o : Option ℕ). TriesChange limits o old tree change new) c.in-Ok-None.field-0-is there in
    (refl, inapplicable_breaks limits disk from at (tree_of old tree) c.args.charges.now change c.block.result done finds none (c.block.ensures ∙ ap (λ (p : LogPosition). (base_at p + p.place) / 8) c.position-at.ensures))

pub returns-in-Ok-Misspelt-clause-replayed : goal.returns-in-Ok-Misspelt-clause-replayed
returns-in-Ok-Misspelt-clause-replayed g c told from done =
    let disk = reads (g.D.Device.disk (device_of c.args.blocks.now)) in
    let tree = tree_of c.args.live.now (image (store_of disk) c.args.it.now.root.now.inode_file) in
    let finds = subst (λ (f : NextRecord). Finds disk c.args.replay.now f) c.in-Ok-Misspelt.field-0-is (c.in-Ok-Misspelt.ensures.found told) in
    (refl, misspelt_breaks c.args.it.now.root.now.limits disk from c.args.replay.now tree c.args.charges.now c.in-Ok-Misspelt.block done finds)
