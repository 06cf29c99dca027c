use Rattle.std.proofs.Common.{◌+◌, Result, Err, refl, sym, ap, subst, ◌∙◌}
use Rattle.std.proofs.lemmas.Result.{err_from_is_err_and}
use Rattle.sn_block.specs.Lending.{device_of}
use Rattle.sn_device.specs.Disk.{Disk, reads}
use Rattle.sn_model.specs.declared.fault.MountFault.{MountFault}
use Rattle.sn_ondisk.specs.Trees.{store_of}
use Rattle.sn_image.specs.Image.{image}
use Rattle.sn_examine.specs.Replaying.{Breaks, HasAll, LeadsOn}
use Rattle.sn_examine.proofs.BothLemmas.{leads_both, newer_fails}
use Rattle.sn_check_log.specs.Trying.{TriesBoth, changes_if, tree_of}
use Rattle.sn_check_log.specs.declared.replaying.Tried.{Tried}
use Rattle.sn_check_log.proofs.TryLemmas.{older_fails}
use Rattle.sn_check_log.proofs.both.try_both.Goals as goal

pub returns-in_err-older-clause-replayed : goal.returns-in_err-older-clause-replayed
returns-in_err-older-clause-replayed g c told =
    let disk = reads (g.D.Device.disk (device_of c.args.blocks.now)) in
    let root = c.args.it.now.root.now in
    let tree = image (store_of disk) root.inode_file in
    let n = c.args.it.now.geometry in
    let f = c.in_err-older.field-0.0 in
    let p = err_from_is_err_and c.from_residual.result c.from_residual.ensures.1 in
    subst (λ (r : Result Tried MountFault). TriesBoth root.limits r disk tree n root.epoch) (sym (p.1 ∙ ap (λ (x : MountFault). Err x) p.2)) (older_fails root.limits f disk tree n root.epoch (c.in_err-older.ensures.replayed told))

pub returns-in_err-newer-clause-replayed : goal.returns-in_err-newer-clause-replayed
returns-in_err-newer-clause-replayed g c told =
    let device = g.D.Device.disk (device_of c.args.blocks.now) in
    let disk = reads device in
    let root = c.args.it.now.root.now in
    let tree = image (store_of disk) root.inode_file in
    let n = c.args.it.now.geometry in
    let f = c.in_err-newer.field-0.0 in
    let p = err_from_is_err_and c.from_residual-in_err-newer.result c.from_residual-in_err-newer.ensures.1 in
    let older = c.in_ok-older.older in
    let middle = tree_of older.live tree in
    let breaks = subst (λ (d : Disk). Breaks root.limits f (reads d) (tree_of older.live (image (store_of (reads d)) root.inode_file)) n (root.epoch + 1)) (c.in_ok-older.ensures.same told) (c.in_err-newer.ensures.replayed told) in
    subst (λ (r : Result Tried MountFault). TriesBoth root.limits r disk tree n root.epoch) (sym (p.1 ∙ ap (λ (x : MountFault). Err x) p.2))
    (newer_fails root.limits f disk tree n root.epoch older.at middle older.charges (record { blocks = c.in_ok-older.ensures.blocks; of_epoch = c.in_ok-older.ensures.epoch; all = c.in_ok-older.ensures.replayed told }) breaks)

pub returns-clause-replayed : goal.returns-clause-replayed
returns-clause-replayed g c told =
    let device = g.D.Device.disk (device_of c.args.blocks.now) in
    let disk = reads device in
    let root = c.args.it.now.root.now in
    let tree = image (store_of disk) root.inode_file in
    let older = c.in_ok-older.older in
    let newer = c.in_ok-newer.newer in
    record {
      older = older.at;
      newer = newer.at;
      middle = tree_of older.live tree;
      first = older.charges;
      second = newer.charges;
      has_older = record { blocks = c.in_ok-older.ensures.blocks; of_epoch = c.in_ok-older.ensures.epoch; all = c.in_ok-older.ensures.replayed told };
      has_newer = record {
        blocks = c.in_ok-newer.ensures.blocks;
        of_epoch = c.in_ok-newer.ensures.epoch;
        all = subst (λ (d : Disk). HasAll root.limits (reads d) (tree_of older.live (image (store_of (reads d)) root.inode_file)) newer.at (tree_of newer.live (image (store_of (reads d)) root.inode_file)) newer.charges) (c.in_ok-older.ensures.same told) (c.in_ok-newer.ensures.replayed told);
      };
      charged = refl;
      is = c.last_of.ensures.last;
      none = c.last_of.ensures.none;
    }

pub returns-clause-changed : goal.returns-clause-changed
returns-clause-changed g c told =
    let device = g.D.Device.disk (device_of c.args.blocks.now) in
    let root = c.args.it.now.root.now in
    let tree = image (store_of (reads device)) root.inode_file in
    let older = c.in_ok-older.older in
    let newer = c.in_ok-newer.newer in
    let second = subst (λ (d : Disk). LeadsOn root.limits (changes_if older.live) (tree_of older.live (image (store_of (reads d)) root.inode_file)) 0 (changes_if newer.live) (tree_of newer.live (image (store_of (reads d)) root.inode_file)) newer.charges)
    (c.in_ok-older.ensures.same told) (c.in_ok-newer.ensures.changed told) in
    leads_both root.limits _ (changes_if older.live) (changes_if newer.live) tree (tree_of older.live tree) (tree_of newer.live tree) older.charges newer.charges refl (c.in_ok-older.ensures.changed told) second
