-- What a mounted file system reads of its root and of its snapshots, where the device tells its bytes.
use Rattle.std.proofs.Common.{◌≡◌, ℕ, zero, suc, ◌*◌, ◌≤◌, List, [], ◌∷◌, map, Some, Contains, refl, sym, ap, subst, ◌∙◌, arith}
use Rattle.std.specs.Prelude.{All, slice_index}
use Rattle.sn_changed.specs.Changed.{HasChanged}
use Rattle.sn_device.specs.Sectors.{AreSectors}
use Rattle.sn_device.specs.Disk.{Always, Disk, reads}
use Rattle.sn_device.specs.Crash.{Touches}
use Rattle.sn_device.proofs.CrashLemmas.{Always-kept, Always-reads}
use Rattle.sn_image.specs.Image.{image}
use Rattle.sn_layout.specs.declared.root.RootBody.{RootBody}
use Rattle.sn_layout.specs.declared.snapshot.Snapshot.{Snapshot}
use Rattle.sn_layout.specs.declared.tree.BlockTree.{BlockTree}
use Rattle.sn_limits.specs.declared.limits.Limits.{Limits}
use Rattle.sn_limits.specs.Versions.{limits_of, limits_written}
use Rattle.sn_model.specs.Tree.{Tree}
use Rattle.sn_model.specs.World.{Trees, World}
use Rattle.sn_ondisk.specs.Blocks.{InBlocks}
use Rattle.sn_ondisk.specs.LogHalf.{InHalf, base_of}
use Rattle.sn_ondisk.specs.TreeLaws.{SameIn}
use Rattle.sn_ondisk.specs.Trees.{Store, store_of}
use Rattle.sn_opening.specs.Worlds.{all_reach}
use Rattle.sn_opening.proofs.LogLemmas.{log_and_data}
use Rattle.sn_opening.proofs.OpeningLemmas.{same_depends}
use Rattle.sn_rooted.specs.Roots.{AreSound, IsSoundRoot, trees_at}
use Rattle.sn_sound.specs.Maps.{Rooted, frozen_root, rooted_in}
use Rattle.sn_sound.proofs.StandingLemmas.{first_among, lies_in_data, more_among, root_same}
use Rattle.sn_cp.proofs.NextLemmas.{frozen_stay}
use Rattle.sn_held.specs.Held.{Held, Kept, Runs, RunsReady}
use Rattle.sn_held.proofs.RoomLemmas.{image_same}
use Rattle.sn_cp_progress.proofs.MeaningLemmas.{root_with, runs_with}
use Rattle.sn_events.specs.Mounted.{RunsNow, tree_at, trees_there}

-- ---- of a root

-- its trees are of the blocks that it reaches
same_trees : (s t : Store) (root : RootBody) → SameIn (all_reach s root) s t → trees_at t root ≡ trees_at s root
same_trees s t root same = λ i. record { live = image_same s t root same i; frozen = sym (frozen_stay s t root same) i }

-- what holds of each root holds of each snapshot
of_snapshots : (P : BlockTree → Type 0) (xs : List Snapshot) → ((r : Rooted) → Contains (map frozen_root xs) r → P r.inodes) → All (λ (x : Snapshot). P x.tree) xs
of_snapshots P [] each k d below = absurd (omega (arith, below))
of_snapshots P (x ∷ xs) each zero d below = each (frozen_root x) (first_among (frozen_root x) (map frozen_root xs))
of_snapshots P (x ∷ xs) each (suc k) d below = of_snapshots P xs (λ r among. each r (more_among (frozen_root x) (map frozen_root xs) r among)) k d (omega (arith, below))

-- ---- of one that runs

module _ (h : Held) (w : World) (r : Runs h w) (whole : AreSectors (reads h.disk)) where
  shown_same : Always h.disk (λ c. SameIn (all_reach r.store r.root) r.store (store_of c))
  shown_same c crash = (r.stands.shows c crash).same

  here : SameIn (all_reach r.store r.root) r.store (store_of (reads h.disk))
  here = Always-reads h.disk (λ c. SameIn (all_reach r.store r.root) r.store (store_of c)) whole shown_same

  -- what is read are the trees of its root
  trees_here : trees_there h.disk r.root ≡ trees_at r.store r.root
  trees_here = same_trees r.store (store_of (reads h.disk)) r.root here

  pub tree_here : tree_at h.disk r.root ≡ image r.store r.root.inode_file
  tree_here = ap (λ (t : Trees). t.live) trees_here

  -- each of which is sound
  root_here : (sectors : ℕ) → 8 * h.at.blocks ≤ sectors → (q : Rooted) → Contains (rooted_in r.root) q → IsSoundRoot r.root.limits sectors (store_of (reads h.disk)) q.inodes
  root_here sectors within q among = record {
    version = subst (λ (l : Limits). limits_of l.version ≡ Some l) (sym r.limits) refl;
    blocks = h.at.blocks;
    fits = within;
    sound = (root_same h.at.blocks r.store (store_of (reads h.disk)) r.root here (slice_index r.words) (slice_index r.words) (λ block. refl) r.stands.sound).roots q among;
  }

  sound_here : (sectors : ℕ) → 8 * h.at.blocks ≤ sectors → AreSound sectors (store_of (reads h.disk)) r.root
  sound_here sectors within =
      let live : Rooted = record { bit = 0; inodes = r.root.inode_file } in
      let frozen = map frozen_root r.root.snapshots in
      record {
        live = root_here sectors within live (first_among live frozen);
        frozen = of_snapshots (IsSoundRoot r.root.limits sectors (store_of (reads h.disk))) r.root.snapshots (λ q among. root_here sectors within q (more_among live frozen q among));
      }

  -- What is written to a half of the log leaves them as they are.
  trees_stay : (epoch : ℕ) (new : Disk) → AreSectors (reads new) → Touches (InHalf (base_of h.at.blocks epoch)) h.disk new → trees_there new r.root ≡ trees_there h.disk r.root
  trees_stay epoch new whole_new touched =
      let blocks = all_reach r.store r.root in
      let lie = lies_in_data h.at.blocks r.store r.root (slice_index r.words) r.stands.sound in
      let after = Always-kept (InHalf (base_of h.at.blocks epoch)) (InBlocks blocks) (λ c. SameIn blocks r.store (store_of c)) (same_depends blocks r.store) (log_and_data h.at.blocks epoch blocks lie) h.disk new whole shown_same touched in
      same_trees r.store (store_of (reads new)) r.root (Always-reads new (λ c. SameIn blocks r.store (store_of c)) whole_new after) ∙ sym trees_here

-- What changed since the root that is kept is so over the tree that is read.
pub tree_ready : (h : Held) (w : World) (k : Kept) → AreSectors (reads h.disk) → RunsReady h w k → HasChanged limits_written k.changed (tree_at h.disk k.root) w.live h.room.charged
tree_ready h w k whole ready =
    subst (λ (t : Tree). HasChanged limits_written k.changed t w.live h.room.charged)
    (sym (ap (tree_at h.disk) ready.ready.root ∙ tree_here h w ready.runs whole)) ready.ready.changed

-- The frozen trees that are read are those of the world.
pub frozen_read : (h : Held) (w : World) (r : Runs h w) → AreSectors (reads h.disk) → (root : RootBody) → root ≡ r.root → (trees_there h.disk root).frozen ≡ w.frozen
frozen_read h w r whole root is = ap (λ (b : RootBody). (trees_there h.disk b).frozen) is ∙ ap (λ (t : Trees). t.frozen) (trees_here h w r whole) ∙ sym r.frozen

-- ---- over the root that is kept

module _ (h : Held) (r : RunsNow h) (whole : AreSectors (reads h.disk)) where
  of_root : h.base.root ≡ (runs_with h h.world h.point r).root
  of_root = root_with h h.world h.point r

  pub readable : (sectors : ℕ) → 8 * h.at.blocks ≤ sectors → AreSound sectors (store_of (reads h.disk)) h.base.root
  readable sectors within =
      subst (AreSound sectors (store_of (reads h.disk))) (sym of_root)
      (sound_here h h.world (runs_with h h.world h.point r) whole sectors within)

  pub trees_logged : (epoch : ℕ) (new : Disk) → AreSectors (reads new) → Touches (InHalf (base_of h.at.blocks epoch)) h.disk new → trees_there new h.base.root ≡ trees_there h.disk h.base.root
  trees_logged epoch new whole_new touched =
      subst (λ (b : RootBody). trees_there new b ≡ trees_there h.disk b) (sym of_root)
      (trees_stay h h.world (runs_with h h.world h.point r) whole epoch new whole_new touched)
