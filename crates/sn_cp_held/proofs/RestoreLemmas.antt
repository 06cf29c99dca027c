-- What a build of the tree of a snapshot gives, without its files without names, is a point that brings the snapshot back.
use Rattle.std.proofs.Common.{◌≡◌, ℕ, ◌+◌, ◌*◌, ◌≤◌, Bool, true, false, cond, List, [], ◌∷◌, Option, Some, None, Contains, refl, sym, ap, subst, ◌∙◌, arith}
use Rattle.std.specs.Cmp.Lexicographic.{texts_ties}
use Rattle.std.specs.FinMap as fin
use Rattle.std.specs.FinMap.Entries.{find}
use Rattle.std.specs.Ordering.{eq_by_cmp}
use Rattle.sn_changed.specs.Changed.{HasChanged}
use Rattle.sn_device.specs.Disk.{reads}
use Rattle.sn_device.proofs.CrashLemmas.{Always-reads}
use Rattle.sn_image.specs.Image.{image}
use Rattle.sn_image.specs.Laws.{RootReadsAlike}
use Rattle.sn_image.specs.Reach.{reach}
use Rattle.sn_image.specs.Sound.{IsSound}
use Rattle.sn_image.proofs.ByteLemmas.{data_whole}
use Rattle.sn_image.proofs.FootprintLemmas.{roots_depend}
use Rattle.sn_image.proofs.SoundNameLemmas.{sound_tree}
use Rattle.sn_layout.specs.declared.gate.Gate.{Gate}
use Rattle.sn_layout.specs.declared.root.RootBody.{RootBody}
use Rattle.sn_layout.specs.declared.snapshot.Snapshot.{Snapshot}
use Rattle.sn_layout.specs.declared.tree.BlockTree.{BlockTree}
use Rattle.sn_layout.specs.RootBody.{IsRootBody}
use Rattle.sn_limits.specs.declared.limits.Limits.{Limits}
use Rattle.sn_limits.specs.Versions.{limits_written}
use Rattle.sn_model.specs.NameTree.{IsTree}
use Rattle.sn_model.specs.declared.outcome.AskedPoint.TheVariants.{Restores}
use Rattle.sn_model.specs.Settling.{nameless_in, settled}
use Rattle.sn_model.specs.Tree.{Tree}
use Rattle.sn_model.specs.World.{World, trees_of}
use Rattle.sn_model.proofs.DropLemmas.{dropping_tree}
use Rattle.sn_ondisk.specs.TreeLaws.{SameIn}
use Rattle.sn_ondisk.specs.Trees.{Store, store_of}
use Rattle.sn_opening.specs.Opens.{Shows}
use Rattle.sn_opening.specs.Worlds.{FrozenTrees}
use Rattle.sn_overlay.specs.Layers.{Layer}
use Rattle.sn_root.specs.declared.following.PointKind.TheVariants.{Ordinary}
use Rattle.sn_snap.specs.Catalogue.{by_name}
use Rattle.sn_snap.proofs.NameLemmas.{by_bytes, get_is, same_bytes, told_by}
use Rattle.sn_sound.specs.Maps.{rooted_in}
use Rattle.sn_sound.proofs.ReachLemmas.{sound_depends}
use Rattle.sn_sound.proofs.StandingLemmas.{first_among, more_among}
use Rattle.sn_held.specs.Held.{Held, Kept, Runs, RunsReady}
use Rattle.sn_cp_build.specs.declared.building.Built.{Built}
use Rattle.sn_cp_held.specs.Builds.{CanBeBuiltOver, IsBuiltOf, over_layer, room_behind, work_for}
use Rattle.sn_cp_held.specs.Snapshots.{BeginsFrom, brought_back, live_behind}
use Rattle.sn_cp_held.specs.Wholes.{CanBeRestored, IsOfLive}
use Rattle.sn_cp_held.proofs.BuildLemmas.{reached_among}
use Rattle.sn_cp_held.proofs.EditLemmas.{begins_among, catalogue_of, one_of_name}
use Rattle.sn_cp_held.proofs.LiveLemmas.{of_asked, ready_can_be_built}

-- ---- what a name denotes

-- what is found under a name is said of a snapshot that has it
module _ {X : Type 0} (f : Snapshot → X) where
  pub record IsOf (snapshots : List Snapshot) (name : List ℕ) (x : X) : Type 0 where
    pub snapshot : Snapshot
    pub among : Contains snapshots snapshot
    pub name_is : snapshot.name ≡ name
    pub is : f snapshot ≡ x

  found_in : (snapshots : List Snapshot) (name : List ℕ) (x : X) → find by_bytes name (told_by f snapshots) ≡ Some x → IsOf snapshots name x
  found_in [] name x e = let never : None ≡ Some x = e in absurd cc
  found_in (s ∷ more) name x e = told (found_in more name x) (eq_by_cmp by_bytes name s.name) refl e
    where
      told : (find by_bytes name (told_by f more) ≡ Some x → IsOf more name x) → (b : Bool) → eq_by_cmp by_bytes name s.name ≡ b → cond b (Some (f s)) (find by_bytes name (told_by f more)) ≡ Some x → IsOf (s ∷ more) name x
      told later true same is = record { snapshot = s; among = first_among s more; name_is = sym (same_bytes name s.name (texts_ties name s.name ∙ same)); is = cc }
      told later false other is = let w = later is in record { snapshot = w.snapshot; among = more_among s more w.snapshot w.among; name_is = w.name_is; is = w.is }

  pub stands_for : (snapshots : List Snapshot) (name : List ℕ) (x : X) → fin.get (by_name f snapshots) name ≡ Some x → IsOf snapshots name x
  stands_for snapshots name x e = found_in snapshots name x (sym (get_is f snapshots name) ∙ e)

-- ---- the tree of the snapshot

module _ (h : Held) (world : World) (k : Kept) (rr : RunsReady h world k) (layer : Layer) (name : List ℕ) (can : CanBeRestored name layer h.room world) (file : BlockTree) (bit : ℕ) (begins : BeginsFrom (Restores name) bit k.root file) where
  abbrev r : Runs h world
  r = rr.runs

  abbrev n : ℕ
  n = h.at.blocks

  abbrev now : Store
  now = store_of (reads h.disk)

  shown : Shows n r.store r.slot r.root r.older r.newer (reads h.disk)
  shown = Always-reads h.disk (Shows n r.store r.slot r.root r.older r.newer) r.stands.disk.whole r.stands.shows

  body : IsRootBody r.root
  body = shown.shown.newest.body.fits

  -- of the root that counts
  among : Contains r.root.snapshots (record { bit = bit; name = name; tree = file })
  among = subst (λ (b : RootBody). BeginsFrom (Restores name) bit b file) rr.ready.root begins

  has : Contains (rooted_in r.root) (record { bit = bit; inodes = file })
  has = begins_among (Restores name) bit r.root file among

  -- the snapshot with the name denotes the frozen tree
  is_frozen : image r.store file ≡ can.tree
  is_frozen =
      let tree_of : Snapshot → Tree = λ x. image r.store x.tree in
      let w = stands_for tree_of r.root.snapshots name can.tree (ap (λ (m : FrozenTrees). fin.get m name) (sym r.frozen) ∙ can.frozen) in
      ap tree_of (one_of_name r.root.snapshots (catalogue_of body).distinct (record { bit = bit; name = name; tree = file }) w.snapshot among w.among (sym w.name_is)) ∙ w.is

  same : SameIn (reach r.store file) r.store now
  same block reached = shown.same block (reached_among r.store r.root block bit (record { inodes = file; among = has; reached = reached }))

  alike : RootReadsAlike r.store now file
  alike = roots_depend r.store now file same

  sound : IsSound r.root.limits n now file
  sound = sound_depends r.store now file same r.root.limits n (r.stands.sound.roots (record { bit = bit; inodes = file }) has)

  -- so it is a name tree, without its files without names too
  frozen_tree : IsTree limits_written can.tree
  frozen_tree =
      subst (IsTree limits_written) (alike.image ∙ is_frozen)
      (subst (λ (l : Limits). IsTree l (image now file)) r.limits
      (sound_tree r.root.limits n now file body.version (λ block lies. data_whole (reads h.disk) n block r.stands.disk.whole r.stands.disk.long lies) sound))

  settled_tree : IsTree limits_written (settled can.tree)
  settled_tree = dropping_tree limits_written can.tree (λ _. false) frozen_tree

  changed_there : HasChanged limits_written layer (image r.store file) (settled can.tree) 0
  changed_there = subst (λ (tree : Tree). HasChanged limits_written layer tree (settled can.tree) 0) (sym is_frozen) can.drops

  fits_there : 0 + limits_written.inode_charge * nameless_in (image r.store file) ≤ h.room.free
  fits_there = omega (arith, ap nameless_in is_frozen, can.fits)

  leads : settled can.tree ≡ live_behind (Restores name) (trees_of world)
  leads = ap (λ (o : Option Tree). brought_back o world.live) (sym can.frozen)

  pub restore_can_be_built : CanBeBuiltOver n now (over_layer layer k) file bit
  restore_can_be_built =
      ready_can_be_built h world r (over_layer layer k) rr.ready.slot rr.ready.root rr.ready.words file (settled can.tree) 0 changed_there fits_there settled_tree bit (begins_among (Restores name) bit k.root file begins)

  pub restore_of_live : nameless_in can.tree ≤ h.room.dropped → (gate : Gate) (built : Built) (next : RootBody) → IsBuiltOf n (reads h.disk) Ordinary (over_layer layer k) file (Restores name) bit built next
      → IsOfLive h world r (Restores name) (work_for n k gate built next) (room_behind n built)
  restore_of_live dropped gate built next x =
      of_asked h world r (over_layer layer k) rr.ready.slot rr.ready.root rr.ready.words file (settled can.tree) 0 changed_there fits_there settled_tree gate (Restores name) bit built next x leads (omega (arith, can.drops.paid, dropped))
