-- What is planned for a point.
use Rattle.std.proofs.Common.{◌≡◌, ℕ, ◌*◌, ◌≤◌, List, Option, Contains, Result, Err, sym, ap, subst, ◌∙◌, arith}
use Rattle.sn_alloc.specs.Taking.{free_data}
use Rattle.sn_image.specs.Reach.{reach}
use Rattle.sn_layout.specs.declared.geometry.Area.TheVariants.{Data}
use Rattle.sn_layout.specs.declared.root.RootBody.{RootBody}
use Rattle.sn_layout.specs.declared.snapshot.Snapshot.{Snapshot}
use Rattle.sn_layout.specs.declared.tree.BlockTree.{BlockTree}
use Rattle.sn_layout.specs.Geometry.{start_of}
use Rattle.sn_layout.specs.RootBody.{IsRootBody}
use Rattle.sn_layout.specs.Snapshot.{with_snapshot}
use Rattle.sn_limits.specs.Versions.{limits_written}
use Rattle.sn_model.specs.declared.outcome.AskedPoint.{AskedPoint}
use Rattle.sn_model.specs.declared.outcome.AskedPoint.TheVariants.{Unasked, Plain, Freezes, Thaws, Restores}
use Rattle.sn_ondisk.specs.Trees.{Store}
use Rattle.sn_overlay.specs.Layers.{Layer}
use Rattle.sn_overlay.specs.Needs.{need}
use Rattle.sn_root.specs.Following.{following}
use Rattle.sn_root.specs.declared.following.PointKind.{PointKind}
use Rattle.sn_root.specs.declared.following.PointKind.TheVariants.{Ordinary, Recovery}
use Rattle.sn_snap.specs.Catalogue.{others_than}
use Rattle.sn_snap.specs.Laws.{IsNew}
use Rattle.sn_tree.specs.declared.fault.PlanFault.{PlanFault}
use Rattle.sn_tree.specs.declared.fault.PlanFault.TheVariants as plan
use Rattle.sn_tree_read.specs.declared.fault.TreeFault.TheVariants as tree
use Rattle.sn_block.specs.declared.fault.ReadFault.TheVariants as read
use Rattle.sn_held.specs.Held.{Kept}
use Rattle.sn_cp_nodes.specs.Built.{IsGround}
use Rattle.sn_cp_build.specs.Bits.{TellsBit}
use Rattle.sn_cp_build.specs.Building.{Builds, IsWellBuilt}
use Rattle.sn_cp_build.specs.Edits.{base_bit}
use Rattle.sn_cp_build.specs.declared.building.Built.{Built}
use Rattle.sn_cp_build.specs.declared.edits.SnapshotEdit.{SnapshotEdit}
use Rattle.sn_cp_held.specs.Builds.{CanBeBuiltOver, LeavesAge}
use Rattle.sn_cp_held.specs.Snapshots.{FollowsBy, new_snapshot}
use Rattle.sn_cp_whole.specs.Asking.{IsStartFor, bit_in}
use Rattle.sn_cp_whole.specs.Planning.{CanBeBuiltFor, IsPlanned, point_fault_of}
use Rattle.sn_cp_whole.specs.declared.fault.PointFault.TheVariants as fault

-- of a root only the snapshots matter to those that follow
follows_alike : (asked : AskedPoint) (bit : ℕ) (root other next : RootBody) → other.snapshots ≡ root.snapshots → FollowsBy asked bit other next → FollowsBy asked bit root next
follows_alike Unasked bit root other next same is = is ∙ same
follows_alike Plain bit root other next same is = is ∙ same
follows_alike (Freezes name) bit root other next same is = record {
  new = subst (IsNew (new_snapshot name bit next)) same is.new;
  snapshots = is.snapshots ∙ ap (with_snapshot (new_snapshot name bit next)) same;
}
follows_alike (Thaws name) bit root other next same is = record {
  snapshot = is.snapshot;
  among = subst (λ (xs : List Snapshot). Contains xs is.snapshot) same is.among;
  name_is = is.name_is;
  bit_is = is.bit_is;
  snapshots = is.snapshots ∙ ap (others_than name) same;
}
follows_alike (Restores name) bit root other next same is = is ∙ same

-- and only its generation and epoch to the age that it leaves
age_alike : (kind : PointKind) (root other : RootBody) → other.generation ≡ root.generation → other.epoch ≡ root.epoch → LeavesAge kind root → LeavesAge kind other
age_alike Ordinary root other generation epoch left = record { generation = omega (arith, left.generation, generation); epoch = omega (arith, left.epoch, epoch) }
age_alike Recovery root other generation epoch left = tt

module _ (n : ℕ) (s : Store) (k : Kept) (asked : AskedPoint) (edit : SnapshotEdit) (file : BlockTree) (copy : Layer) (start : IsStartFor asked k.root edit file) (copied : copy ≡ k.changed) where
  -- what is built, and the root that follows with it
  pub is_planned : {Told : Type 0} (kind : PointKind) (bit : ℕ) (built : Built) (first next last : RootBody) → bit ≡ bit_in edit → first ≡ following kind limits_written k.root → next ≡ record first { inode_file = built.inode_file } → last ≡ record next { snapshots = last.snapshots }
      → FollowsBy asked bit next last → IsRootBody last → LeavesAge kind first → IsWellBuilt n k.root.limits k.words copy edit built → (Told → Builds n k.root.limits s file (base_bit edit) k.words copy built) → IsPlanned Told n s kind k asked built last
  is_planned {Told} kind bit built first next last in_bit is_first is_next is_last follows body age well builds = record {
    bit = bit_in edit;
    file = file;
    begins = start.begins;
    follows = record {
      is = is_last ∙ (λ i. record (is_next i) { snapshots = last.snapshots }) ∙ (λ i. record (is_first i) { inode_file = built.inode_file; snapshots = last.snapshots });
      snapshots = subst (λ (b : ℕ). FollowsBy asked b k.root last) in_bit (follows_alike asked bit k.root next last (ap (λ (r : RootBody). r.snapshots) is_next ∙ ap (λ (r : RootBody). r.snapshots) is_first) follows);
      body = body;
      age = age_alike kind first last (ap (λ (r : RootBody). r.generation) (is_last ∙ (λ i. record (is_next i) { snapshots = last.snapshots }))) (ap (λ (r : RootBody). r.epoch) (is_last ∙ (λ i. record (is_next i) { snapshots = last.snapshots }))) age;
    };
    well = subst (λ (e : SnapshotEdit). IsWellBuilt n k.root.limits k.words k.changed e built) start.is (subst (λ (l : Layer). IsWellBuilt n k.root.limits k.words l edit built) copied well);
    builds = λ told. subst (λ (e : SnapshotEdit). Builds n k.root.limits s file (base_bit e) k.words k.changed built) start.is (subst (λ (l : Layer). Builds n k.root.limits s file (base_bit edit) k.words l built) copied (builds told));
  }

  -- none is damaged where what is asked for can be built
  pub never_damaged : {sectors : ℕ} {T : Type 0} (result : Result T PlanFault) (f : PlanFault) → result ≡ Err f → point_fault_of f ≡ fault.Damaged → 8 * n ≤ sectors → CanBeBuiltFor n s k asked
      → (result ≡ Err plan.Full → IsGround k.root.limits n s file copy → need k.root.limits copy ≤ free_data k.words (start_of n Data) → ⊥)
      → ((block : Option ℕ) → result ≡ Err (plan.Tree (tree.Damaged block)) → IsGround k.root.limits n s file copy → TellsBit (base_bit edit) k.words (reach s file) → 8 * n ≤ sectors → ⊥) → ⊥
  never_damaged {sectors} {T} result f is damages long can full damaged = told f is damages
    where
      here : CanBeBuiltOver n s k file (base_bit edit)
      here = subst (λ (e : SnapshotEdit). CanBeBuiltOver n s k file (base_bit e)) (sym start.is) (can (bit_in edit) file start.begins)

      ground : IsGround k.root.limits n s file copy
      ground = subst (IsGround k.root.limits n s file) (sym copied) here.ground

      told : (g : PlanFault) → result ≡ Err g → point_fault_of g ≡ fault.Damaged → ⊥
      told plan.Memory e same = absurd cc
      told plan.Full e same = full e ground (subst (λ (l : Layer). need k.root.limits l ≤ free_data k.words (start_of n Data)) (sym copied) here.fits)
      told (plan.Tree (tree.Damaged block)) e same = damaged block e ground here.tells long
      told (plan.Tree (tree.Read read.Memory)) e same = absurd cc
      told (plan.Tree (tree.Read read.Device)) e same = absurd cc
