-- The trees of a root.
use Rattle.std.proofs.Common.{◌≡◌, ℕ, suc, Bool, true, false, cond, if◌then◌else◌, List, [], ◌∷◌, map, Option, Some, None, is_some, refl, sym, ap, subst, ◌∙◌, arith}
use Rattle.std.specs.Prelude.{All}
use Rattle.std.specs.Cmp.{nat_cmp_total}
use Rattle.std.specs.Cmp.Lexicographic.{slice_cmp, lists_total, texts_ties}
use Rattle.std.specs.FinMap as fin
use Rattle.std.specs.FinMap.Entries.{find}
use Rattle.std.specs.Option.{option_map}
use Rattle.std.specs.Ordering.{nat_cmp}
use Rattle.std.specs.Str.{bytes_eq}
use Rattle.sn_layout.specs.declared.root.RootBody.{RootBody}
use Rattle.sn_layout.specs.declared.snapshot.Snapshot.{Snapshot}
use Rattle.sn_layout.specs.declared.tree.BlockTree.{BlockTree}
use Rattle.sn_model.specs.World.{tree_in}
use Rattle.sn_ondisk.specs.Trees.{Store}
use Rattle.sn_image.specs.Image.{image}
use Rattle.sn_walk.specs.declared.object.Home.{Home}
use Rattle.sn_walk.specs.declared.object.Home.TheVariants.{Live, Frozen}
use Rattle.sn_rooted.specs.Roots.{AreSound, IsSoundRoot, file_in, frozen_entry, snapshot_named, trees_at}

entry_named : (s : Store) (name : List ℕ) (snapshots : List Snapshot) → find (slice_cmp nat_cmp) name (map (frozen_entry s) snapshots) ≡ option_map (λ (x : Snapshot). image s x.tree) (snapshot_named name snapshots)
entry_named s name [] = refl
entry_named s name (x ∷ xs) =
    ap (λ (b : Bool). cond b (Some (image s x.tree)) (find (slice_cmp nat_cmp) name (map (frozen_entry s) xs))) (sym (texts_ties name x.name))
    ∙ told (bytes_eq name x.name) (entry_named s name xs)
  where
    told : (b : Bool) → find (slice_cmp nat_cmp) name (map (frozen_entry s) xs) ≡ option_map (λ (y : Snapshot). image s y.tree) (snapshot_named name xs)
        → cond b (Some (image s x.tree)) (find (slice_cmp nat_cmp) name (map (frozen_entry s) xs)) ≡ option_map (λ (y : Snapshot). image s y.tree) (cond b (Some x) (snapshot_named name xs))
    told true e = refl
    told false e = e

module _ (s : Store) (root : RootBody) where
  frozen_at : (name : List ℕ) → fin.get (trees_at s root).frozen name ≡ option_map (λ (x : Snapshot). image s x.tree) (snapshot_named name root.snapshots)
  frozen_at name = fin.get-from_entries (lists_total nat_cmp_total) (map (frozen_entry s) root.snapshots) name ∙ entry_named s name root.snapshots

  -- a snapshot has its tree
  pub has_named : (name : List ℕ) → is_some (option_map (λ (x : Snapshot). x.tree) (snapshot_named name root.snapshots)) ≡ fin.contains_key (trees_at s root).frozen name
  has_named name = told (snapshot_named name root.snapshots) ∙ sym (ap is_some (frozen_at name))
    where
      told : (o : Option Snapshot) → is_some (option_map (λ (x : Snapshot). x.tree) o) ≡ is_some (option_map (λ (x : Snapshot). image s x.tree) o)
      told None = refl
      told (Some x) = refl

  home_tree : (home : Home) → tree_in (trees_at s root) home ≡ option_map (image s) (file_in root home)
  home_tree Live = refl
  home_tree (Frozen name) = frozen_at name ∙ told (snapshot_named name root.snapshots)
    where
      told : (o : Option Snapshot) → option_map (λ (x : Snapshot). image s x.tree) o ≡ option_map (image s) (option_map (λ (x : Snapshot). x.tree) o)
      told None = refl
      told (Some x) = refl

  pub tree_of_file : (home : Home) (file : BlockTree) → file_in root home ≡ Some file → tree_in (trees_at s root) home ≡ Some (image s file)
  tree_of_file home file is = home_tree home ∙ ap (option_map (image s)) is

  pub no_tree : (home : Home) → file_in root home ≡ None → tree_in (trees_at s root) home ≡ None
  no_tree home none = home_tree home ∙ ap (option_map (image s)) none

-- the tree of a home is sound
pub home_sound : (sectors : ℕ) (s : Store) (root : RootBody) (home : Home) (file : BlockTree) → AreSound sectors s root → file_in root home ≡ Some file → IsSoundRoot root.limits sectors s file
home_sound sectors s root Live file sound is = let same : root.inode_file ≡ file = cc in subst (IsSoundRoot root.limits sectors s) same sound.live
home_sound sectors s root (Frozen name) file sound is = told root.snapshots sound.frozen is
  where
    told : (xs : List Snapshot) → All (λ (x : Snapshot). IsSoundRoot root.limits sectors s x.tree) xs → option_map (λ (x : Snapshot). x.tree) (snapshot_named name xs) ≡ Some file → IsSoundRoot root.limits sectors s file
    told [] each e = absurd cc
    told (x ∷ xs) each e = by_name (bytes_eq name x.name) e (told xs (λ k d below. each (suc k) d (omega (arith, below))))
      where
        by_name : (b : Bool) → option_map (λ (y : Snapshot). y.tree) (if b then Some x else snapshot_named name xs) ≡ Some file
            → (option_map (λ (y : Snapshot). y.tree) (snapshot_named name xs) ≡ Some file → IsSoundRoot root.limits sectors s file) → IsSoundRoot root.limits sectors s file
        by_name true found later = let same : x.tree ≡ file = cc in subst (IsSoundRoot root.limits sectors s) same (each 0 x (omega arith))
        by_name false found later = later found
