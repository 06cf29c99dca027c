-- What a disk opens to, and on what that depends.
use Rattle.std.proofs.Common.{◌≡◌, inl, inr, ℕ, ◌+◌, ◌*◌, ◌/◌, ◌≤◌, Bool, true, false, cond, List, [], ◌∷◌, ◌++◌, map, flat_map, Option, Some, Contains, refl, sym, ap, subst, ◌∙◌, arith}
use Rattle.std.specs.Cmp.{nat_cmp_total}
use Rattle.std.specs.Cmp.Lexicographic.{slice_cmp, lists_total, texts_ties}
use Rattle.std.specs.Option.{option_map}
use Rattle.std.specs.Ordering.{nat_cmp}
use Rattle.std.specs.FinMap as fin
use Rattle.std.specs.FinMap.Entries.{find}
use Rattle.std.specs.Str.{bytes_eq}
use Rattle.std.proofs.lemmas.List.Elements.{Contains-append_left, Contains-append_right}
use Rattle.sn_device.specs.Sectors.{Contents, DependsOn}
use Rattle.sn_layout.specs.declared.geometry.Area.TheVariants.{Log}
use Rattle.sn_layout.specs.declared.geometry.LogHalf.{LogHalf}
use Rattle.sn_layout.specs.declared.geometry.LogHalf.TheVariants.{Zero, One}
use Rattle.sn_layout.specs.declared.geometry.Slot.{Slot}
use Rattle.sn_layout.specs.declared.root.RootBody.{RootBody}
use Rattle.sn_layout.specs.declared.snapshot.Snapshot.{Snapshot}
use Rattle.sn_layout.specs.Geometry.{IsDiskSize, end_of, half_of_epoch}
use Rattle.sn_model.specs.declared.change.Change.{Change}
use Rattle.sn_model.specs.Tree.{Tree}
use Rattle.sn_model.specs.World.{World}
use Rattle.sn_model.specs.Changes.{apply_all}
use Rattle.sn_model.specs.Chains.{◌>>=◌}
use Rattle.sn_model.specs.Settling.{settle, settled}
use Rattle.sn_model.proofs.ChainLemmas.{some_same}
use Rattle.sn_model.proofs.ListLemmas.{lists_join, covers_itself}
use Rattle.sn_model.proofs.SettlingLemmas.{dropping_kept, settle_alike}
use Rattle.sn_log.specs.Positions.{payloads_of}
use Rattle.sn_ondisk.specs.Blocks.{InBlocks}
use Rattle.sn_ondisk.specs.LogHalf.{base_of}
use Rattle.sn_ondisk.specs.OneAnswer.{IsOnDisk}
use Rattle.sn_ondisk.specs.TreeLaws.{SameIn}
use Rattle.sn_ondisk.specs.Trees.{Store, store_of}
use Rattle.sn_ondisk.proofs.BlockLemmas.{bytes_at-same}
use Rattle.sn_ondisk.proofs.OneRootLemmas.{shown_is_one}
use Rattle.sn_ondisk.proofs.PlaceLemmas.{halves_are}
use Rattle.sn_ondisk.proofs.ShownLemmas.{shown_depends}
use Rattle.sn_image.specs.Image.{image}
use Rattle.sn_image.specs.Reach.{reach}
use Rattle.sn_image.proofs.FootprintLemmas.{roots_depend}
use Rattle.sn_opening.specs.Spelled.{AreSpelled}
use Rattle.sn_opening.proofs.SpelledLemmas.{spelled_once}
use Rattle.sn_opening.specs.Worlds.{StandsFor, all_reach, frozen_entry, frozen_of, found, snapshot_named}
use Rattle.sn_opening.specs.Opens.{IsDisk, Opens, Shows, InShows}

end_within : (n : ℕ) (half : LogHalf) → IsDiskSize n → end_of n (Log half) ≤ n
end_within n Zero size = omega (arith, size.least)
end_within n One size = omega (arith, size.least)

pub half_lies : (n epoch : ℕ) (c : Contents) → IsDisk n c → IsOnDisk c (base_of n epoch)
half_lies n epoch c disk = record {
  whole = disk.whole;
  within = omega (arith, (halves_are n epoch).1, end_within n (half_of_epoch epoch) disk.size, disk.long);
}

-- one root with one list of changes stands for one world
stands_once : (s : Store) (root other : RootBody) (cs ds : List Change) (world after : World) → root ≡ other → cs ≡ ds → StandsFor s root cs world → StandsFor s other ds after → world ≡ after
stands_once s root other cs ds world after same alike a b =
    let given : apply_all root.limits cs (image s root.inode_file) ≡ apply_all other.limits ds (image s other.inode_file) = λ i. apply_all (same i).limits (alike i) (image s (same i).inode_file) in
    let trees = some_same a.tree b.tree (sym a.applied ∙ given ∙ b.applied) in
    let worlds : found a.tree (frozen_of s root.snapshots) ≡ found b.tree (frozen_of s other.snapshots) = λ i. found (trees i) (frozen_of s (same i).snapshots) in
    a.settles ∙ worlds ∙ sym b.settles

pub opens_to_one : (n : ℕ) (c : Contents) (world other : World) → IsDisk n c → Opens n c world → Opens n c other → world ≡ other
opens_to_one n c world other disk a b =
    let one = shown_is_one n c a.slot b.slot a.root b.root (payloads_of a.older) (payloads_of a.newer) (payloads_of b.older) (payloads_of b.newer)
    (half_lies n a.root.epoch c disk) (half_lies n (a.root.epoch + 1) c disk) a.shown b.shown in
    let olders = spelled_once a.older b.older a.older_spelled b.older_spelled one.olders in
    let newers = spelled_once a.newer b.newer a.newer_spelled b.newer_spelled one.newers in
    stands_once (store_of c) a.root b.root (a.older ++ a.newer) (b.older ++ b.newer) world other one.roots (λ i. olders i ++ newers i) a.stands b.stands

-- ---- what it opens to

settled_twice : (tree : Tree) → settled (settled tree) ≡ settled tree
settled_twice tree = sym (settle_alike tree (settled tree) (dropping_kept tree tree (λ _. false) (covers_itself tree)))

pub opens_to_settled : (n : ℕ) (c : Contents) (world : World) → Opens n c world → settle world ≡ world
opens_to_settled n c world o =
    let frozen = frozen_of (store_of c) o.root.snapshots in
    let twice : settle (found o.stands.tree frozen) ≡ found o.stands.tree frozen = λ i. record (found o.stands.tree frozen) { live = settled_twice o.stands.tree i } in
    ap settle o.stands.settles ∙ twice ∙ sym o.stands.settles

entry_named : (s : Store) (name : List ℕ) (snapshots : List Snapshot)
    → find (slice_cmp nat_cmp) name (map (frozen_entry s) snapshots) ≡ option_map (λ (x : Snapshot). image s x.tree) (snapshot_named name snapshots)
entry_named s name [] = refl
entry_named s name (x ∷ xs) =
    ap (λ (b : Bool). cond b (Some (image s x.tree)) (find (slice_cmp nat_cmp) name (map (frozen_entry s) xs))) (sym (texts_ties name x.name))
    ∙ told (bytes_eq name x.name) (entry_named s name xs)
  where
    told : (b : Bool) → find (slice_cmp nat_cmp) name (map (frozen_entry s) xs) ≡ option_map (λ (y : Snapshot). image s y.tree) (snapshot_named name xs)
        → cond b (Some (image s x.tree)) (find (slice_cmp nat_cmp) name (map (frozen_entry s) xs)) ≡ option_map (λ (y : Snapshot). image s y.tree) (cond b (Some x) (snapshot_named name xs))
    told true e = refl
    told false e = e

pub frozen_at : (s : Store) (snapshots : List Snapshot) (name : List ℕ) → fin.get (frozen_of s snapshots) name ≡ option_map (λ (x : Snapshot). image s x.tree) (snapshot_named name snapshots)
frozen_at s snapshots name = fin.get-from_entries (lists_total nat_cmp_total) (map (frozen_entry s) snapshots) name ∙ entry_named s name snapshots

pub snapshots_are : (n : ℕ) (c : Contents) (world : World) (o : Opens n c world) (name : List ℕ)
    → fin.get world.frozen name ≡ option_map (λ (x : Snapshot). image (store_of c) x.tree) (snapshot_named name o.root.snapshots)
snapshots_are n c world o name = ap (λ (w : World). fin.get w.frozen name) o.stands.settles ∙ frozen_at (store_of c) o.root.snapshots name

pub replayed_in_turn : (s : Store) (root : RootBody) (older newer : List Change) (middle tree : Tree)
    → apply_all root.limits older (image s root.inode_file) ≡ Some middle → apply_all root.limits newer middle ≡ Some tree
    → StandsFor s root (older ++ newer) (found tree (frozen_of s root.snapshots))
replayed_in_turn s root older newer middle tree first second = record {
  tree = tree;
  applied = lists_join root.limits older newer (image s root.inode_file) ∙ ap (λ (o : Option Tree). o >>= apply_all root.limits newer) first ∙ second;
  settles = refl;
}

-- ---- on what it depends

frozen_same : (s r : Store) (snapshots : List Snapshot) → SameIn (flat_map (λ (snapshot : Snapshot). reach s snapshot.tree) snapshots) s r
    → map (frozen_entry r) snapshots ≡ map (frozen_entry s) snapshots
frozen_same s r [] same = refl
frozen_same s r (x ∷ xs) same =
    let front = reach s x.tree in
    let more = flat_map (λ (snapshot : Snapshot). reach s snapshot.tree) xs in
    let first = (roots_depend s r x.tree (λ block among. same block (Contains-append_left front more block among))).image in
    let entry : frozen_entry r x ≡ frozen_entry s x = λ i. (x.name, first i) in
    let rest = frozen_same s r xs (λ block among. same block (Contains-append_right front more block among)) in
    λ i. entry i ∷ rest i

module _ (s r : Store) (root : RootBody) (same : SameIn (all_reach s root) s r) where
  live_same : image r root.inode_file ≡ image s root.inode_file
  live_same = (roots_depend s r root.inode_file (λ block among.
      same block (Contains-append_left (reach s root.inode_file) (flat_map (λ (snapshot : Snapshot). reach s snapshot.tree) root.snapshots) block among))).image

  snapshots_same : frozen_of r root.snapshots ≡ frozen_of s root.snapshots
  snapshots_same =
      let entries = frozen_same s r root.snapshots (λ block among.
      same block (Contains-append_right (reach s root.inode_file) (flat_map (λ (snapshot : Snapshot). reach s snapshot.tree) root.snapshots) block among)) in
      λ i. fin.from_entries (entries i)

  pub standing_depends : (changes : List Change) (world : World) → StandsFor s root changes world → StandsFor r root changes world
  standing_depends changes world x = record {
    tree = x.tree;
    applied = ap (apply_all root.limits changes) live_same ∙ x.applied;
    settles = x.settles ∙ ap (λ frozen. found x.tree frozen) (sym snapshots_same);
  }

pub shown_opens : (n : ℕ) (s : Store) (c : Contents) (slot : Slot) (root : RootBody) (older newer : List Change) (world : World)
    → AreSpelled older → AreSpelled newer → StandsFor s root (older ++ newer) world → Shows n s slot root older newer c → Opens n c world
shown_opens n s c slot root older newer world older_spelled newer_spelled stands shows = record {
  slot = slot;
  root = root;
  older = older;
  newer = newer;
  older_spelled = older_spelled;
  newer_spelled = newer_spelled;
  shown = shows.shown;
  stands = standing_depends s (store_of c) root shows.same (older ++ newer) world stands;
}

-- that blocks are as in a store depends on their sectors
pub same_depends : (blocks : List ℕ) (s : Store) → DependsOn (InBlocks blocks) (λ c. SameIn blocks s (store_of c))
same_depends blocks s c d whole_c whole_d agrees same block among =
    bytes_at-same c d (8 * block) 8 (λ i from to. agrees.same i (let of_block : block ≡ i / 8 = omega (arith, from, to) in subst (Contains blocks) of_block among)) ∙ same block among

pub shows_depends : (n : ℕ) (s : Store) (slot : Slot) (root : RootBody) (older newer : List Change) → DependsOn (InShows n s root) (Shows n s slot root older newer)
shows_depends n s slot root older newer c d whole_c whole_d agrees shows = record {
  shown = shown_depends n c d slot root (payloads_of older) (payloads_of newer) (record { count = agrees.count; same = λ i is_in. agrees.same i (inl is_in) }) shows.shown;
  same = same_depends (all_reach s root) s c d whole_c whole_d (record { count = agrees.count; same = λ i is_in. agrees.same i (inr is_in) }) shows.same;
}
