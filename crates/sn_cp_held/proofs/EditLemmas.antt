-- What a point that is asked for makes of the snapshots of a root: of each bit, its root and what the words of the map
-- say of it, and of the trees that they denote.
use Rattle.std.proofs.Common.{◌≡◌, ◌≢◌, ◌⊎◌, inl, inr, ⊎_elim, ◌↔◌, ℕ, zero, suc, ◌<◌, ◌==◌, nat_le, nat_lt, true, false, not, ◌&&◌, List, [], ◌∷◌, length, map, slice_index, Contains, refl, sym, ap, subst, ◌∙◌, arith}
use Rattle.std.specs.FinMap as fin
use Rattle.std.specs.Int.{bit_at}
use Rattle.std.specs.Str.{bytes_eq}
use Rattle.std.proofs.lemmas.Bool.{and_parts, cases_eq, cond_both, eqb-false, false_from_ne_true, false≢true, ltb-true, not-false, not-true}
use Rattle.std.proofs.lemmas.List.Folds.{list_any_at}
use Rattle.sn_layout.specs.declared.root.RootBody.{RootBody}
use Rattle.sn_layout.specs.declared.snapshot.Snapshot.{Snapshot}
use Rattle.sn_layout.specs.declared.tree.BlockTree.{BlockTree}
use Rattle.sn_layout.specs.RootBody.{IsRootBody}
use Rattle.sn_layout.specs.Snapshot.{are_distinct, are_rising, are_within, has_no_bit, with_snapshot}
use Rattle.sn_model.specs.declared.outcome.AskedPoint.{AskedPoint}
use Rattle.sn_model.specs.declared.outcome.AskedPoint.TheVariants.{Unasked, Plain, Freezes, Thaws, Restores}
use Rattle.sn_model.specs.Tree.{Tree}
use Rattle.sn_model.specs.World.{Trees}
use Rattle.sn_image.specs.Image.{image}
use Rattle.sn_ondisk.specs.TreeLaws.{SameIn}
use Rattle.sn_ondisk.specs.Trees.{Store}
use Rattle.sn_opening.specs.Worlds.{FrozenTrees, all_reach, frozen_of}
use Rattle.sn_snap.specs.Catalogue.{IsCatalogue, entry_of, others_than}
use Rattle.sn_snap.proofs.NameLemmas.{absent, by_name-others, by_name-with, has_name, itself, same_bytes}
use Rattle.sn_sound.specs.Maps.{Rooted, frozen_root, rooted_in}
use Rattle.sn_sound.proofs.StandingLemmas.{first_among, more_among}
use Rattle.sn_tree.proofs.ListLemmas.{mapped_there}
use Rattle.sn_cp.proofs.NextLemmas.{frozen_stay}
use Rattle.sn_cp_build.specs.Edits as edits
use Rattle.sn_cp_build.specs.Edits.{base_bit}
use Rattle.sn_cp_held.specs.Snapshots.{BeginsFrom, FollowsBy, HasOneLess, HasOneMore, edit_for, frozen_behind, live_behind, new_snapshot, trees_behind, trees_built}

-- ---- one in front of a list

pub first_or_more : {A : Type 0} (x : A) (xs : List A) (y : A) → Contains (x ∷ xs) y → (y ≡ x) ⊎ Contains xs y
first_or_more x xs y (zero, within, is) = inl (sym is)
first_or_more x xs y (suc k, within, is) = inr (k, omega (arith, within), is)

either_among : {A : Type 0} (x : A) (xs : List A) (y : A) → (y ≡ x) ⊎ Contains xs y → Contains (x ∷ xs) y
either_among x xs y (inl is) = subst (Contains (x ∷ xs)) (sym is) (first_among x xs)
either_among x xs y (inr more) = more_among x xs y more

-- ---- snapshots by their roots

-- a snapshot with this bit has this inode file
abbrev pub HasRoot : List Snapshot → ℕ → BlockTree → Type 0
HasRoot snapshots k inodes = Contains (map frozen_root snapshots) (record { bit = k; inodes = inodes })

-- the snapshot with a root
record OfRoot (snapshots : List Snapshot) (k : Rooted) : Type 0 where
  snapshot : Snapshot
  among : Contains snapshots snapshot
  root : frozen_root snapshot ≡ k

of_root : (snapshots : List Snapshot) (k : Rooted) → Contains (map frozen_root snapshots) k → OfRoot snapshots k
of_root [] k (i, within, is) = absurd (omega (arith, within))
of_root (x ∷ xs) k among = ⊎_elim
    (λ (here : k ≡ frozen_root x). record { snapshot = x; among = first_among x xs; root = sym here })
    (λ more. let of = of_root xs k more in record { snapshot = of.snapshot; among = more_among x xs of.snapshot of.among; root = of.root })
    (first_or_more (frozen_root x) (map frozen_root xs) k among)

root_among : (snapshots : List Snapshot) (x : Snapshot) → Contains snapshots x → Contains (map frozen_root snapshots) (frozen_root x)
root_among snapshots x (i, within, is) = mapped_there frozen_root snapshots i x within (sym is)

-- the snapshots of a root body
pub catalogue_of : {body : RootBody} → IsRootBody body → IsCatalogue body.snapshots
catalogue_of {body} is =
    let few = nat_le (length body.snapshots) body.limits.snapshots in
    let rising = are_rising 0 body.snapshots in
    let within = are_within body.limits.largest_bit body.snapshots in
    let last = and_parts (few && rising && within) (are_distinct body.snapshots) is.snapshots.held in
    record { rising = (and_parts few rising (and_parts (few && rising) within last.0).0).1; distinct = last.1 }

pub rises_above : (before : ℕ) (snapshots : List Snapshot) → are_rising before snapshots ≡ true → (k : Rooted) → Contains (map frozen_root snapshots) k → before < k.bit
rises_above before [] rises k (i, within, is) = absurd (omega (arith, within))
rises_above before (x ∷ xs) rises k among =
    let parts = and_parts (nat_lt before x.bit) (are_rising x.bit xs) rises in
    let first = ltb-true before x.bit parts.0 in
    ⊎_elim
    (λ (here : k ≡ frozen_root x). omega (arith, first, ap (λ (y : Rooted). y.bit) here))
    (λ more. let above = rises_above x.bit xs parts.1 k more in omega (arith, first, above))
    (first_or_more (frozen_root x) (map frozen_root xs) k among)

-- a bit is one snapshot's, where bits rise
one_of_bit : (before : ℕ) (snapshots : List Snapshot) → are_rising before snapshots ≡ true → (x y : Snapshot) → Contains snapshots x → Contains snapshots y → x.bit ≡ y.bit → x ≡ y
one_of_bit before [] rises x y (i, within, is) has_y same = absurd (omega (arith, within))
one_of_bit before (z ∷ zs) rises x y has_x has_y same = told (first_or_more z zs x has_x) (first_or_more z zs y has_y) (λ more also. one_of_bit z.bit zs later x y more also same)
  where
    later : are_rising z.bit zs ≡ true
    later = (and_parts (nat_lt before z.bit) (are_rising z.bit zs) rises).1

    above : (w : Snapshot) → Contains zs w → z.bit < w.bit
    above w among = rises_above z.bit zs later (frozen_root w) (root_among zs w among)

    told : (x ≡ z) ⊎ Contains zs x → (y ≡ z) ⊎ Contains zs y → (Contains zs x → Contains zs y → x ≡ y) → x ≡ y
    told (inl first) (inl also) rest = first ∙ sym also
    told (inl first) (inr more) rest = absurd (omega (arith, above y more, same, ap (λ (w : Snapshot). w.bit) first))
    told (inr more) (inl first) rest = absurd (omega (arith, above x more, same, ap (λ (w : Snapshot). w.bit) first))
    told (inr more) (inr also) rest = rest more also

-- of all roots of a root body a bit is one's
pub one_root : (root : RootBody) → IsRootBody root → (x y : Rooted) → Contains (rooted_in root) x → Contains (rooted_in root) y → x.bit ≡ y.bit → x ≡ y
one_root root body x y has_x has_y same = told (first_or_more (record { bit = 0; inodes = root.inode_file }) (map frozen_root root.snapshots) x has_x) (first_or_more (record { bit = 0; inodes = root.inode_file }) (map frozen_root root.snapshots) y has_y)
  where
    above : (w : Rooted) → Contains (map frozen_root root.snapshots) w → 0 < w.bit
    above w among = rises_above 0 root.snapshots (catalogue_of body).rising w among

    both : Contains (map frozen_root root.snapshots) x → Contains (map frozen_root root.snapshots) y → x ≡ y
    both in_x in_y =
        let of_x = of_root root.snapshots x in_x in
        let of_y = of_root root.snapshots y in_y in
        let bits = ap (λ (w : Rooted). w.bit) of_x.root ∙ same ∙ ap (λ (w : Rooted). w.bit) (sym of_y.root) in
        sym of_x.root ∙ ap frozen_root (one_of_bit 0 root.snapshots (catalogue_of body).rising of_x.snapshot of_y.snapshot of_x.among of_y.among bits) ∙ of_y.root

    told : (x ≡ record { bit = 0; inodes = root.inode_file }) ⊎ Contains (map frozen_root root.snapshots) x → (y ≡ record { bit = 0; inodes = root.inode_file }) ⊎ Contains (map frozen_root root.snapshots) y → x ≡ y
    told (inl is) (inl also) = is ∙ sym also
    told (inl is) (inr more) = absurd (omega (arith, above y more, same, ap (λ (w : Rooted). w.bit) is))
    told (inr more) (inl is) = absurd (omega (arith, above x more, same, ap (λ (w : Rooted). w.bit) is))
    told (inr more) (inr also) = both more also

named_among : (name : List ℕ) (snapshots : List Snapshot) (x : Snapshot) → Contains snapshots x → name ≡ x.name → has_name name snapshots ≡ true
named_among name snapshots x (i, within, is) named =
    list_any_at (λ (other : Snapshot). bytes_eq name other.name) snapshots i x within (ap (λ (y : Snapshot). bytes_eq name y.name) is ∙ ap (bytes_eq name) (sym named) ∙ itself name)

-- a name is one snapshot's, where no two have one
pub one_of_name : (snapshots : List Snapshot) → are_distinct snapshots ≡ true → (x y : Snapshot) → Contains snapshots x → Contains snapshots y → x.name ≡ y.name → x ≡ y
one_of_name [] distinct x y (i, within, is) has_y same = absurd (omega (arith, within))
one_of_name (z ∷ zs) distinct x y has_x has_y same = told (first_or_more z zs x has_x) (first_or_more z zs y has_y) (λ more also. one_of_name zs later x y more also same)
  where
    later : are_distinct zs ≡ true
    later = (and_parts (not (has_name z.name zs)) (are_distinct zs) distinct).1

    others : (w : Snapshot) → Contains zs w → z.name ≡ w.name → ⊥
    others w among named = false≢true (sym (not-true (has_name z.name zs) (and_parts (not (has_name z.name zs)) (are_distinct zs) distinct).0) ∙ named_among z.name zs w among named)

    told : (x ≡ z) ⊎ Contains zs x → (y ≡ z) ⊎ Contains zs y → (Contains zs x → Contains zs y → x ≡ y) → x ≡ y
    told (inl first) (inl also) rest = first ∙ sym also
    told (inl first) (inr more) rest = absurd (others y more (ap (λ (w : Snapshot). w.name) (sym first) ∙ same))
    told (inr more) (inl first) rest = absurd (others x more (ap (λ (w : Snapshot). w.name) (sym first) ∙ sym same))
    told (inr more) (inr also) rest = rest more also

-- ---- one more

no_root : (bit : ℕ) (snapshots : List Snapshot) → has_no_bit bit snapshots ≡ true → (k : Rooted) → Contains (map frozen_root snapshots) k → k.bit ≢ bit
no_root bit [] none k (i, within, at) is = omega (arith, within)
no_root bit (x ∷ xs) none k among is =
    let parts = and_parts (not (x.bit == bit)) (has_no_bit bit xs) none in
    ⊎_elim
    (λ (here : k ≡ frozen_root x). eqb-false x.bit bit (not-true (x.bit == bit) parts.0) (ap (λ (y : Rooted). y.bit) (sym here) ∙ is))
    (λ more. no_root bit xs parts.1 k more is)
    (first_or_more (frozen_root x) (map frozen_root xs) k among)

module _ (new : Snapshot) where
  with_only : (xs : List Snapshot) (k : Rooted) → Contains (map frozen_root (with_snapshot new xs)) k → (k ≡ frozen_root new) ⊎ Contains (map frozen_root xs) k
  with_only [] k among = first_or_more (frozen_root new) [] k among
  with_only (x ∷ xs) k among =
      cond_both (nat_le x.bit new.bit) (x ∷ with_snapshot new xs) (new ∷ x ∷ xs) (λ l. Contains (map frozen_root l) k → (k ≡ frozen_root new) ⊎ Contains (map frozen_root (x ∷ xs)) k)
      (λ _ there. ⊎_elim
      (λ (here : k ≡ frozen_root x). inr (either_among (frozen_root x) (map frozen_root xs) k (inl here)))
      (λ later. ⊎_elim (λ (is : k ≡ frozen_root new). inl is) (λ more. inr (more_among (frozen_root x) (map frozen_root xs) k more)) (with_only xs k later))
      (first_or_more (frozen_root x) (map frozen_root (with_snapshot new xs)) k there))
      (λ _ there. first_or_more (frozen_root new) (map frozen_root (x ∷ xs)) k there)
      among

  with_each : (xs : List Snapshot) (k : Rooted) → (k ≡ frozen_root new) ⊎ Contains (map frozen_root xs) k → Contains (map frozen_root (with_snapshot new xs)) k
  with_each [] k either = either_among (frozen_root new) [] k either
  with_each (x ∷ xs) k either =
      cond_both (nat_le x.bit new.bit) (x ∷ with_snapshot new xs) (new ∷ x ∷ xs) (λ l. Contains (map frozen_root l) k)
      (λ _. either_among (frozen_root x) (map frozen_root (with_snapshot new xs)) k (⊎_elim
      (λ (is : k ≡ frozen_root new). inr (with_each xs k (inl is)))
      (λ old. ⊎_elim (λ (here : k ≡ frozen_root x). inl here) (λ more. inr (with_each xs k (inr more))) (first_or_more (frozen_root x) (map frozen_root xs) k old))
      either))
      (λ _. either_among (frozen_root new) (map frozen_root (x ∷ xs)) k either)

-- ---- one less

module _ (name : List ℕ) where
  others_only : (xs : List Snapshot) (x : Snapshot) → Contains (others_than name xs) x → Contains xs x × (bytes_eq name x.name ≡ false)
  others_only [] x (i, within, is) = absurd (omega (arith, within))
  others_only (y ∷ ys) x among =
      cond_both (not (bytes_eq name y.name)) (y ∷ others_than name ys) (others_than name ys) (λ l. Contains l x → Contains (y ∷ ys) x × (bytes_eq name x.name ≡ false))
      (λ kept there. ⊎_elim
      (λ (here : x ≡ y). (either_among y ys x (inl here), ap (λ (z : Snapshot). bytes_eq name z.name) here ∙ not-true (bytes_eq name y.name) kept))
      (λ more. let rest = others_only ys x more in (more_among y ys x rest.0, rest.1))
      (first_or_more y (others_than name ys) x there))
      (λ _ there. let rest = others_only ys x there in (more_among y ys x rest.0, rest.1))
      among

  others_each : (xs : List Snapshot) (x : Snapshot) → Contains xs x → bytes_eq name x.name ≡ false → Contains (others_than name xs) x
  others_each [] x (i, within, is) other = absurd (omega (arith, within))
  others_each (y ∷ ys) x among other =
      let at = first_or_more y ys x among in
      cond_both (not (bytes_eq name y.name)) (y ∷ others_than name ys) (others_than name ys) (λ l. Contains l x)
      (λ _. either_among y (others_than name ys) x (⊎_elim (λ (here : x ≡ y). inl here) (λ more. inr (others_each ys x more other)) at))
      (λ gone. ⊎_elim
      (λ (here : x ≡ y). absurd (false≢true (sym other ∙ ap (λ (z : Snapshot). bytes_eq name z.name) here ∙ not-false (bytes_eq name y.name) gone)))
      (λ more. others_each ys x more other)
      at)

-- with the one that is deleted, whose name and bit no other has
module _ (root next : RootBody) (name : List ℕ) (bit : ℕ) (is : IsCatalogue root.snapshots) (less : HasOneLess name bit root next) (k : ℕ) where
  -- a snapshot that is left has another name
  record IsLeft (inodes : BlockTree) : Type 0 where
    snapshot : Snapshot
    among : Contains root.snapshots snapshot
    other : bytes_eq name snapshot.name ≡ false
    root_is : frozen_root snapshot ≡ record { bit = k; inodes = inodes }

  left : (inodes : BlockTree) → HasRoot next.snapshots k inodes → IsLeft inodes
  left inodes among =
      let of = of_root (others_than name root.snapshots) (record { bit = k; inodes = inodes }) (subst (λ (xs : List Snapshot). HasRoot xs k inodes) less.snapshots among) in
      let old = others_only name root.snapshots of.snapshot of.among in
      record { snapshot = of.snapshot; among = old.0; other = old.1; root_is = of.root }

  of_left : (inodes : BlockTree) → IsLeft inodes → HasRoot root.snapshots k inodes
  of_left inodes l = subst (Contains (map frozen_root root.snapshots)) l.root_is (root_among root.snapshots l.snapshot l.among)

  none_left : k ≡ bit → (inodes : BlockTree) → ¬ HasRoot next.snapshots k inodes
  none_left same inodes among =
      let l = left inodes among in
      let one = one_of_bit 0 root.snapshots is.rising l.snapshot less.snapshot l.among less.among (ap (λ (y : Rooted). y.bit) l.root_is ∙ same ∙ sym less.bit_is) in
      false≢true (sym l.other ∙ ap (λ (x : Snapshot). bytes_eq name x.name) one ∙ ap (bytes_eq name) less.name_is ∙ itself name)

  is_left : k ≢ bit → (inodes : BlockTree) → HasRoot root.snapshots k inodes → HasRoot next.snapshots k inodes
  is_left apart inodes among =
      let of = of_root root.snapshots (record { bit = k; inodes = inodes }) among in
      let other : bytes_eq name of.snapshot.name ≡ false = false_from_ne_true (bytes_eq name of.snapshot.name) (λ named.
      let one = one_of_name root.snapshots is.distinct of.snapshot less.snapshot of.among less.among (sym (same_bytes name of.snapshot.name named) ∙ sym less.name_is) in
      apart (ap (λ (y : Rooted). y.bit) (sym of.root) ∙ ap (λ (x : Snapshot). x.bit) one ∙ less.bit_is)) in
      subst (λ (xs : List Snapshot). HasRoot xs k inodes) (sym less.snapshots)
      (subst (Contains (map frozen_root (others_than name root.snapshots))) of.root (root_among (others_than name root.snapshots) of.snapshot (others_each name root.snapshots of.snapshot of.among other)))

-- ---- what becomes of a bit

-- The snapshot that has it stays, and the words say of it what they said.
pub record BitStays (words new : List ℕ) (root next : RootBody) (k : ℕ) : Type 0 where
  pub told : (block : ℕ) → bit_at (slice_index new block) k ≡ bit_at (slice_index words block) k
  pub roots : (inodes : BlockTree) → HasRoot next.snapshots k inodes ↔ HasRoot root.snapshots k inodes

-- It is that of a new snapshot, which has the inode file that follows, and the words say of it what they say of the live tree.
pub record BitIsMade (new : List ℕ) (next : RootBody) (k : ℕ) : Type 0 where
  pub told : (block : ℕ) → bit_at (slice_index new block) k ≡ bit_at (slice_index new block) 0
  pub among : HasRoot next.snapshots k next.inode_file
  pub alone : (inodes : BlockTree) → HasRoot next.snapshots k inodes → inodes ≡ next.inode_file

-- No snapshot has it, and it is in no word.
pub record BitGoes (new : List ℕ) (next : RootBody) (k : ℕ) : Type 0 where
  pub told : (block : ℕ) → bit_at (slice_index new block) k ≡ 0
  pub none : (inodes : BlockTree) → ¬ HasRoot next.snapshots k inodes

abbrev pub Becomes : List ℕ → List ℕ → RootBody → RootBody → ℕ → Type 0
Becomes words new root next k = BitStays words new root next k ⊎ (BitIsMade new next k ⊎ BitGoes new next k)

module _ (words new : List ℕ) (root next : RootBody) (k : ℕ) (other : k ≢ 0) where
  with_none : next.snapshots ≡ root.snapshots → edits.SnapshotsStay words new → Becomes words new root next k
  with_none same stay = inl (record {
    told = λ block. stay.others block k other;
    roots = λ inodes. (subst (λ (xs : List Snapshot). HasRoot xs k inodes) same, subst (λ (xs : List Snapshot). HasRoot xs k inodes) (sym same));
  })

  with_one : (name : List ℕ) (bit : ℕ) → HasOneMore name bit root next → edits.Freezes bit words new → Becomes words new root next k
  with_one name bit more freezes = told (cases_eq k bit)
    where
      one : Snapshot
      one = new_snapshot name bit next

      only : (j : ℕ) (inodes : BlockTree) → HasRoot next.snapshots j inodes → (record { bit = j; inodes = inodes } ≡ frozen_root one) ⊎ HasRoot root.snapshots j inodes
      only j inodes among = with_only one root.snapshots (record { bit = j; inodes = inodes }) (subst (λ (xs : List Snapshot). HasRoot xs j inodes) more.snapshots among)

      each : (j : ℕ) (inodes : BlockTree) → (record { bit = j; inodes = inodes } ≡ frozen_root one) ⊎ HasRoot root.snapshots j inodes → HasRoot next.snapshots j inodes
      each j inodes either = subst (λ (xs : List Snapshot). HasRoot xs j inodes) (sym more.snapshots) (with_each one root.snapshots (record { bit = j; inodes = inodes }) either)

      made : BitIsMade new next bit
      made = record {
        told = freezes.frozen;
        among = each bit next.inode_file (inl refl);
        alone = λ inodes among. ⊎_elim
            (λ (is : record { bit = bit; inodes = inodes } ≡ frozen_root one). ap (λ (y : Rooted). y.inodes) is)
            (λ old. absurd (no_root bit root.snapshots more.new.bit (record { bit = bit; inodes = inodes }) old refl))
            (only bit inodes among);
      }

      told : (k ≡ bit) ⊎ (k ≢ bit) → Becomes words new root next k
      told (inl same) = inr (inl (subst (BitIsMade new next) (sym same) made))
      told (inr apart) = inl (record {
        told = λ block. freezes.others block k other apart;
        roots = λ inodes. (
          λ among. ⊎_elim
              (λ (is : record { bit = k; inodes = inodes } ≡ frozen_root one). absurd (apart (ap (λ (y : Rooted). y.bit) is)))
              (λ old. old)
              (only k inodes among),
          λ among. each k inodes (inr among),
        );
      })

  without_one : (name : List ℕ) (bit : ℕ) → IsCatalogue root.snapshots → HasOneLess name bit root next → edits.Thaws bit words new → Becomes words new root next k
  without_one name bit is less thaws = told (cases_eq k bit)
    where
      told : (k ≡ bit) ⊎ (k ≢ bit) → Becomes words new root next k
      told (inl same) = inr (inr (record {
        told = subst (λ (j : ℕ). (block : ℕ) → bit_at (slice_index new block) j ≡ 0) (sym same) thaws.thawed;
        none = none_left root next name bit is less k same;
      }))
      told (inr apart) = inl (record {
        told = λ block. thaws.others block k other apart;
        roots = λ inodes. (λ among. of_left root next name bit is less k inodes (left root next name bit is less k inodes among), is_left root next name bit is less k apart inodes);
      })

-- ---- what is asked for

-- each bit of a snapshot stays, is the new one's, or is deleted
pub each_bit : (asked : AskedPoint) (bit : ℕ) (words new : List ℕ) (root next : RootBody) → IsRootBody root → FollowsBy asked bit root next → edits.IsEdited (edit_for asked bit) words new → (k : ℕ) → k ≢ 0 → Becomes words new root next k
each_bit Unasked bit words new root next body follows edited k other = with_none words new root next k other follows edited
each_bit Plain bit words new root next body follows edited k other = with_none words new root next k other follows edited
each_bit (Freezes name) bit words new root next body follows edited k other = with_one words new root next k other name bit follows edited
each_bit (Thaws name) bit words new root next body follows edited k other = without_one words new root next k other name bit (catalogue_of body) follows edited
each_bit (Restores name) bit words new root next body follows edited k other = with_none words new root next k other follows edited

pub live_among : (root : RootBody) (file : BlockTree) → file ≡ root.inode_file → Contains (rooted_in root) (record { bit = 0; inodes = file })
live_among root file is = subst (λ (f : BlockTree). Contains (rooted_in root) (record { bit = 0; inodes = f })) (sym is) (first_among (record { bit = 0; inodes = root.inode_file }) (map frozen_root root.snapshots))

-- what a build begins from is of one of the roots
pub begins_among : (asked : AskedPoint) (bit : ℕ) (root : RootBody) (file : BlockTree) → BeginsFrom asked bit root file → Contains (rooted_in root) (record { bit = base_bit (edit_for asked bit); inodes = file })
begins_among Unasked bit root file is = live_among root file is
begins_among Plain bit root file is = live_among root file is
begins_among (Freezes name) bit root file is = live_among root file is
begins_among (Thaws name) bit root file is = live_among root file is
begins_among (Restores name) bit root file among =
    more_among (record { bit = 0; inodes = root.inode_file }) (map frozen_root root.snapshots) (record { bit = bit; inodes = file }) (root_among root.snapshots (record { bit = bit; name = name; tree = file }) among)

-- built for the live tree after it, the trees are those after it
pub built_behind : (asked : AskedPoint) (trees : Trees) → trees_built asked (live_behind asked trees) trees.frozen ≡ trees_behind asked trees
built_behind Unasked trees = refl
built_behind Plain trees = refl
built_behind (Freezes name) trees = refl
built_behind (Thaws name) trees = refl
built_behind (Restores name) trees = refl

-- the trees that its snapshots denote, where its inode file is of this live tree
pub frozen_follow : (asked : AskedPoint) (bit : ℕ) (s r : Store) (root next : RootBody) (live : Tree) → SameIn (all_reach s root) s r → FollowsBy asked bit root next → image r next.inode_file ≡ live
    → frozen_of r next.snapshots ≡ frozen_behind asked live (frozen_of s root.snapshots)
frozen_follow Unasked bit s r root next live same follows tree = ap (frozen_of r) follows ∙ sym (frozen_stay s r root same)
frozen_follow Plain bit s r root next live same follows tree = ap (frozen_of r) follows ∙ sym (frozen_stay s r root same)
frozen_follow (Restores name) bit s r root next live same follows tree = ap (frozen_of r) follows ∙ sym (frozen_stay s r root same)
frozen_follow (Freezes name) bit s r root next live same follows tree =
    ap (frozen_of r) follows.snapshots
    ∙ by_name-with (λ (x : Snapshot). image r x.tree) (new_snapshot name bit next) root.snapshots (absent entry_of root.snapshots name follows.new.name)
    ∙ (λ i. fin.insert ((sym (frozen_stay s r root same)) i) name (tree i))
frozen_follow (Thaws name) bit s r root next live same follows tree =
    ap (frozen_of r) follows.snapshots
    ∙ by_name-others (λ (x : Snapshot). image r x.tree) name root.snapshots
    ∙ ap (λ (trees : FrozenTrees). fin.remove trees name) (sym (frozen_stay s r root same))
