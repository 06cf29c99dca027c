-- The files of a tree without names, counted number by number.
use Rattle.std.proofs.Common.{◌≡◌, ◌≢◌, ℕ, ◌+◌, ◌<◌, ◌≤◌, Bool, IsTrue, cond, ◌&&◌, false, Option, None, Some, refl, ap, subst, arith}
use Rattle.std.specs.Prelude.{nat_lt}
use Rattle.std.specs.Ordering.{nat_cmp}
use Rattle.std.specs.Cmp.{nat_cmp_total}
use Rattle.std.specs.FinMap as fin
use Rattle.std.proofs.lemmas.Bool.{ltb-true, lt-ltb, ltb_from_iff, false_from_ne_true}
use Rattle.std.proofs.lemmas.Map.Lookups.{exact_unsigned}
use Rattle.sn_device.specs.Disk.{Disk, reads}
use Rattle.sn_device.specs.declared.status.Status.{Status}
use Rattle.sn_image.specs.Image.{image}
use Rattle.sn_layout.specs.declared.tree.BlockTree.{BlockTree}
use Rattle.sn_limits.specs.declared.limits.Limits.{Limits}
use Rattle.sn_model.specs.Settling.{is_nameless, nameless_in}
use Rattle.sn_model.specs.Tree.{Node, Tree}
use Rattle.sn_model.proofs.CountLemmas.{count, count_none, once}
use Rattle.sn_model.proofs.EntryLemmas.{share, total-le, total-remove}
use Rattle.sn_model.proofs.MapLemmas.{get_was}
use Rattle.sn_ondisk.specs.Trees.{store_of}
use Rattle.sn_rooted.specs.Roots.{IsSoundRoot}
use Rattle.sn_rooted_tree.proofs.LookLemmas.{stays_sound}

-- ---- entries that pass a test, counted key by key

-- tests that say one thing of each entry count alike
count_alike : {X : Type 0} (p q : ℕ × X → Bool) (m : fin.FinMap nat_cmp X) → ((k : ℕ) (v : X) → fin.get m k ≡ Some v → p (k, v) ≡ q (k, v)) → count p m ≡ count q m
count_alike {X} p q m same = omega (
  arith,
  total-le nat_cmp_total (once p) (once q) m (λ k v e. omega (arith, alike k v e)),
  total-le nat_cmp_total (once q) (once p) m (λ k v e. omega (arith, alike k v e)),
)
  where
    alike : (k : ℕ) (v : X) → fin.get m k ≡ Some v → once p (k, v) ≡ once q (k, v)
    alike k v e = ap {B = ℕ} (λ (b : Bool). cond b 1 0) (same k v e)

module _ {X : Type 0} (passes : ℕ × X → Bool) where
  -- an entry whose key is below an end, and that passes
  abbrev passes_below : ℕ → ℕ × X → Bool
  passes_below end e = nat_lt e.0 end && passes e

  -- past the end, an entry doesn't count
  not_below : (end k : ℕ) (v : X) → end ≤ k → passes_below end (k, v) ≡ false
  not_below end k v high = ap (λ b. b && passes (k, v)) (false_from_ne_true (nat_lt k end) (λ t. absurd (let low : k < end = ltb-true k end t in omega (arith, low, high))))

  is_below : (end k : ℕ) (v : X) → k < end → passes_below end (k, v) ≡ passes (k, v)
  is_below end k v low = ap (λ b. b && passes (k, v)) (lt-ltb k end low)

  module _ (m : fin.FinMap nat_cmp X) where
    count_below_none : count (passes_below 0) m ≡ 0
    count_below_none = count_none nat_cmp_total exact_unsigned (passes_below 0) m (λ k v e. not_below 0 k v (omega arith))

    -- one key further, the entry at that key counts if it passes
    count_below_more : (end : ℕ) → count (passes_below (end + 1)) m ≡ count (passes_below end) m + share (once passes) end (fin.get m end)
    count_below_more end = omega (
      arith,
      total-remove nat_cmp_total exact_unsigned (once (passes_below (end + 1))) m end,
      total-remove nat_cmp_total exact_unsigned (once (passes_below end)) m end,
      count_alike (passes_below (end + 1)) (passes_below end) (fin.remove m end) others,
      counts (fin.get m end),
      counts_not (fin.get m end),
    )
      where
        next : (k : ℕ) → k ≢ end → nat_lt k (end + 1) ≡ nat_lt k end
        next k apart = ltb_from_iff (λ t. (let low : k < end + 1 = ltb-true k (end + 1) t in omega (arith, low, apart)), λ low. lt-ltb k (end + 1) (omega (arith, low)))

        others : (k : ℕ) (v : X) → fin.get (fin.remove m end) k ≡ Some v → passes_below (end + 1) (k, v) ≡ passes_below end (k, v)
        others k v e = ap (λ b. b && passes (k, v)) (next k (get_was nat_cmp_total exact_unsigned m end k v e).0)

        counts : (o : Option X) → share (once (passes_below (end + 1))) end o ≡ share (once passes) end o
        counts None = refl
        counts (Some v) = ap {B = ℕ} (λ (b : Bool). cond b 1 0) (is_below (end + 1) end v (omega arith))

        counts_not : (o : Option X) → share (once (passes_below end)) end o ≡ 0
        counts_not None = refl
        counts_not (Some v) = ap {B = ℕ} (λ (b : Bool). cond b 1 0) (not_below end end v (omega arith))

    count_below_all : (end : ℕ) → ((k : ℕ) (v : X) → fin.get m k ≡ Some v → k < end) → count (passes_below end) m ≡ count passes m
    count_below_all end low = count_alike (passes_below end) passes m (λ k v e. is_below end k v (low k v e))

-- ---- files without names

abbrev nameless : Tree → ℕ × Node → Bool
nameless tree e = is_nameless tree e.0 (Some e.1)

-- how many files without names have a number below an end
pub nameless_below : Tree → ℕ → ℕ
nameless_below tree end = count (passes_below (nameless tree) end) tree.nodes

pub none_below : (tree : Tree) → nameless_below tree 0 ≡ 0
unfolding nameless_below
none_below tree = count_below_none (nameless tree) tree.nodes

pub one_further : (tree : Tree) (end : ℕ) → nameless_below tree (end + 1) ≡ nameless_below tree end + cond (is_nameless tree end (fin.get tree.nodes end)) 1 0
unfolding nameless_below
one_further tree end = omega (arith, count_below_more (nameless tree) tree.nodes end, told (fin.get tree.nodes end))
  where
    told : (o : Option Node) → share (once (nameless tree)) end o ≡ cond (is_nameless tree end o) 1 0
    told None = refl
    told (Some node) = refl

pub all_below : (tree : Tree) (end : ℕ) → ((number : ℕ) (node : Node) → fin.get tree.nodes number ≡ Some node → number < end) → nameless_below tree end ≡ nameless_in tree
unfolding nameless_below nameless_in
all_below tree end within = count_below_all (nameless tree) tree.nodes end within

-- ---- on a device that is as it was

-- a number that is found without a name counts, and each other doesn't
pub counted_on : (told : Bool) (old new : Status) (before now : Disk) (limits : Limits) (file : BlockTree) (k so_far : ℕ) (found : Bool) → new ≡ old → (IsTrue told → now ≡ before) → IsTrue told → IsSoundRoot limits old.sectors (store_of (reads before)) file
    → (IsSoundRoot limits new.sectors (store_of (reads now)) file → found ≡ is_nameless (image (store_of (reads now)) file) k (fin.get (image (store_of (reads now)) file).nodes k))
    → so_far ≡ nameless_below (image (store_of (reads before)) file) k
    → so_far + cond found 1 0 ≡ nameless_below (image (store_of (reads before)) file) (k + 1)
counted_on told old new before now limits file k so_far found status same is root look counted =
    let tree = image (store_of (reads before)) file in
    let found_is : found ≡ is_nameless tree k (fin.get tree.nodes k) =
    subst (λ (d : Disk). found ≡ is_nameless (image (store_of (reads d)) file) k (fin.get (image (store_of (reads d)) file).nodes k)) (same is)
    (look (stays_sound told old.sectors new.sectors before now limits file (ap (λ (s : Status). s.sectors) status) same (λ here. root) is)) in
    omega (arith, counted, one_further tree k, ap {B = ℕ} (λ (b : Bool). cond b 1 0) found_is)
