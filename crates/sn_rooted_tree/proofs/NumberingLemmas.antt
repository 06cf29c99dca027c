-- The numbers of a root's tree, noted one by one.
use Rattle.std.proofs.Common.{◌≡◌, ◌≢◌, ◌⊎◌, inl, inr, ℕ, ◌+◌, ◌-◌, ◌^◌, ◌<◌, ◌≤◌, ◌==◌, ◌&&◌, ◌||◌, Bool, IsTrue, true, false, cond, min, Option, None, Some, refl, sym, ap, subst, ◌∙◌, arith, eq-eqb, eqb-true, if◌then◌else◌}
use Rattle.std.specs.Prelude.{nat_lt, is_some}
use Rattle.std.specs.Cmp.{nat_cmp_total}
use Rattle.std.specs.FinMap as fin
use Rattle.std.proofs.lemmas.Bool.{ltb-true, lt-ltb, ltb_from_iff, false_from_ne_true}
use Rattle.std.proofs.lemmas.Map.Lookups.{exact_unsigned}
use Rattle.sn_device.specs.Disk.{Disk, reads}
use Rattle.sn_device.specs.declared.status.Status.{Status}
use Rattle.sn_image.specs.Image.{image}
use Rattle.sn_image.specs.Inodes.{inode_at}
use Rattle.sn_layout.specs.declared.tree.BlockTree.{BlockTree}
use Rattle.sn_layout_node.specs.declared.inode.Inode.{Inode}
use Rattle.sn_limits.specs.declared.kind.Kind.{Kind}
use Rattle.sn_limits.specs.declared.kind.Kind.TheVariants.{File, Directory}
use Rattle.sn_limits.specs.declared.limits.Limits.{Limits}
use Rattle.sn_model.specs.Settling.{is_nameless}
use Rattle.sn_model.specs.Tree.{Node, Tree}
use Rattle.sn_model.proofs.MapLemmas.{same_or_apart}
use Rattle.sn_number_table.specs.Nameless.{TellsNameless, is_listed}
use Rattle.sn_number_table.specs.Table.{TellsNumbers, is_taken_in}
use Rattle.sn_ondisk.specs.Trees.{Store, store_of}
use Rattle.sn_rooted.specs.Nodes.{is_unlinked}
use Rattle.sn_rooted.specs.Roots.{IsSoundRoot}
use Rattle.sn_rooted.proofs.RootLemmas.{no_node, node_is, none_nameless}
use Rattle.sn_rooted_tree.proofs.LookLemmas.{stays_sound}
use Rattle.sn_rooted_tree.proofs.NamelessLemmas.{nameless_below, none_below, one_further}
use Rattle.sn_rooted_tree.specs.Numbering.{HasUse, NotesNone, NotesUse, has_node, lacks_name, use_of}
use Rattle.sn_rooted_tree.specs.declared.numbers.NumberUse.{NumberUse}
use Rattle.sn_rooted_tree.specs.declared.numbers.NumberUse.TheVariants.{Unused, Named, Nameless}
use Rattle.sn_rooted_tree.specs.declared.numbers.RootNumbers.{RootNumbers}

-- ---- what one number has

pub unused : (s : Store) (file : BlockTree) (number : ℕ) → inode_at s file number ≡ None → HasUse (image s file) number Unused
unused s file number none = record {
  node = sym (ap (is_some {T = Node}) (no_node s file number none));
  nameless = none_nameless s file number none;
}

used_has : (kind : Kind) (links : ℕ) → has_node (use_of kind links) ≡ true
used_has File links = of (links == 0)
  where
    of : (b : Bool) → has_node (if b then Nameless else Named) ≡ true
    of true = refl
    of false = refl
used_has Directory links = refl

used_lacks : (kind : Kind) (links : ℕ) → lacks_name (use_of kind links) ≡ is_unlinked kind links
used_lacks File links = of (links == 0)
  where
    of : (b : Bool) → lacks_name (if b then Nameless else Named) ≡ b
    of true = refl
    of false = refl
used_lacks Directory links = refl

pub used : (s : Store) (file : BlockTree) (number : ℕ) (inode : Inode) (found : NumberUse) → inode_at s file number ≡ Some inode → found ≡ use_of inode.kind inode.links
    → is_unlinked inode.kind inode.links ≡ is_nameless (image s file) number (fin.get (image s file).nodes number) → HasUse (image s file) number found
used s file number inode found there is nameless = record {
  node = ap has_node is ∙ used_has inode.kind inode.links ∙ sym (ap (is_some {T = Node}) (node_is s file number inode there));
  nameless = ap lacks_name is ∙ used_lacks inode.kind inode.links ∙ nameless;
}

-- ---- what is noted

none_of : (b x : Bool) → x ≡ (b && false || x)
none_of true x = refl
none_of false x = refl

some_of : (b x : Bool) → (b || x) ≡ (b && true || x)
some_of true x = refl
some_of false x = refl

pub notes_unused : (number : ℕ) (found : NumberUse) (old : RootNumbers) → found ≡ Unused → NotesUse number found old old
notes_unused number found old is = subst (λ (u : NumberUse). NotesUse number u old old) (sym is) (record {
  taken = λ n. none_of (n == number) (is_taken_in old.numbers n);
  listed = λ n. none_of (n == number) (is_listed old.nameless_files n);
  counted = refl;
})

pub notes_named : (number : ℕ) (found : NumberUse) (old new : RootNumbers) → found ≡ Named → ((n : ℕ) → is_taken_in new.numbers n ≡ (n == number || is_taken_in old.numbers n))
    → ((n : ℕ) → is_listed new.nameless_files n ≡ is_listed old.nameless_files n) → new.nameless ≡ old.nameless → NotesUse number found old new
notes_named number found old new is taken listed counted = subst (λ (u : NumberUse). NotesUse number u old new) (sym is) (record {
  taken = λ n. taken n ∙ some_of (n == number) (is_taken_in old.numbers n);
  listed = λ n. listed n ∙ none_of (n == number) (is_listed old.nameless_files n);
  counted = counted;
})

-- ---- one number more

module _ (f : ℕ → Bool) where
  more : (k n : ℕ) (b was now : Bool) → now ≡ (n == k && b || was) → was ≡ (nat_lt n k && f n) → b ≡ f k → now ≡ (nat_lt n (k + 1) && f n)
  more k n b was now is before here = told (same_or_apart nat_cmp_total exact_unsigned n k)
    where
      behind : n ≡ k → nat_lt n k ≡ false
      behind same = false_from_ne_true (nat_lt n k) (λ t. absurd (let low : n < k = ltb-true n k t in omega (arith, low, same)))

      told : (n ≡ k) ⊎ (n ≢ k) → now ≡ (nat_lt n (k + 1) && f n)
      told (inl same) =
          let noted : (n == k) ≡ true = eq-eqb n k same in
          let none : was ≡ false = before ∙ ap (λ b. b && f n) (behind same) in
          let within : nat_lt n (k + 1) ≡ true = lt-ltb n (k + 1) (omega (arith, same)) in
          is ∙ (λ i. noted i && b || none i) ∙ or_false b ∙ here ∙ ap f (sym same) ∙ sym (ap (λ b. b && f n) within)
        where
          or_false : (b : Bool) → (b || false) ≡ b
          or_false true = refl
          or_false false = refl
      told (inr apart) =
          let other : (n == k) ≡ false = false_from_ne_true (n == k) (λ t. absurd (apart (eqb-true n k t))) in
          let next : nat_lt n (k + 1) ≡ nat_lt n k = ltb_from_iff (λ t. (let low : n < k + 1 = ltb-true n (k + 1) t in omega (arith, low, apart)), λ low. lt-ltb n (k + 1) (omega (arith, low))) in
          is ∙ (λ i. other i && b || was) ∙ before ∙ sym (ap (λ b. b && f n) next)

  none : (n : ℕ) → false ≡ (nat_lt n 0 && f n)
  none n = sym (ap (λ b. b && f n) (false_from_ne_true (nat_lt n 0) (λ t. absurd (let low : n < 0 = ltb-true n 0 t in omega (arith, low)))))

  all : (n end : ℕ) → (f n ≡ true → n < end) → (nat_lt n end && f n) ≡ f n
  all n end low = told (f n) refl
    where
      and_true : (b : Bool) → b ≡ true → (b && true) ≡ true
      and_true b is = ap (λ (x : Bool). x && true) is

      and_false : (b : Bool) → (b && false) ≡ false
      and_false true = refl
      and_false false = refl

      told : (b : Bool) → f n ≡ b → (nat_lt n end && f n) ≡ f n
      told true is = (λ i. nat_lt n end && is i) ∙ and_true (nat_lt n end) (lt-ltb n end (low is)) ∙ sym is
      told false is = (λ i. nat_lt n end && is i) ∙ and_false (nat_lt n end) ∙ sym is

abbrev lacks : Tree → ℕ → Bool
lacks tree n = is_nameless tree n (fin.get tree.nodes n)

-- The numbers below an end were noted.
pub record AreNoted (tree : Tree) (end : ℕ) (found : RootNumbers) : Type 0 where
  pub taken : (n : ℕ) → is_taken_in found.numbers n ≡ (nat_lt n end && is_some (fin.get tree.nodes n))
  pub listed : (n : ℕ) → is_listed found.nameless_files n ≡ (nat_lt n end && lacks tree n)
  pub counted : found.nameless ≡ nameless_below tree end

pub none_noted : (tree : Tree) (found : RootNumbers) → NotesNone found → AreNoted tree 0 found
none_noted tree found notes = record {
  taken = λ n. notes.taken n ∙ none (λ m. is_some (fin.get tree.nodes m)) n;
  listed = λ n. notes.listed n ∙ none (lacks tree) n;
  counted = notes.counted ∙ sym (none_below tree);
}

-- the count has room for one more
pub counts : (b : Bool) (old new k : ℕ) → old ≤ k → k < 65536 → new ≡ (if b then min (old + 1) (2 ^ 32 - 1) else old) → new ≡ old + cond b 1 0
counts true old new k few within is = omega (arith, few, within, is)
counts false old new k few within is = omega (arith, is)

pub one_noted : (tree : Tree) (k : ℕ) (found : NumberUse) (old new : RootNumbers) → old.nameless ≤ k → k < 65536 → HasUse tree k found → NotesUse k found old new → AreNoted tree k old → AreNoted tree (k + 1) new
one_noted tree k found old new few within has notes before = record {
  taken = λ n. more (λ m. is_some (fin.get tree.nodes m)) k n _ _ _ (notes.taken n) (before.taken n) has.node;
  listed = λ n. more (lacks tree) k n _ _ _ (notes.listed n) (before.listed n) has.nameless;
  counted = omega (arith, counts (lacks_name found) old.nameless new.nameless k few within notes.counted, before.counted, one_further tree k, ap {B = ℕ} (λ (b : Bool). cond b 1 0) has.nameless);
}

module _ (tree : Tree) (end : ℕ) (low : (number : ℕ) (node : Node) → fin.get tree.nodes number ≡ Some node → number < end) (found : RootNumbers) (noted : AreNoted tree end found) where
  pub all_taken : TellsNumbers tree found.numbers
  all_taken n = noted.taken n ∙ all (λ m. is_some (fin.get tree.nodes m)) n end (told (fin.get tree.nodes n) refl)
    where
      told : (o : Option Node) → fin.get tree.nodes n ≡ o → is_some o ≡ true → n < end
      told None is some = cc
      told (Some node) is some = low n node is

  pub all_listed : TellsNameless tree found.nameless_files
  all_listed n = noted.listed n ∙ all (lacks tree) n end (told (fin.get tree.nodes n) refl)
    where
      told : (o : Option Node) → fin.get tree.nodes n ≡ o → is_nameless tree n o ≡ true → n < end
      told None is some = cc
      told (Some node) is some = low n node is

-- ---- on a device that is as it was

pub noted_on : (told : Bool) (old new : Status) (before now : Disk) (limits : Limits) (file : BlockTree) (k : ℕ) (found : NumberUse) (was next : RootNumbers) → new ≡ old → (IsTrue told → now ≡ before) → IsTrue told → IsSoundRoot limits old.sectors (store_of (reads before)) file
    → (IsSoundRoot limits new.sectors (store_of (reads now)) file → HasUse (image (store_of (reads now)) file) k found)
    → was.nameless ≤ k → k < 65536 → NotesUse k found was next → AreNoted (image (store_of (reads before)) file) k was → AreNoted (image (store_of (reads before)) file) (k + 1) next
noted_on told old new before now limits file k found was next status same is root look few within notes noted =
    one_noted (image (store_of (reads before)) file) k found was next few within
    (subst (λ (d : Disk). HasUse (image (store_of (reads d)) file) k found) (same is)
    (look (stays_sound told old.sectors new.sectors before now limits file (ap (λ (s : Status). s.sectors) status) same (λ here. root) is)))
    notes noted
