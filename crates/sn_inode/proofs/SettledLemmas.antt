-- Changes and their records, one after the other.
use Rattle.std.proofs.Common.{◌≡◌, ℕ, ◌+◌, List, [], ◌∷◌, ◌++◌, map, Option, refl, sym, ap, subst, ◌∙◌, arith, length-append}
use Rattle.std.specs.List.{AllZip}
use Rattle.std.proofs.lemmas.List.{map-append}
use Rattle.std.proofs.lemmas.List.Elements.{All-nil, All-cons, All-head, All-tail}
use Rattle.std.proofs.lemmas.List.Sums.{sum_by-append}
use Rattle.sn_layout.specs.declared.tree.BlockTree.{BlockTree}
use Rattle.sn_layout_node.specs.declared.inode.Inode.{Inode}
use Rattle.sn_ondisk.specs.Trees.{Store}
use Rattle.sn_image.specs.Inodes.{inode_at}
use Rattle.sn_image.specs.Reach.{block_reach}
use Rattle.sn_tree.specs.Drafts.{Draft, numbers_of, grown}
use Rattle.sn_ondisk.specs.Counts.{times}
use Rattle.sn_tree.specs.Plans.{Holds}
use Rattle.sn_tree.specs.declared.new_block.NewBlock.{NewBlock}
use Rattle.sn_ondisk.proofs.CountLemmas.{times-append}
use Rattle.sn_tree.proofs.StepLemmas.{grown-grown, grown-none}
use Rattle.sn_inode.specs.Changes.{numbers_in, acl_pointer, acl_times, IsChanged}
use Rattle.sn_inode.specs.Stored.{IsPlaced, IsStored, AreSettled, inode_in, stored_times}
use Rattle.sn_inode.specs.declared.changes.InodeChange.{InodeChange}
use Rattle.sn_inode.specs.declared.changes.StoredRecord.{StoredRecord}

abbrev Stands : Store → NewBlock → Type 0
Stands r block = r block.number ≡ block.bytes.value

pub holds_front : (r : Store) (a b : List NewBlock) → Holds r (a ++ b) → Holds r a
holds_front r [] b holds = All-nil (Stands r)
holds_front r (x ∷ a) b holds = All-cons (Stands r) x a (All-head (Stands r) x (a ++ b) holds) (holds_front r a b (All-tail (Stands r) x (a ++ b) holds))

pub holds_back : (r : Store) (a b : List NewBlock) → Holds r (a ++ b) → Holds r b
holds_back r [] b holds = holds
holds_back r (x ∷ a) b holds = holds_back r a b (All-tail (Stands r) x (a ++ b) holds)

zip_append : {A B : Type 0} (R : A → B → Type 0) (xs cs : List A) (ys ds : List B) → AllZip R xs ys → AllZip R cs ds → AllZip R (xs ++ cs) (ys ++ ds)
zip_append R [] cs [] ds one two = two
zip_append R [] cs (y ∷ ys) ds one two = absurd one
zip_append R (x ∷ xs) cs [] ds one two = absurd one
zip_append R (x ∷ xs) cs (y ∷ ys) ds one two = (one.0, zip_append R xs cs ys ds one.1 two)

module _ (Told : Type 0) (s : Store) (inodes : BlockTree) where
  pub settled_none : (draft : Draft) → AreSettled Told s inodes [] [] draft draft
  settled_none draft = record { added = []; released = []; grew = grown-none draft; few = omega arith; numbers = refl; each = λ told r holds. tt; count = λ told block. refl }

  pub settled_one : (change : InodeChange) (x : StoredRecord) (was : Option Inode) (old new : Draft) → x.number ≡ change.number
      → (Told → was ≡ inode_at s inodes change.number)
      → IsPlaced (λ r. IsChanged r was change.record (inode_in x.record)) (acl_pointer was) (acl_pointer (inode_in x.record)) old new
      → AreSettled Told s inodes (change ∷ []) (x ∷ []) old new
  settled_one change x was old new number same placed = record {
    added = placed.added;
    released = placed.released;
    grew = placed.grew;
    few = placed.few;
    numbers = ap (λ (n : ℕ). n ∷ []) number;
    each = λ told r holds. (
      record {
        number = number;
        changed = subst (λ (o : Option Inode). IsChanged r o change.record (inode_in x.record)) (same told) (placed.is r holds);
      },
      tt,
    );
    count = λ told block.
        let at : times block (block_reach (acl_pointer was)) ≡ times block (block_reach (acl_pointer (inode_at s inodes change.number))) = ap (λ (o : Option Inode). times block (block_reach (acl_pointer o))) (same told) in
        let one : stored_times block (x ∷ []) ≡ times block (block_reach (acl_pointer (inode_in x.record))) = omega arith in
        let had : acl_times s inodes block (change ∷ []) ≡ times block (block_reach (acl_pointer (inode_at s inodes change.number))) = omega arith in
        omega (arith, at, one, had, placed.count block);
  }

  pub settled_more : (cs ds : List InodeChange) (xs ys : List StoredRecord) (old mid new : Draft) → AreSettled Told s inodes cs xs old mid → AreSettled Told s inodes ds ys mid new → AreSettled Told s inodes (cs ++ ds) (xs ++ ys) old new
  settled_more cs ds xs ys old mid new one two = record {
    added = one.added ++ two.added;
    released = one.released ++ two.released;
    grew = two.grew ∙ ap (λ (draft : Draft). grown draft two.added two.released) one.grew ∙ grown-grown old one.added two.added one.released two.released;
    few = omega (arith, length-append one.added two.added, length-append cs ds, one.few, two.few);
    numbers = map-append (λ (x : StoredRecord). x.number) xs ys ∙ ap (λ (ns : List ℕ). ns ++ map (λ (x : StoredRecord). x.number) ys) one.numbers ∙ ap (λ (ns : List ℕ). numbers_in cs ++ ns) two.numbers ∙ sym (map-append (λ (c : InodeChange). c.number) cs ds);
    each = λ told r holds. zip_append (IsStored r s inodes) cs ds xs ys (one.each told r (holds_front r one.added two.added holds)) (two.each told r (holds_back r one.added two.added holds));
    count = λ told block.
        let stored = sum_by-append (λ (x : StoredRecord). times block (block_reach (acl_pointer (inode_in x.record)))) xs ys in
        let had = sum_by-append (λ (c : InodeChange). times block (block_reach (acl_pointer (inode_at s inodes c.number)))) cs ds in
        let gone = times-append block one.released two.released in
        let new : times block (numbers_of (one.added ++ two.added)) ≡ times block (numbers_of one.added) + times block (numbers_of two.added) =
        ap (times block) (map-append (λ (b : NewBlock). b.number) one.added two.added) ∙ times-append block (numbers_of one.added) (numbers_of two.added) in
        omega (arith, stored, had, gone, new, one.count told block, two.count told block);
  }

  -- the store is known to be the same
  pub settled_as : (t : Store) (cs : List InodeChange) (xs : List StoredRecord) (old new : Draft) → (Told → t ≡ s) → AreSettled Told t inodes cs xs old new → AreSettled Told s inodes cs xs old new
  settled_as t cs xs old new same settled = record {
    added = settled.added;
    released = settled.released;
    grew = settled.grew;
    few = settled.few;
    numbers = settled.numbers;
    each = λ told. subst (λ (u : Store). (r : Store) → Holds r settled.added → AllZip (IsStored r u inodes) cs xs) (same told) (settled.each told);
    count = λ told. subst (λ (u : Store). (block : ℕ) → stored_times block xs + times block settled.released ≡ acl_times u inodes block cs + times block (numbers_of settled.added)) (same told) (settled.count told);
  }

  pub settled_begun : (xs : List StoredRecord) (draft : Draft) → xs ≡ [] → AreSettled Told s inodes [] xs draft draft
  settled_begun xs draft none = subst (λ (ys : List StoredRecord). AreSettled Told s inodes [] ys draft draft) (sym none) (settled_none draft)

  pub settled_next : (t : Store) (cs ds : List InodeChange) (c : InodeChange) (xs ys : List StoredRecord) (x : StoredRecord) (old mid new : Draft)
      → ds ≡ cs ++ c ∷ [] → ys ≡ xs ++ x ∷ [] → (Told → t ≡ s) → AreSettled Told s inodes cs xs old mid → AreSettled Told t inodes (c ∷ []) (x ∷ []) mid new → AreSettled Told s inodes ds ys old new
  settled_next t cs ds c xs ys x old mid new more stored same before here =
      subst (λ (zs : List InodeChange). AreSettled Told s inodes zs ys old new) (sym more)
      (subst (λ (zs : List StoredRecord). AreSettled Told s inodes (cs ++ c ∷ []) zs old new) (sym stored)
      (settled_more cs (c ∷ []) xs (x ∷ []) old mid new before (settled_as t (c ∷ []) (x ∷ []) mid new same here)))
