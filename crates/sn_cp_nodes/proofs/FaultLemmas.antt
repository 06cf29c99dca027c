-- Why a node isn't planned.
use Rattle.std.proofs.Common.{◌≡◌, inl, inr, ℕ, ◌+◌, ◌*◌, ◌<◌, Bool, true, false, List, [], length, Option, Result, Err, refl, sym, ap, subst, ◌∙◌, arith}
use Rattle.std.proofs.lemmas.List.{append-nil, length-map}
use Rattle.sn_alloc.specs.Taking.{free_data}
use Rattle.sn_dir_change.specs.Planned.{CannotRead, IsSizeWith, IsTooFullFor}
use Rattle.sn_dir_change.specs.declared.name_change.NameChange.{NameChange}
use Rattle.sn_inode.specs.declared.changes.AclChange.{AclChange}
use Rattle.sn_inode.specs.declared.changes.RecordChange.TheVariants.{Used}
use Rattle.sn_layout.specs.Pointers.{levels_of}
use Rattle.sn_layout.specs.declared.tree.BlockTree.{BlockTree}
use Rattle.sn_layout_node.specs.declared.content.Content.{Content}
use Rattle.sn_layout_node.specs.declared.content.Content.TheVariants.{Tree}
use Rattle.sn_layout_node.specs.declared.inode.Inode.{Inode}
use Rattle.sn_ondisk.specs.Counts.{times}
use Rattle.sn_ondisk.specs.Trees.{Store}
use Rattle.sn_overlay.specs.declared.node.NodeState.{NodeState}
use Rattle.sn_tree.specs.Drafts.{Draft}
use Rattle.sn_tree.specs.declared.fault.PlanFault.{PlanFault}
use Rattle.sn_tree.specs.declared.new_block.NewBlock.{NewBlock}
use Rattle.sn_tree.specs.declared.fault.PlanFault.TheVariants.{Full}
use Rattle.sn_cp_nodes.specs.Inodes.{FitsRecord, IsInodeFor}
use Rattle.sn_cp_nodes.specs.Made.{CanBegin, CanMakeDirectory, ChangeThem, IsBegun, IsContentMade, IsInodeMade, IsTooSmall, Pair}
use Rattle.sn_cp_nodes.specs.Parts.{Blocks, Names, content_of, empty_tree}
use Rattle.sn_cp_nodes.proofs.DirectoryLemmas.{empty_reach}

-- ---- the tree with which a directory begins

same_tree : (a b : BlockTree) → Tree a ≡ Tree b → a ≡ b
same_tree a b e = cc

-- a tree without blocks can be read
read_empty : (sectors : ℕ) (s : Store) → CannotRead sectors s empty_tree → ⊥
read_empty sectors s (inl damaged) = absurd (omega (arith, damaged.1))
read_empty sectors s (inr outside) =
    let none : times outside.block [] ≡ 0 = refl in
    let some : 0 < times outside.block [] = subst (λ (blocks : List ℕ). 0 < times outside.block blocks) (empty_reach s) outside.among in
    absurd (omega (arith, none, some))

read_begun : (Told : Type 0) (sectors : ℕ) (s : Store) (old : Content) (fresh : Bool) (tree : BlockTree) (a b : Draft) → IsBegun Told s old fresh tree a b → (fresh ≡ false → CanBegin sectors s old)
    → CannotRead sectors s tree → ⊥
read_begun Told sectors s old true tree a b begun can cannot = read_empty sectors s (subst (CannotRead sectors s) (begun.empty refl) cannot)
read_begun Told sectors s old false tree a b begun can cannot =
    let begin = can refl in
    let is : tree ≡ begin.tree = same_tree tree begin.tree (sym (begun.kept refl).0 ∙ begin.is) in
    begin.read (subst (CannotRead sectors s) is cannot)

-- ---- a directory

module _ (Told : Type 0) (s t : Store) (same : t ≡ s) (old : Content) (fresh : Bool) (names : Names) (tree : BlockTree) (before between : Draft) (begun : IsBegun Told s old fresh tree before between) where
  -- one that can be made is read
  pub names_read : (sectors other : ℕ) → other ≡ sectors → CannotRead other t tree → CanMakeDirectory sectors s old fresh names → ⊥
  names_read sectors other device cannot can =
      read_begun Told sectors s old fresh tree before between begun can.begin (subst (λ (u : Store). CannotRead sectors u tree) same (subst (λ (k : ℕ). CannotRead k t tree) device cannot))

  -- where it is too full for the changes, it is too small for the names
  pub names_fit : (changes sliced : List NameChange) (result : Result BlockTree PlanFault) → sliced ≡ changes → ChangeThem names changes
      → IsTooFullFor Told t tree sliced result between → result ≡ Err Full → IsTooSmall Told s old fresh names before
  names_fit changes sliced result slice them full is =
      let (size, sized, less) = full is in
      let long : length changes ≡ length names = sym (length-map changes _) ∙ ap (λ (es : List Pair). length es) them ∙ length-map names _ in
      let sizes : IsSizeWith Told s tree changes size = subst (λ (u : Store). IsSizeWith Told u tree changes size) same (subst (λ (cs : List NameChange). IsSizeWith Told t tree cs size) slice sized) in
      let counted : free_data between.words between.first < length between.added + (levels_of size + 1) * (length names + 1)
      = subst (λ (n : ℕ). free_data between.words between.first < length between.added + (levels_of size + 1) * (n + 1)) (ap (λ (cs : List NameChange). length cs) slice ∙ long) less in
      let free : free_data between.words between.first ≡ free_data before.words before.first = ap (λ (d : Draft). free_data d.words d.first) begun.grew in
      let added : length between.added ≡ length before.added = ap (λ (d : Draft). length d.added) begun.grew ∙ ap (λ (blocks : List NewBlock). length blocks) (append-nil before.added) in
      record {
        tree = tree;
        changes = changes;
        size = size;
        are = them;
        kept = λ stale. (begun.kept stale).0;
        empty = begun.empty;
        sized = sizes;
        less = subst (λ (k : ℕ). free_data before.words before.first < k + (levels_of size + 1) * (length names + 1)) added
            (subst (λ (k : ℕ). k < length between.added + (levels_of size + 1) * (length names + 1)) free counted);
      }

-- ---- an inode

-- one that was made of a content is an inode that was made
pub inode_made : (Told : Type 0) (s : Store) (was : Option Inode) (state : NodeState) (names : Names) (written : Blocks) (old content : Content) (inode : Inode) (acls : AclChange) (a b : Draft)
    → old ≡ content_of was → IsInodeFor was state content inode acls → FitsRecord inode → IsContentMade Told s old state names written content a b → IsInodeMade Told s was state names written (Used inode acls) a b
inode_made Told s was state names written old content inode acls a b is made fits planned = record {
  inode = inode;
  acls = acls;
  used = refl;
  made = subst (λ (x : Content). IsInodeFor was state x inode acls) (sym made.has) made;
  fits = fits;
  content = subst (λ (x : Content). IsContentMade Told s (content_of was) state names written x a b) (sym made.has)
      (subst (λ (x : Content). IsContentMade Told s x state names written content a b) is planned);
}
