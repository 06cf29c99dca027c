-- An inode that was made over a safe ground is one that the number can have.
use Rattle.std.proofs.Common.{◌≡◌, ℕ, ◌%◌, ◌<◌, ◌≤◌, ◌==◌, Bool, true, false, List, [], ◌++◌, Option, refl, sym, ap, subst, ◌∙◌, arith}
use Rattle.std.specs.Prelude.{IsSomeAnd, IsTrue, nat_le, nat_lt}
use Rattle.std.proofs.lemmas.Bool.{and_from, eq-eqb, le-leb, lt-ltb}
use Rattle.sn_dir_change.specs.Laws.{GrownDirectoriesFit}
use Rattle.sn_image.specs.Image.{image}
use Rattle.sn_image.specs.Inodes.{inode_at}
use Rattle.sn_image.specs.Reach.{reach_at}
use Rattle.sn_image.specs.Sound.{EndsAtSize}
use Rattle.sn_inode.specs.Changes.{CanSet, IsChange, IsNew}
use Rattle.sn_inode.specs.declared.changes.AclChange.{AclChange}
use Rattle.sn_inode.specs.declared.changes.AclChange.TheVariants.{Kept, Set}
use Rattle.sn_inode.specs.declared.changes.RecordChange.{RecordChange}
use Rattle.sn_layout.specs.declared.tree.BlockTree.{BlockTree}
use Rattle.sn_layout_node.specs.Inode.{IsContent, IsInode, are_links}
use Rattle.sn_layout_node.specs.declared.content.Content.{Content}
use Rattle.sn_layout_node.specs.declared.content.Content.TheVariants.{Inline, Tree}
use Rattle.sn_layout_node.specs.declared.inode.Inode.{Inode}
use Rattle.sn_limits.specs.declared.kind.Kind.{Kind}
use Rattle.sn_limits.specs.declared.kind.Kind.TheVariants.{File, Directory}
use Rattle.sn_limits.specs.declared.limits.Limits.{Limits}
use Rattle.sn_acl.specs.declared.modes.Mode.{Mode}
use Rattle.sn_limits.proofs.VersionLemmas.{fixed}
use Rattle.sn_model.specs.NameTree.{HasKind}
use Rattle.sn_model.specs.Tree.{Node, link_count, names_for}
use Rattle.sn_ondisk.specs.TreeLaws.{SameIn}
use Rattle.sn_ondisk.specs.Trees.{Store}
use Rattle.sn_overlay.specs.Layers.{Layer, through}
use Rattle.sn_overlay.specs.declared.node.NodeChange.TheVariants.{Changed}
use Rattle.sn_overlay.specs.declared.node.NodeState.{NodeState}
use Rattle.sn_tree.specs.Drafts.{Draft, grown}
use Rattle.sn_tree.specs.Plans.{Holds}
use Rattle.sn_tree.specs.Replanned.{EndsAt}
use Rattle.sn_tree.specs.declared.new_block.NewBlock.{NewBlock}
use Rattle.sn_tree.proofs.LawLemmas.{ended_pointers}
use Rattle.sn_tree.proofs.StepLemmas.{grown-grown}
use Rattle.sn_content.specs.Contents.{content_block}
use Rattle.sn_cp_nodes.specs.Built.{IsGround, KeepsReach}
use Rattle.sn_cp_nodes.specs.Inodes.{AreAclsFor, FitsContent}
use Rattle.sn_cp_nodes.specs.Made.{HasTaken, IsDirectoryMade, IsFileMade, IsInodeMade, IsMadeAs}
use Rattle.sn_cp_nodes.specs.Parts.{Blocks, IsPartOf, Names, content_of, dirty_of, keep_of}
use Rattle.sn_cp_nodes.proofs.DirectoryLemmas.{directory_seen}
use Rattle.sn_cp_nodes.proofs.FileLemmas.{file_ends_at}
use Rattle.sn_cp_nodes.proofs.OldLemmas.{same_content}
use Rattle.sn_cp_nodes.proofs.PutLemmas.{of_number, with_new}
use Rattle.sn_cp_nodes.proofs.RoomLemmas.{is_seen, largest, node_allowed, size_allowed, small_file}

-- a tree of a file, or of a directory, that ends at its size
file_tree : (limits : Limits) (r : Store) (tree : BlockTree) → FitsContent (Tree tree) → 64 < tree.size → tree.size ≤ limits.largest_file → EndsAtSize r tree → IsContent limits File (Tree tree)
file_tree limits r tree fits more most ends = (
  fits,
  and_from (nat_lt 64 tree.size) (nat_le tree.size limits.largest_file) (lt-ltb 64 tree.size more) (le-leb tree.size limits.largest_file most),
  ended_pointers r tree ends,
)

directory_tree : (limits : Limits) (r : Store) (tree : BlockTree) → FitsContent (Tree tree) → tree.size % 4096 ≡ 0 → tree.size ≤ limits.largest_file → EndsAtSize r tree → IsContent limits Directory (Tree tree)
directory_tree limits r tree fits whole most ends = (
  fits,
  and_from ((tree.size % 4096) == 0) (nat_le tree.size limits.largest_file) (eq-eqb (tree.size % 4096) 0 whole) (le-leb tree.size limits.largest_file most),
  ended_pointers r tree ends,
)

module _ (tells : Bool) (told : IsTrue tells) (fit : GrownDirectoriesFit) (limits : Limits) (n : ℕ) (s : Store) (file : BlockTree) (layer : Layer) (number : ℕ) (ground : IsGround limits n s file layer)
    (names : Names) (written : Blocks) (draft : Draft) (kept : KeepsReach s file draft) (state : NodeState) (part : IsPartOf layer number (Changed state) names written) where
  abbrev old : Content
  old = content_of (inode_at s file number)

  module _ (behind : Draft) (taken : HasTaken behind) where
    -- a store that has the new blocks of a plan
    abbrev HasNew : List NewBlock → Store → Type 0
    HasNew added r = SameIn (reach_at s file number) s r × Holds r added

    new_store : (added : List NewBlock) (released : List ℕ) → behind ≡ grown draft added released → (r : Store) × HasNew added r
    new_store added released grew =
        let (r, same, holds) = with_new s file draft behind kept added released grew taken in
        (r, (of_number s r file number same, holds))

    -- ---- contents

    file_content : state.kind ≡ File → (content : Content) → FitsContent content → IsFileMade (IsTrue tells) s old state written content draft behind → IsContent limits File content
    file_content is (Inline bytes) fits made = made.planned.form
    file_content is (Tree tree) fits made =
        let plan = made.planned in
        let (r, has) = new_store plan.added plan.released plan.grew in
        let ends_at = file_ends_at limits n s file layer number ground state part.node is written part.its_blocks made.order in
        let ends : EndsAtSize r tree =
        (plan.plans told).ends r (same_content s r file number has.0) has.1 (subst (λ (size : ℕ). EndsAt (content_block s old) size (keep_of state) (dirty_of written)) (sym made.size) ends_at) in
        let size : tree.size ≡ state.size = made.size in
        let most : tree.size ≤ limits.largest_file = omega (
          arith,
          size,
          small_file tells told fit limits n s file layer number ground names written draft state part,
          largest tells told fit limits n s file layer number ground names written draft,
        ) in
        file_tree limits r tree fits plan.form most ends

    directory_content : state.kind ≡ Directory → (tree : BlockTree) → FitsContent (Tree tree) → IsDirectoryMade (IsTrue tells) s old state.fresh names tree draft behind → IsContent limits Directory (Tree tree)
    directory_content is tree fits made =
        let plan = made.planned in
        let begun = made.begun in
        let grew = plan.grew ∙ ap (λ (d : Draft). grown d plan.added plan.released) begun.grew ∙ grown-grown draft [] plan.added begun.released plan.released in
        let (r, has) = new_store plan.added (begun.released ++ plan.released) grew in
        let was : state.fresh ≡ false → old ≡ Tree made.tree = λ stale. (begun.kept stale).0 in
        let seen =
        directory_seen limits n s file layer number ground state part.node is r (same_content s r file number has.0) names made.tree tree made.changes begun.empty was part.its_names made.are
        (λ once same. plan.changed told once r same has.1) in
        let most = size_allowed tells told fit limits n s file layer number ground names written draft state part is made.tree begun.empty was made.changes tree.size made.are plan.sized in
        directory_tree limits r tree fits plan.sized.whole most seen.ends

    content_valid : (kind : Kind) → state.kind ≡ kind → (content : Content) → FitsContent content → IsMadeAs kind (IsTrue tells) s old state names written content draft behind → IsContent limits kind content
    content_valid File is content fits made = file_content is content fits made
    content_valid Directory is (Inline bytes) fits made = absurd made
    content_valid Directory is (Tree tree) fits made = directory_content is tree fits made

  -- ---- how many names it has

  links_valid : (kind : Kind) → state.kind ≡ kind → are_links kind state.links ≡ true
  links_valid File is =
      let most : limits.links ≡ 32767 = (fixed limits.version limits ground.version).links in
      let counted : state.links ≡ names_for (through layer (image s file)) number = ground.lies.counts.changed number state part.node ∙ ap (λ (k : Kind). link_count k (names_for (through layer (image s file)) number)) is in
      let seen : HasKind (through layer (image s file)) number File =
      subst (λ (o : Option Node). IsSomeAnd o (λ node. node.kind ≡ File)) (sym (is_seen tells told fit limits n s file layer number ground names written draft state part)) is in
      le-leb state.links 32767 (omega (arith, most, counted, ground.tree.few.links number seen))
  links_valid Directory is =
      let one : state.links ≡ 1 = ground.lies.counts.changed number state part.node ∙ ap (λ (k : Kind). link_count k (names_for (through layer (image s file)) number)) is in
      eq-eqb state.links 1 one

  -- ---- no file gets a default ACL

  can_set : (was : Option Inode) (objects : Mode) (kind : Kind) (acls : AclChange) → kind ≡ state.kind → AreAclsFor was state objects acls → CanSet kind acls
  can_set was objects kind Kept same are = tt
  can_set was objects kind (Set acls) same are = λ is.
      are.1 ∙ (node_allowed tells told fit limits n s file layer number ground names written draft state part).of_file (sym same ∙ is)

  -- ---- the inode

  inode_valid : (record_change : RecordChange) (behind : Draft) → HasTaken behind → (made : IsInodeMade (IsTrue tells) s (inode_at s file number) state names written record_change draft behind) → IsInode limits made.inode
  inode_valid record_change behind taken made =
      let inode = made.inode in
      let its = made.made in
      record {
        objects = made.fits.objects;
        links = subst (λ (k : Kind). are_links k inode.links ≡ true) (sym its.kind) (ap (are_links state.kind) its.links ∙ links_valid state.kind refl);
        owner = made.fits.owner;
        group = made.fits.group;
        acl_block = made.fits.acl_block;
        content = subst (λ (k : Kind). IsContent limits k inode.content) (sym its.kind) (content_valid behind taken state.kind refl inode.content made.fits.content made.content);
      }

  pub change_valid : (record_change : RecordChange) (behind : Draft) → HasTaken behind → IsInodeMade (IsTrue tells) s (inode_at s file number) state names written record_change draft behind
      → IsChange limits (record { number = number; «record» = record_change })
  change_valid record_change behind taken made =
      let allowed = node_allowed tells told fit limits n s file layer number ground names written draft state part in
      let its = made.made in
      record {
        least = allowed.first;
        most = allowed.within;
        new = subst (IsNew limits) (sym made.used) (inode_valid record_change behind taken made, can_set (inode_at s file number) made.inode.objects made.inode.kind made.acls its.kind its.its_acls);
      }
