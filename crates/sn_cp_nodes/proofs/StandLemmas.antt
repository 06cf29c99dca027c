-- What was built of a node denotes what is seen of it.
use Rattle.std.proofs.Common.{◌≡◌, ℕ, Bool, true, false, List, Option, None, Some, refl, sym, ap, subst, ◌∙◌, arith}
use Rattle.std.specs.Prelude.{IsSomeAnd}
use Rattle.std.specs.FinMap as fin
use Rattle.sn_image.specs.Image.{file_bytes, image, node_of}
use Rattle.sn_image.specs.Inodes.{inode_at}
use Rattle.sn_image.specs.Names.{names_by, names_of}
use Rattle.sn_image.specs.Reach.{reach_at}
use Rattle.sn_image.specs.Sound.{AreOnce, ContentEnds, HasContent}
use Rattle.sn_dir_change.specs.Planned.{HasChanged}
use Rattle.sn_dir_change.specs.declared.name_change.NameChange.{NameChange}
use Rattle.sn_inode.specs.Changes.{HasAclsOf, IsChanged}
use Rattle.sn_inode.specs.declared.changes.AclChange.{AclChange}
use Rattle.sn_inode.specs.declared.changes.RecordChange.TheVariants.{Used}
use Rattle.sn_layout.specs.declared.tree.BlockTree.{BlockTree}
use Rattle.sn_layout_node.specs.Directory.{number_of}
use Rattle.sn_layout_node.specs.Inode.{IsContent, IsInode, size_of}
use Rattle.sn_layout_node.specs.declared.content.Content.{Content}
use Rattle.sn_layout_node.specs.declared.content.Content.TheVariants.{Tree}
use Rattle.sn_layout_node.specs.declared.inode.Inode.{Inode}
use Rattle.sn_limits.specs.declared.kind.Kind.{Kind}
use Rattle.sn_limits.specs.declared.kind.Kind.TheVariants.{File, Directory}
use Rattle.sn_limits.specs.declared.limits.Limits.{Limits}
use Rattle.sn_model.specs.Changes.{node_with}
use Rattle.sn_model.specs.Tree.{Node, Tree as NameTree, link_count, link_to, names_for}
use Rattle.sn_ondisk.specs.TreeLaws.{SameIn}
use Rattle.sn_ondisk.specs.Trees.{Store, tree_reach}
use Rattle.sn_overlay.specs.Layers.{Layer, node_seen, through}
use Rattle.sn_overlay.specs.Layers as layers
use Rattle.sn_overlay.specs.Pieces.{joined}
use Rattle.sn_overlay.specs.declared.node.NodeChange.{NodeChange}
use Rattle.sn_overlay.specs.declared.node.NodeChange.TheVariants.{Changed, Gone}
use Rattle.sn_overlay.specs.declared.node.NodeState.{NodeState}
use Rattle.sn_overlay.proofs.LayerLemmas.{get-through_nodes}
use Rattle.sn_tree.specs.Orders.{AreInOrder}
use Rattle.sn_tree.specs.Plans.{Holds}
use Rattle.sn_tree.specs.Replanned.{EndsAt}
use Rattle.sn_tree.specs.declared.new_block.NewBlock.{NewBlock}
use Rattle.sn_content.specs.Contents.{IsContentReplanned, content_block}
use Rattle.sn_cp_nodes.specs.Built.{IsGround, StandsFor}
use Rattle.sn_cp_nodes.specs.Inodes.{IsInodeFor}
use Rattle.sn_cp_nodes.specs.Made.{ChangeThem}
use Rattle.sn_cp_nodes.specs.Parts.{Blocks, IsPartOf, Names, content_of, dirty_of, empty_tree, keep_of}
use Rattle.sn_cp_nodes.proofs.AclLemmas.{AclsAre, changed_acls}
use Rattle.sn_cp_nodes.proofs.DirectoryLemmas.{directory_seen}
use Rattle.sn_cp_nodes.proofs.FileLemmas.{file_bytes_are, file_ends_at}
use Rattle.sn_cp_nodes.proofs.OldLemmas.{roomy_kind, same_content}

module _ (limits : Limits) (n : ℕ) (s : Store) (file : BlockTree) (layer : Layer) (number : ℕ) (ground : IsGround limits n s file layer) where
  abbrev shown : NameTree
  shown = through layer (image s file)

  abbrev there : Option Node
  there = fin.get (image s file).nodes number

  shows : (change : NodeChange) → fin.get layer.nodes number ≡ Some change → fin.get shown.nodes number ≡ node_seen layer number (Some change) there
  shows change node = get-through_nodes layer (image s file) number ∙ ap (λ (c : Option NodeChange). node_seen layer number c there) node

  -- what is no directory has no names
  no_names : ((node : Node) → fin.get shown.nodes number ≡ Some node → node.kind ≡ Directory → ⊥) → (name : List ℕ) → None ≡ fin.get shown.links (link_to number name)
  no_names none name = told (fin.get shown.links (link_to number name)) refl
    where
      held : (o : Option Node) → fin.get shown.nodes number ≡ o → IsSomeAnd o (λ node. node.kind ≡ Directory) → ⊥
      held None e is = is
      held (Some node) e is = none node e is

      told : (o : Option ℕ) → fin.get shown.links (link_to number name) ≡ o → None ≡ o
      told None e = refl
      told (Some other) e = absurd (held (fin.get shown.nodes number) refl (ground.tree.hierarchy.held (link_to number name) other e))

  -- ---- a node that is gone

  pub gone_stands : (by_close : Bool) → fin.get layer.nodes number ≡ Some (Gone by_close) → (r : Store) → StandsFor shown number r None
  gone_stands by_close node r = record {
    node = sym (shows (Gone by_close) node);
    names = no_names (λ x e is. let never : None ≡ Some x = sym (shows (Gone by_close) node) ∙ e in absurd cc);
    once = λ name. omega arith;
    content = tt;
    acls = tt;
    links = tt;
  }

  -- ---- a node that changed

  module _ (state : NodeState) (node : fin.get layer.nodes number ≡ Some (Changed state)) (names : Names) (written : Blocks) (part : IsPartOf layer number (Changed state) names written)
      (r : Store) (same : SameIn (reach_at s file number) s r) where
    abbrev old : Content
    old = content_of (inode_at s file number)

    abbrev bytes : List ℕ
    bytes = joined 4096 state.size (layers.block_seen layer number state (layers.bytes_of there))

    abbrev seen_as : Node
    seen_as = node_with state.kind state.ownership bytes

    is_seen : fin.get shown.nodes number ≡ Some seen_as
    is_seen = shows (Changed state) node

    -- what is so of its content
    record IsRight (content : Content) : Type 0 where
      bytes_are : file_bytes r state.kind content ≡ bytes
      names_are : (name : List ℕ) → number_of name (names_by r state.kind content) ≡ fin.get shown.links (link_to number name)
      once : AreOnce (names_by r state.kind content)
      has : HasContent r state.kind content

    by_kind : (kind : Kind) → state.kind ≡ kind → (content : Content) → (file_bytes r kind content ≡ bytes) → ((name : List ℕ) → number_of name (names_by r kind content) ≡ fin.get shown.links (link_to number name))
        → AreOnce (names_by r kind content) → HasContent r kind content → IsRight content
    by_kind kind is content bytes_are names_are once has = record {
      bytes_are = subst (λ (k : Kind). file_bytes r k content ≡ bytes) (sym is) bytes_are;
      names_are = subst (λ (k : Kind). (name : List ℕ) → number_of name (names_by r k content) ≡ fin.get shown.links (link_to number name)) (sym is) names_are;
      once = subst (λ (k : Kind). AreOnce (names_by r k content)) (sym is) once;
      has = subst (λ (k : Kind). HasContent r k content) (sym is) has;
    }

    same_some : {A : Type 0} {x y : A} → Some x ≡ Some y → x ≡ y
    same_some e = cc

    not_both : File ≡ Directory → ⊥
    not_both e = absurd cc

    file_right : (content : Content) (added : List NewBlock) (released : List ℕ) → state.kind ≡ File → IsContent limits state.kind content → size_of content ≡ state.size → AreInOrder state.size (dirty_of written)
        → IsContentReplanned s old content (keep_of state) (dirty_of written) added released → Holds r added → IsRight content
    file_right content added released is fits size order plans holds =
        let same_old = same_content s r file number same in
        let ends_at = file_ends_at limits n s file layer number ground state node is written part.its_blocks order in
        let ends : ContentEnds r content = plans.ends r same_old holds (subst (λ (size : ℕ). EndsAt (content_block s old) size (keep_of state) (dirty_of written)) (sym size) ends_at) in
        by_kind File is content
        (file_bytes_are limits n s file layer number ground state node is written part.its_blocks r content (roomy_kind limits state.kind content ground.version is fits) size (plans.blocks r same_old holds))
        (no_names (λ x e dir. let one : seen_as ≡ x = same_some (sym is_seen ∙ e) in not_both (sym is ∙ ap (λ (y : Node). y.kind) one ∙ dir)))
        (λ name. omega arith)
        ends

    directory_right : (tree new : BlockTree) (changes : List NameChange) → state.kind ≡ Directory → (state.fresh ≡ true → tree ≡ empty_tree) → (state.fresh ≡ false → old ≡ Tree tree)
        → ChangeThem names changes → (AreOnce (names_of s (Tree tree)) → SameIn (tree_reach s tree) s r → HasChanged s r tree new changes) → IsRight (Tree new)
    directory_right tree new changes is empty kept them changed =
        let right = directory_seen limits n s file layer number ground state node is r (same_content s r file number same) names tree new changes empty kept part.its_names them changed in
        by_kind Directory is (Tree new) (sym ((ground.tree.nodes.nodes number seen_as is_seen).of_directory is)) right.names right.once (right.ends, right.blocks)

    -- ---- the inode

    inode_stands : (inode : Inode) (acls : AclChange) (pointer : ℕ) → IsInodeFor (inode_at s file number) state inode.content inode acls → IsRight inode.content
        → HasAclsOf r (inode_at s file number) inode.kind acls pointer → StandsFor shown number r (Some (record inode { acl_block = pointer }))
    unfolding node_of
    inode_stands inode acls pointer made right has =
        let are : AclsAre r state inode.objects pointer = changed_acls limits n s file layer number ground state node r same inode.objects inode.kind pointer acls made.kind made.its_acls has in
        let bytes_are : file_bytes r inode.kind inode.content ≡ bytes = ap (λ (k : Kind). file_bytes r k inode.content) made.kind ∙ right.bytes_are in
        let one : node_of r (record inode { acl_block = pointer }) ≡ seen_as = λ i. record {
          kind = made.kind i;
          owner = made.owner i;
          group = made.group i;
          set_gid = made.set_gid i;
          sticky = made.sticky i;
          acl = are.access i;
          default_acl = are.default i;
          bytes = bytes_are i;
        } in
        record {
          node = ap (λ (x : Node). Some x) one ∙ sym is_seen;
          names = subst (λ (k : Kind). (name : List ℕ) → number_of name (names_by r k inode.content) ≡ fin.get shown.links (link_to number name)) (sym made.kind) right.names_are;
          once = subst (λ (k : Kind). AreOnce (names_by r k inode.content)) (sym made.kind) right.once;
          content = subst (λ (k : Kind). HasContent r k inode.content) (sym made.kind) right.has;
          acls = are.spelled;
          links = λ file_kind. sym (made.links ∙ ground.lies.counts.changed number state node ∙ ap (λ (k : Kind). link_count k (names_for shown number)) (sym made.kind ∙ file_kind));
        }

    changed_stands : (inode : Inode) (acls : AclChange) → IsInodeFor (inode_at s file number) state inode.content inode acls → IsRight inode.content
        → (new : Option Inode) → IsChanged r (inode_at s file number) (Used inode acls) new → StandsFor shown number r new
    changed_stands inode acls made right new (pointer, is, has) = subst (StandsFor shown number r) (sym is) (inode_stands inode acls pointer made right has)

    -- ---- a file and a directory

    pub file_stands : (inode : Inode) (acls : AclChange) (added : List NewBlock) (released : List ℕ) → state.kind ≡ File → IsInode limits inode → IsInodeFor (inode_at s file number) state inode.content inode acls
        → size_of inode.content ≡ state.size → AreInOrder state.size (dirty_of written) → IsContentReplanned s old inode.content (keep_of state) (dirty_of written) added released → Holds r added
        → (new : Option Inode) → IsChanged r (inode_at s file number) (Used inode acls) new → StandsFor shown number r new
    file_stands inode acls added released is fits made size order plans holds =
        changed_stands inode acls made (file_right inode.content added released is (subst (λ (k : Kind). IsContent limits k inode.content) made.kind fits.content) size order plans holds)

    pub directory_stands : (inode : Inode) (acls : AclChange) (tree new_tree : BlockTree) (changes : List NameChange) → state.kind ≡ Directory → inode.content ≡ Tree new_tree → IsInodeFor (inode_at s file number) state inode.content inode acls
        → (state.fresh ≡ true → tree ≡ empty_tree) → (state.fresh ≡ false → old ≡ Tree tree) → ChangeThem names changes
        → (AreOnce (names_of s (Tree tree)) → SameIn (tree_reach s tree) s r → HasChanged s r tree new_tree changes)
        → (new : Option Inode) → IsChanged r (inode_at s file number) (Used inode acls) new → StandsFor shown number r new
    directory_stands inode acls tree new_tree changes is of made empty kept them changed =
        changed_stands inode acls made (subst IsRight (sym of) (directory_right tree new_tree changes is empty kept them changed))
