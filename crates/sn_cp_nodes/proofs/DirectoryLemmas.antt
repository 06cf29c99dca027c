-- A directory that was planned is the one that is seen through a layer.
use Rattle.std.proofs.Common.{◌≡◌, ℕ, ◌<◌, ◌≤◌, Bool, true, false, if◌then◌else◌, List, [], get_or, replicate, Option, None, Some, Contains, refl, sym, ap, subst, ◌∙◌, arith}
use Rattle.std.specs.FinMap as fin
use Rattle.std.proofs.lemmas.Bool.{cases_lt}
use Rattle.std.proofs.lemmas.List.{get_or-replicate, get_or_past, length-replicate}
use Rattle.std.proofs.Common.{⊎_elim}
use Rattle.sn_dir_change.specs.Planned.{AreSpelled, HasChanged, HasNoHole}
use Rattle.sn_dir_change.specs.declared.name_change.NameChange.{NameChange}
use Rattle.sn_image.specs.Contents.{content_reach}
use Rattle.sn_image.specs.Image.{image}
use Rattle.sn_image.specs.Inodes.{inode_at}
use Rattle.sn_image.specs.Names.{names_at, names_by, names_of, names_under}
use Rattle.sn_image.specs.Sound.{AreOnce, EndsAtSize, HasBlocks, HasContent}
use Rattle.sn_image.proofs.ListLemmas.{none_in}
use Rattle.sn_image.proofs.PointLemmas.{name_found}
use Rattle.sn_image.specs.Reach.{reach_at}
use Rattle.sn_layout.specs.Bytes.{zeros}
use Rattle.sn_layout.specs.Pointers.{levels_of}
use Rattle.sn_layout.specs.declared.tree.BlockTree.{BlockTree}
use Rattle.sn_layout_node.specs.Directory.{number_of}
use Rattle.sn_layout_node.specs.declared.content.Content.{Content}
use Rattle.sn_layout_node.specs.declared.content.Content.TheVariants.{Inline, Tree}
use Rattle.sn_layout_node.specs.declared.inode.Inode.{Inode}
use Rattle.sn_limits.specs.declared.kind.Kind.{Kind}
use Rattle.sn_limits.specs.declared.kind.Kind.TheVariants.{File, Directory}
use Rattle.sn_limits.specs.declared.limits.Limits.{Limits}
use Rattle.sn_model.specs.Tree.{link_to}
use Rattle.sn_ondisk.specs.TreeLaws.{SameIn}
use Rattle.sn_ondisk.specs.Trees.{Store, all_pointers, data_block, entry, named_by, tree_reach}
use Rattle.sn_overlay.specs.Layers.{Layer, hides_names}
use Rattle.sn_overlay.specs.Lists.{changed_names}
use Rattle.sn_overlay.specs.declared.node.NodeChange.TheVariants.{Changed}
use Rattle.sn_overlay.specs.declared.node.NodeState.{NodeState}
use Rattle.sn_cp_nodes.specs.Built.{IsGround}
use Rattle.sn_cp_nodes.specs.Laws.{IsSeen}
use Rattle.sn_cp_nodes.specs.Made.{ChangeThem}
use Rattle.sn_cp_nodes.specs.Parts.{Names, content_of, empty_tree}
use Rattle.sn_cp_nodes.proofs.NameLemmas.{names_seen}
use Rattle.sn_cp_nodes.proofs.OldLemmas.{old_of, same_content}

-- ---- a tree without blocks

empty_pointer : (i : ℕ) → get_or {A = ℕ} (replicate 16 0) i 0 ≡ 0
empty_pointer i = ⊎_elim
    (λ (inside : i < 16). get_or-replicate 16 i 0 0 inside)
    (λ (past : 16 ≤ i). get_or_past (replicate 16 0) i 0 (omega (arith, past, length-replicate {A = ℕ} 16 0)))
    (cases_lt i 16)

empty_level : levels_of 0 ≡ 0
empty_level = refl

empty_entry : (s : Store) (i : ℕ) → entry s (levels_of 0) (replicate 16 0) i ≡ 0
unfolding entry
empty_entry s i = empty_pointer i

pub empty_reach : (s : Store) → tree_reach s empty_tree ≡ []
unfolding tree_reach all_pointers
empty_reach s = refl

empty_block : (s : Store) (i : ℕ) → data_block s empty_tree i ≡ zeros 4096
unfolding data_block named_by
empty_block s i = ap (named_by s) (empty_entry s i)

empty_ends : (s : Store) → EndsAtSize s empty_tree
unfolding zeros entry
empty_ends s = record {
  pointers = λ depth i low far. let none : depth ≡ 0 = omega (arith, low, empty_level) in ap (λ (d : ℕ). entry s d (replicate 16 0) i) none ∙ empty_pointer i;
  bytes = λ i k within far. ap (λ (bytes : List ℕ). get_or bytes k 0) (empty_block s i) ∙ get_or-replicate 4096 k 0 0 within;
}

-- ---- a directory that was there

-- it is a tree that ends at its size, and its blocks are there
directory_tree : (s : Store) (kind : Kind) (content : Content) (tree : BlockTree) → kind ≡ Directory → content ≡ Tree tree → HasContent s kind content → EndsAtSize s tree × HasBlocks s tree
directory_tree s File content tree is of has = absurd cc
directory_tree s Directory (Inline bytes) tree is of has = absurd has
directory_tree s Directory (Tree other) tree is of has = let same : other ≡ tree = cc in subst (λ (t : BlockTree). EndsAtSize s t × HasBlocks s t) same has

directory_names : (s : Store) (inode : Inode) (tree : BlockTree) → inode.kind ≡ Directory → inode.content ≡ Tree tree → names_under s (Some inode) ≡ names_of s (Tree tree)
directory_names s inode tree is of = told inode.kind is ∙ ap (names_of s) of
  where
    told : (kind : Kind) → kind ≡ Directory → names_by s kind inode.content ≡ names_of s inode.content
    told Directory e = refl
    told File e = absurd cc

-- ---- the tree in which names change

-- What is so of it: it is read alike, no name occurs twice, its blocks are names, and it has the names below unless they are hidden.
pub record IsBase (s r : Store) (tree : BlockTree) (below : List ℕ → Option ℕ) : Type 0 where
  pub same : SameIn (tree_reach s tree) s r
  pub once : AreOnce (names_of s (Tree tree))
  pub spelled : AreSpelled s tree
  pub no_hole : HasNoHole s tree
  pub ends : EndsAtSize s tree
  pub names : (name : List ℕ) → number_of name (names_of s (Tree tree)) ≡ below name

empty_base : (s r : Store) → IsBase s r empty_tree (λ name. None)
empty_base s r = record {
  same = λ block among. none_in block (subst (λ (blocks : List ℕ). Contains blocks block) (empty_reach s) among);
  once = λ name. omega arith;
  spelled = λ i low. absurd (omega (arith, low));
  no_hole = λ i low. absurd (omega (arith, low));
  ends = empty_ends s;
  names = λ name. refl;
}

module _ (limits : Limits) (n : ℕ) (s : Store) (file : BlockTree) (layer : Layer) (number : ℕ) (ground : IsGround limits n s file layer)
    (state : NodeState) (node : fin.get layer.nodes number ≡ Some (Changed state)) (is_directory : state.kind ≡ Directory) where
  abbrev old : Content
  old = content_of (inode_at s file number)

  abbrev below : List ℕ → Option ℕ
  below name = if hides_names (fin.get layer.nodes number) then None else fin.get (image s file).links (link_to number name)

  module _ (r : Store) (same : SameIn (content_reach s old) s r) where
    there_base : (tree : BlockTree) → state.fresh ≡ false → old ≡ Tree tree → IsBase s r tree (λ name. fin.get (image s file).links (link_to number name))
    unfolding names_at
    there_base tree stale of =
        let (inode, used, kind) = old_of limits n s file layer number ground state node stale in
        let is : inode.kind ≡ Directory = kind ∙ is_directory in
        let content : inode.content ≡ Tree tree = sym (ap content_of used) ∙ of in
        let (ends, blocks) = directory_tree s inode.kind inode.content tree is content (ground.sound.used.contents number inode used) in
        let names : names_at s file number ≡ names_of s (Tree tree) = ap (names_under s) used ∙ directory_names s inode tree is content in
        record {
          same = subst (λ (c : Content). SameIn (content_reach s c) s r) of same;
          once = subst AreOnce names (ground.sound.names.once number);
          spelled = blocks.spelled;
          no_hole = blocks.no_hole;
          ends = ends;
          names = λ name. ap (number_of name) (sym names) ∙ sym (name_found s file number name);
        }

    hidden : (b : Bool) → state.fresh ≡ b → hides_names (fin.get layer.nodes number) ≡ b
    hidden b is = ap hides_names node ∙ is

    pub begun_base : (tree : BlockTree) → (state.fresh ≡ true → tree ≡ empty_tree) → (state.fresh ≡ false → old ≡ Tree tree) → IsBase s r tree below
    begun_base tree empty kept = told state.fresh refl
      where
        told : (b : Bool) → state.fresh ≡ b → IsBase s r tree below
        told true fresh =
            let none : (λ (name : List ℕ). None) ≡ below = λ i name. if sym (hidden true fresh) i then None else fin.get (image s file).links (link_to number name) in
            subst (λ (t : BlockTree). IsBase s r t below) (sym (empty fresh)) (subst (λ (names : List ℕ → Option ℕ). IsBase s r empty_tree names) none (empty_base s r))
        told false stale =
            let some : (λ (name : List ℕ). fin.get (image s file).links (link_to number name)) ≡ below = λ i name. if sym (hidden false stale) i then None else fin.get (image s file).links (link_to number name) in
            subst (λ (names : List ℕ → Option ℕ). IsBase s r tree names) some (there_base tree stale (kept stale))

    -- ---- the new directory

    pub directory_seen : (names : Names) (tree new : BlockTree) (changes : List NameChange) → (state.fresh ≡ true → tree ≡ empty_tree) → (state.fresh ≡ false → old ≡ Tree tree)
        → names ≡ changed_names layer number → ChangeThem names changes → (AreOnce (names_of s (Tree tree)) → SameIn (tree_reach s tree) s r → HasChanged s r tree new changes) → IsSeen layer s file number r new
    directory_seen names tree new changes empty kept are them changed =
        let base = begun_base tree empty kept in
        let has = changed base.once base.same in
        record {
          names = names_seen layer (image s file) number names changes (names_of s (Tree tree)) (names_of r (Tree new)) are them has.names base.names;
          once = has.names.once;
          ends = has.ends base.ends;
          blocks = record { no_hole = has.no_hole base.no_hole; spelled = has.spelled base.spelled };
        }

pub directories_seen : (limits : Limits) (n : ℕ) (s r : Store) (file : BlockTree) (layer : Layer) (number : ℕ) (state : NodeState) (names : Names) (tree new : BlockTree) (changes : List NameChange)
    → IsGround limits n s file layer → fin.get layer.nodes number ≡ Some (Changed state) → state.kind ≡ Directory → names ≡ changed_names layer number → ChangeThem names changes
    → (state.fresh ≡ true → tree ≡ empty_tree) → (state.fresh ≡ false → content_of (inode_at s file number) ≡ Tree tree)
    → (AreOnce (names_of s (Tree tree)) → SameIn (tree_reach s tree) s r → HasChanged s r tree new changes) → SameIn (reach_at s file number) s r → IsSeen layer s file number r new
directories_seen limits n s r file layer number state names tree new changes ground node is are them empty kept changed same =
    directory_seen limits n s file layer number ground state node is r (same_content s r file number same) names tree new changes empty kept are them changed
