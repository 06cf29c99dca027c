-- Whether a root is sound depends on the blocks that it reaches.
use Rattle.std.proofs.Common.{◌≡◌, ◌≢◌, ℕ, zero, suc, ◌*◌, ◌/◌, ◌%◌, ◌==◌, ◌<◌, ◌≤◌, Bool, List, [], ◌∷◌, length, take, drop, flat_map, Option, Some, None, Contains, IsSomeAnd, sum_by, slice_index, refl, sym, ap, subst, ◌∙◌, ⊎_elim, arith}
use Rattle.std.specs.Prelude.{codes, count_by, if◌then◌else◌, is_some}
use Rattle.std.proofs.lemmas.Bool.{cases_lt, eqb-false, ne_eqb}
use Rattle.std.proofs.lemmas.List.Elements.{Contains-append_left, Contains-append_right}
use Rattle.sn_device.proofs.SectorLemmas.{Contains-first}
use Rattle.sn_limits.specs.declared.kind.Kind.{Kind}
use Rattle.sn_limits.specs.declared.kind.Kind.TheVariants.{File, Directory}
use Rattle.sn_limits.specs.declared.limits.Limits.{Limits}
use Rattle.sn_layout.specs.declared.tree.BlockTree.{BlockTree}
use Rattle.sn_layout.specs.Pointers.{levels_of}
use Rattle.sn_layout_node.specs.Directory.{Link, IsDirectoryBlock, number_of}
use Rattle.sn_layout_node.specs.declared.content.Content.{Content}
use Rattle.sn_layout_node.specs.declared.content.Content.TheVariants.{Inline, Tree}
use Rattle.sn_layout_node.specs.declared.inode.Inode.{Inode}
use Rattle.sn_model.specs.Tree.{Node}
use Rattle.sn_ondisk.specs.Counts.{times}
use Rattle.sn_ondisk.specs.TreeLaws.{SameIn, ReadsAlike}
use Rattle.sn_ondisk.specs.Trees.{Store, all_pointers, entry, pointers_at, tree_reach}
use Rattle.sn_ondisk.proofs.TreeLemmas.{Agree, but_holes-has, entry-level, pointers-same, trees_depend}
use Rattle.sn_image.specs.Acls.{acls_at}
use Rattle.sn_image.specs.Contents.{content_reach}
use Rattle.sn_image.specs.Image.{node_of}
use Rattle.sn_image.specs.Inodes.{inode_at, record_at}
use Rattle.sn_image.specs.Laws.{RootReadsAlike}
use Rattle.sn_image.specs.Names.{names_at, names_under}
use Rattle.sn_image.specs.Reach.{block_reach, inode_reach, numbers, reach, reach_at}
use Rattle.sn_image.specs.Sound.{AreOnce, EndsAtSize, HasAcls, HasBlocks, HasContent, HasInodes, HasNames, HasRecords, IsLinked, IsReached, IsSound, SpellsAcls, SpellsRecord, root, below, name_count}
use Rattle.sn_image.proofs.FootprintLemmas.{inodes_depend, roots_depend}
use Rattle.sn_image.proofs.ListLemmas.{flat_map-has}
use Rattle.sn_image.proofs.PointLemmas.{used_in}

-- ---- a tree

levels_within : (s : Store) (ps : List ℕ) (depth whole p : ℕ) → depth ≤ whole → Contains (all_pointers s depth ps) p → Contains (all_pointers s whole ps) p
unfolding all_pointers
levels_within s ps depth zero p within among =
    let top : depth ≡ 0 = omega arith in subst (λ n. Contains (all_pointers s n ps) p) top among
levels_within s ps depth (suc whole) p within among = ⊎_elim
    (λ (above : depth < suc whole). Contains-append_left (all_pointers s whole ps) (pointers_at s (suc whole) ps) p (levels_within s ps depth whole p (omega arith) among))
    (λ (last : suc whole ≤ depth). let same : depth ≡ suc whole = omega arith in subst (λ n. Contains (all_pointers s n ps) p) same among)
    (cases_lt depth (suc whole))

module _ (s r : Store) (tree : BlockTree) (same : SameIn (tree_reach s tree) s r) where
  alike : ReadsAlike s r tree
  alike = trees_depend s r tree same

  -- what is at the pointers of the levels that its size has
  agree : (depth : ℕ) → depth ≤ levels_of tree.size → Agree s r (all_pointers s depth tree.pointers)
  unfolding tree_reach
  agree depth within p among some =
      same p (but_holes-has (all_pointers s (levels_of tree.size) tree.pointers) p (eqb-false p 0 some) (levels_within s tree.pointers depth (levels_of tree.size) p within among))

  entry_same : (depth i : ℕ) → depth ≤ levels_of tree.size → entry r depth tree.pointers i ≡ entry s depth tree.pointers i
  entry_same depth i within =
      entry-level r depth tree.pointers i
      ∙ ap (λ ps. slice_index ps i) (pointers-same s r depth tree.pointers (agree depth within))
      ∙ sym (entry-level s depth tree.pointers i)

  tree_ends : EndsAtSize s tree → EndsAtSize r tree
  tree_ends ends = record {
    pointers = λ depth i within past. entry_same depth i within ∙ ends.pointers depth i within past;
    bytes = λ i k within past. ap (λ bytes. slice_index bytes k) (alike.blocks i) ∙ ends.bytes i k within past;
  }

  tree_blocks : HasBlocks s tree → HasBlocks r tree
  tree_blocks has = record {
    no_hole = λ i within none. has.no_hole i within (sym (entry_same (levels_of tree.size) i (omega arith)) ∙ none);
    spelled = λ i within. subst IsDirectoryBlock (sym (alike.blocks i)) (has.spelled i within);
  }

-- ---- an inode

module _ (s r : Store) where
  content_same : (kind : Kind) (content : Content) → SameIn (content_reach s content) s r → HasContent s kind content → HasContent r kind content
  content_same File (Inline bytes) same has = has
  content_same File (Tree tree) same has = tree_ends s r tree same has
  content_same Directory (Inline bytes) same has = has
  content_same Directory (Tree tree) same has = (tree_ends s r tree same has.0, tree_blocks s r tree same has.1)

  acl_among : (block : ℕ) → block ≢ 0 → Contains (block_reach block) block
  acl_among block some = subst (λ (b : Bool). Contains (if b then [] else block ∷ []) block) (sym (ne_eqb block 0 some)) (Contains-first block [])

  acls_same : (inode : Inode) → SameIn (inode_reach s (Some inode)) s r → HasAcls s inode → HasAcls r inode
  unfolding node_of
  acls_same inode same has = record {
    spelled = λ some. subst SpellsAcls (sym (same inode.acl_block (Contains-append_left (block_reach inode.acl_block) (content_reach s inode.content) inode.acl_block (acl_among inode.acl_block some)))) (has.spelled some);
    of_file = λ file. default_same ∙ has.of_file file;
  }
    where
      default_same : (acls_at r inode.acl_block).default ≡ (acls_at s inode.acl_block).default
      default_same = ap (λ (node : Node). node.default_acl) (inodes_depend s r inode same).node

-- ---- a root

module _ (s r : Store) (inodes : BlockTree) (same : SameIn (reach s inodes) s r) where
  reads : RootReadsAlike s r inodes
  reads = roots_depend s r inodes same

  of_file : SameIn (tree_reach s inodes) s r
  unfolding reach
  of_file block among = same block (Contains-append_left (tree_reach s inodes) (flat_map (reach_at s inodes) (numbers inodes)) block among)

  of_number : (number : ℕ) (inode : Inode) → inode_at s inodes number ≡ Some inode → SameIn (inode_reach s (Some inode)) s r
  unfolding reach reach_at
  of_number number inode e block among =
      same block (Contains-append_right (tree_reach s inodes) (flat_map (reach_at s inodes) (numbers inodes)) block
      (flat_map-has (reach_at s inodes) (numbers inodes) number block (used_in s inodes number inode e) (subst (λ (o : Option Inode). Contains (inode_reach s o) block) (sym e) among)))

  -- an inode that is read from the one store is read from the other
  from_first : (number : ℕ) (inode : Inode) → inode_at r inodes number ≡ Some inode → inode_at s inodes number ≡ Some inode
  from_first number inode e = sym (reads.each number) ∙ e

  record_same : (number : ℕ) → record_at r inodes number ≡ record_at s inodes number
  unfolding record_at
  record_same number = ap (λ bytes. take 128 (drop (128 * (number % 32)) bytes)) ((trees_depend s r inodes of_file).blocks (number / 32))

  names_same : (number : ℕ) → names_at r inodes number ≡ names_at s inodes number
  unfolding names_at
  names_same number = ap (names_under r) (reads.each number) ∙ told (inode_at s inodes number) refl
    where
      told : (o : Option Inode) → inode_at s inodes number ≡ o → names_under r o ≡ names_under s o
      told None e = refl
      told (Some inode) e = (inodes_depend s r inode (of_number number inode e)).names

  records : (limits : Limits) → HasRecords limits s inodes → HasRecords limits r inodes
  records limits has = record {
    spelled = λ number within. subst (SpellsRecord limits) (sym (record_same number)) (has.spelled number within);
    reserved = λ number low. record_same number ∙ has.reserved number low;
    root = subst (λ (o : Option Inode). IsSomeAnd o (λ inode. inode.kind ≡ Directory)) (sym (reads.each 2)) has.root;
  }

  used : HasInodes s inodes → HasInodes r inodes
  used has = record {
    acls = λ number inode e. acls_same s r inode (of_number number inode (from_first number inode e)) (has.acls number inode (from_first number inode e));
    contents = λ number inode e. content_same s r inode.kind inode.content
        (λ block among. of_number number inode (from_first number inode e) block (Contains-append_right (block_reach inode.acl_block) (content_reach s inode.content) block among))
        (has.contents number inode (from_first number inode e));
  }

  named : (limits : Limits) → HasNames limits s inodes → HasNames limits r inodes
  named limits has = record {
    once = λ directory. subst AreOnce (sym (names_same directory)) (has.once directory);
    few = λ directory. subst (λ (names : List Link). length names ≤ limits.names) (sym (names_same directory)) (has.few directory);
    hidden = ap (number_of (codes ".snapshot")) (names_same 2) ∙ has.hidden;
  }

  count_same : (number : ℕ) → name_count r inodes number ≡ name_count s inodes number
  count_same number = λ i. sum_by (λ directory. count_by (λ l. l.number == number) (names_same directory i)) (numbers inodes)

  reached : (number : ℕ) → IsReached s inodes number → IsReached r inodes number
  reached _ root = root
  reached _ (below directory name above among) = below directory name (reached directory above) (subst (λ (names : List Link). Contains names name) (sym (names_same directory)) among)

  linked : IsLinked s inodes → IsLinked r inodes
  linked has = record {
    leads = λ directory name among. ap (λ (o : Option Inode). is_some o) (reads.each name.number) ∙ has.leads directory name (subst (λ (names : List Link). Contains names name) (names_same directory) among);
    unnamed = count_same 2 ∙ has.unnamed;
    counted = λ number inode other e. count_same number ∙ has.counted number inode other (from_first number inode e);
    reached = λ number inode e kind. reached number (has.reached number inode (from_first number inode e) kind);
  }

  pub sound_depends : (limits : Limits) (n : ℕ) → IsSound limits n s inodes → IsSound limits n r inodes
  sound_depends limits n sound = record {
    placed = record {
      within = λ block among. sound.placed.within block (subst (λ (blocks : List ℕ). Contains blocks block) reads.reach among);
      once = λ block. subst (λ (blocks : List ℕ). times block blocks ≤ 1) (sym reads.reach) (sound.placed.once block);
    };
    file = sound.file;
    ends = tree_ends s r inodes of_file sound.ends;
    records = records limits sound.records;
    used = used sound.used;
    names = named limits sound.names;
    linked = linked sound.linked;
  }
