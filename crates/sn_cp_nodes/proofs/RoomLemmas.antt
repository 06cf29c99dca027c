-- Where too few blocks are left for a node, fewer are than its names and its blocks need.
use Rattle.std.proofs.Common.{◌≡◌, ◌≢◌, ℕ, ◌+◌, ◌*◌, ◌<◌, ◌≤◌, ◌==◌, Bool, true, false, if◌then◌else◌, T, List, [], ◌∷◌, length, map, Option, None, Some, Contains, refl, sym, ap, subst, ◌∙◌, arith}
use Rattle.std.specs.Prelude.{All, IsTrue}
use Rattle.std.specs.FinMap as fin
use Rattle.std.specs.FinMap.Entries.{find, is_sorted}
use Rattle.std.specs.Global.{Global}
use Rattle.std.specs.declared.boxed.Box.{Box}
use Rattle.std.proofs.lemmas.List.{length-map}
use Rattle.std.proofs.lemmas.List.Elements.{All-nil, All-cons, All-contains, All-map, All-same}
use Rattle.sn_alloc.specs.Taking.{free_data}
use Rattle.sn_dir_change.specs.Changes.{IsChanged}
use Rattle.sn_dir_change.specs.Planned.{IsSizeWith}
use Rattle.sn_dir_change.specs.declared.name_change.NameChange.{NameChange}
use Rattle.sn_dir_change.specs.Laws.{GrownDirectoriesFit}
use Rattle.sn_image.specs.Image.{image}
use Rattle.sn_image.specs.Inodes.{inode_at}
use Rattle.sn_image.specs.Names.{names_of}
use Rattle.sn_limits.proofs.VersionLemmas.{fixed}
use Rattle.sn_layout.specs.Pointers.{levels_of}
use Rattle.sn_layout.specs.declared.tree.BlockTree.{BlockTree}
use Rattle.sn_layout_node.specs.Directory.{Link as Name, number_of}
use Rattle.sn_layout_node.specs.Inode.{IsContent}
use Rattle.sn_layout_node.specs.declared.content.Content.TheVariants.{Tree}
use Rattle.sn_limits.specs.declared.kind.Kind.{Kind}
use Rattle.sn_limits.specs.declared.kind.Kind.TheVariants.{File, Directory}
use Rattle.sn_limits.specs.declared.limits.Limits.{Limits}
use Rattle.sn_model.specs.Changes.{node_with}
use Rattle.sn_model.specs.NameTree.{IsNode}
use Rattle.sn_model.specs.Tree.{Tree as NameTree, link_cmp, link_to}
use Rattle.sn_model.specs.declared.link.Link.{Link}
use Rattle.sn_model.proofs.LinkLemmas.{exact_links, links_total}
use Rattle.sn_ondisk.specs.Trees.{Store}
use Rattle.sn_overlay.specs.Layers.{Layer, block_seen, bytes_of, hides_names, name_seen, node_seen, through}
use Rattle.sn_overlay.specs.Lists.{changed_names, written_blocks}
use Rattle.sn_overlay.specs.Needs.{levels}
use Rattle.sn_overlay.specs.Pieces.{joined}
use Rattle.sn_overlay.specs.declared.file_block.FileBlock.{FileBlock}
use Rattle.sn_overlay.specs.declared.node.NodeChange.{NodeChange}
use Rattle.sn_overlay.specs.declared.node.NodeChange.TheVariants.{Changed, Gone}
use Rattle.sn_overlay.specs.declared.node.NodeState.{NodeState}
use Rattle.sn_overlay.proofs.LayerLemmas.{get-through_links, get-through_nodes}
use Rattle.sn_overlay.proofs.PieceLemmas.{length-joined}
use Rattle.sn_tree.specs.Drafts.{Draft}
use Rattle.sn_cp_nodes.specs.Built.{IsGround, IsTooSmallAt}
use Rattle.sn_cp_nodes.specs.Made.{ChangeThem, IsTooSmall, IsTooSmallAs, Pair, pair_in, pair_of}
use Rattle.sn_cp_nodes.specs.Parts.{Blocks, IsPartOf, Names, content_of, empty_tree}
use Rattle.sn_cp_nodes.proofs.BuildLemmas.{levels_counted, paths_counted, size_within}
use Rattle.sn_cp_nodes.proofs.DirectoryLemmas.{begun_base}
use Rattle.sn_cp_nodes.proofs.ElementLemmas.{first_there, more_there}
use Rattle.sn_cp_nodes.proofs.EntryLemmas.{found_each}
use Rattle.sn_cp_nodes.proofs.ListedLemmas.{count_in, listed_of, number_in, once_in}
use Rattle.sn_cp_nodes.proofs.NameLemmas.{AreIn, changed_at, found_pair, from_pairs, names_in_it, pairs_of}
use Rattle.sn_cp_nodes.proofs.OldLemmas.{old_of, old_valid}

-- ---- the names that a directory has then

module _ (layer : Layer) (tree : NameTree) (d : ℕ) where
  abbrev pub seen : List Name
  seen = listed_of (through layer tree) d

  abbrev pub IsSeenAs : Pair → Type 0
  IsSeenAs p = number_of p.0 seen ≡ p.1

  shows : (name : List ℕ) (value : Option (Option ℕ)) → fin.get layer.names (link_to d name) ≡ value → number_of name seen ≡ name_seen layer (link_to d name) value (fin.get tree.links (link_to d name))
  shows name value e =
      number_in (through layer tree) d name ∙ get-through_links layer tree (link_to d name)
      ∙ ap (λ (v : Option (Option ℕ)). name_seen layer (link_to d name) v (fin.get tree.links (link_to d name))) e

  pub changed_sorted : T (is_sorted link_cmp (changed_names layer d))
  unfolding changed_names
  changed_sorted = fin.entries_sorted (fin.retain_keys layer.names (λ link. link.directory == d))

  entry_seen : (e : Link × Option ℕ) → Contains (changed_names layer d) e → e.0.directory ≡ d → IsSeenAs (pair_in e)
  entry_seen e among directory =
      let one : link_to d e.0.name ≡ e.0 = λ i. record { directory = sym directory i; name = e.0.name } in
      shows e.0.name (Some e.1) (sym (changed_at layer d e.0.name) ∙ ap (λ (l : Link). find link_cmp l (changed_names layer d)) one ∙ found_each links_total exact_links (changed_names layer d) changed_sorted e among)

  entries_seen : (es : Names) → AreIn d es → ((e : Link × Option ℕ) → Contains es e → Contains (changed_names layer d) e) → All IsSeenAs (pairs_of es)
  entries_seen [] are within = All-nil IsSeenAs
  entries_seen (e ∷ es) are within =
      All-cons IsSeenAs (pair_in e) (pairs_of es) (entry_seen e (within e (first_there e es)) are.0) (entries_seen es are.1 (λ x more. within x (more_there e es x more)))

  pub made_seen : (names : Names) (changes : List NameChange) → names ≡ changed_names layer d → ChangeThem names changes → All (λ (c : NameChange). IsSeenAs (pair_of c)) changes
  made_seen names changes are them =
      from_pairs IsSeenAs changes (All-same IsSeenAs (map pair_of changes) (pairs_of (changed_names layer d)) (them ∙ ap (λ (es : Names). pairs_of es) are)
      (entries_seen (changed_names layer d) (names_in_it layer d) (λ e among. among)))

  module _ (names : Names) (changes : List NameChange) (old : List Name) (are : names ≡ changed_names layer d) (them : ChangeThem names changes)
      (was : (name : List ℕ) → number_of name old ≡ (if hides_names (fin.get layer.nodes d) then None else fin.get tree.links (link_to d name))) where
    others_seen : (name : List ℕ) → All (λ (c : NameChange). c.name.now ≢ name) changes → number_of name seen ≡ number_of name old
    others_seen name none = told (fin.get layer.names (link_to d name)) refl
      where
        told : (value : Option (Option ℕ)) → fin.get layer.names (link_to d name) ≡ value → number_of name seen ≡ number_of name old
        told (Some number) e =
            let here : find link_cmp (link_to d name) names ≡ Some number = ap (λ (es : Names). find link_cmp (link_to d name) es) are ∙ changed_at layer d name ∙ e in
            let all : All (λ (p : Pair). p.0 ≢ name) (pairs_of names) =
            All-same (λ (p : Pair). p.0 ≢ name) (pairs_of names) (map pair_of changes) (sym them) (All-map (λ (p : Pair). p.0 ≢ name) pair_of changes none) in
            absurd (All-contains (λ (p : Pair). p.0 ≢ name) (pairs_of names) (name, number) all (found_pair d name names number here) refl)
        told None e = shows name None e ∙ sym (was name)

    pub changed_list : IsChanged changes old seen
    changed_list = record {
      made = made_seen names changes are them;
      others = others_seen;
      once = once_in (through layer tree) d;
    }

-- ---- a node

module _ (tells : Bool) (told : IsTrue tells) (fit : GrownDirectoriesFit) (limits : Limits) (n : ℕ) (s : Store) (file : BlockTree) (layer : Layer) (number : ℕ) (ground : IsGround limits n s file layer) (names : Names) (written : Blocks) (draft : Draft) where
  abbrev needed : ℕ
  needed = levels limits * (length (changed_names layer number) + length (written_blocks layer number) + 1)

  pub largest : limits.largest_file ≤ 68719476736
  largest = (fixed limits.version limits ground.version).files

  -- a path for each of some parts and one more, in a file that a version allows
  less_needed : (size parts : ℕ) → size ≤ limits.largest_file → parts ≤ length (changed_names layer number) + length (written_blocks layer number)
      → free_data draft.words draft.first < length draft.added + (levels_of size + 1) * (parts + 1) → free_data draft.words draft.first < length draft.added + needed
  less_needed size parts small few less =
      let counted = levels_counted limits size ground.version small in
      omega (arith, less, paths_counted (levels_of size + 1) (levels limits) parts (length (changed_names layer number) + length (written_blocks layer number)) counted few)

  module _ (state : NodeState) (part : IsPartOf layer number (Changed state) names written) where
    abbrev bytes : List ℕ
    bytes = joined 4096 state.size (block_seen layer number state (bytes_of (fin.get (image s file).nodes number)))

    pub is_seen : fin.get (through layer (image s file)).nodes number ≡ Some (node_with state.kind state.ownership bytes)
    is_seen = get-through_nodes layer (image s file) number ∙ ap (λ (c : Option NodeChange). node_seen layer number c (fin.get (image s file).nodes number)) part.node

    pub node_allowed : IsNode limits number (node_with state.kind state.ownership bytes)
    node_allowed = ground.tree.nodes.nodes number (node_with state.kind state.ownership bytes) is_seen

    pub small_file : state.size ≤ limits.largest_file
    small_file = omega (arith, node_allowed.size, length-joined 4096 state.size (block_seen layer number state (bytes_of (fin.get (image s file).nodes number))))

    long_written : length written ≡ length (written_blocks layer number)
    long_written = sym (length-map written (λ (e : FileBlock × Box (List ℕ) Global). (e.0, e.1.value))) ∙ ap (λ (es : List (FileBlock × List ℕ)). length es) part.its_blocks

    long_names : length names ≡ length (changed_names layer number)
    long_names = ap (λ (es : Names). length es) part.its_names

    -- a directory that was there is small
    small_tree : state.kind ≡ Directory → (tree : BlockTree) → (state.fresh ≡ true → tree.size ≡ 0) → (state.fresh ≡ false → content_of (inode_at s file number) ≡ Tree tree) → tree.size ≤ limits.largest_file
    small_tree is tree empty kept = by_fresh state.fresh refl
      where
        by_fresh : (fresh : Bool) → state.fresh ≡ fresh → tree.size ≤ limits.largest_file
        by_fresh true fresh = omega (arith, empty fresh)
        by_fresh false stale =
            let (inode, used, kind) = old_of limits n s file layer number ground state part.node stale in
            let content : inode.content ≡ Tree tree = sym (ap content_of used) ∙ kept stale in
            let valid = old_valid limits n s file layer number ground inode used in
            size_within limits inode.kind (Tree tree) ground.version (subst (IsContent limits inode.kind) content valid.content)

    -- the size that it gets is one that a version allows
    pub size_allowed : state.kind ≡ Directory → (tree : BlockTree) → (state.fresh ≡ true → tree ≡ empty_tree) → (state.fresh ≡ false → content_of (inode_at s file number) ≡ Tree tree) → (changes : List NameChange) (size : ℕ)
        → ChangeThem names changes → IsSizeWith (IsTrue tells) s tree changes size → size ≤ limits.largest_file
    size_allowed is tree empty kept changes size them sized =
        let base = begun_base limits n s file layer number ground state part.node is s (λ block among. refl) tree empty kept in
        let changed = changed_list layer (image s file) number names changes (names_of s (Tree tree)) part.its_names them base.names in
        let tree_small : tree.size ≤ limits.largest_file = small_tree is tree (λ fresh. ap (λ (t : BlockTree). t.size) (empty fresh)) kept in
        let few : length (listed_of (through layer (image s file)) number) ≤ limits.names = omega (arith, count_in (through layer (image s file)) number, ground.tree.few.names number) in
        fit tells s tree changes size limits.version limits (listed_of (through layer (image s file)) number) ground.version sized told base.once base.spelled tree_small changed few

    less_directory : state.kind ≡ Directory → IsTooSmall (IsTrue tells) s (content_of (inode_at s file number)) state.fresh names draft → free_data draft.words draft.first < length draft.added + needed
    less_directory is small =
        let fits : small.size ≤ limits.largest_file = size_allowed is small.tree small.empty small.kept small.changes small.size small.are small.sized in
        less_needed small.size (length names) fits (omega (arith, long_names)) small.less

    less_changed : IsTooSmallAs state.kind (IsTrue tells) s (content_of (inode_at s file number)) state names written draft → free_data draft.words draft.first < length draft.added + needed
    less_changed small = by_kind state.kind refl small
      where
        by_kind : (kind : Kind) → state.kind ≡ kind → IsTooSmallAs kind (IsTrue tells) s (content_of (inode_at s file number)) state names written draft → free_data draft.words draft.first < length draft.added + needed
        by_kind File is less = less_needed state.size (length written) small_file (omega (arith, long_written)) less
        by_kind Directory is small = less_directory is small

  pub less_left : (change : NodeChange) → IsPartOf layer number change names written → IsTooSmallAt (IsTrue tells) s file number change names written draft → free_data draft.words draft.first < length draft.added + needed
  less_left (Gone by_close) part small = absurd small
  less_left (Changed state) part small = less_changed state part small
