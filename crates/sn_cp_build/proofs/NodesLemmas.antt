-- Nodes of a layer are planned one after the other, each with the blocks that are taken from the layer.
use Rattle.std.proofs.Common.{◌≡◌, ◌≢◌, ℕ, zero, suc, ◌+◌, ◌<◌, ◌==◌, ◌&&◌, not, Bool, true, false, cond, T, List, [], ◌∷◌, ◌++◌, length, get_or, Option, None, Some, refl, sym, ap, subst, ◌∙◌, arith}
use Rattle.std.specs.Prelude.{Contains, slice_index}
use Rattle.std.specs.FinMap as fin
use Rattle.std.specs.FinMap.Entries.{below_all, find, is_sorted}
use Rattle.std.specs.Cmp.{eq_by_cmp_equiv, nat_cmp_is, nat_cmp_total}
use Rattle.std.proofs.lemmas.Bool.{eqb-true, ne_eqb}
use Rattle.std.proofs.lemmas.Map.Lookups.{exact_unsigned}
use Rattle.std.proofs.lemmas.Map.Views.{tells_apart}
use Rattle.std.specs.Ordering.{nat_cmp, eq_by_cmp, is_lt}
use Rattle.std.specs.declared.cmp.Ordering.TheVariants.{Less, Equal}
use Rattle.std.proofs.lemmas.List.{get_or-map, length-map}
use Rattle.std.proofs.lemmas.List.Elements.{Contains-append_left, Contains-append_right}
use Rattle.sn_device.proofs.SectorLemmas.{Contains-first}
use Rattle.sn_image.specs.Contents.{content_reach}
use Rattle.sn_image.specs.Image.{image}
use Rattle.sn_image.specs.Inodes.{inode_at}
use Rattle.sn_image.specs.Reach.{reach_at}
use Rattle.sn_inode.specs.declared.changes.InodeChange.{InodeChange}
use Rattle.sn_layout.specs.declared.tree.BlockTree.{BlockTree}
use Rattle.sn_layout_node.specs.declared.inode.Inode.{Inode}
use Rattle.sn_limits.specs.declared.limits.Limits.{Limits}
use Rattle.sn_ondisk.specs.Counts.{times}
use Rattle.sn_ondisk.specs.TreeLaws.{SameIn}
use Rattle.sn_ondisk.specs.Trees.{Store}
use Rattle.sn_overlay.specs.Layers.{Layer, through}
use Rattle.sn_overlay.specs.Lists.{changed_names, without_blocks, written_blocks}
use Rattle.sn_overlay.specs.Sorted.{bytes_by_file_block}
use Rattle.sn_overlay.specs.declared.file_block.FileBlock.{FileBlock}
use Rattle.sn_overlay.specs.declared.node.NodeChange.{NodeChange}
use Rattle.sn_overlay.proofs.OverlaidLemmas.{exact_file_blocks, file_blocks_total, get-kept}
use Rattle.sn_tree.specs.Drafts.{Draft, numbers_of as blocks_of}
use Rattle.sn_tree.specs.Plans.{Holds}
use Rattle.sn_cp_nodes.specs.Built.{BuildsNode, IsGround, StandsFor}
use Rattle.sn_cp_nodes.specs.Inodes.{Becomes, content_for}
use Rattle.sn_cp_nodes.specs.Parts.{Blocks, IsPartOf, Names, content_of}
use Rattle.sn_cp_nodes.proofs.RiseLemmas.{lesser}
use Rattle.sn_cp_build.specs.Planned.{IsLeft, numbers_of}

-- ---- what a layer has of one number

pub taken_nodes : (layer : Layer) (number : ℕ) → (without_blocks layer number).nodes ≡ layer.nodes
unfolding without_blocks
taken_nodes layer number = refl

pub taken_names : (layer : Layer) (number : ℕ) → (without_blocks layer number).names ≡ layer.names
unfolding without_blocks
taken_names layer number = refl

names_alike : (a b : Layer) (directory : ℕ) → a.names ≡ b.names → changed_names a directory ≡ changed_names b directory
unfolding changed_names
names_alike a b directory same = λ i. fin.entries (fin.retain_keys (same i) (λ link. link.directory == directory))

both : (a b : Bool) → T (a && b) → T a × T b
both true b h = (tt, h)
both false b h = absurd h

below_entry : (x : ℕ) (es : List (ℕ × NodeChange)) (i : ℕ) (d : ℕ × NodeChange) → T (below_all nat_cmp x es) → i < length es → T (is_lt (nat_cmp x (get_or es i d).0))
below_entry x [] i d h within = absurd (omega (arith, within))
below_entry x (e ∷ es) zero d h within = (both (is_lt (nat_cmp x e.0)) (below_all nat_cmp x es) h).0
below_entry x (e ∷ es) (suc i) d h within = below_entry x es i d (both (is_lt (nat_cmp x e.0)) (below_all nat_cmp x es) h).1 (omega (arith, within))

other_key : (a b : ℕ) → nat_cmp b a ≡ Less → eq_by_cmp nat_cmp a b ≡ false
other_key a b less = told (eq_by_cmp nat_cmp a b) refl
  where
    told : (c : Bool) → eq_by_cmp nat_cmp a b ≡ c → c ≡ false
    told false is = refl
    told true is =
        let same : a ≡ b = tells_apart exact_unsigned a b is in
        let never : Equal ≡ Less = nat_cmp_is b a Equal (sym same) ∙ less in
        absurd cc

get_or_default : {A : Type 0} (xs : List A) (i : ℕ) (d e : A) → i < length xs → get_or xs i d ≡ get_or xs i e
get_or_default [] i d e within = absurd (omega (arith, within))
get_or_default (x ∷ xs) zero d e within = refl
get_or_default (x ∷ xs) (suc i) d e within = get_or_default xs i d e (omega (arith, within))

-- an entry is found at its key
found_at : (es : List (ℕ × NodeChange)) → T (is_sorted nat_cmp es) → (i : ℕ) (d : ℕ × NodeChange) → i < length es → find nat_cmp (get_or es i d).0 es ≡ Some (get_or es i d).1
found_at [] h i d within = absurd (omega (arith, within))
found_at (e ∷ es) h zero d within = ap (λ (b : Bool). cond b (Some e.1) (find nat_cmp e.0 es)) ((eq_by_cmp_equiv nat_cmp_total).refl e.0)
found_at (e ∷ es) h (suc i) d within =
    let parts = both (below_all nat_cmp e.0 es) (is_sorted nat_cmp es) h in
    let under : i < length es = omega (arith, within) in
    ap (λ (b : Bool). cond b (Some e.1) (find nat_cmp (get_or es i d).0 es)) (other_key (get_or es i d).0 e.0 (lesser (nat_cmp e.0 (get_or es i d).0) (below_entry e.0 es i d parts.0 under)))
    ∙ found_at es parts.1 i d under

module _ (old taken layer : Layer) (index : ℕ) (first second : List (ℕ × NodeChange)) (one two : ℕ × NodeChange) (names : Names) (written : Blocks)
    (first_is : first ≡ fin.entries old.nodes) (within : index < length (numbers_of old)) (one_is : one ≡ get_or first index one)
    (taken_is : taken ≡ without_blocks old one.0) (second_is : second ≡ fin.entries taken.nodes) where
  same_entries : second ≡ fin.entries old.nodes
  same_entries = second_is ∙ ap (λ (l : Layer). fin.entries l.nodes) taken_is ∙ ap (λ m. fin.entries m) (taken_nodes old one.0)

  long : index < length (fin.entries old.nodes)
  long = omega (arith, within, length-map (fin.entries old.nodes) (λ (e : ℕ × NodeChange). e.0))

  pub within_second : index < length second
  within_second = omega (arith, long, ap (λ (es : List (ℕ × NodeChange)). length es) same_entries)

  entry_is : one ≡ get_or (fin.entries old.nodes) index one
  entry_is = one_is ∙ ap (λ (es : List (ℕ × NodeChange)). get_or es index one) first_is

  pub number_is : slice_index (numbers_of old) index ≡ one.0
  number_is = get_or-map (λ (e : ℕ × NodeChange). e.0) (fin.entries old.nodes) index one 0 long ∙ ap (λ (e : ℕ × NodeChange). e.0) (sym entry_is)

  module _ (two_is : two ≡ get_or second index two) (names_are : names ≡ changed_names taken one.0) (blocks_are : bytes_by_file_block written ≡ written_blocks old one.0)
      (nodes_same : layer.nodes ≡ old.nodes) (names_same : layer.names ≡ old.names) (blocks_same : written_blocks layer (slice_index (numbers_of old) index) ≡ written_blocks old (slice_index (numbers_of old) index)) where
    second_entry : two ≡ one
    second_entry =
        two_is ∙ ap (λ (es : List (ℕ × NodeChange)). get_or es index two) same_entries
        ∙ get_or_default (fin.entries old.nodes) index two one long ∙ sym entry_is

    pub part_of : IsPartOf layer one.0 two.1 names written
    part_of = record {
      node = ap (λ m. fin.get m one.0) nodes_same ∙ fin.get-entries old.nodes one.0
          ∙ subst (λ (e : ℕ × NodeChange). find nat_cmp e.0 (fin.entries old.nodes) ≡ Some e.1) (sym entry_is) (found_at (fin.entries old.nodes) (fin.entries_sorted old.nodes) index one long)
          ∙ ap (λ (e : ℕ × NodeChange). Some e.1) (sym second_entry);
      its_names = names_are ∙ names_alike taken layer one.0 (ap (λ (l : Layer). l.names) taken_is ∙ taken_names old one.0 ∙ sym names_same);
      its_blocks = blocks_are ∙ sym (subst (λ (n : ℕ). written_blocks layer n ≡ written_blocks old n) number_is blocks_same);
    }

-- ---- what is left of it

module _ (layer : Layer) (taken number : ℕ) (other : number ≢ taken) where
  -- what belongs to one number doesn't belong to the other
  unharmed : (block : FileBlock) (b : Bool) → (block.file == number) ≡ b → cond b (cond (not (block.file == taken)) (fin.get layer.blocks block) None) None ≡ cond b (fin.get layer.blocks block) None
  unharmed block false is = refl
  unharmed block true is =
      let apart : (block.file == taken) ≡ false = ne_eqb block.file taken (λ e. other (sym (eqb-true block.file number is) ∙ e)) in
      ap (λ (c : Bool). cond (not c) (fin.get layer.blocks block) None) apart

  kept_twice : fin.retain_keys (fin.retain_keys layer.blocks (λ block. not (block.file == taken))) (λ block. block.file == number) ≡ fin.retain_keys layer.blocks (λ block. block.file == number)
  kept_twice = fin.same_map file_blocks_total exact_file_blocks _ _ (λ block.
      get-kept exact_file_blocks (fin.retain_keys layer.blocks (λ b. not (b.file == taken))) (λ b. b.file == number) block
      ∙ ap (λ found. cond (block.file == number) found None) (get-kept exact_file_blocks layer.blocks (λ b. not (b.file == taken)) block)
      ∙ unharmed block (block.file == number) refl
      ∙ sym (get-kept exact_file_blocks layer.blocks (λ b. b.file == number) block))

-- the blocks of another number stay
other_blocks : (layer : Layer) (taken number : ℕ) → number ≢ taken → written_blocks (without_blocks layer taken) number ≡ written_blocks layer number
unfolding without_blocks written_blocks
other_blocks layer taken number other = ap (λ m. fin.entries m) (kept_twice layer taken number other)

module _ (layer left : Layer) (xs : List ℕ) (x : ℕ) (so_far : IsLeft layer xs left) where
  pub left_more : (behind : Layer) → behind ≡ without_blocks left x → IsLeft layer (xs ++ x ∷ []) behind
  left_more behind is = record {
    nodes = ap (λ (l : Layer). l.nodes) is ∙ taken_nodes left x ∙ so_far.nodes;
    names = ap (λ (l : Layer). l.names) is ∙ taken_names left x ∙ so_far.names;
    blocks = λ number apart.
        ap (λ (l : Layer). written_blocks l number) is
        ∙ other_blocks left x number (λ e. apart (subst (Contains (xs ++ x ∷ [])) (sym e) (Contains-append_right xs (x ∷ []) x (Contains-first x []))))
        ∙ so_far.blocks number (λ among. apart (Contains-append_left xs (x ∷ []) number among));
  }

-- ---- a node that was built over a store that is the same where the device tells its bytes

module _ (Told : Type 0) (limits : Limits) (s t : Store) (file : BlockTree) (layer : Layer) (same : Told → t ≡ s) (number : ℕ) (change : Option InodeChange) (a b : Draft) where
  abbrev ReachesAt : BuildsNode Told limits t file layer number change a b → Store → Type 0
  ReachesAt builds u = (r : Store) → SameIn (reach_at u file number) u r → Holds r builds.added → (block : ℕ) → block ≢ 0
      → times block (content_reach r (content_for change)) + times block builds.released ≡ times block (content_reach u (content_of (inode_at u file number))) + times block (blocks_of builds.added)

  abbrev StandsAt : BuildsNode Told limits t file layer number change a b → Store → Type 0
  StandsAt builds u = (n : ℕ) → IsGround limits n u file layer → (r : Store) → SameIn (reach_at u file number) u r → Holds r builds.added
      → (new : Option Inode) → Becomes r (inode_at u file number) change new → StandsFor (through layer (image u file)) number r new

  pub built_there : BuildsNode Told limits t file layer number change a b → BuildsNode Told limits s file layer number change a b
  built_there builds = record {
    added = builds.added;
    released = builds.released;
    grew = builds.grew;
    few = builds.few;
    none = λ told is. subst (λ (u : Store). inode_at u file number ≡ None) (same told) (builds.none told is);
    reach = λ told. subst (ReachesAt builds) (same told) (builds.reach told);
    stands = λ told. subst (StandsAt builds) (same told) (builds.stands told);
  }
