-- What the root of a fresh disk reaches and denotes, and that it is sound.
use Rattle.std.proofs.Common.{◌≡◌, ◌≢◌, ⊎_elim, ℕ, zero, suc, ◌+◌, ◌*◌, ◌/◌, ◌<◌, ◌≤◌, ◌==◌, ◌||◌, Bool, true, false, not, cond, if◌then◌else◌, List, [], ◌∷◌, ◌++◌, length, replicate, Option, Some, None, Contains, count_by, sum_by, flat_map, refl, sym, ap, subst, ◌∙◌, arith}
use Rattle.std.specs.Prelude.{IsSomeAnd, codes, map, slice_index}
use Rattle.std.specs.Option.{option_map}
use Rattle.std.specs.Str.{bytes_eq}
use Rattle.std.specs.Cmp.{nat_cmp_total}
use Rattle.std.specs.FinMap as fin
use Rattle.std.specs.List.{range_with_len}
use Rattle.std.specs.Ordering.{nat_cmp, eq_by_cmp}
use Rattle.std.proofs.lemmas.Bool.{cases_eq, cases_lt, ne_eqb}
use Rattle.std.proofs.lemmas.List.Sums.{sum_by-cons}
use Rattle.std.proofs.lemmas.Map.Lookups.{exact_unsigned}
use Rattle.sn_device.proofs.SectorLemmas.{Contains-cases}
use Rattle.sn_limits.specs.Versions.{limits_written}
use Rattle.sn_limits.specs.declared.kind.Kind.TheVariants.{File, Directory}
use Rattle.sn_layout.specs.Bytes.{zeros}
use Rattle.sn_layout.specs.Geometry.{start_of}
use Rattle.sn_layout.specs.declared.geometry.Area.TheVariants.{Data}
use Rattle.sn_layout_node.specs.Directory.{Link, number_of}
use Rattle.sn_layout_node.specs.declared.inode.Inode.{Inode}
use Rattle.sn_layout_node.specs.declared.inode.InodeRecord.TheVariants.{Unused, Used}
use Rattle.sn_model.specs.Settling.{is_nameless, settled}
use Rattle.sn_model.specs.declared.link.Link.{Link as TreeLink}
use Rattle.sn_model.specs.Tree.{Node, link_to}
use Rattle.sn_model.specs.World.{new_root, new_tree}
use Rattle.sn_model.proofs.SettlingLemmas.{get_without}
use Rattle.sn_ondisk.specs.Counts.{times}
use Rattle.sn_ondisk.proofs.CountLemmas.{times-other, times-same}
use Rattle.sn_ondisk.specs.Trees.{Store, all_pointers, data_block, entry, named_by, pointers_at, tree_reach}
use Rattle.sn_image.specs.Acls.{acls_at}
use Rattle.sn_image.specs.Image.{image, links_at, node_at, node_of, nodes_at, under_number}
use Rattle.sn_image.specs.Inodes.{inode_at, record_at}
use Rattle.sn_image.specs.Names.{names_at, names_under}
use Rattle.sn_image.specs.Reach.{numbers, reach, reach_at, inode_reach}
use Rattle.sn_image.specs.Sound.{EndsAtSize, HasAcls, HasContent, HasInodes, HasNames, HasRecords, IsInodeFile, IsLinked, IsPlaced, IsReached, IsSound, SpellsRecord, name_count, root, span_at}
use Rattle.sn_image.proofs.ListLemmas.{none_in}
use Rattle.sn_mkfs.specs.Fresh.{inode_block, inode_file, root_directory}
use Rattle.sn_mkfs.proofs.InodeLemmas.{directory_fits, directory_inode, directory_record, no_inode, only_inode, reserved_record, unused_record, zero_at}

-- ---- the new tree

-- nothing of it is dropped where it is settled
stays : (q : ℕ) (b : Bool) → cond (not (is_nameless new_tree q (cond b (Some new_root) None)) || false) (cond b (Some new_root) None) None ≡ cond b (Some new_root) None
stays q true = refl
stays q false = refl

at_new : (q : ℕ) → fin.get new_tree.nodes q ≡ cond (eq_by_cmp nat_cmp q 2) (Some new_root) None
at_new q = fin.get-insert nat_cmp_total fin.empty 2 new_root q ∙ ap (cond (eq_by_cmp nat_cmp q 2) (Some new_root)) (fin.get-empty nat_cmp q)

pub settled_new : settled new_tree ≡ new_tree
settled_new = ap (λ (nodes : fin.FinMap nat_cmp Node). record { nodes = nodes; links = fin.empty })
    (fin.same_map nat_cmp_total exact_unsigned _ _ (λ q.
    get_without (λ _. false) new_tree q
    ∙ subst (λ (o : Option Node). cond (not (is_nameless new_tree q o) || false) o None ≡ o) (sym (at_new q)) (stays q (eq_by_cmp nat_cmp q 2))))

-- ---- pieces of lists

empty_pieces : {A : Type 0} (f : ℕ → List A) (a k : ℕ) → ((i : ℕ) → a ≤ i → f i ≡ []) → flat_map f (range_with_len a k) ≡ []
empty_pieces f a zero each = refl
empty_pieces {A} f a (suc k) each =
    ap (λ (piece : List A). piece ++ flat_map f (range_with_len (a + 1) k)) (each a (omega arith))
    ∙ empty_pieces f (a + 1) k (λ i from. each i (omega (arith, from)))

no_sum : (f : ℕ → ℕ) (xs : List ℕ) → ((i : ℕ) → f i ≡ 0) → sum_by f xs ≡ 0
no_sum f [] each = refl
no_sum f (x ∷ xs) each = omega (arith, sum_by-cons f x xs, each x, no_sum f xs each)

-- ---- the fresh root

module _ (n : ℕ) (s : Store) (here : s (start_of n Data) ≡ inode_block) where
  numbers_are : numbers (inode_file n) ≡ 2 ∷ range_with_len 3 29
  unfolding numbers
  numbers_are = refl

  -- only the number of the root directory has a piece
  one_piece : {A : Type 0} (f : ℕ → List A) (piece : List A) → f 2 ≡ piece → ((i : ℕ) → i ≢ 2 → f i ≡ []) → flat_map f (numbers (inode_file n)) ≡ piece ++ []
  one_piece {A} f piece first others =
      ap (flat_map f) numbers_are
      ∙ ap (λ (p : List A). p ++ flat_map f (range_with_len 3 29)) first
      ∙ ap (λ (rest : List A). piece ++ rest) (empty_pieces f 3 29 (λ i from. others i (λ same. absurd (omega (arith, from, same)))))

  -- ---- the tree

  node_is : node_of s root_directory ≡ new_root
  unfolding node_of acls_at
  node_is = refl

  nodes_first : nodes_at s (inode_file n) 2 ≡ (2, new_root) ∷ []
  unfolding nodes_at node_at
  nodes_first = ap (λ (o : Option Inode). under_number 2 (option_map (node_of s) o)) (directory_inode n s here) ∙ ap (λ (node : Node). (2, node) ∷ []) node_is

  nodes_other : (i : ℕ) → i ≢ 2 → nodes_at s (inode_file n) i ≡ []
  unfolding nodes_at node_at
  nodes_other i other = ap (λ (o : Option Inode). under_number i (option_map (node_of s) o)) (no_inode n s here i other)

  pub no_names : (d : ℕ) → names_at s (inode_file n) d ≡ []
  unfolding names_at
  no_names d = ⊎_elim
      (λ (same : d ≡ 2). ap (names_under s) (ap (inode_at s (inode_file n)) same ∙ directory_inode n s here))
      (λ (apart : d ≡ 2 → ⊥). ap (names_under s) (no_inode n s here d apart))
      (cases_eq d 2)

  no_links : (d : ℕ) → links_at s (inode_file n) d ≡ []
  unfolding links_at
  no_links d = ap (map (λ name. (link_to d name.name, name.number))) (no_names d)

  pub image_is : image s (inode_file n) ≡ new_tree
  unfolding image
  image_is =
      let nodes = one_piece (nodes_at s (inode_file n)) ((2, new_root) ∷ []) nodes_first nodes_other in
      let links = one_piece (links_at s (inode_file n)) [] (no_links 2) (λ i other. no_links i) in
      ap (λ (es : List (ℕ × Node)). record { nodes = fin.from_entries es; links = fin.from_entries (flat_map (links_at s (inode_file n)) (numbers (inode_file n))) }) nodes
      ∙ ap (λ (es : List (TreeLink × ℕ)). record { nodes = fin.insert fin.empty 2 new_root; links = fin.from_entries es }) links

  -- ---- the reach

  file_reach : tree_reach s (inode_file n) ≡ start_of n Data ∷ []
  unfolding tree_reach all_pointers pointers_at
  file_reach =
      ap (λ (b : Bool). if not b then start_of n Data ∷ [] else []) (ne_eqb (start_of n Data) 0 (λ z. absurd (omega (arith, z))))

  directory_reach : inode_reach s (Some root_directory) ≡ []
  unfolding tree_reach all_pointers pointers_at
  directory_reach = refl

  no_reach : (i : ℕ) → reach_at s (inode_file n) i ≡ []
  unfolding reach_at
  no_reach i = ⊎_elim
      (λ (same : i ≡ 2). ap (inode_reach s) (ap (inode_at s (inode_file n)) same ∙ directory_inode n s here) ∙ directory_reach)
      (λ (apart : i ≡ 2 → ⊥). ap (inode_reach s) (no_inode n s here i apart))
      (cases_eq i 2)

  pub reach_is : reach s (inode_file n) ≡ start_of n Data ∷ []
  unfolding reach
  reach_is =
      ap (λ (r : List ℕ). tree_reach s (inode_file n) ++ r) (one_piece (reach_at s (inode_file n)) [] (no_reach 2) (λ i other. no_reach i))
      ∙ ap (λ (r : List ℕ). r ++ []) file_reach

  -- ---- soundness

  only_block : (block : ℕ) → Contains (reach s (inode_file n)) block → block ≡ start_of n Data
  only_block block among = ⊎_elim (λ (same : block ≡ start_of n Data). same) (λ more. none_in block more)
      (Contains-cases (start_of n Data) [] block (subst (λ (r : List ℕ). Contains r block) reach_is among))

  placed : start_of n Data < n → IsPlaced n s (inode_file n)
  placed room = record {
    within = λ block among. let is = only_block block among in record { from = omega (arith, is); below = omega (arith, is, room) };
    once = λ block. subst (λ (r : List ℕ). times block r ≤ 1) (sym reach_is) (one_of block (start_of n Data));
  }
    where
      one_of : (block x : ℕ) → times block (x ∷ []) ≤ 1
      one_of block x = ⊎_elim
          (λ (same : x ≡ block). omega (arith, ap (λ (b : ℕ). times b (x ∷ [])) (sym same), times-same x))
          (λ (apart : x ≡ block → ⊥). omega (arith, times-other block x apart))
          (cases_eq x block)

  file : IsInodeFile limits_written (inode_file n)
  file = record { least = omega arith; most = omega arith; whole = omega arith }

  past_pointer : (depth i : ℕ) → depth ≤ 0 → 4096 ≤ i * span_at 4096 depth → entry s depth (inode_file n).pointers i ≡ 0
  unfolding entry
  past_pointer zero zero low past = absurd (omega (arith, past))
  past_pointer zero (suc i) low past = zero_at 15 i
  past_pointer (suc depth) i low past = absurd (omega (arith, low))

  past_byte : (i k : ℕ) → k < 4096 → 4096 ≤ 4096 * i + k → slice_index (data_block s (inode_file n) i) k ≡ 0
  unfolding data_block named_by entry zeros
  past_byte zero k low past = absurd (omega (arith, low, past))
  past_byte (suc i) k low past = ap (λ (p : ℕ). slice_index (named_by s p) k) (zero_at 15 i) ∙ zero_at 4096 k

  ends : EndsAtSize s (inode_file n)
  ends = record { pointers = past_pointer; bytes = past_byte }

  unused_is : SpellsRecord limits_written (zeros 128)
  unused_is = (Unused, tt, refl)

  records : HasRecords limits_written s (inode_file n)
  records = record {
    spelled = λ number low. spelled number low;
    reserved = reserved_record n s here;
    root = subst (λ (o : Option Inode). IsSomeAnd o (λ inode. inode.kind ≡ Directory)) (sym (directory_inode n s here)) refl;
  }
    where
      spelled : (number : ℕ) → number < 4096 / 128 → SpellsRecord limits_written (record_at s (inode_file n) number)
      spelled number low = ⊎_elim
          (λ (few : number < 2). subst (SpellsRecord limits_written) (sym (reserved_record n s here number few)) unused_is)
          (λ (more : 2 ≤ number). ⊎_elim
          (λ (same : number ≡ 2). subst (λ (k : ℕ). SpellsRecord limits_written (record_at s (inode_file n) k)) (sym same)
          (subst (SpellsRecord limits_written) (sym (directory_record n s here)) (Used root_directory, directory_fits, refl)))
          (λ (apart : number ≡ 2 → ⊥). subst (SpellsRecord limits_written) (sym (unused_record n s here number (omega (arith, more, apart)) (omega (arith, low)))) unused_is)
          (cases_eq number 2))
          (cases_lt number 2)

  directory_acls : HasAcls s root_directory
  directory_acls = record { spelled = λ some. absurd (some refl); of_file = λ same. let never : Directory ≡ File = same in absurd cc }

  hole_pointer : (depth i : ℕ) → depth ≤ 0 → entry s depth (replicate 16 0) i ≡ 0
  unfolding entry
  hole_pointer zero i low = zero_at 16 i
  hole_pointer (suc depth) i low = absurd (omega (arith, low))

  hole_byte : (i k : ℕ) → slice_index (data_block s (record { size = 0; pointers = replicate 16 0 }) i) k ≡ 0
  unfolding data_block named_by entry zeros
  hole_byte i k = ap (λ (p : ℕ). slice_index (named_by s p) k) (zero_at 16 i) ∙ zero_at 4096 k

  directory_ends : EndsAtSize s (record { size = 0; pointers = replicate 16 0 })
  directory_ends = record { pointers = λ depth i low past. hole_pointer depth i low; bytes = λ i k low past. hole_byte i k }

  directory_content : HasContent s root_directory.kind root_directory.content
  directory_content = (directory_ends, record { no_hole = λ i low. absurd (omega (arith, low)); spelled = λ i low. absurd (omega (arith, low)) })

  used : HasInodes s (inode_file n)
  used = record {
    acls = λ number inode e. subst (HasAcls s) (sym (only_inode n s here number inode e).1) directory_acls;
    contents = λ number inode e. subst (λ (i : Inode). HasContent s i.kind i.content) (sym (only_inode n s here number inode e).1) directory_content;
  }

  names : HasNames limits_written s (inode_file n)
  names = record {
    once = λ d name. subst (λ (ls : List Link). count_by (λ l. bytes_eq l.name name) ls ≤ 1) (sym (no_names d)) (omega arith);
    few = λ d. subst (λ (ls : List Link). length ls ≤ 65535) (sym (no_names d)) (omega arith);
    hidden = ap (number_of (codes ".snapshot")) (no_names 2);
  }

  no_count : (number : ℕ) → name_count s (inode_file n) number ≡ 0
  no_count number = no_sum (λ directory. count_by (λ l. l.number == number) (names_at s (inode_file n) directory)) (numbers (inode_file n)) (λ d. ap (count_by (λ (l : Link). l.number == number)) (no_names d))

  linked : IsLinked s (inode_file n)
  linked = record {
    leads = λ directory name among. none_in name (subst (λ (ls : List Link). Contains ls name) (no_names directory) among);
    unnamed = no_count 2;
    counted = λ number inode other e. absurd (other (only_inode n s here number inode e).0);
    reached = λ number inode e kind. subst (IsReached s (inode_file n)) (sym (only_inode n s here number inode e).0) root;
  }

  pub is_sound : start_of n Data < n → IsSound limits_written n s (inode_file n)
  is_sound room = record { placed = placed room; file = file; ends = ends; records = records; used = used; names = names; linked = linked }
