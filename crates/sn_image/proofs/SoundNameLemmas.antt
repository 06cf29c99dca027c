-- The names of a sound root make it a tree.
use Rattle.std.proofs.Common.{◌≡◌, ◌≢◌, ◌⊎◌, inl, inr, ℕ, ◌-◌, ◌*◌, ◌/◌, ◌<◌, ◌≤◌, ◌==◌, Bool, true, false, cond, List, [], ◌∷◌, flat_map, length, Option, Some, None, Contains, IsTrue, count_by, sum_by, refl, sym, ap, subst, ◌∙◌, arith}
use Rattle.std.specs.Prelude.{IsSomeAnd, codes}
use Rattle.std.specs.List.{AllByRecursion, range_with_len}
use Rattle.std.specs.Option.{option_map, is_some}
use Rattle.std.specs.Cmp.{nat_cmp_total}
use Rattle.std.specs.FinMap as fin
use Rattle.std.proofs.lemmas.Bool.{eqb-true, eq-eqb, leb-true}
use Rattle.std.proofs.lemmas.List.Sums.{sum_by-cons, count_by-le-length}
use Rattle.std.proofs.lemmas.Map.Lookups.{exact_unsigned}
use Rattle.sn_limits.specs.declared.kind.Kind.{Kind}
use Rattle.sn_limits.specs.declared.kind.Kind.TheVariants.{File, Directory}
use Rattle.sn_limits.specs.declared.limits.Limits.{Limits}
use Rattle.sn_limits.specs.Versions.{limits_of}
use Rattle.sn_limits.proofs.VersionLemmas.{fixed}
use Rattle.sn_layout.specs.Geometry.{IsIn}
use Rattle.sn_layout.specs.declared.geometry.Area.TheVariants.{Data}
use Rattle.sn_layout.specs.declared.tree.BlockTree.{BlockTree}
use Rattle.sn_layout_node.specs.Directory.{Link, IsLink, IsDirectoryBlock}
use Rattle.sn_layout_node.specs.Inode.{are_links}
use Rattle.sn_layout_node.specs.declared.content.Content.{Content}
use Rattle.sn_layout_node.specs.declared.content.Content.TheVariants.{Inline, Tree}
use Rattle.sn_layout_node.specs.declared.inode.Inode.{Inode}
use Rattle.sn_model.specs.declared.link.Link.{Link as TreeLink}
use Rattle.sn_model.specs.NameTree.{HasKind, IsHierarchy, HasNodes, HasFewNames, IsTree, IsNode, Reaches, root as tree_root, below as tree_below}
use Rattle.sn_model.specs.Tree.{Node, link_to, link_cmp, names_in as tree_names_in, names_for}
use Rattle.sn_model.proofs.EntryLemmas.{total-insert}
use Rattle.sn_model.proofs.LinkLemmas.{exact_links, links_total}
use Rattle.sn_model.proofs.MapLemmas.{same_or_apart}
use Rattle.sn_ondisk.specs.Trees.{Store, data_block}
use Rattle.sn_image.specs.Image.{node_of, node_at, links_at, image}
use Rattle.sn_image.specs.Inodes.{inode_at}
use Rattle.sn_image.specs.Names.{names_in, names_of, names_by, names_under, names_at}
use Rattle.sn_image.specs.Reach.{numbers}
use Rattle.sn_image.specs.Sound.{IsBlock, IsSound, HasContent, IsReached, root, below, name_count}
use Rattle.sn_image.proofs.DecodeLemmas.{directory_read}
use Rattle.sn_image.proofs.ListLemmas.{none_in, range-from, count-flat_map}
use Rattle.sn_image.proofs.PieceLemmas.{sum_one, sum_two, sum_at, count-map, count-none, weight_of, once, found_once, all_flat_map, all_has}
use Rattle.sn_image.proofs.PointLemmas.{used_in, mapped_from, named_inode, number_among, node_found, name_found}
use Rattle.sn_image.proofs.SoundNodeLemmas.{valid_inode, node_fits}

-- ---- of any root

pub none_counted : (p : TreeLink × ℕ → Bool) → count_by p (fin.entries (fin.empty {X = ℕ} {R = link_cmp})) ≡ 0
none_counted p =
    let none : length (fin.entries (fin.empty {X = ℕ} {R = link_cmp})) ≡ 0 = sym (fin.len-entries (fin.empty {X = ℕ} {R = link_cmp})) ∙ fin.len-empty link_cmp ℕ in
    omega (arith, count_by-le-length p (fin.entries (fin.empty {X = ℕ} {R = link_cmp})), none)

module _ (s : Store) (inodes : BlockTree) where
  kind_under : (o : Option Inode) (kind : Kind) → IsSomeAnd o (λ inode. inode.kind ≡ kind) → IsSomeAnd (option_map (node_of s) o) (λ node. node.kind ≡ kind)
  unfolding node_of
  kind_under None kind is = is
  kind_under (Some inode) kind is = is

  pub to_kind : (number : ℕ) (kind : Kind) → IsSomeAnd (inode_at s inodes number) (λ inode. inode.kind ≡ kind) → HasKind (image s inodes) number kind
  unfolding node_at
  to_kind number kind is = subst (λ (o : Option Node). IsSomeAnd o (λ node. node.kind ≡ kind)) (sym (node_found s inodes number)) (kind_under (inode_at s inodes number) kind is)

  node_kind : (inode : Inode) → (node_of s inode).kind ≡ inode.kind
  unfolding node_of
  node_kind inode = refl

  pub node_is : (number : ℕ) (node : Node) → fin.get (image s inodes).nodes number ≡ Some node → (inode : Inode) × (inode_at s inodes number ≡ Some inode) × (node_of s inode ≡ node)
  unfolding node_at
  node_is number node e = mapped_from (node_of s) (inode_at s inodes number) node (sym (node_found s inodes number) ∙ e)

  pub from_kind : (number : ℕ) (kind : Kind) → HasKind (image s inodes) number kind → (inode : Inode) × (inode_at s inodes number ≡ Some inode) × (inode.kind ≡ kind)
  from_kind number kind has = told (fin.get (image s inodes).nodes number) refl has
    where
      told : (o : Option Node) → fin.get (image s inodes).nodes number ≡ o → IsSomeAnd o (λ node. node.kind ≡ kind) → (inode : Inode) × (inode_at s inodes number ≡ Some inode) × (inode.kind ≡ kind)
      told None e is = absurd is
      told (Some node) e is = let w = node_is number node e in (w.0, w.1, sym (node_kind w.0) ∙ ap (λ (x : Node). x.kind) w.2 ∙ is)

  -- the link of a name
  pub name_of : (link : TreeLink) (number : ℕ) → fin.get (image s inodes).links link ≡ Some number → Contains (names_at s inodes link.directory) (record { number = number; name = link.name })
  name_of link number e = number_among link.name (names_at s inodes link.directory) number (sym (name_found s inodes link.directory link.name) ∙ e)

  -- what has names is a directory
  pub named_directory : (directory : ℕ) (name : Link) → Contains (names_at s inodes directory) name → (inode : Inode) × (inode_at s inodes directory ≡ Some inode) × (inode.kind ≡ Directory)
  unfolding names_at
  named_directory directory name among =
      let w = named_inode s inodes directory name among in
      (w.0, w.1, told w.0.kind w.0.content (subst (λ (o : Option Inode). Contains (names_under s o) name) w.1 among))
    where
      told : (kind : Kind) (content : Content) → Contains (names_by s kind content) name → kind ≡ Directory
      told File content among = none_in name among
      told Directory content among = refl

  abbrev count_in : ℕ → ℕ → ℕ
  count_in number directory = count_by (λ l. l.number == number) (names_at s inodes directory)

  self : (name : Link) → weight_of (name.number == name.number) ≡ 1
  self name = once (name.number == name.number) (eq-eqb name.number name.number refl)

  directory_in : (directory : ℕ) (name : Link) → Contains (names_at s inodes directory) name → Contains (numbers inodes) directory
  directory_in directory name among = let w = named_inode s inodes directory name among in used_in s inodes directory w.0 w.1

  counted_once : (directory : ℕ) (name : Link) → Contains (names_at s inodes directory) name → 1 ≤ count_in name.number directory
  counted_once directory name among = omega (arith, self name, sum_one (λ (l : Link). weight_of (l.number == name.number)) (names_at s inodes directory) name among)

  pub counted : (directory : ℕ) (name : Link) → Contains (names_at s inodes directory) name → 1 ≤ name_count s inodes name.number
  counted directory name among = omega (arith, counted_once directory name among, sum_one (count_in name.number) (numbers inodes) directory (directory_in directory name among))

  -- two links of one number are counted twice
  pub counted_twice : (d e : ℕ) (x y : Link) → x.number ≡ y.number → link_to d x.name ≢ link_to e y.name → Contains (names_at s inodes d) x → Contains (names_at s inodes e) y → 2 ≤ name_count s inodes x.number
  counted_twice d e x y alike apart one two = told (same_or_apart nat_cmp_total exact_unsigned d e)
    where
      second : weight_of (y.number == x.number) ≡ 1
      second = once (y.number == x.number) (eq-eqb y.number x.number (sym alike))

      told : (d ≡ e) ⊎ (d ≢ e) → 2 ≤ name_count s inodes x.number
      told (inl same) =
          let other : x ≢ y = (λ is. apart (λ i. record { directory = same i; name = (is i).name })) in
          let there : Contains (names_at s inodes d) y = subst (λ (m : ℕ). Contains (names_at s inodes m) y) (sym same) two in
          omega (arith, self x, second, sum_two (λ (l : Link). weight_of (l.number == x.number)) (names_at s inodes d) x y other one there, sum_one (count_in x.number) (numbers inodes) d (directory_in d x one))
      told (inr other) =
          let of_second : 1 ≤ count_in x.number e = subst (λ (m : ℕ). 1 ≤ count_in m e) (sym alike) (counted_once e y two) in
          omega (arith, counted_once d x one, of_second, sum_two (count_in x.number) (numbers inodes) d e other (directory_in d x one) (directory_in e y two))

  -- ---- how many names a directory and a number have

  abbrev pub link_entries : List (TreeLink × ℕ)
  link_entries = flat_map (links_at s inodes) (numbers inodes)

  fewer : (p : TreeLink × ℕ → Bool) (es : List (TreeLink × ℕ)) → count_by p (fin.entries (fin.from_entries {R = link_cmp} es)) ≤ count_by p es
  fewer p [] = omega (arith, none_counted p)
  fewer p (e ∷ es) = omega (arith, total-insert links_total exact_links (λ x. cond (p x) 1 0) (fin.from_entries {R = link_cmp} es) e.0 e.1, fewer p es, sum_by-cons (λ x. cond (p x) 1 0) e es)

  counts : (p : TreeLink × ℕ → Bool) → count_by p (fin.entries (image s inodes).links) ≤ sum_by (λ d. count_by p (links_at s inodes d)) (numbers inodes)
  unfolding image
  counts p = omega (arith, fewer p link_entries, count-flat_map p (links_at s inodes) (numbers inodes))

  pub few_links : (p : TreeLink × ℕ → Bool) (d : ℕ) → count_by p (links_at s inodes d) ≡ count_by (λ l. p (link_to d l.name, l.number)) (names_at s inodes d)
  unfolding links_at
  few_links p d = count-map p (λ (l : Link). (link_to d l.name, l.number)) (names_at s inodes d)

  pub few_in : (d most : ℕ) → length (names_at s inodes d) ≤ most → tree_names_in (image s inodes) d ≤ most
  unfolding numbers
  few_in d most few =
      let p : TreeLink × ℕ → Bool = λ e. e.0.directory == d in
      let own : count_by p (links_at s inodes d) ≤ most = omega (arith, few_links p d, count_by-le-length (λ (l : Link). p (link_to d l.name, l.number)) (names_at s inodes d), few) in
      let others : (n : ℕ) → n ≢ d → count_by p (links_at s inodes n) ≡ 0 = (λ n other. few_links p n ∙ count-none (λ (l : Link). n == d) (names_at s inodes n) (λ l. apart n other)) in
      omega (arith, counts p, sum_at (λ m. count_by p (links_at s inodes m)) d most own others 2 (inodes.size / 128 - 2))
    where
      apart : (n : ℕ) → n ≢ d → (n == d) ≡ false
      apart n other = told (n == d) refl
        where
          told : (b : Bool) → (n == d) ≡ b → b ≡ false
          told true e = absurd (other (eqb-true n d e))
          told false e = refl

  pub all_alike : (number : ℕ) (ns : List ℕ) → sum_by (λ d. count_by (λ e. e.1 == number) (links_at s inodes d)) ns ≡ sum_by (count_in number) ns
  all_alike number [] = refl
  all_alike number (d ∷ ns) =
      omega (arith, sum_by-cons (λ m. count_by (λ e. e.1 == number) (links_at s inodes m)) d ns, sum_by-cons (count_in number) d ns, few_links (λ e. e.1 == number) d, all_alike number ns)

  pub few_for : (number : ℕ) → names_for (image s inodes) number ≤ name_count s inodes number
  few_for number = omega (arith, counts (λ e. e.1 == number), all_alike number (numbers inodes))

-- ---- of a sound root

pub one_link : (kind : Kind) (links : ℕ) → kind ≡ Directory → IsTrue (are_links kind links) → links ≡ 1
one_link File links is fits = absurd cc
one_link Directory links is fits = eqb-true links 1 fits

module _ (limits : Limits) (n : ℕ) (s : Store) (inodes : BlockTree) (version : limits_of limits.version ≡ Some limits) (whole : (block : ℕ) → IsIn n Data block → IsBlock (s block)) (sound : IsSound limits n s inodes) where
  unnamed : (directory : ℕ) (name : Link) → Contains (names_at s inodes directory) name → name.number ≢ 2
  unnamed directory name among same = omega (arith, counted s inodes directory name among, ap (name_count s inodes) same, sound.linked.unnamed)

  once_linked : (a b : TreeLink) (number : ℕ) → HasKind (image s inodes) number Directory → fin.get (image s inodes).links a ≡ Some number → fin.get (image s inodes).links b ≡ Some number → a ≡ b
  once_linked a b number has one two = told (same_or_apart links_total exact_links a b)
    where
      told : (a ≡ b) ⊎ (a ≢ b) → a ≡ b
      told (inl same) = same
      told (inr apart) =
          let w = from_kind s inodes number Directory has in
          let here = name_of s inodes a number one in
          let valid = valid_inode limits s inodes sound.records.spelled number w.0 w.1 in
          let single : w.0.links ≡ 1 = one_link w.0.kind w.0.links w.2 valid.links in
          let count = sound.linked.counted number w.0 (unnamed a.directory (record { number = number; name = a.name }) here) w.1 in
          absurd (omega (arith, single, count, counted_twice s inodes a.directory b.directory (record { number = number; name = a.name }) (record { number = number; name = b.name }) refl apart here (name_of s inodes b number two)))

  reaches : (number : ℕ) → IsReached s inodes number → Reaches (image s inodes) number
  reaches number root = tree_root
  reaches number (below directory name above among) =
      tree_below directory name.name name.number (reaches directory above)
      (name_found s inodes directory name.name ∙ found_once (names_at s inodes directory) name (sound.names.once directory name.name) among)

  kept_some : (o : Option Inode) → is_some o ≡ true → is_some (option_map (node_of s) o) ≡ true
  kept_some None e = e
  kept_some (Some inode) e = refl

  used_node : (number : ℕ) → is_some (inode_at s inodes number) ≡ true → is_some (fin.get (image s inodes).nodes number) ≡ true
  unfolding node_at
  used_node number e = ap is_some (node_found s inodes number) ∙ kept_some (inode_at s inodes number) e

  has_some : (o : Option Inode) (inode : Inode) (kind : Kind) → o ≡ Some inode → inode.kind ≡ kind → IsSomeAnd o (λ i. i.kind ≡ kind)
  has_some o inode kind e is = subst (λ (x : Option Inode). IsSomeAnd x (λ i. i.kind ≡ kind)) (sym e) is

  hierarchy : IsHierarchy (image s inodes)
  hierarchy = record {
    root = to_kind s inodes 2 Directory sound.records.root;
    unnamed = λ link e. unnamed link.directory (record { number = 2; name = link.name }) (name_of s inodes link 2 e) refl;
    held = λ link number e.
        let w = named_directory s inodes link.directory (record { number = number; name = link.name }) (name_of s inodes link number e) in
        to_kind s inodes link.directory Directory (has_some (inode_at s inodes link.directory) w.0 Directory w.1 w.2);
    leads = λ link number e. used_node number (sound.linked.leads link.directory (record { number = number; name = link.name }) (name_of s inodes link number e));
    once = once_linked;
    reached = λ number has. let w = from_kind s inodes number Directory has in reaches number (sound.linked.reached number w.0 w.1 w.2);
  }

  -- each name of a directory is one that a block spells
  links_fit : (tree : BlockTree) → ((i : ℕ) → 4096 * i < tree.size → IsDirectoryBlock (data_block s tree i)) → AllByRecursion IsLink (names_of s (Tree tree))
  links_fit tree spelled = all_flat_map IsLink (λ i. names_in (data_block s tree i)) (range_with_len 0 (tree.size / 4096)) (λ i among.
      let w = spelled i (let k = range-from 0 (tree.size / 4096) i among in omega (arith, k.1)) in
      subst (AllByRecursion IsLink) (sym (directory_read (data_block s tree i) w.0 w.1)) w.1.fit.each)

  names_fit : (kind : Kind) (content : Content) → HasContent s kind content → AllByRecursion IsLink (names_by s kind content)
  names_fit File content has = tt
  names_fit Directory (Inline bytes) has = absurd has
  names_fit Directory (Tree tree) has = links_fit tree has.1.spelled

  name_fits : (directory : ℕ) (name : Link) → Contains (names_at s inodes directory) name → IsLink name
  unfolding names_at
  name_fits directory name among =
      let w = named_inode s inodes directory name among in
      all_has IsLink (names_by s w.0.kind w.0.content) name (names_fit w.0.kind w.0.content (sound.used.contents directory w.0 w.1)) (subst (λ (o : Option Inode). Contains (names_under s o) name) w.1 among)

  nodes : HasNodes limits (image s inodes)
  nodes = record {
    nodes = λ number node e. let w = node_is s inodes number node e in subst (IsNode limits number) w.2 (node_fits limits n s inodes version whole sound number w.0 w.1);
    names = λ link number e. (name_fits link.directory (record { number = number; name = link.name }) (name_of s inodes link number e)).name;
    hidden = name_found s inodes 2 (codes ".snapshot") ∙ sound.names.hidden;
  }

  file_links : (kind : Kind) (links : ℕ) → kind ≡ File → IsTrue (are_links kind links) → links ≤ 32767
  file_links File links is fits = leb-true links 32767 fits
  file_links Directory links is fits = absurd cc

  few_names : (number : ℕ) → HasKind (image s inodes) number File → names_for (image s inodes) number ≤ limits.links
  few_names number has =
      let w = from_kind s inodes number File has in
      let valid = valid_inode limits s inodes sound.records.spelled number w.0 w.1 in
      let most = (fixed limits.version limits version).links in
      let apart : number ≢ 2 = (λ same. not_root number w.0 w.1 w.2 same) in
      omega (arith, few_for s inodes number, sound.linked.counted number w.0 apart w.1, file_links w.0.kind w.0.links w.2 valid.links, most)
    where
      not_root : (number : ℕ) (inode : Inode) → inode_at s inodes number ≡ Some inode → inode.kind ≡ File → number ≢ 2
      not_root number inode e is same =
          let there : IsSomeAnd (Some inode) (λ i. i.kind ≡ Directory) = subst (λ (o : Option Inode). IsSomeAnd o (λ i. i.kind ≡ Directory)) (sym (ap (inode_at s inodes) same) ∙ e) sound.records.root in
          let never : File ≡ Directory = sym is ∙ there in cc

  few : HasFewNames limits (image s inodes)
  few = record {
    names = λ directory. few_in s inodes directory limits.names (sound.names.few directory);
    links = few_names;
  }

  pub sound_tree : IsTree limits (image s inodes)
  sound_tree = record { hierarchy = hierarchy; nodes = nodes; few = few }
