-- Roots that are well formed, and the trees that they denote.
use Rattle.std.proofs.Common.{◌≡◌, ◌≢◌, ℕ, ◌==◌, Bool, true, false, cond, Option, Some, None, Contains, count_by, refl, sym, ap, subst, ◌∙◌, arith, true≢false}
use Rattle.std.specs.Prelude.{IsSomeAnd, codes}
use Rattle.std.specs.Option.{option_map, is_some}
use Rattle.std.specs.Ordering.{eq_by_cmp}
use Rattle.std.specs.Cmp.{eq_by_cmp_equiv}
use Rattle.std.specs.FinMap as fin
use Rattle.std.proofs.lemmas.Bool.{eqb-true, eq-eqb}
use Rattle.sn_limits.specs.declared.kind.Kind.{Kind}
use Rattle.sn_limits.specs.declared.kind.Kind.TheVariants.{File, Directory}
use Rattle.sn_limits.specs.declared.limits.Limits.{Limits}
use Rattle.sn_layout.specs.declared.tree.BlockTree.{BlockTree}
use Rattle.sn_layout_node.specs.Directory.{Link}
use Rattle.sn_layout_node.specs.declared.inode.Inode.{Inode}
use Rattle.sn_model.specs.declared.link.Link.{Link as TreeLink}
use Rattle.sn_model.specs.NameTree.{HasKind, IsHierarchy, IsTree, Reaches, root as tree_root, below as tree_below}
use Rattle.sn_model.specs.Tree.{Tree, link_to, link_cmp, names_for, link_count}
use Rattle.sn_model.proofs.CountLemmas.{count_removed, count_none}
use Rattle.sn_model.proofs.LinkLemmas.{exact_links, links_total}
use Rattle.sn_ondisk.specs.Trees.{Store}
use Rattle.sn_image.specs.Acls.{acls_at}
use Rattle.sn_image.specs.Image.{node_of, node_at, image}
use Rattle.sn_image.specs.Inodes.{inode_at}
use Rattle.sn_image.specs.Names.{names_at}
use Rattle.sn_image.specs.Sound.{IsPlaced, IsSound, IsReached, root, below, name_count}
use Rattle.sn_image.specs.WellFormed.{IsWellFormed}
use Rattle.sn_image.proofs.NameCountLemmas.{for_number, in_directory}
use Rattle.sn_image.proofs.PieceLemmas.{found_once}
use Rattle.sn_image.proofs.PointLemmas.{node_found, name_found}
use Rattle.sn_image.proofs.SoundNameLemmas.{to_kind, from_kind, name_of, one_link}
use Rattle.sn_image.proofs.SoundNodeLemmas.{valid_inode}

-- ---- of a hierarchy

-- a directory has a name, but for the root
named_below : (tree : Tree) (number : ℕ) → Reaches tree number → number ≢ 2 → (link : TreeLink) × (fin.get tree.links link ≡ Some number)
named_below tree _ tree_root other = absurd (other refl)
named_below tree _ (tree_below directory name number above is) other = (link_to directory name, is)

-- and no second one
one_name : (tree : Tree) (number : ℕ) → IsHierarchy tree → HasKind tree number Directory → number ≢ 2 → names_for tree number ≡ 1
one_name tree number tree_is has other =
    let (link, is) = named_below tree number (tree_is.reached number has) other in
    let p : TreeLink × ℕ → Bool = λ e. e.1 == number in
    let counts : cond (number == number) 1 0 ≡ 1 = ap {B = ℕ} (λ (b : Bool). cond b 1 0) (eq-eqb number number refl) in
    omega (arith, counts, count_removed links_total exact_links p tree.links link number is, rest link is)
  where
    apart : (link k : TreeLink) (v : ℕ) (b : Bool) → fin.get tree.links link ≡ Some number → eq_by_cmp link_cmp k link ≡ b → cond b None (fin.get tree.links k) ≡ Some v → (c : Bool) → (v == number) ≡ c → c ≡ false
    apart link k v true is tied there c e = absurd cc
    apart link k v false is tied there false e = refl
    apart link k v false is tied there true e =
        let same : k ≡ link = tree_is.once k link number has (there ∙ ap (λ (n : ℕ). Some n) (eqb-true v number e)) is in
        absurd (true≢false (sym ((eq_by_cmp_equiv links_total).refl link) ∙ ap (λ (l : TreeLink). eq_by_cmp link_cmp l link) (sym same) ∙ tied))

    rest : (link : TreeLink) → fin.get tree.links link ≡ Some number → count_by (λ e. e.1 == number) (fin.entries (fin.remove tree.links link)) ≡ 0
    rest link is = count_none links_total exact_links (λ e. e.1 == number) (fin.remove tree.links link) (λ k v there.
        apart link k v (eq_by_cmp link_cmp k link) is refl (sym (fin.get-remove links_total tree.links link k) ∙ there) (v == number) refl)

-- the root has none
no_name : (tree : Tree) → IsHierarchy tree → names_for tree 2 ≡ 0
no_name tree tree_is = count_none links_total exact_links (λ e. e.1 == 2) tree.links (λ k v there. apart k v there (v == 2) refl)
  where
    apart : (k : TreeLink) (v : ℕ) → fin.get tree.links k ≡ Some v → (b : Bool) → (v == 2) ≡ b → b ≡ false
    apart k v there true e = absurd (tree_is.unnamed k (there ∙ ap (λ (n : ℕ). Some n) (eqb-true v 2 e)))
    apart k v there false e = refl

-- ---- of a sound root

module _ (limits : Limits) (n : ℕ) (s : Store) (inodes : BlockTree) (sound : IsSound limits n s inodes) where
  -- a file isn't the root
  not_root : (number : ℕ) (inode : Inode) → inode_at s inodes number ≡ Some inode → inode.kind ≡ File → number ≢ 2
  not_root number inode e is same =
      let there : IsSomeAnd (Some inode) (λ i. i.kind ≡ Directory) = subst (λ (o : Option Inode). IsSomeAnd o (λ i. i.kind ≡ Directory)) (sym (ap (inode_at s inodes) same) ∙ e) sound.records.root in
      let never : File ≡ Directory = sym is ∙ there in cc

  file_counted : (number : ℕ) (inode : Inode) → inode_at s inodes number ≡ Some inode → inode.kind ≡ File → names_for (image s inodes) number ≡ inode.links
  file_counted number inode e is = for_number s inodes sound.names.once number ∙ sound.linked.counted number inode (not_root number inode e is) e

  pub links_counted : (number : ℕ) (inode : Inode) → inode_at s inodes number ≡ Some inode → inode.links ≡ link_count inode.kind (names_for (image s inodes) number)
  links_counted number inode e = told inode.kind refl
    where
      told : (kind : Kind) → inode.kind ≡ kind → inode.links ≡ link_count kind (names_for (image s inodes) number)
      told File is = sym (file_counted number inode e is)
      told Directory is = one_link inode.kind inode.links is (valid_inode limits s inodes sound.records.spelled number inode e).links

  pub well_formed : IsWellFormed limits s inodes
  well_formed = record {
    file = sound.file;
    ends = sound.ends;
    spelled = sound.records.spelled;
    reserved = sound.records.reserved;
    acls = λ number inode e. (sound.used.acls number inode e).spelled;
    contents = sound.used.contents;
    once = sound.names.once;
    counted = file_counted;
  }

-- ---- of a root that denotes a tree

module _ (limits : Limits) (n : ℕ) (s : Store) (inodes : BlockTree) (formed : IsWellFormed limits s inodes) (tree : IsTree limits (image s inodes)) where
  node_there : (number : ℕ) (inode : Inode) → inode_at s inodes number ≡ Some inode → fin.get (image s inodes).nodes number ≡ Some (node_of s inode)
  unfolding node_at
  node_there number inode e = node_found s inodes number ∙ ap (option_map (node_of s)) e

  kind_there : (number : ℕ) (inode : Inode) (kind : Kind) → inode_at s inodes number ≡ Some inode → inode.kind ≡ kind → HasKind (image s inodes) number kind
  kind_there number inode kind e is = to_kind s inodes number kind (subst (λ (o : Option Inode). IsSomeAnd o (λ i. i.kind ≡ kind)) (sym e) is)

  root_there : IsSomeAnd (inode_at s inodes 2) (λ inode. inode.kind ≡ Directory)
  root_there =
      let (inode, is, kind) = from_kind s inodes 2 Directory tree.hierarchy.root in
      subst (λ (o : Option Inode). IsSomeAnd o (λ i. i.kind ≡ Directory)) (sym is) kind

  no_default : (number : ℕ) (inode : Inode) → inode_at s inodes number ≡ Some inode → inode.kind ≡ File → (acls_at s inode.acl_block).default ≡ None
  unfolding node_of
  no_default number inode e is = (tree.nodes.nodes number (node_of s inode) (node_there number inode e)).of_file is

  -- a name in a directory is one of the tree
  link_there : (directory : ℕ) (name : Link) → Contains (names_at s inodes directory) name → fin.get (image s inodes).links (link_to directory name.name) ≡ Some name.number
  link_there directory name among = name_found s inodes directory name.name ∙ found_once (names_at s inodes directory) name (formed.once directory name.name) among

  some_inode : (o : Option Inode) → is_some (option_map (node_of s) o) ≡ true → is_some o ≡ true
  some_inode None e = e
  some_inode (Some inode) e = refl

  leads : (directory : ℕ) (name : Link) → Contains (names_at s inodes directory) name → is_some (inode_at s inodes name.number) ≡ true
  unfolding node_at
  leads directory name among =
      some_inode (inode_at s inodes name.number) (sym (ap is_some (node_found s inodes name.number)) ∙ tree.hierarchy.leads (link_to directory name.name) name.number (link_there directory name among))

  counted : (number : ℕ) (inode : Inode) → number ≢ 2 → inode_at s inodes number ≡ Some inode → name_count s inodes number ≡ inode.links
  counted number inode other e = sym (for_number s inodes formed.once number) ∙ told inode.kind refl
    where
      told : (kind : Kind) → inode.kind ≡ kind → names_for (image s inodes) number ≡ inode.links
      told File is = formed.counted number inode e is
      told Directory is =
          one_name (image s inodes) number tree.hierarchy (kind_there number inode Directory e is) other
          ∙ sym (one_link inode.kind inode.links is (valid_inode limits s inodes formed.spelled number inode e).links)

  reached : (number : ℕ) → Reaches (image s inodes) number → IsReached s inodes number
  reached _ tree_root = root
  reached _ (tree_below directory name number above is) =
      below directory (record { number = number; name = name }) (reached directory above) (name_of s inodes (link_to directory name) number is)

  pub tree_sound : IsPlaced n s inodes → IsSound limits n s inodes
  tree_sound placed = record {
    placed = placed;
    file = formed.file;
    ends = formed.ends;
    records = record { spelled = formed.spelled; reserved = formed.reserved; root = root_there };
    used = record {
      acls = λ number inode e. record { spelled = formed.acls number inode e; of_file = no_default number inode e };
      contents = formed.contents;
    };
    names = record {
      once = formed.once;
      few = λ directory. omega (arith, tree.few.names directory, in_directory s inodes formed.once directory);
      hidden = sym (name_found s inodes 2 (codes ".snapshot")) ∙ tree.nodes.hidden;
    };
    linked = record {
      leads = leads;
      unnamed = sym (for_number s inodes formed.once 2) ∙ no_name (image s inodes) tree.hierarchy;
      counted = counted;
      reached = λ number inode e is. reached number (tree.hierarchy.reached number (kind_there number inode Directory e is));
    };
  }
