-- The tree that a new inode file denotes, and that it is well formed.
use Rattle.std.proofs.Common.{◌≡◌, ◌≢◌, ⊎_elim, ℕ, true, false, if◌then◌else◌, List, [], ◌∷◌, Option, None, Some, refl, sym, ap, subst, ◌∙◌}
use Rattle.std.specs.Prelude.{All, Contains, IfSome}
use Rattle.std.specs.FinMap as fin
use Rattle.std.specs.Cmp.{nat_cmp_total}
use Rattle.std.specs.Option.{is_some, option_map}
use Rattle.std.proofs.lemmas.Map.Lookups.{exact_unsigned}
use Rattle.sn_image.specs.Image.{image, node_at, node_of}
use Rattle.sn_image.specs.Inodes.{inode_at}
use Rattle.sn_image.specs.Laws.{RootReadsAlike}
use Rattle.sn_image.specs.Names.{names_at, names_under}
use Rattle.sn_image.specs.Reach.{reach}
use Rattle.sn_image.specs.Sound.{AreOnce, HasContent, IsPlaced, IsSound, IsInodeFile, EndsAtSize, SpellsAcls}
use Rattle.sn_image.specs.WellFormed.{IsWellFormed}
use Rattle.sn_image.proofs.FootprintLemmas.{roots_depend}
use Rattle.sn_image.proofs.PointLemmas.{node_found, name_found}
use Rattle.sn_image.proofs.ReachLemmas.{reach_parts}
use Rattle.sn_image.proofs.WellFormedLemmas.{tree_sound, well_formed}
use Rattle.sn_inode.specs.Changes.{ChangesInodes, IsChange, IsChanged, numbers_in}
use Rattle.sn_inode.specs.declared.changes.InodeChange.{InodeChange}
use Rattle.sn_inode.proofs.ChangeLawLemmas.{reserved_stay}
use Rattle.sn_layout.specs.declared.tree.BlockTree.{BlockTree}
use Rattle.sn_layout_node.specs.Directory.{number_of}
use Rattle.sn_layout_node.specs.declared.inode.Inode.{Inode}
use Rattle.sn_limits.specs.declared.kind.Kind.TheVariants.{File}
use Rattle.sn_limits.specs.declared.limits.Limits.{Limits}
use Rattle.sn_model.specs.NameTree.{IsTree}
use Rattle.sn_model.specs.Tree.{Tree, link_to, names_for}
use Rattle.sn_model.specs.declared.link.Link.{Link}
use Rattle.sn_model.proofs.LinkLemmas.{exact_links, links_total}
use Rattle.sn_ondisk.specs.TreeLaws.{SameIn}
use Rattle.sn_ondisk.specs.Trees.{Store, tree_reach}
use Rattle.sn_overlay.specs.Layers.{Layer, hides_names, name_seen, node_seen, through}
use Rattle.sn_overlay.specs.declared.node.NodeChange.{NodeChange}
use Rattle.sn_overlay.proofs.LayerLemmas.{get-through_links, get-through_nodes}
use Rattle.sn_sound.proofs.ReachLemmas.{sound_depends}
use Rattle.sn_tree.specs.Plans.{Holds}
use Rattle.sn_tree.specs.declared.new_block.NewBlock.{NewBlock}
use Rattle.sn_cp_nodes.specs.Built.{IsGround, StandsFor}
use Rattle.sn_cp_build.specs.Planned.{numbers_of}
use Rattle.sn_cp_build.proofs.BuiltLemmas.{MakesSeen, StaysUnused}
use Rattle.sn_cp_build.proofs.ListedLemmas.{among_or_not, changed_at, has_node}

module _ (limits : Limits) (n : ℕ) (s r : Store) (file : BlockTree) (layer : Layer) (ground : IsGround limits n s file layer) (same : SameIn (reach s file) s r) where
  abbrev pub shown : Tree
  shown = through layer (image s file)

  alike : RootReadsAlike s r file
  alike = roots_depend s r file same

  -- the old root as it is in the other store
  pub sound_there : IsSound limits n r file
  sound_there = sound_depends s r file same limits n ground.sound

  formed_there : IsWellFormed limits r file
  formed_there = well_formed limits n r file sound_there

  pub same_file : SameIn (tree_reach s file) s r
  same_file block among = same block ((reach_parts s file block).0 among)

  -- ---- a number that the layer doesn't have

  module _ (number : ℕ) (free : fin.get layer.nodes number ≡ None) where
    no_name : (name : List ℕ) → fin.get layer.names (link_to number name) ≡ None
    no_name name = told (fin.get layer.names (link_to number name)) refl
      where
        told : (o : Option (Option ℕ)) → fin.get layer.names (link_to number name) ≡ o → o ≡ None
        told None e = refl
        told (Some x) e =
            let there : is_some (fin.get layer.nodes number) ≡ true = ground.lies.whole.names (link_to number name) (ap is_some e) in
            let never : false ≡ true = sym (ap is_some free) ∙ there in
            absurd cc

    node_stays : option_map (node_of r) (inode_at r file number) ≡ fin.get shown.nodes number
    unfolding node_at
    node_stays =
        sym (node_found r file number) ∙ ap (λ (tree : Tree). fin.get tree.nodes number) alike.image
        ∙ sym (get-through_nodes layer (image s file) number ∙ ap (λ (c : Option NodeChange). node_seen layer number c (fin.get (image s file).nodes number)) free)

    name_stays : (name : List ℕ) → number_of name (names_under r (inode_at r file number)) ≡ fin.get shown.links (link_to number name)
    unfolding names_at
    name_stays name =
        sym (name_found r file number name) ∙ ap (λ (tree : Tree). fin.get tree.links (link_to number name)) alike.image
        ∙ sym (get-through_links layer (image s file) (link_to number name)
        ∙ ap (λ (v : Option (Option ℕ)). name_seen layer (link_to number name) v (fin.get (image s file).links (link_to number name))) (no_name name)
        ∙ ap (λ (c : Option NodeChange). if hides_names c then None else fin.get (image s file).links (link_to number name)) free)

    once_there : AreOnce (names_under r (inode_at r file number))
    unfolding names_at
    once_there = sound_there.names.once number

    record IsAsBefore (o : Option Inode) : Type 0 where
      content : IfSome o (λ inode. HasContent r inode.kind inode.content)
      acls : IfSome o (λ inode. inode.acl_block ≢ 0 → SpellsAcls (r inode.acl_block))
      links : IfSome o (λ inode. inode.kind ≡ File → names_for shown number ≡ inode.links)

    as_before : (o : Option Inode) → inode_at r file number ≡ o → IsAsBefore o
    as_before None e = record { content = tt; acls = tt; links = tt }
    as_before (Some inode) e = record {
      content = sound_there.used.contents number inode e;
      acls = (sound_there.used.acls number inode e).spelled;
      links = λ is. ground.lies.counts.others number free ∙ ap (λ (tree : Tree). names_for tree number) (sym alike.image) ∙ formed_there.counted number inode e is;
    }

    pub stays : StandsFor shown number r (inode_at r file number)
    stays =
        let kept = as_before (inode_at r file number) refl in
        record {
          node = node_stays;
          names = name_stays;
          once = once_there;
          content = kept.content;
          acls = kept.acls;
          links = kept.links;
        }

  -- ---- each number

  module _ (new : BlockTree) (changes : List InodeChange) (added : List NewBlock) (released : List ℕ) (file_is : IsInodeFile limits new)
      (can : All (IsChange limits) changes) (changed : ChangesInodes limits s file new changes added released) (holds : Holds r added)
      (none : (changes ≡ []) → new ≡ file)
      (seen : All (MakesSeen limits s file layer r) changes)
      (unused : (number : ℕ) → Contains (numbers_of layer) number → ¬ Contains (numbers_in changes) number → StaysUnused limits s file layer r number) where
    others : (number : ℕ) → ¬ Contains (numbers_in changes) number → inode_at r new number ≡ inode_at s file number
    others number apart = changed.others r same_file holds number apart

    kept : (number : ℕ) → ¬ Contains (numbers_in changes) number → StandsFor shown number r (inode_at r new number)
    kept number apart = ⊎_elim
        (λ (has : Contains (numbers_of layer) number).
        let is = unused number has apart in
        subst (StandsFor shown number r) (sym (others number apart ∙ is.0)) is.1)
        (λ (hasnt : Contains (numbers_of layer) number → ⊥).
        subst (StandsFor shown number r) (alike.each number ∙ sym (others number apart)) (stays number (not_there number hasnt)))
        (among_or_not number (numbers_of layer))
      where
        not_there : (number : ℕ) → (Contains (numbers_of layer) number → ⊥) → fin.get layer.nodes number ≡ None
        not_there number hasnt = told (fin.get layer.nodes number) refl
          where
            told : (o : Option NodeChange) → fin.get layer.nodes number ≡ o → o ≡ None
            told None e = refl
            told (Some change) e = absurd (hasnt (has_node layer number change e))

    pub stands : (number : ℕ) → StandsFor shown number r (inode_at r new number)
    stands number = ⊎_elim
        (λ (among : Contains (numbers_in changes) number).
        changed_at (MakesSeen limits s file layer r) (λ (c : InodeChange). IsChanged r (inode_at s file c.number) c.record (inode_at r new c.number)) (λ (k : ℕ). StandsFor shown k r (inode_at r new k))
        (λ c makes is. makes (inode_at r new c.number) is) changes number seen (changed.changed r same_file holds) among)
        (λ (apart : Contains (numbers_in changes) number → ⊥). kept number apart)
        (among_or_not number (numbers_in changes))

    -- ---- the tree

    node_is : (number : ℕ) → fin.get (image r new).nodes number ≡ fin.get shown.nodes number
    unfolding node_at
    node_is number = node_found r new number ∙ (stands number).node

    name_is : (link : Link) → fin.get (image r new).links link ≡ fin.get shown.links link
    unfolding names_at
    name_is link = name_found r new link.directory link.name ∙ (stands link.directory).names link.name

    pub denotes : image r new ≡ shown
    denotes =
        let nodes = fin.same_map nat_cmp_total exact_unsigned (image r new).nodes shown.nodes node_is in
        let links = fin.same_map links_total exact_links (image r new).links shown.links name_is in
        λ i. record { nodes = nodes i; links = links i }

    -- ---- well formed

    some_of : (P : Inode → Type 0) (o : Option Inode) (inode : Inode) → o ≡ Some inode → IfSome o P → P inode
    some_of P o inode e has = subst (λ (x : Option Inode). IfSome x P) e has

    ends : EndsAtSize r new
    ends = told changes refl
      where
        told : (cs : List InodeChange) → changes ≡ cs → EndsAtSize r new
        told [] e = subst (EndsAtSize r) (sym (none e)) sound_there.ends
        told (c ∷ cs) e = changed.ends (λ nothing. let never : [] ≡ c ∷ cs = sym nothing ∙ e in absurd cc) r same_file holds

    once_new : (directory : ℕ) → AreOnce (names_at r new directory)
    unfolding names_at
    once_new directory = (stands directory).once

    pub formed : IsWellFormed limits r new
    formed = record {
      file = file_is;
      ends = ends;
      spelled = changed.spelled r same_file holds ground.sound.records.spelled;
      reserved = reserved_stay limits s r file new changes added released ground.sound.file can changed same_file holds ground.sound.records.reserved;
      acls = λ number inode e. some_of (λ inode. inode.acl_block ≢ 0 → SpellsAcls (r inode.acl_block)) (inode_at r new number) inode e (stands number).acls;
      contents = λ number inode e. some_of (λ inode. HasContent r inode.kind inode.content) (inode_at r new number) inode e (stands number).content;
      once = once_new;
      counted = λ number inode e is. ap (λ (tree : Tree). names_for tree number) denotes ∙ some_of (λ inode. inode.kind ≡ File → names_for shown number ≡ inode.links) (inode_at r new number) inode e (stands number).links is;
    }

    pub sound_new : IsPlaced n r new → IsSound limits n r new
    sound_new placed = tree_sound limits n r new formed (subst (IsTree limits) (sym denotes) ground.tree) placed
