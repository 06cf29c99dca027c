-- The ACLs of an inode that changed are those that are seen of its node.
use Rattle.std.proofs.Common.{◌≡◌, ◌≢◌, ℕ, ◌==◌, Bool, true, false, if◌then◌else◌, List, [], ◌∷◌, Option, None, Some, Contains, refl, sym, ap, subst, ◌∙◌}
use Rattle.std.specs.Prelude.{IsSomeAnd}
use Rattle.std.specs.FinMap as fin
use Rattle.std.specs.Option.{option_map}
use Rattle.std.proofs.lemmas.Bool.{eqb-false, ne_eqb}
use Rattle.std.proofs.lemmas.List.Elements.{Contains-append_left}
use Rattle.sn_device.proofs.SectorLemmas.{Contains-first}
use Rattle.sn_acl.specs.declared.entries.Entry.{Entry}
use Rattle.sn_acl.specs.declared.modes.Mode.{Mode}
use Rattle.sn_image.specs.Acls.{acls_at, acls_in, no_acls}
use Rattle.sn_image.specs.Contents.{content_reach}
use Rattle.sn_image.specs.Image.{image, node_at, node_of}
use Rattle.sn_image.specs.Inodes.{inode_at}
use Rattle.sn_image.specs.Reach.{block_reach, inode_reach, reach_at}
use Rattle.sn_image.specs.Sound.{SpellsAcls}
use Rattle.sn_image.proofs.PointLemmas.{node_found}
use Rattle.sn_inode.specs.Changes.{HasAclsOf, is_same_kind, kept_pointer}
use Rattle.sn_inode.specs.declared.changes.AclChange.{AclChange}
use Rattle.sn_inode.specs.declared.changes.AclChange.TheVariants.{Kept, Set}
use Rattle.sn_layout.specs.declared.tree.BlockTree.{BlockTree}
use Rattle.sn_layout_acl.specs.AclBlock.{joined}
use Rattle.sn_layout_acl.specs.declared.acl_block.AclBlock.{AclBlock}
use Rattle.sn_layout_node.specs.declared.inode.Inode.{Inode}
use Rattle.sn_limits.specs.declared.kind.Kind.{Kind}
use Rattle.sn_limits.specs.declared.kind.Kind.TheVariants.{File, Directory}
use Rattle.sn_limits.specs.declared.limits.Limits.{Limits}
use Rattle.sn_ondisk.specs.TreeLaws.{SameIn}
use Rattle.sn_ondisk.specs.Trees.{Store}
use Rattle.sn_overlay.specs.Layers.{Layer, acls_of}
use Rattle.sn_overlay.specs.declared.node.NodeChange.TheVariants.{Changed}
use Rattle.sn_overlay.specs.declared.node.NodeState.{NodeState}
use Rattle.sn_cp_nodes.specs.Built.{IsGround}
use Rattle.sn_cp_nodes.specs.Inodes.{AreAclsFor}
use Rattle.sn_cp_nodes.proofs.OldLemmas.{old_of}

-- ACLs are at a pointer, in a block that spells them
pub record AclsAre (r : Store) (state : NodeState) (objects : Mode) (pointer : ℕ) : Type 0 where
  pub access : joined objects (acls_at r pointer).access ≡ state.ownership.acl
  pub default : (acls_at r pointer).default ≡ state.ownership.default_acl
  pub spelled : pointer ≢ 0 → SpellsAcls (r pointer)

same_kind : (kind other : Kind) → kind ≡ other → is_same_kind kind other ≡ true
same_kind File File e = refl
same_kind Directory Directory e = refl
same_kind File Directory e = absurd cc
same_kind Directory File e = absurd cc

pub acls_alike : (s r : Store) (pointer : ℕ) → (pointer ≢ 0 → r pointer ≡ s pointer) → acls_at r pointer ≡ acls_at s pointer
unfolding acls_at
acls_alike s r pointer same = told (pointer == 0) refl
  where
    told : (b : Bool) → (pointer == 0) ≡ b → (if b then no_acls else acls_in (r pointer)) ≡ (if b then no_acls else acls_in (s pointer))
    told true e = refl
    told false e = ap acls_in (same (eqb-false pointer 0 e))

pub pointer_reached : (s : Store) (file : BlockTree) (number : ℕ) (inode : Inode) → inode_at s file number ≡ Some inode → inode.acl_block ≢ 0 → Contains (reach_at s file number) inode.acl_block
unfolding reach_at
pointer_reached s file number inode used some =
    let one : block_reach inode.acl_block ≡ inode.acl_block ∷ [] = ap (λ (b : Bool). if b then [] else inode.acl_block ∷ []) (ne_eqb inode.acl_block 0 some) in
    subst (λ (o : Option Inode). Contains (inode_reach s o) inode.acl_block) (sym used)
    (Contains-append_left (block_reach inode.acl_block) (content_reach s inode.content) inode.acl_block
    (subst (λ (blocks : List ℕ). Contains blocks inode.acl_block) (sym one) (Contains-first inode.acl_block [])))

module _ (limits : Limits) (n : ℕ) (s : Store) (file : BlockTree) (layer : Layer) (number : ℕ) (ground : IsGround limits n s file layer)
    (state : NodeState) (node : fin.get layer.nodes number ≡ Some (Changed state)) (r : Store) (same : SameIn (reach_at s file number) s r) where
  abbrev acls_there : Inode → List Entry × Option (List Entry)
  acls_there inode = (joined inode.objects (acls_at s inode.acl_block).access, (acls_at s inode.acl_block).default)

  abbrev acls_seen : List Entry × Option (List Entry)
  acls_seen = (state.ownership.acl, state.ownership.default_acl)

  -- the ACLs below, where the layer says that they are those
  below_acls : (inode : Inode) → inode_at s file number ≡ Some inode → state.fresh ≡ false → state.acl_changed ≡ false
      → acls_there inode ≡ acls_seen
  unfolding node_at node_of
  below_acls inode used stale kept =
      let there : option_map acls_of (fin.get (image s file).nodes number) ≡ Some (acls_there inode) =
      ap (option_map acls_of) (node_found s file number) ∙ ap (λ (o : Option Inode). option_map acls_of (option_map (node_of s) o)) used in
      same_some (sym there ∙ ground.lies.fits.acls number state node stale kept)
    where
      same_some : {A : Type 0} {x y : A} → Some x ≡ Some y → x ≡ y
      same_some e = cc

  kept_acls : (inode : Inode) (objects : Mode) (kind : Kind) (pointer : ℕ) → inode_at s file number ≡ Some inode → inode.kind ≡ kind → objects ≡ inode.objects
      → state.fresh ≡ false → state.acl_changed ≡ false → pointer ≡ kept_pointer (Some inode) kind → AclsAre r state objects pointer
  kept_acls inode objects kind pointer used same_kinds bits stale kept is =
      let there : pointer ≡ inode.acl_block = is ∙ ap (λ (b : Bool). if b then inode.acl_block else 0) (same_kind inode.kind kind same_kinds) in
      let alike : inode.acl_block ≢ 0 → r inode.acl_block ≡ s inode.acl_block = λ some. same inode.acl_block (pointer_reached s file number inode used some) in
      let acls : acls_at r pointer ≡ acls_at s inode.acl_block = ap (acls_at r) there ∙ acls_alike s r inode.acl_block alike in
      let are = below_acls inode used stale kept in
      record {
        access = ap (λ (o : Mode). joined o (acls_at r pointer).access) bits ∙ ap (λ (a : AclBlock). joined inode.objects a.access) acls ∙ ap (λ p. p.0) are;
        default = ap (λ (a : AclBlock). a.default) acls ∙ ap (λ p. p.1) are;
        spelled = λ some.
            let other : inode.acl_block ≢ 0 = λ none. some (there ∙ none) in
            subst SpellsAcls (sym (ap r there ∙ alike other)) ((ground.sound.used.acls number inode used).spelled other);
      }

  pub changed_acls : (objects : Mode) (kind : Kind) (pointer : ℕ) (acls : AclChange) → kind ≡ state.kind → AreAclsFor (inode_at s file number) state objects acls → HasAclsOf r (inode_at s file number) kind acls pointer
      → AclsAre r state objects pointer
  changed_acls objects kind pointer Kept is are has =
      let (inode, used, kinds) = old_of limits n s file layer number ground state node are.0 in
      let bits : objects ≡ inode.objects = told (inode_at s file number) inode used are.2 in
      kept_acls inode objects kind pointer used (kinds ∙ sym is) bits are.0 are.1 (has ∙ ap (λ (o : Option Inode). kept_pointer o kind) used)
    where
      told : (o : Option Inode) (inode : Inode) → o ≡ Some inode → IsSomeAnd o (λ i. objects ≡ i.objects) → objects ≡ inode.objects
      told None inode e h = absurd h
      told (Some i) inode e h = let same : i ≡ inode = cc in h ∙ ap (λ (x : Inode). x.objects) same
  changed_acls objects kind pointer (Set acls) is are has = record {
    access = ap (λ (a : AclBlock). joined objects a.access) has.0 ∙ sym are.0;
    default = ap (λ (a : AclBlock). a.default) has.0 ∙ are.1;
    spelled = has.1;
  }
