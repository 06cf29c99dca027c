-- The ACLs of an inode, in their block.
use Rattle.std.proofs.Common.{◌≡◌, ◌≢◌, ◌==◌, ℕ, ◌+◌, ◌*◌, ◌≤◌, ◌||◌, Bool, true, false, if◌then◌else◌, List, [], ◌∷◌, Option, None, Some, IfOk, OnOk, Result, Ok, Err, Contains, refl, sym, ap, subst, ◌∙◌, arith}
use Rattle.std.specs.Prelude.{IfErr, nat_le}
use Rattle.std.proofs.lemmas.Bool.{eqb-false, eq-eqb, ne_eqb, le-leb, true≢false}
use Rattle.std.proofs.lemmas.List.Elements.{Contains-append_left}
use Rattle.sn_limits.specs.declared.kind.Kind.{Kind}
use Rattle.sn_limits.specs.declared.kind.Kind.TheVariants.{File}
use Rattle.sn_layout.specs.declared.tree.BlockTree.{BlockTree}
use Rattle.sn_layout_acl.specs.AclBlock.{IsAclBlock, acl_block_bytes}
use Rattle.sn_layout_acl.specs.declared.acl_block.AclBlock.{AclBlock}
use Rattle.sn_layout_node.specs.declared.inode.Inode.{Inode}
use Rattle.sn_ondisk.specs.Trees.{Store}
use Rattle.sn_image.specs.Acls.{acls_in, acls_at, no_acls}
use Rattle.sn_image.specs.Contents.{content_reach}
use Rattle.sn_image.specs.Inodes.{inode_at}
use Rattle.sn_image.specs.Reach.{block_reach, inode_reach, reach_at}
use Rattle.sn_image.specs.Sound.{HasInodes}
use Rattle.sn_image.proofs.DecodeLemmas.{acls_read}
use Rattle.sn_tree_read.specs.Paths.{lies_on}
use Rattle.sn_tree_read.specs.declared.fault.TreeFault.{TreeFault}
use Rattle.sn_tree_read.specs.declared.fault.TreeFault.TheVariants.{Damaged}
use Rattle.sn_inode.specs.Reads.{HoldsAcls, CanReadAcls}

-- ---- a block

module _ (kind : Kind) (block : List ℕ) (acls : AclBlock) (fits : IsAclBlock acls) (bytes : block ≡ acl_block_bytes acls) where
  pub spelled_acls : acls ≡ acls_in block
  spelled_acls = sym (ap acls_in bytes ∙ acls_read acls fits)

  pub held : (kind ≡ File → acls.default ≡ None) → HoldsAcls kind block
  held allowed = record { spelled = (acls, fits, bytes); of_file = λ file. ap (λ (a : AclBlock). a.default) (sym spelled_acls) ∙ allowed file }

  pub not_held : ((kind ≡ File → acls.default ≡ None) → ⊥) → HoldsAcls kind block → ⊥
  not_held refused holds = refused (λ file. ap (λ (a : AclBlock). a.default) spelled_acls ∙ holds.of_file file)

-- ---- at a pointer

module _ (s : Store) (pointer : ℕ) where
  pub none_at : pointer ≡ 0 → no_acls ≡ acls_at s pointer
  unfolding acls_at
  none_at none = sym (ap (λ (b : Bool). if b then no_acls else acls_in (s pointer)) (eq-eqb pointer 0 none))

  pub some_at : pointer ≢ 0 → acls_in (s pointer) ≡ acls_at s pointer
  unfolding acls_at
  some_at some = sym (ap (λ (b : Bool). if b then no_acls else acls_in (s pointer)) (ne_eqb pointer 0 some))

module _ (s : Store) (sectors : ℕ) (inode : Inode) where
  pub none_read : inode.acl_block ≡ 0 → CanReadAcls sectors s inode
  none_read none = record {
    lies = ap (λ (b : Bool). b || nat_le (8 * inode.acl_block + 8) sectors) (eq-eqb inode.acl_block 0 none);
    has = record { spelled = λ some. absurd (some none); of_file = λ file. ap (λ (a : AclBlock). a.default) (sym (none_at s inode.acl_block none)) };
  }

  pub off_not_read : lies_on sectors inode.acl_block ≡ false → CanReadAcls sectors s inode → ⊥
  off_not_read off can = true≢false (sym can.lies ∙ off)

  -- what the block is decoded to
  module _ (block : List ℕ) (same : block ≡ s inode.acl_block) (some : inode.acl_block ≢ 0) where
    pub decoded_acls : (result : Result AclBlock TreeFault) → IfOk result (λ (acls : AclBlock). acls ≡ acls_in block)
        → IfOk result (λ (acls : AclBlock). acls ≡ acls_at s inode.acl_block)
    decoded_acls (Ok acls) decoded = decoded ∙ ap acls_in same ∙ some_at s inode.acl_block some
    decoded_acls (Err fault) decoded = tt

    pub decoded_read : (result : Result AclBlock TreeFault) → lies_on sectors inode.acl_block ≡ true
        → OnOk result (HoldsAcls inode.kind block) → OnOk result (CanReadAcls sectors s inode)
    decoded_read (Ok acls) lies holds =
        let there : HoldsAcls inode.kind (s inode.acl_block) = subst (λ (b : List ℕ). HoldsAcls inode.kind b) same holds in
        record {
          lies = lies;
          has = record { spelled = λ _. there.spelled; of_file = λ file. ap (λ (a : AclBlock). a.default) (sym (some_at s inode.acl_block some)) ∙ there.of_file file };
        }
    decoded_read (Err fault) lies holds = tt

    pub decoded_damaged : (in_block : Option ℕ) (result : Result AclBlock TreeFault)
        → IfErr result (λ (fault : TreeFault). (fault ≡ Damaged in_block) × (HoldsAcls inode.kind block → ⊥))
        → (at_block : Option ℕ) → result ≡ Err (Damaged at_block) → (CanReadAcls sectors s inode → ⊥) × (at_block ≡ in_block)
    decoded_damaged in_block (Ok acls) none at_block damaged = absurd cc
    decoded_damaged in_block (Err fault) none at_block damaged = (
      λ can.
          let there : HoldsAcls inode.kind (s inode.acl_block) =
          record { spelled = can.has.spelled some; of_file = λ file. ap (λ (a : AclBlock). a.default) (some_at s inode.acl_block some) ∙ can.has.of_file file } in
          none.1 (subst (λ (b : List ℕ). HoldsAcls inode.kind b) (sym same) there),
      cc (damaged, none.0),
    )

-- ---- of a sound image

-- an inode reaches its ACL block
reached_acls : (s : Store) (inode : Inode) → inode.acl_block ≢ 0 → Contains (inode_reach s (Some inode)) inode.acl_block
reached_acls s inode some =
    Contains-append_left (block_reach inode.acl_block) (content_reach s inode.content) inode.acl_block
    (subst (λ (b : Bool). Contains (if b then [] else inode.acl_block ∷ []) inode.acl_block) (sym (ne_eqb inode.acl_block 0 some)) (0, omega arith, refl))

pub sound_acls : (sectors : ℕ) (s : Store) (inodes : BlockTree) (number : ℕ) (inode : Inode) → HasInodes s inodes
    → ((block : ℕ) → Contains (reach_at s inodes number) block → 8 * block + 8 ≤ sectors)
    → inode_at s inodes number ≡ Some inode → CanReadAcls sectors s inode
unfolding reach_at
sound_acls sectors s inodes number inode sound all is = record { lies = told (inode.acl_block == 0) refl; has = sound.acls number inode is }
  where
    told : (b : Bool) → (inode.acl_block == 0) ≡ b → (b || nat_le (8 * inode.acl_block + 8) sectors) ≡ true
    told true e = refl
    told false e =
        le-leb (8 * inode.acl_block + 8) sectors
        (all inode.acl_block (subst (λ (o : Option Inode). Contains (inode_reach s o) inode.acl_block) (sym is) (reached_acls s inode (eqb-false inode.acl_block 0 e))))
