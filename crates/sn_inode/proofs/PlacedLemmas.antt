-- The ACL block of a changed inode.
use Rattle.std.proofs.Common.{◌≡◌, ◌≢◌, ◌⊎◌, inl, inr, ⊎_elim, ℕ, ◌+◌, Bool, true, false, if◌then◌else◌, [], ◌∷◌, Option, None, Some, Result, Ok, Err, IfOk, refl, sym, ap, ◌∙◌, arith}
use Rattle.std.proofs.lemmas.Bool.{ne_eqb}
use Rattle.std.proofs.lemmas.List.{append-nil}
use Rattle.sn_limits.specs.declared.kind.Kind.{Kind}
use Rattle.sn_layout_acl.specs.AclBlock.{IsAclBlock, acl_block_bytes}
use Rattle.sn_layout_acl.specs.declared.acl_block.AclBlock.{AclBlock}
use Rattle.sn_layout_node.specs.declared.inode.Inode.{Inode}
use Rattle.sn_ondisk.specs.Trees.{Store}
use Rattle.sn_image.specs.Acls.{no_acls, acls_in}
use Rattle.sn_image.specs.Reach.{block_reach}
use Rattle.sn_image.proofs.DecodeLemmas.{acls_read}
use Rattle.sn_tree.specs.Drafts.{Draft, numbers_of, grown, IsFresh}
use Rattle.sn_ondisk.specs.Counts.{times}
use Rattle.sn_tree.specs.Plans.{Holds}
use Rattle.sn_tree.specs.declared.fault.PlanFault.{PlanFault}
use Rattle.sn_tree.specs.declared.new_block.NewBlock.{NewBlock}
use Rattle.sn_tree.proofs.StepLemmas.{grown-grown, grown-none}
use Rattle.sn_inode.specs.Changes.{acl_pointer, is_same_kind, kept_pointer, AclsStandAt, HasAclsOf, IsChanged}
use Rattle.sn_inode.specs.Stored.{IsPlaced, inode_in}
use Rattle.sn_inode.specs.declared.changes.AclChange.{AclChange}
use Rattle.sn_inode.specs.declared.changes.AclChange.TheVariants.{Kept}
use Rattle.sn_inode.specs.declared.changes.RecordChange.TheVariants.{Used}
use Rattle.sn_inode.proofs.AclLemmas.{none_at, some_at}
use Rattle.sn_layout_node.specs.declared.inode.InodeRecord.TheVariants.{Used as UsedRecord}

-- the block is released, and there is none in place of it
pub placed_none : (Is : Store → Type 0) (p new : ℕ) (old mid : Draft) → new ≡ 0 → mid ≡ grown old [] (block_reach p) → ((s : Store) → Is s) → IsPlaced Is p new old mid
placed_none Is p new old mid none grew is = record {
  added = [];
  released = block_reach p;
  grew = grew;
  few = omega arith;
  is = λ s holds. is s;
  count = λ block.
      let gone : times block (block_reach new) ≡ 0 = ap (λ (n : ℕ). times block (block_reach n)) none in
      let nothing : times block (numbers_of []) ≡ 0 = refl in
      omega (arith, gone, nothing);
}

-- a pointer that is kept is that of the inode, or none
kept_or_none : (was : Option Inode) (kind : Kind) → (kept_pointer was kind ≡ acl_pointer was) ⊎ (kept_pointer was kind ≡ 0)
kept_or_none None kind = inl refl
kept_or_none (Some inode) kind = told (is_same_kind inode.kind kind)
  where
    told : (b : Bool) → ((if b then inode.acl_block else 0) ≡ inode.acl_block) ⊎ ((if b then inode.acl_block else 0) ≡ 0)
    told true = inl refl
    told false = inr refl

module _ (was : Option Inode) (kind : Kind) (kept pointer : ℕ) (is : kept ≡ kept_pointer was kind) (from : pointer ≡ acl_pointer was) where
  pub kept_stays : (draft : Draft) → kept ≡ pointer → IsPlaced (λ s. HasAclsOf s was kind Kept kept) (acl_pointer was) kept draft draft
  kept_stays draft same = record {
    added = [];
    released = [];
    grew = grown-none draft;
    few = omega arith;
    is = λ s holds. is;
    count = λ block. ap (λ (n : ℕ). times block (block_reach n) + times block []) (same ∙ from);
  }

  pub kept_leaves : (old mid : Draft) → kept ≢ pointer → mid ≡ grown old [] (block_reach pointer) → IsPlaced (λ s. HasAclsOf s was kind Kept kept) (acl_pointer was) kept old mid
  kept_leaves old mid other grew =
      placed_none (λ s. HasAclsOf s was kind Kept kept) (acl_pointer was) kept old mid none (grew ∙ ap (λ (n : ℕ). grown old [] (block_reach n)) from) (λ s. is)
    where
      none : kept ≡ 0
      none = ⊎_elim (λ (same : kept_pointer was kind ≡ acl_pointer was). absurd (other (is ∙ same ∙ sym from))) (λ nothing. is ∙ nothing) (kept_or_none was kind)

-- no ACLs at 0
pub none_there : (acls : AclBlock) → acls ≡ no_acls → (s : Store) → AclsStandAt s acls 0
none_there acls none s = (sym (none_at s 0 refl) ∙ sym none, λ some. absurd (some refl))

-- a new block in place of it
module _ (acls : AclBlock) (fits : IsAclBlock acls) (p : ℕ) (old mid new : Draft) (block : ℕ → NewBlock) (named : (n : ℕ) → (block n).number ≡ n) (bytes : (n : ℕ) → (block n).bytes.value ≡ acl_block_bytes acls) where
  there : (s : Store) (n : ℕ) → n ≢ 0 → Holds s (block n ∷ []) → AclsStandAt s acls n
  there s n some holds =
      let same : s n ≡ acl_block_bytes acls = ap s (sym (named n)) ∙ holds 0 (block n) (omega arith) ∙ bytes n in
      (sym (some_at s n some) ∙ ap acls_in same ∙ acls_read acls fits, λ _. (acls, fits, same))

  counted : (n b : ℕ) → n ≢ 0 → times b (block_reach n) + times b (block_reach p) ≡ times b (block_reach p) + times b (numbers_of (block n ∷ []))
  counted n b some =
      let one : block_reach n ≡ n ∷ [] = reach_some n some in
      let same : times b (block_reach n) ≡ times b (numbers_of (block n ∷ [])) = ap (times b) one ∙ ap (λ (m : ℕ). times b (m ∷ [])) (sym (named n)) in
      omega (arith, same)
    where
      reach_some : (n : ℕ) → n ≢ 0 → block_reach n ≡ n ∷ []
      reach_some n some = ap (λ (b : Bool). if b then [] else n ∷ []) (ne_eqb n 0 some)

  pub placed_put : (result : Result ℕ PlanFault) → mid ≡ grown old [] (block_reach p) → IfOk result (IsFresh mid) → IfOk result (λ n. new ≡ grown mid (block n ∷ []) [])
      → IfOk result (λ n. IsPlaced (λ s. AclsStandAt s acls n) p n old new)
  placed_put (Err fault) released fresh put = tt
  placed_put (Ok n) released fresh put = record {
    added = block n ∷ [];
    released = block_reach p;
    grew = put ∙ ap (λ (draft : Draft). grown draft (block n ∷ []) []) released ∙ grown-grown old [] (block n ∷ []) (block_reach p) [] ∙ ap (grown old (block n ∷ [])) (append-nil (block_reach p));
    few = omega arith;
    is = λ s holds. there s n fresh.some holds;
    count = λ b. counted n b fresh.some;
  }

-- the record of an inode
pub placed_used : (inode changed : Inode) (was : Option Inode) (acls : AclChange) (n : ℕ) (old new : Draft) → changed ≡ record inode { acl_block = n }
    → IsPlaced (λ s. HasAclsOf s was inode.kind acls n) (acl_pointer was) n old new
    → IsPlaced (λ s. IsChanged s was (Used inode acls) (inode_in (UsedRecord changed))) (acl_pointer was) (acl_pointer (inode_in (UsedRecord changed))) old new
placed_used inode changed was acls n old new same placed = record {
  added = placed.added;
  released = placed.released;
  grew = placed.grew;
  few = placed.few;
  is = λ s holds. (n, ap (λ (i : Inode). Some i) same, placed.is s holds);
  count = λ b. ap (λ (i : Inode). times b (block_reach i.acl_block) + times b placed.released) same ∙ placed.count b;
}
