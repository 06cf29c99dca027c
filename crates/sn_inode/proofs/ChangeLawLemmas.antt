-- What changes of inodes leave as it has to be.
use Rattle.std.proofs.Common.{◌≡◌, ℕ, ◌<◌, ◌≤◌, if◌then◌else◌, List, Option, None, Some, IfSome, Contains, refl, sym, ap, subst, ◌∙◌, arith}
use Rattle.std.specs.Prelude.{All}
use Rattle.std.proofs.lemmas.List.Elements.{All-contains}
use Rattle.sn_limits.specs.declared.kind.Kind.{Kind}
use Rattle.sn_limits.specs.declared.kind.Kind.TheVariants.{File, Directory}
use Rattle.sn_limits.specs.declared.limits.Limits.{Limits}
use Rattle.sn_layout.specs.Bytes.{zeros}
use Rattle.sn_layout.specs.declared.tree.BlockTree.{BlockTree}
use Rattle.sn_layout_acl.specs.declared.acl_block.AclBlock.{AclBlock}
use Rattle.sn_layout_node.specs.declared.inode.Inode.{Inode}
use Rattle.sn_ondisk.specs.TreeLaws.{SameIn}
use Rattle.sn_ondisk.specs.Trees.{Store, tree_reach}
use Rattle.sn_image.specs.Acls.{acls_at}
use Rattle.sn_image.specs.Inodes.{record_at}
use Rattle.sn_image.specs.Sound.{IsInodeFile, SpellsAcls, HasAcls}
use Rattle.sn_tree.specs.Plans.{Holds}
use Rattle.sn_tree.specs.declared.new_block.NewBlock.{NewBlock}
use Rattle.sn_inode.specs.Changes.{numbers_in, is_same_kind, kept_pointer, CanSet, IsNew, IsChange, HasAclsOf, IsChanged, ChangesInodes}
use Rattle.sn_inode.specs.declared.changes.AclChange.{AclChange}
use Rattle.sn_inode.specs.declared.changes.AclChange.TheVariants.{Kept, Set}
use Rattle.sn_inode.specs.declared.changes.RecordChange.{RecordChange}
use Rattle.sn_inode.specs.declared.changes.RecordChange.TheVariants.{Unused, Used}
use Rattle.sn_inode.specs.declared.changes.InodeChange.{InodeChange}
use Rattle.sn_inode.proofs.AclLemmas.{none_at}
use Rattle.sn_inode.proofs.WithLemmas.{numbers_least}

-- ---- the ACLs of a changed inode

module _ (r : Store) (inode : Inode) (pointer : ℕ) where
  abbrev IsFit : Type 0
  IsFit = HasAcls r (record inode { acl_block = pointer })

  none_fit : pointer ≡ 0 → IsFit
  none_fit none = record { spelled = λ some. absurd (some none); of_file = λ file. ap (λ (a : AclBlock). a.default) (sym (none_at r pointer none)) }

  kept_fit : (was : Option Inode) → pointer ≡ kept_pointer was inode.kind → IfSome was (HasAcls r) → IsFit
  kept_fit None is had = none_fit is
  kept_fit (Some inode_was) is had = told inode_was.kind inode.kind refl refl is
    where
      spelled : pointer ≡ inode_was.acl_block → (pointer ≡ 0 → ⊥) → SpellsAcls (r pointer)
      spelled same some = subst (λ (p : ℕ). SpellsAcls (r p)) (sym same) (had.spelled (λ none. some (same ∙ none)))

      told : (a b : Kind) → inode_was.kind ≡ a → inode.kind ≡ b → pointer ≡ (if is_same_kind a b then inode_was.acl_block else 0) → IsFit
      told File File one two same = record { spelled = spelled same; of_file = λ file. ap (λ (p : ℕ). (acls_at r p).default) same ∙ had.of_file one }
      told File Directory one two none = none_fit none
      told Directory File one two none = none_fit none
      told Directory Directory one two same = record { spelled = spelled same; of_file = λ file. let never : File ≡ Directory = sym file ∙ two in absurd cc }

  changed_fit : (was : Option Inode) (acls : AclChange) → CanSet inode.kind acls → HasAclsOf r was inode.kind acls pointer → IfSome was (HasAcls r) → IsFit
  changed_fit was Kept can stand had = kept_fit was stand had
  changed_fit was (Set acls) can stand had = record { spelled = stand.1; of_file = λ file. ap (λ (a : AclBlock). a.default) stand.0 ∙ can file }

acls_fit : (limits : Limits) (r : Store) (was new : Option Inode) (change : RecordChange) → IsNew limits change → IsChanged r was change new → IfSome was (HasAcls r) → IfSome new (HasAcls r)
acls_fit limits r was new Unused fits changed had = subst (λ (o : Option Inode). IfSome o (HasAcls r)) (sym changed) tt
acls_fit limits r was new (Used inode acls) fits (pointer, is, stand) had = subst (λ (o : Option Inode). IfSome o (HasAcls r)) (sym is) (changed_fit r inode pointer was acls fits.1 stand had)

pub changed_acls_fit : (limits : Limits) (r : Store) (was new : Option Inode) (change : InodeChange) → IsChange limits change → IsChanged r was change.record new → IfSome was (HasAcls r) → IfSome new (HasAcls r)
changed_acls_fit limits r was new change fits changed had = acls_fit limits r was new change.record fits.new changed had

-- ---- the records that no node can have

pub reserved_stay : (limits : Limits) (s r : Store) (old new : BlockTree) (changes : List InodeChange) (added : List NewBlock) (released : List ℕ)
    → IsInodeFile limits old → All (IsChange limits) changes → ChangesInodes limits s old new changes added released → SameIn (tree_reach s old) s r → Holds r added
    → ((number : ℕ) → number < 2 → record_at s old number ≡ zeros 128) → (number : ℕ) → number < 2 → record_at r new number ≡ zeros 128
reserved_stay limits s r old new changes added released file each made same holds before number low =
    made.stays r same holds number none (omega (arith, low, file.least)) ∙ before number low
  where
    none : ¬ Contains (numbers_in changes) number
    none among = let least : 2 ≤ number = All-contains (λ (n : ℕ). 2 ≤ n) (numbers_in changes) number (numbers_least limits changes each) among in omega (arith, least, low)
