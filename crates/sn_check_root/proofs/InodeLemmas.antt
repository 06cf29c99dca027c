-- What there is of one number.
use Rattle.std.proofs.Common.{◌≡◌, inl, inr, ℕ, ◌+◌, ◌*◌, ◌/◌, ◌%◌, ◌≤◌, ◌==◌, Bool, true, false, List, [], Option, None, Some, refl, sym, ap, subst, ◌∙◌, arith}
use Rattle.std.specs.Prelude.{nat_le, ◌||◌, Result, Ok, Err, OnOk}
use Rattle.std.proofs.lemmas.Bool.{eqb-true, eqb-false, le-leb, and_parts, true≢false}
use Rattle.sn_limits.specs.declared.kind.Kind.{Kind}
use Rattle.sn_limits.specs.declared.kind.Kind.TheVariants.{File, Directory}
use Rattle.sn_limits.specs.declared.limits.Limits.{Limits}
use Rattle.sn_layout.specs.declared.tree.BlockTree.{BlockTree}
use Rattle.sn_layout_node.specs.Directory.{Link}
use Rattle.sn_layout_node.specs.Inode.{IsContent}
use Rattle.sn_layout_node.specs.declared.content.Content.{Content}
use Rattle.sn_layout_node.specs.declared.content.Content.TheVariants.{Inline, Tree}
use Rattle.sn_layout_node.specs.declared.inode.Inode.{Inode}
use Rattle.sn_ondisk.specs.Trees.{Store}
use Rattle.sn_image.specs.Inodes.{is_number, inode_at}
use Rattle.sn_image.specs.Names.{names_of, names_by, names_under, names_at}
use Rattle.sn_image.specs.Reach.{block_reach, inode_reach, reach_at}
use Rattle.sn_image.specs.Sound.{EndsAtSize, HasAcls, HasBlocks}
use Rattle.sn_image.proofs.PointLemmas.{number_in, in_numbers}
use Rattle.sn_inode.specs.Reads.{CanReadRecord, CanReadAcls}
use Rattle.sn_sound.specs.Faults.{record_block, IsContentFault, IsDirectoryFault, IsMisspelt, IsTreeFault}
use Rattle.sn_sound.specs.Faults as fault
use Rattle.sn_tree_read.specs.Paths.{lies_on}
use Rattle.sn_marks.specs.declared.fault.CheckFault.{CheckFault}
use Rattle.sn_marks.specs.Marks.{Marks}
use Rattle.sn_marks.proofs.MarkLemmas.{marked_within}
use Rattle.sn_check_root.specs.Reading.{TreeLies}
use Rattle.sn_check_root.specs.Rules.{AreNames, IsSoundContent, IsSoundInode, IsSoundNumber, IsInodeFault}

-- ---- contents

pub no_names : (limits : Limits) → AreNames limits []
no_names limits = record { once = λ name. omega arith; few = omega arith }

pub inline_sound : (limits : Limits) (s : Store) (kind : Kind) (bytes : List ℕ) → IsContent limits kind (Inline bytes) → IsSoundContent limits s kind (Inline bytes)
inline_sound limits s File bytes valid = record { has = tt; names = no_names limits }
inline_sound limits s Directory bytes valid = absurd valid

pub file_sound : (limits : Limits) (s : Store) (tree : BlockTree) → EndsAtSize s tree → IsSoundContent limits s File (Tree tree)
file_sound limits s tree ends = record { has = ends; names = no_names limits }

pub directory_sound : (limits : Limits) (s : Store) (tree : BlockTree) → EndsAtSize s tree → HasBlocks s tree → AreNames limits (names_of s (Tree tree)) → IsSoundContent limits s Directory (Tree tree)
directory_sound limits s tree ends blocks names = record { has = (ends, blocks); names = names }

-- a tree of this kind, which is a directory's
pub kind_sound : (limits : Limits) (s : Store) (kind : Kind) (tree : BlockTree) (result : Result (Unit {0}) CheckFault) → kind ≡ Directory
    → OnOk result (HasBlocks s tree) → OnOk result (AreNames limits (names_of s (Tree tree))) → OnOk result (EndsAtSize s tree → IsSoundContent limits s kind (Tree tree))
kind_sound limits s kind tree (Err fault) of blocks names = tt
kind_sound limits s kind tree (Ok done) of blocks names = λ ends. subst (λ (k : Kind). IsSoundContent limits s k (Tree tree)) (sym of) (directory_sound limits s tree ends blocks names)

pub kind_wrong : (limits : Limits) (s : Store) (kind : Kind) (tree : BlockTree) (top block : ℕ) → kind ≡ Directory
    → IsDirectoryFault limits s tree (names_of s (Tree tree)) top block → IsContentFault limits s kind (Tree tree) (names_by s kind (Tree tree)) top block
kind_wrong limits s kind tree top block of wrong = subst (λ (k : Kind). IsContentFault limits s k (Tree tree) (names_by s k (Tree tree)) top block) (sym of) (inr wrong)

pub tree_wrong : (limits : Limits) (s : Store) (kind : Kind) (tree : BlockTree) (names : List Link) (top block : ℕ) → IsTreeFault s tree top block → IsContentFault limits s kind (Tree tree) names top block
tree_wrong limits s File tree names top block wrong = wrong
tree_wrong limits s Directory tree names top block wrong = inl wrong

-- a directory has whole blocks
pub whole_blocks : (limits : Limits) (kind : Kind) (content : Content) (tree : BlockTree) → IsContent limits kind content → content ≡ Tree tree → kind ≡ Directory → tree.size % 4096 ≡ 0
whole_blocks limits kind content tree valid is of = sized (subst (λ (x : Kind). IsContent limits x (Tree tree)) of (subst (IsContent limits kind) is valid))
  where
    sized : IsContent limits Directory (Tree tree) → tree.size % 4096 ≡ 0
    sized (fits, size, ends) = eqb-true (tree.size % 4096) 0 (and_parts (tree.size % 4096 == 0) (nat_le tree.size limits.largest_file) size).0

-- ---- ACLs

pub acls_lie : (n k sectors pointer : ℕ) (a b : List ℕ) → 8 * n ≤ sectors → Marks n k (block_reach pointer) a b → lies_on sectors pointer ≡ true
acls_lie n k sectors pointer a b room marks = either (pointer == 0) refl
  where
    either : (z : Bool) → (pointer == 0) ≡ z → (z || nat_le (8 * pointer + 8) sectors) ≡ true
    either true e = refl
    either false e = le-leb (8 * pointer + 8) sectors (omega (arith, room, marked_within n k pointer a b (eqb-false pointer 0 e) marks))

pub acls_wrong : (sectors : ℕ) (s : Store) (inode : Inode) → lies_on sectors inode.acl_block ≡ true → (CanReadAcls sectors s inode → ⊥) → (inode.acl_block ≡ inode.acl_block) × (HasAcls s inode → ⊥)
acls_wrong sectors s inode lies wrong = (refl, λ has. wrong (record { lies = lies; has = has }))

-- ---- a number

module _ (limits : Limits) (s : Store) (inodes : BlockTree) (number : ℕ) where
  pub reach_of : (o : Option Inode) → inode_at s inodes number ≡ o → inode_reach s o ≡ reach_at s inodes number
  unfolding reach_at
  reach_of o is = ap (inode_reach s) (sym is)

  pub names_are : (inode : Inode) → inode_at s inodes number ≡ Some inode → names_by s inode.kind inode.content ≡ names_at s inodes number
  unfolding names_at
  names_are inode is = ap (names_under s) (sym is)

  pub number_used : (sectors : ℕ) (inode : Inode) → inode_at s inodes number ≡ Some inode → CanReadRecord limits sectors s inodes number → IsSoundInode limits s inode → IsSoundNumber limits s inodes number
  number_used sectors inode is read sound = record {
    spelled = read.spelled;
    used = λ other at. subst (IsSoundInode limits s) (one inode other (sym is ∙ at)) sound;
  }
    where
      one : (x y : Inode) → Some x ≡ Some y → x ≡ y
      one x y same = cc

  pub number_unused : (sectors : ℕ) → inode_at s inodes number ≡ None → CanReadRecord limits sectors s inodes number → IsSoundNumber limits s inodes number
  number_unused sectors none read = record {
    spelled = read.spelled;
    used = λ other at. absurd (never other (sym none ∙ at));
  }
    where
      never : (x : Inode) → None ≡ Some x → ⊥
      never x same = cc

  module _ (body : ℕ) where
    pub inode_wrong : (inode : Inode) (top block : ℕ) → inode_at s inodes number ≡ Some inode → top ≡ record_block s inodes body number → IsInodeFault limits s inode top block → IsMisspelt limits s inodes body block
    inode_wrong inode top block is at (inl (here, wrong)) = subst (IsMisspelt limits s inodes body) (sym here) (fault.acls number inode is wrong)
    inode_wrong inode top block is at (inr wrong) =
        fault.content number inode block is
        (subst (λ (names : List Link). IsContentFault limits s inode.kind inode.content names (record_block s inodes body number) block) (names_are inode is)
        (subst (λ (t : ℕ). IsContentFault limits s inode.kind inode.content (names_by s inode.kind inode.content) t block) at wrong))

    -- a record that isn't read where its block is on the device is misspelt
    pub record_wrong : (sectors top : ℕ) → TreeLies sectors s inodes → top ≡ record_block s inodes body number → (CanReadRecord limits sectors s inodes number → ⊥) → IsMisspelt limits s inodes body top
    record_wrong sectors top lies at wrong = told (is_number inodes number) refl
      where
        told : (b : Bool) → is_number inodes number ≡ b → IsMisspelt limits s inodes body top
        told true used = subst (IsMisspelt limits s inodes body) (sym at) (fault.misspelt_record number (in_numbers inodes number (number_in inodes number used)).1
            (λ spelled. wrong (record { lies = λ is. lies (number / 32); spelled = λ is. spelled })))
        told false unused = absurd (wrong (record { lies = λ is. lies (number / 32); spelled = λ is. absurd (true≢false (sym is ∙ unused)) }))
