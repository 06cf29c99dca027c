-- The nodes of a sound root are what nodes may be.
use Rattle.std.proofs.Common.{◌≡◌, ◌≢◌, ℕ, ◌*◌, ◌/◌, ◌%◌, ◌<◌, ◌≤◌, ◌==◌, ◌&&◌, Bool, true, false, if◌then◌else◌, List, [], ◌∷◌, flat_map, length, take, drop, Option, Some, None, IfSome, Contains, slice_index, zero, suc, refl, sym, ap, subst, ◌∙◌, arith}
use Rattle.std.specs.Prelude.{nat_le, nat_lt}
use Rattle.std.specs.List.{AllByRecursion}
use Rattle.std.proofs.lemmas.Bool.{eqb-false, leb-true, ltb-true}
use Rattle.std.proofs.lemmas.List.{length-take}
use Rattle.std.proofs.Math.Nat.{min-le_left}
use Rattle.sn_acl.specs.AccessList.{IsValid}
use Rattle.sn_acl.specs.declared.entries.Entry.{Entry}
use Rattle.std.proofs.lemmas.List.Elements.{Contains-append_right}
use Rattle.sn_limits.specs.declared.kind.Kind.{Kind}
use Rattle.sn_limits.specs.declared.kind.Kind.TheVariants.{File, Directory}
use Rattle.sn_limits.specs.declared.limits.Limits.{Limits}
use Rattle.sn_limits.specs.Versions.{limits_of}
use Rattle.sn_limits.proofs.VersionLemmas.{fixed}
use Rattle.sn_layout.specs.Bytes.{zeros}
use Rattle.sn_layout.specs.Geometry.{IsIn}
use Rattle.sn_layout.specs.Pointers.{levels_of}
use Rattle.sn_layout.specs.declared.geometry.Area.TheVariants.{Data}
use Rattle.sn_layout.specs.declared.tree.BlockTree.{BlockTree}
use Rattle.sn_layout_acl.specs.AclBlock.{IsNamedPart, IsDefault}
use Rattle.sn_layout_acl.specs.declared.acl_block.AclBlock.{AclBlock}
use Rattle.sn_layout_acl.proofs.Joining.{joined_valid}
use Rattle.sn_layout_node.specs.Inode.{IsInode, IsContent}
use Rattle.sn_layout_node.specs.declared.content.Content.{Content}
use Rattle.sn_layout_node.specs.declared.content.Content.TheVariants.{Inline, Tree}
use Rattle.sn_layout_node.specs.declared.inode.Inode.{Inode}
use Rattle.sn_layout_node.specs.declared.inode.InodeRecord.TheVariants.{Unused, Used}
use Rattle.sn_model.specs.NameTree.{IsNode}
use Rattle.sn_ondisk.specs.Trees.{Store, named_by, pointers_at, data_block, tree_bytes, tree_reach}
use Rattle.sn_ondisk.proofs.TreeLemmas.{reach_has, entry-level}
use Rattle.sn_image.specs.Acls.{acls_in, acls_at, no_acls}
use Rattle.sn_image.specs.Contents.{bytes_of, content_reach}
use Rattle.sn_image.specs.Image.{file_bytes, node_of}
use Rattle.sn_image.specs.Inodes.{kind_of, tree_in, content_in, size_in, inode_in, inode_of, record_at, inode_at}
use Rattle.sn_image.specs.Reach.{block_reach, inode_reach, reach_at, reach}
use Rattle.sn_image.specs.Sound.{IsBlock, IsSound, HasAcls, SpellsAcls, SpellsRecord}
use Rattle.sn_image.proofs.DecodeLemmas.{inode_read, unused_read, acls_read}
use Rattle.sn_image.proofs.PieceLemmas.{all_take, all_drop, all_flat_map, all_replicate}
use Rattle.sn_image.proofs.PointLemmas.{used_number, mapped_from}
use Rattle.sn_image.proofs.ReachLemmas.{reach_parts}

same_some : {A : Type 0} (x y : A) → Some x ≡ Some y → x ≡ y
same_some x y e = cc

both : (a b : Bool) → (a && b) ≡ true → (a ≡ true) × (b ≡ true)
both true b e = (refl, e)
both false b e = absurd cc

-- ---- bytes

abbrev AreBytes : List ℕ → Type 0
AreBytes bytes = AllByRecursion (λ b. b < 256) bytes

module _ (s : Store) where
  named_bytes : (pointer : ℕ) → (pointer ≢ 0 → AreBytes (s pointer)) → AreBytes (named_by s pointer)
  unfolding named_by zeros
  named_bytes pointer there = told (pointer == 0) refl
    where
      told : (b : Bool) → (pointer == 0) ≡ b → AreBytes (if b then zeros 4096 else s pointer)
      told true e = all_replicate (λ b. b < 256) 4096 0 (omega arith)
      told false e = there (λ none. eqb-false pointer 0 e none)

  module _ (tree : BlockTree) (there : (block : ℕ) → Contains (tree_reach s tree) block → AreBytes (s block)) where
    named_of : (pointer : ℕ) → Contains (pointers_at s (levels_of tree.size) tree.pointers) pointer → AreBytes (named_by s pointer)
    named_of pointer among = named_bytes pointer (λ some. there pointer (reach_has s tree (levels_of tree.size) pointer (omega arith) some among))

    pub of_tree : AreBytes (tree_bytes s tree)
    unfolding tree_bytes
    of_tree = all_take (λ b. b < 256) tree.size (flat_map (named_by s) (pointers_at s (levels_of tree.size) tree.pointers)) (all_flat_map (λ b. b < 256) (named_by s) (pointers_at s (levels_of tree.size) tree.pointers) named_of)

    pub of_block : (i : ℕ) → AreBytes (data_block s tree i)
    unfolding data_block
    of_block i = subst (λ (p : ℕ). AreBytes (named_by s p)) (sym (entry-level s (levels_of tree.size) tree.pointers i)) (at_level (pointers_at s (levels_of tree.size) tree.pointers) named_of i)
      where
        at_level : (ps : List ℕ) → ((p : ℕ) → Contains ps p → AreBytes (named_by s p)) → (i : ℕ) → AreBytes (named_by s (slice_index ps i))
        at_level [] each i = named_bytes 0 (λ some. absurd (some refl))
        at_level (p ∷ ps) each zero = each p (0, omega arith, refl)
        at_level (p ∷ ps) each (suc i) = at_level ps (λ q more. each q (suc more.0, omega (arith, more.1), more.2)) i

-- ---- ACLs

no_names : IsNamedPart []
no_names = record {
  objects = record { user_obj = refl; group_obj = refl; other = refl };
  mask = record { most = omega arith; beside_named = λ some. absurd (omega (arith, some)); named = omega arith };
  canonical = refl;
  numbers = refl;
}

abbrev AreFit : AclBlock → Type 0
AreFit acls = IsNamedPart acls.access × IsDefault acls.default

pub acls_fit : (s : Store) (inode : Inode) → HasAcls s inode → AreFit (acls_at s inode.acl_block)
unfolding acls_at
acls_fit s inode has = told (inode.acl_block == 0) refl
  where
    of_spelled : SpellsAcls (s inode.acl_block) → AreFit (acls_in (s inode.acl_block))
    of_spelled (acls, fits, bytes) = subst AreFit (sym (ap acls_in bytes ∙ acls_read acls fits)) (fits.access, fits.default)

    told : (b : Bool) → (inode.acl_block == 0) ≡ b → AreFit (if b then no_acls else acls_in (s inode.acl_block))
    told true e = (no_names, tt)
    told false e = of_spelled (has.spelled (λ none. eqb-false inode.acl_block 0 e none))

valid_default : (default : Option (List Entry)) → IsDefault default → IfSome default IsValid
valid_default None valid = tt
valid_default (Some entries) valid = valid

-- ---- records

module _ (s : Store) (inodes : BlockTree) (number : ℕ) (inode : Inode) (used : inode_at s inodes number ≡ Some inode) where
  pub number_fits : (2 ≤ number) × (number < inodes.size / 128)
  number_fits =
      let parts = both (nat_le 2 number) (nat_lt number (inodes.size / 128)) (used_number s inodes number inode used) in
      (leb-true 2 number parts.0, ltb-true number (inodes.size / 128) parts.1)

  of_record : inode_of (record_at s inodes number) ≡ Some inode
  unfolding inode_at
  of_record = sym (ap (λ (b : Bool). if b then inode_of (record_at s inodes number) else None) (used_number s inodes number inode used)) ∙ used

-- what is read of a record that is spelled is an inode that can be there
pub valid_inode : (limits : Limits) (s : Store) (inodes : BlockTree) → ((number : ℕ) → number < inodes.size / 128 → SpellsRecord limits (record_at s inodes number))
    → (number : ℕ) (inode : Inode) → inode_at s inodes number ≡ Some inode → IsInode limits inode
valid_inode limits s inodes spelled number inode used = told (spelled number (number_fits s inodes number inode used).1)
  where
    told : SpellsRecord limits (record_at s inodes number) → IsInode limits inode
    told (Unused, fits, bytes) = let never : None ≡ Some inode = sym unused_read ∙ sym (ap inode_of bytes) ∙ of_record s inodes number inode used in absurd cc
    told (Used x, fits, bytes) = subst (IsInode limits) (same_some x inode (sym (inode_read limits x fits) ∙ sym (ap inode_of bytes) ∙ of_record s inodes number inode used)) fits

-- ---- nodes

module _ (limits : Limits) (n : ℕ) (s : Store) (inodes : BlockTree) (version : limits_of limits.version ≡ Some limits) (whole : (block : ℕ) → IsIn n Data block → IsBlock (s block)) (sound : IsSound limits n s inodes) where
  reached_bytes : (block : ℕ) → Contains (reach s inodes) block → AreBytes (s block)
  reached_bytes block among = (whole block (sound.placed.within block among)).each

  file_blocks : (block : ℕ) → Contains (tree_reach s inodes) block → AreBytes (s block)
  file_blocks block among = reached_bytes block ((reach_parts s inodes block).0 among)

  record_bytes_fit : (number : ℕ) → AreBytes (record_at s inodes number)
  unfolding record_at
  record_bytes_fit number = all_take (λ b. b < 256) 128 (drop (128 * (number % 32)) (data_block s inodes (number / 32))) (all_drop (λ b. b < 256) (128 * (number % 32)) (data_block s inodes (number / 32)) (of_block s inodes file_blocks (number / 32)))

  module _ (number : ℕ) (inode : Inode) (used : inode_at s inodes number ≡ Some inode) where
    abbrev fits_at : (2 ≤ number) × (number < inodes.size / 128)
    fits_at = number_fits s inodes number inode used

    is_valid : IsInode limits inode
    is_valid = valid_inode limits s inodes sound.records.spelled number inode used

    -- the inode's content is the one in its record
    content_read : content_in inode.kind (record_at s inodes number) ≡ inode.content
    unfolding inode_of inode_in
    content_read =
        let w = mapped_from (inode_in (record_at s inodes number)) (kind_of (slice_index (record_at s inodes number) 0)) inode (of_record s inodes number inode used) in
        let kind : w.0 ≡ inode.kind = ap (λ (i : Inode). i.kind) w.2 in
        ap (λ (k : Kind). content_in k (record_at s inodes number)) (sym kind) ∙ ap (λ (i : Inode). i.content) w.2

    inode_blocks : (block : ℕ) → Contains (content_reach s inode.content) block → AreBytes (s block)
    unfolding reach_at
    inode_blocks block among =
        reached_bytes block ((reach_parts s inodes block).1 number (subst (λ (o : Option Inode). Contains (inode_reach s o) block) (sym used) (Contains-append_right (block_reach inode.acl_block) (content_reach s inode.content) block among)))

    -- the bytes that the record may hold
    abbrev part : List ℕ
    part = take (size_in (record_at s inodes number)) (drop 64 (record_at s inodes number))

    part_fits : AreBytes part
    part_fits = all_take (λ b. b < 256) (size_in (record_at s inodes number)) (drop 64 (record_at s inodes number)) (all_drop (λ b. b < 256) 64 (record_at s inodes number) (record_bytes_fit number))

    content_fits : (content : Content) → content_in File (record_at s inodes number) ≡ content → ((block : ℕ) → Contains (content_reach s content) block → AreBytes (s block)) → AreBytes (bytes_of s content)
    content_fits (Tree tree) is there = of_tree s tree there
    content_fits (Inline bytes) is there = told (nat_le (size_in (record_at s inodes number)) 64) is
      where
        told : (b : Bool) → (if b then Inline part else Tree (tree_in (record_at s inodes number))) ≡ Inline bytes → AreBytes bytes
        told true e = let same : part ≡ bytes = cc in subst AreBytes same part_fits
        told false e = absurd cc

    bytes_fit : (kind : Kind) → kind ≡ inode.kind → AreBytes (file_bytes s kind inode.content)
    bytes_fit Directory same = tt
    bytes_fit File same = content_fits inode.content (ap (λ (k : Kind). content_in k (record_at s inodes number)) same ∙ content_read) inode_blocks

    size_fits : (kind : Kind) (content : Content) → IsContent limits kind content → length (file_bytes s kind content) ≤ limits.largest_file
    unfolding tree_bytes
    size_fits Directory content fits = omega arith
    size_fits File (Inline bytes) fits = let large = (fixed limits.version limits version).least in omega (arith, fits, large)
    size_fits File (Tree tree) fits =
        let all = flat_map (named_by s) (pointers_at s (levels_of tree.size) tree.pointers) in
        omega (arith, length-take tree.size all, min-le_left tree.size (length all), leb-true tree.size limits.largest_file (both (nat_lt 64 tree.size) (nat_le tree.size limits.largest_file) fits.1).1)

    no_bytes : (kind : Kind) → kind ≡ Directory → file_bytes s kind inode.content ≡ []
    no_bytes kind is = ap (λ (k : Kind). file_bytes s k inode.content) is

    pub node_fits : IsNode limits number (node_of s inode)
    unfolding node_of
    node_fits =
        let fits = is_valid in
        let acls = acls_fit s inode (sound.used.acls number inode used) in
        record {
          first = fits_at.0;
          within = omega (arith, fits_at.1, sound.file.most);
          owner = fits.owner;
          group = fits.group;
          acl = joined_valid inode.objects (acls_at s inode.acl_block).access fits.objects acls.0;
          default_acl = valid_default (acls_at s inode.acl_block).default acls.1;
          of_file = (sound.used.acls number inode used).of_file;
          of_directory = no_bytes inode.kind;
          bytes = bytes_fit inode.kind refl;
          size = size_fits inode.kind inode.content fits.content;
        }
