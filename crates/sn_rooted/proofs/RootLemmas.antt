-- What a sound root on a device gives one who reads it.
use Rattle.std.proofs.Common.{◌≡◌, ℕ, ◌+◌, ◌*◌, ◌/◌, ◌<◌, ◌≤◌, ◌==◌, Bool, IsTrue, false, List, [], length, take, drop, Option, Some, None, IfOk, IfSome, Result, Ok, Err, refl, sym, ap, subst, ◌∙◌, arith, Contains}
use Rattle.std.specs.Prelude.{IsErrAnd, nat_le, nat_lt}
use Rattle.std.specs.Option.{option_map, option_and_then}
use Rattle.std.specs.FinMap as fin
use Rattle.std.proofs.Math.Seq.{drop-nil, take-nil}
use Rattle.std.proofs.lemmas.Bool.{and_parts, leb-true, true≢false}
use Rattle.std.proofs.lemmas.List.Elements.{Contains-append_right}
use Rattle.std.proofs.lemmas.Result.{err_from_is_err_and}
use Rattle.sn_acl.specs.declared.entries.Entry.{Entry}
use Rattle.sn_device.specs.Disk.{Disk, reads}
use Rattle.sn_device.specs.Sectors.{Contents, AreSectors}
use Rattle.sn_device.specs.declared.status.Status.{Status}
use Rattle.sn_layout.specs.declared.tree.BlockTree.{BlockTree}
use Rattle.sn_layout_acl.specs.declared.acl_block.AclBlock.{AclBlock}
use Rattle.sn_layout_node.specs.Directory.{Link as Name}
use Rattle.sn_layout_node.specs.Inode.{IsContent, IsInode, size_of}
use Rattle.sn_layout_node.specs.declared.content.Content.{Content}
use Rattle.sn_layout_node.specs.declared.content.Content.TheVariants.{Inline, Tree as InTree}
use Rattle.sn_layout_node.specs.declared.inode.Inode.{Inode}
use Rattle.sn_limits.specs.declared.kind.Kind.{Kind}
use Rattle.sn_limits.specs.declared.kind.Kind.TheVariants.{File, Directory}
use Rattle.sn_limits.specs.declared.limits.Limits.{Limits}
use Rattle.sn_model.specs.FileCalls.{bytes_of as node_bytes}
use Rattle.sn_model.specs.Settling.{is_nameless}
use Rattle.sn_model.specs.Tree.{Node, link_count, names_for, viewed, size_of as node_size}
use Rattle.sn_ondisk.specs.Trees.{Store, store_of}
use Rattle.sn_image.specs.Acls.{acls_at}
use Rattle.sn_image.specs.Contents.{bytes_of, content_reach}
use Rattle.sn_image.specs.Image.{image, file_bytes, node_of, node_at}
use Rattle.sn_image.specs.Inodes.{inode_at}
use Rattle.sn_image.specs.Names.{names_at, names_by, names_under}
use Rattle.sn_image.specs.Reach.{block_reach, inode_reach, reach_at, reach}
use Rattle.sn_image.specs.Sound.{HasContent}
use Rattle.sn_image.proofs.ByteLemmas.{data_whole, tree_long}
use Rattle.sn_image.proofs.PointLemmas.{node_found}
use Rattle.sn_image.proofs.ReachLemmas.{reach_parts}
use Rattle.sn_limits.proofs.VersionLemmas.{fixed}
use Rattle.sn_image.proofs.WellFormedLemmas.{links_counted}
use Rattle.sn_dir.specs.Blocks.{CanRead, IsDamaged}
use Rattle.sn_dir.specs.Laws.{SoundDirectoriesAreRead}
use Rattle.sn_inode.specs.Laws.{SoundAclsAreRead, SoundInodesAreRead}
use Rattle.sn_inode.specs.Reads.{CanReadAcls, CanReadRecord}
use Rattle.sn_tree_read.specs.Laws.{ReachedBlocksLie}
use Rattle.sn_tree_read.specs.Reads.{IsOutside}
use Rattle.sn_tree_read.specs.declared.fault.TreeFault.{TreeFault}
use Rattle.sn_tree_read.specs.declared.fault.TreeFault.TheVariants.{Damaged}
use Rattle.sn_rooted.specs.Nodes.{attributes_in, bytes_if, file_content, is_unlinked, names_if, names_tree, shown_size}
use Rattle.sn_rooted.specs.Roots.{IsSoundRoot, IsWhole}

-- ---- answers

-- the fault with which a call failed, where that is what is answered
pub was_damaged : {T : Type 0} {block : Option ℕ} (result : Result T TreeFault) (fault : TreeFault) → IsErrAnd result (λ answered. answered ≡ fault) → result ≡ Err (Damaged block) → fault ≡ Damaged block
was_damaged result fault answered is = let e = err_from_is_err_and result answered in cc (e.1, e.2, is)

-- what two clauses say of an answer together
pub ok_both : {T E : Type 0} {P Q R : T → Type 0} (result : Result T E) → IfOk result P → IfOk result Q → ((x : T) → P x → Q x → R x) → IfOk result R
ok_both (Ok x) p q give = give x p q
ok_both (Err e) p q give = tt

-- what held at the start holds after a look-up
pub at_now : (tells : Bool) (old new : Status) (before now : Disk) → new ≡ old → (IsTrue tells → now ≡ before) → (P : ℕ → Store → Type 0) → IsTrue tells → P old.sectors (store_of (reads before)) → P new.sectors (store_of (reads now))
at_now tells old new before now status same P told h =
    subst (λ (s : Status). P s.sectors (store_of (reads now))) (sym status)
    (subst (λ (d : Disk). P old.sectors (store_of (reads d))) (sym (same told)) h)

-- and what holds after it held at the start
pub at_start : (tells : Bool) (old new : Status) (before now : Disk) → new ≡ old → (IsTrue tells → now ≡ before) → (P : ℕ → Store → Type 0) → IsTrue tells → P new.sectors (store_of (reads now)) → P old.sectors (store_of (reads before))
at_start tells old new before now status same P told h = at_now tells new old now before (sym status) (λ t. sym (same t)) P told h

-- ---- what inodes say

pub node_is : (s : Store) (file : BlockTree) (number : ℕ) (inode : Inode) → inode_at s file number ≡ Some inode → fin.get (image s file).nodes number ≡ Some (node_of s inode)
unfolding node_at
node_is s file number inode used = node_found s file number ∙ ap (option_map (node_of s)) used

pub no_node : (s : Store) (file : BlockTree) (number : ℕ) → inode_at s file number ≡ None → fin.get (image s file).nodes number ≡ None
unfolding node_at
no_node s file number none = node_found s file number ∙ ap (option_map (node_of s)) none

pub nothing_shown : (s : Store) (file : BlockTree) (number : ℕ) → inode_at s file number ≡ None → None ≡ (viewed (image s file)).node number
nothing_shown s file number none = sym (ap (option_map _) (no_node s file number none))

-- an inode without an ACL block has no entries but those of its mode bits
pub no_access : (s : Store) (block : ℕ) → block ≡ 0 → [] ≡ (acls_at s block).access
unfolding acls_at
no_access s block none = sym (ap (λ (n : ℕ). (acls_at s n).access) none)

pub none_nameless : (s : Store) (file : BlockTree) (number : ℕ) → inode_at s file number ≡ None → false ≡ is_nameless (image s file) number (fin.get (image s file).nodes number)
none_nameless s file number none = sym (ap (is_nameless (image s file) number) (no_node s file number none))

pub no_default : (s : Store) (file : BlockTree) (number : ℕ) → inode_at s file number ≡ None → None ≡ (viewed (image s file)).default_acl number
no_default s file number none = sym (ap (λ o. option_and_then (λ (node : Node). node.default_acl) o) (no_node s file number none))

pub default_is : (s : Store) (file : BlockTree) (number : ℕ) (inode : Inode) (acls : AclBlock) → inode_at s file number ≡ Some inode → acls ≡ acls_at s inode.acl_block → acls.default ≡ (viewed (image s file)).default_acl number
unfolding node_of
default_is s file number inode acls used read =
    ap (λ (a : AclBlock). a.default) read ∙ sym (ap (option_and_then (λ (node : Node). node.default_acl)) (node_is s file number inode used))

-- the bytes of a node are those of its content, where that is a file's
pub bytes_shown : (s : Store) (file : BlockTree) (number : ℕ) (inode : Inode) → inode_at s file number ≡ Some inode → node_bytes (fin.get (image s file).nodes number) ≡ bytes_if s (file_content inode.kind inode.content)
unfolding node_of
bytes_shown s file number inode used = ap node_bytes (node_is s file number inode used) ∙ told inode.kind
  where
    told : (kind : Kind) → file_bytes s kind inode.content ≡ bytes_if s (file_content kind inode.content)
    told File = refl
    told Directory = refl

pub no_bytes : (s : Store) (file : BlockTree) (number : ℕ) → inode_at s file number ≡ None → node_bytes (fin.get (image s file).nodes number) ≡ []
no_bytes s file number none = ap node_bytes (no_node s file number none)

-- the names of a number are those in its tree, where it is a directory's
pub directory_names : (s : Store) (file : BlockTree) (number : ℕ) (inode : Inode) → inode_at s file number ≡ Some inode → names_at s file number ≡ names_if s (names_tree inode.kind inode.content)
unfolding names_at
directory_names s file number inode used = ap (names_under s) used ∙ told inode.kind inode.content
  where
    told : (kind : Kind) (content : Content) → names_by s kind content ≡ names_if s (names_tree kind content)
    told File content = refl
    told Directory (Inline bytes) = refl
    told Directory (InTree tree) = refl

pub no_names : (s : Store) (file : BlockTree) (number : ℕ) → inode_at s file number ≡ None → names_at s file number ≡ []
unfolding names_at
no_names s file number none = ap (names_under s) none

-- of no bytes none can be taken
pub none_taken : (most offset : ℕ) (bytes : List ℕ) → bytes ≡ [] → take most (drop offset bytes) ≡ []
none_taken most offset bytes none = ap (λ (b : List ℕ). take most (drop offset b)) none ∙ ap (take most) (drop-nil offset) ∙ take-nil most

-- blocks that can be read are never damaged
pub never_damaged : (IsOpen : List Name → Type 0) (sectors : ℕ) (s : Store) (tree : BlockTree) → ((i : ℕ) → i < tree.size / 4096 → CanRead sectors s tree i) → IsDamaged IsOpen sectors s tree → ⊥
never_damaged IsOpen sectors s tree read bad = bad.3 (read bad.0 bad.1)

-- ---- a sound root

module _ (limits : Limits) (sectors : ℕ) (c : Contents) (file : BlockTree) (are : AreSectors c) (count : length c ≡ sectors) (root : IsSoundRoot limits sectors (store_of c) file) where
  abbrev s : Store
  s = store_of c

  reached_lies : (block : ℕ) → Contains (reach s file) block → 8 * block + 8 ≤ sectors
  reached_lies block among = let within = root.sound.placed.within block among in omega (arith, within.below, root.fits)

  reached_whole : (block : ℕ) → Contains (reach s file) block → length (s block) ≡ 4096
  reached_whole block among = (data_whole c root.blocks block are (omega (arith, root.fits, count)) (root.sound.placed.within block among)).size

  pub records_read : SoundInodesAreRead → (number : ℕ) → CanReadRecord limits sectors s file number
  records_read law = law limits sectors s file root.sound.records (λ block among. reached_lies block ((reach_parts s file block).0 among))

  pub acls_read : SoundAclsAreRead → (number : ℕ) (inode : Inode) → inode_at s file number ≡ Some inode → CanReadAcls sectors s inode
  acls_read law number inode used = law sectors s file number inode root.sound.used (λ block among. reached_lies block ((reach_parts s file block).1 number among)) used

  module _ (number : ℕ) (inode : Inode) (used : inode_at s file number ≡ Some inode) where
    content_reached : (block : ℕ) → Contains (content_reach s inode.content) block → Contains (reach s file) block
    unfolding reach_at
    content_reached block among =
        (reach_parts s file block).1 number (subst (λ (o : Option Inode). Contains (inode_reach s o) block) (sym used) (Contains-append_right (block_reach inode.acl_block) (content_reach s inode.content) block among))

    pub content_lies : (block : ℕ) → Contains (content_reach s inode.content) block → 8 * block + 8 ≤ sectors
    content_lies block among = reached_lies block (content_reached block among)

    pub content_whole : (block : ℕ) → Contains (content_reach s inode.content) block → length (s block) ≡ 4096
    content_whole block among = reached_whole block (content_reached block among)

    -- a file has as many bytes as its inode says
    pub file_long : IsInode limits inode → inode.kind ≡ File → length (bytes_of s inode.content) ≡ size_of inode.content
    file_long valid kind = told inode.content (subst (λ (k : Kind). IsContent limits k inode.content) kind valid.content) content_whole
      where
        told : (content : Content) → IsContent limits File content → ((block : ℕ) → Contains (content_reach s content) block → length (s block) ≡ 4096) → length (bytes_of s content) ≡ size_of content
        told (Inline bytes) is whole = refl
        told (InTree tree) is whole =
            let largest = (fixed limits.version limits root.version).files in
            let within : tree.size ≤ limits.largest_file = leb-true tree.size limits.largest_file (and_parts (nat_lt 64 tree.size) (nat_le tree.size limits.largest_file) is.1).1 in
            tree_long s tree is.0.pointers.count (omega (arith, largest, within)) whole

    shown_long : IsInode limits inode → shown_size inode.kind (size_of inode.content) ≡ node_size inode.kind (file_bytes s inode.kind inode.content)
    shown_long valid = told inode.kind refl
      where
        told : (kind : Kind) → inode.kind ≡ kind → shown_size kind (size_of inode.content) ≡ node_size kind (file_bytes s kind inode.content)
        told File is = sym (file_long valid is)
        told Directory is = refl

    pub attributes_are : (access : List Entry) → IsInode limits inode → access ≡ (acls_at s inode.acl_block).access → Some (attributes_in inode access) ≡ (viewed (image s file)).node number
    unfolding node_of
    attributes_are access valid read =
        (λ i. Some (record (attributes_in inode (read i)) {
          links = links_counted limits root.blocks s file root.sound number inode used i;
          size = shown_long valid i;
        }))
        ∙ sym (ap (option_map _) (node_is s file number inode used))

    -- a file that no link is counted to is one without a name
    pub nameless_is : is_unlinked inode.kind inode.links ≡ is_nameless (image s file) number (fin.get (image s file).nodes number)
    unfolding node_of
    nameless_is = told inode.kind refl ∙ sym (ap (is_nameless (image s file) number) (node_is s file number inode used))
      where
        told : (kind : Kind) → inode.kind ≡ kind → is_unlinked inode.kind inode.links ≡ is_nameless (image s file) number (Some (node_of s inode))
        told File is =
            rw is (ap (λ (n : ℕ). n == 0) (links_counted limits root.blocks s file root.sound number inode used ∙ ap (λ (k : Kind). link_count k (names_for (image s file) number)) is))
        told Directory is = rw is refl

    -- each block of a directory can be read
    pub names_read : SoundDirectoriesAreRead → IfSome (names_tree inode.kind inode.content) (λ (tree : BlockTree). (i : ℕ) → i < tree.size / 4096 → CanRead sectors s tree i)
    names_read law = told inode.kind inode.content (root.sound.used.contents number inode used) content_lies
      where
        told : (kind : Kind) (content : Content) → HasContent s kind content → ((block : ℕ) → Contains (content_reach s content) block → 8 * block + 8 ≤ sectors)
            → IfSome (names_tree kind content) (λ (tree : BlockTree). (i : ℕ) → i < tree.size / 4096 → CanRead sectors s tree i)
        told File content has lies = tt
        told Directory (Inline bytes) has lies = tt
        told Directory (InTree tree) has lies = law sectors s tree has.1 lies

    -- and so can the bytes of a file
    pub bytes_read : ReachedBlocksLie → IsInode limits inode → IfSome (file_content inode.kind inode.content) (λ (content : Content). IsWhole sectors s content)
    bytes_read law valid = told inode.kind refl
      where
        inside : (content : Content) → ((block : ℕ) → Contains (content_reach s content) block → 8 * block + 8 ≤ sectors) → (offset n : ℕ) → IsOutside sectors s content offset n → ⊥
        inside (Inline bytes) lies offset n out = out
        inside (InTree tree) lies offset n out = true≢false (sym (law sectors s tree lies ((offset + out.0) / 4096)) ∙ out.3)

        told : (kind : Kind) → inode.kind ≡ kind → IfSome (file_content kind inode.content) (λ (content : Content). IsWhole sectors s content)
        told File is = record { inside = inside inode.content content_lies; blocks = content_whole; size = file_long valid is }
        told Directory is = tt
