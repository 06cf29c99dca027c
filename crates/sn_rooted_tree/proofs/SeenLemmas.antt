-- Nodes and blocks of a sound root, as overlays see them.
use Rattle.std.proofs.Common.{◌≡◌, ℕ, ◌+◌, ◌-◌, ◌*◌, ◌/◌, ◌^◌, ◌<◌, ◌≤◌, ◌⊎◌, inl, inr, List, [], ◌++◌, length, get_or, take, drop, replicate, min, Option, Some, None, refl, sym, ap, ◌∙◌, arith, length-append, length-drop}
use Rattle.std.specs.Option.{option_map}
use Rattle.std.specs.FinMap as fin
use Rattle.std.proofs.lemmas.Bool.{cases_lt}
use Rattle.std.proofs.lemmas.List.{length-take, take_all, length-replicate, get_or-replicate, get_or-take, get_or-drop, get_or_append_left, get_or-append_right, get_or_past, ext_get_or}
use Rattle.sn_device.specs.Sectors.{Contents, AreSectors}
use Rattle.sn_layout.specs.declared.tree.BlockTree.{BlockTree}
use Rattle.sn_layout_acl.specs.declared.acl_block.AclBlock.{AclBlock}
use Rattle.sn_layout_node.specs.Inode.{IsInode, size_of}
use Rattle.sn_layout_node.specs.declared.inode.Inode.{Inode}
use Rattle.sn_limits.specs.declared.kind.Kind.{Kind}
use Rattle.sn_limits.specs.declared.kind.Kind.TheVariants.{File, Directory}
use Rattle.sn_limits.specs.declared.limits.Limits.{Limits}
use Rattle.sn_limits.specs.Versions.{limits_written}
use Rattle.sn_limits.proofs.VersionLemmas.{fixed, written_allows}
use Rattle.sn_live_files.specs.Known.{attributes_of}
use Rattle.sn_model.specs.FileCalls.{bytes_of}
use Rattle.sn_model.specs.NameTree.{IsTree}
use Rattle.sn_model.proofs.AllowedLemmas.{tree_stays}
use Rattle.sn_model.specs.Tree.{Node, Tree, size_of as listed_size, attributes_of as known_of, viewed}
use Rattle.sn_ondisk.specs.Trees.{Store, store_of}
use Rattle.sn_image.specs.Acls.{acls_at, no_acls}
use Rattle.sn_image.specs.Image.{image, file_bytes, node_of}
use Rattle.sn_image.specs.Inodes.{inode_at}
use Rattle.sn_image.proofs.ByteLemmas.{data_whole}
use Rattle.sn_image.proofs.PointLemmas.{used_in, in_numbers}
use Rattle.sn_image.proofs.SoundNameLemmas.{node_is as image_node, sound_tree}
use Rattle.sn_image.proofs.WellFormedLemmas.{links_counted}
use Rattle.sn_overlay.specs.Layers.{bytes_of as shown_bytes}
use Rattle.sn_overlay.specs.Pieces.{piece}
use Rattle.sn_overlay.specs.Seen.{seen_node, seen_of}
use Rattle.sn_overlay.proofs.PieceLemmas.{get_or-piece, length-piece}
use Rattle.sn_rooted.specs.Nodes.{shown_size}
use Rattle.sn_rooted.specs.Roots.{IsSoundRoot}
use Rattle.sn_rooted.proofs.RootLemmas.{file_long, no_node, node_is}
use Rattle.sn_rooted_tree.specs.Nodes.{seen_in}

-- ---- nodes

pub none_seen : (c : Contents) (file : BlockTree) (number : ℕ) → inode_at (store_of c) file number ≡ None → None ≡ seen_node (image (store_of c) file) number
none_seen c file number none = sym (ap (option_map _) (no_node (store_of c) file number none))

module _ (limits : Limits) (sectors : ℕ) (c : Contents) (file : BlockTree) (are : AreSectors c) (count : length c ≡ sectors) (root : IsSoundRoot limits sectors (store_of c) file) (number : ℕ) (inode : Inode) (used : inode_at (store_of c) file number ≡ Some inode) where
  long : IsInode limits inode → shown_size inode.kind (size_of inode.content) ≡ length (file_bytes (store_of c) inode.kind inode.content)
  long valid = told inode.kind refl
    where
      told : (kind : Kind) → inode.kind ≡ kind → shown_size kind (size_of inode.content) ≡ length (file_bytes (store_of c) kind inode.content)
      told File is = sym (file_long limits sectors c file are count root number inode used valid is)
      told Directory is = refl

  pub seen_is : (acls : AclBlock) → IsInode limits inode → acls ≡ acls_at (store_of c) inode.acl_block → Some (seen_in inode acls) ≡ seen_node (image (store_of c) file) number
  unfolding node_of
  seen_is acls valid read =
      (λ i. Some (record (seen_in inode (read i)) {
        links = links_counted limits root.blocks (store_of c) file root.sound number inode used i;
        size = long valid i;
      }))
      ∙ sym (ap (option_map _) (node_is (store_of c) file number inode used))

-- an inode without an ACL block has no ACLs
pub plain_acls : (s : Store) (block : ℕ) → block ≡ 0 → no_acls ≡ acls_at s block
unfolding acls_at
plain_acls s block none = sym (ap (acls_at s) none)

-- ---- the tree of a root

module _ (limits : Limits) (sectors : ℕ) (c : Contents) (file : BlockTree) (are : AreSectors c) (count : length c ≡ sectors) (root : IsSoundRoot limits sectors (store_of c) file) where
  pub root_tree : IsTree limits_written (image (store_of c) file)
  root_tree = tree_stays limits limits_written (written_allows limits.version limits root.version) (image (store_of c) file)
      (sound_tree limits root.blocks (store_of c) file root.version (λ block lies. data_whole c root.blocks block are (omega (arith, root.fits, count)) lies) root.sound)

-- a directory has no bytes, so the size that a walk gets is how many are seen
size_is : (kind : Kind) (bytes : List ℕ) → (kind ≡ Directory → bytes ≡ []) → listed_size kind bytes ≡ length bytes
size_is File bytes none = refl
size_is Directory bytes none = sym (ap length (none refl))

-- what a walk gets of a node of a name tree it gets of the node that is seen
pub viewed_seen : (tree : Tree) (number : ℕ) → IsTree limits_written tree → (viewed tree).node number ≡ option_map attributes_of (seen_node tree number)
viewed_seen tree number whole = told (fin.get tree.nodes number) refl
  where
    told : (o : Option Node) → fin.get tree.nodes number ≡ o → option_map (known_of tree number) o ≡ option_map attributes_of (option_map (seen_of tree number) o)
    told None e = refl
    told (Some node) e = ap (λ (size : ℕ). Some (record (known_of tree number node) { size = size })) (size_is node.kind node.bytes (whole.nodes.nodes number node e).of_directory)

-- no node has a number that the inode file has no record for
pub numbered : (s : Store) (file : BlockTree) (end : ℕ) → end ≡ min (file.size / 128) 65536 → IsTree limits_written (image s file) → (number : ℕ) (node : Node) → fin.get (image s file).nodes number ≡ Some node → number < end
numbered s file end is whole number node e =
    let most : number ≤ 65535 = (whole.nodes.nodes number node e).within in
    let used = image_node s file number node e in
    omega (arith, is, most, (in_numbers file number (used_in s file number used.0 used.1)).1)

-- no file is longer than the largest of any version
pub file_short : (tree : Tree) (number : ℕ) → IsTree limits_written tree → length (shown_bytes (fin.get tree.nodes number)) ≤ 68719476736
file_short tree number whole = told (fin.get tree.nodes number) refl
  where
    told : (o : Option Node) → fin.get tree.nodes number ≡ o → length (shown_bytes o) ≤ 68719476736
    told None e = omega arith
    told (Some node) e =
        let most : length node.bytes ≤ limits_written.largest_file = (whole.nodes.nodes number node e).size in
        omega (arith, most, (fixed limits_written.version limits_written refl).files)

-- ---- blocks

pub same_bytes : (found : Option Node) → bytes_of found ≡ shown_bytes found
same_bytes None = refl
same_bytes (Some node) = refl

-- a place past the largest number is past the end of any file
pub past_alike : (all : List ℕ) (index k at : ℕ) → length all ≤ 68719476736 → k ≡ min (index * 4096) (2 ^ 64 - 1) → get_or all (k + at) 0 ≡ get_or all (index * 4096 + at) 0
past_alike all index k at short is = told (cases_lt (index * 4096) (2 ^ 64 - 1))
  where
    told : (index * 4096 < 2 ^ 64 - 1) ⊎ (2 ^ 64 - 1 ≤ index * 4096) → get_or all (k + at) 0 ≡ get_or all (index * 4096 + at) 0
    told (inl low) = ap (λ (n : ℕ). get_or all (n + at) 0) (let same : k ≡ index * 4096 = omega (arith, is, low) in same)
    told (inr high) = get_or_past all (k + at) 0 (omega (arith, is, high, short)) ∙ sym (get_or_past all (index * 4096 + at) 0 (omega (arith, high, short)))

-- bytes that were read, and zeros after them
pub read_piece : (all read : List ℕ) (index k : ℕ) → ((at : ℕ) → get_or all (k + at) 0 ≡ get_or all (index * 4096 + at) 0) → read ≡ take 4096 (drop k all) → read ++ drop (length read) (replicate 4096 0) ≡ piece 4096 all index
read_piece all read index k alike is = ext_get_or 0 _ _ (long ∙ sym (length-piece 4096 all index)) (λ at within. told at (omega (arith, within, long)) (cases_lt at (length read)))
  where
    count : length read ≡ length (take 4096 (drop k all))
    count = ap length is

    long : length (read ++ drop (length read) (replicate 4096 0)) ≡ 4096
    long = omega (arith, length-append read (drop (length read) (replicate 4096 0)), length-drop (length read) (replicate {A = ℕ} 4096 0), length-replicate {A = ℕ} 4096 0, count, length-take 4096 (drop k all))

    told : (at : ℕ) → at < 4096 → (at < length read) ⊎ (length read ≤ at) → get_or (read ++ drop (length read) (replicate 4096 0)) at 0 ≡ get_or (piece 4096 all index) at 0
    told at low (inl h) =
        get_or_append_left read (drop (length read) (replicate 4096 0)) 0 at h ∙ ap (λ (xs : List ℕ). get_or xs at 0) is
        ∙ get_or-take 4096 (drop k all) at 0 low ∙ get_or-drop k all at 0 ∙ alike at ∙ sym (get_or-piece 4096 all index at low)
    told at low (inr h) =
        get_or-append_right read (drop (length read) (replicate 4096 0)) (length read) at 0 refl h
        ∙ get_or-drop (length read) (replicate 4096 0) (at - length read) 0
        ∙ get_or-replicate {A = ℕ} 4096 (length read + (at - length read)) 0 0 (omega (arith, low, h))
        ∙ sym (get_or-piece 4096 all index at low ∙ sym (alike at) ∙ get_or_past all (k + at) 0 (omega (arith, count, length-take 4096 (drop k all), length-drop k all, low, h)))

-- no more is put than was read
pub filled : (all bytes : List ℕ) (index k : ℕ) → ((at : ℕ) → get_or all (k + at) 0 ≡ get_or all (index * 4096 + at) 0) → bytes ≡ take 4096 (drop k all)
    → take (min (length bytes) 4096) bytes ++ drop (min (length bytes) 4096) (replicate 4096 0) ≡ piece 4096 all index
filled all bytes index k alike is =
    let short : length bytes ≤ 4096 = omega (arith, ap length is, length-take 4096 (drop k all)) in
    let count : min (length bytes) 4096 ≡ length bytes = omega (arith, short) in
    ap (λ (n : ℕ). take n bytes ++ drop n (replicate 4096 0)) count
    ∙ ap (λ (part : List ℕ). part ++ drop (length bytes) (replicate 4096 0)) (take_all (length bytes) bytes (omega arith))
    ∙ read_piece all bytes index k alike is
