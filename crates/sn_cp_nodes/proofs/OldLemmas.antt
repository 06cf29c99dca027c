-- What a ground says of the inode that a number had.
use Rattle.std.proofs.Common.{◌≡◌, ℕ, ◌≤◌, ◌&&◌, Bool, true, false, length, Contains, Option, None, Some, refl, ap, ◌∙◌, arith}
use Rattle.std.specs.Prelude.{IsSomeAnd, nat_le, nat_lt}
use Rattle.std.specs.FinMap as fin
use Rattle.std.specs.Option.{option_map}
use Rattle.std.proofs.lemmas.Bool.{leb-true}
use Rattle.std.proofs.lemmas.List.Elements.{Contains-append_right}
use Rattle.sn_image.specs.Contents.{bytes_of, content_reach}
use Rattle.sn_image.specs.Image.{file_bytes, image, node_at, node_of}
use Rattle.sn_image.specs.Inodes.{inode_at}
use Rattle.sn_image.specs.Reach.{block_reach, inode_reach, reach_at}
use Rattle.sn_image.specs.Sound.{ContentEnds, HasContent}
use Rattle.sn_image.proofs.ListLemmas.{none_in}
use Rattle.sn_image.proofs.PointLemmas.{node_found}
use Rattle.sn_image.proofs.ReachLemmas.{reach_parts}
use Rattle.sn_image.proofs.SoundNameLemmas.{from_kind}
use Rattle.sn_limits.proofs.VersionLemmas.{fixed}
use Rattle.sn_image.proofs.SoundNodeLemmas.{valid_inode}
use Rattle.sn_layout.specs.declared.tree.BlockTree.{BlockTree}
use Rattle.sn_layout_node.specs.Inode.{IsContent, IsInode}
use Rattle.sn_layout_node.specs.declared.content.Content.{Content}
use Rattle.sn_layout_node.specs.declared.content.Content.TheVariants.{Inline, Tree}
use Rattle.sn_layout_node.specs.declared.inode.Inode.{Inode}
use Rattle.sn_limits.specs.Versions.{limits_of}
use Rattle.sn_limits.specs.declared.kind.Kind.{Kind}
use Rattle.sn_limits.specs.declared.kind.Kind.TheVariants.{File, Directory}
use Rattle.sn_limits.specs.declared.limits.Limits.{Limits}
use Rattle.sn_model.specs.Tree.{Node}
use Rattle.sn_ondisk.specs.TreeLaws.{SameIn}
use Rattle.sn_ondisk.specs.Trees.{Store}
use Rattle.sn_overlay.specs.Layers.{Layer}
use Rattle.sn_overlay.specs.Layers as layers
use Rattle.sn_overlay.specs.declared.node.NodeChange.TheVariants.{Changed}
use Rattle.sn_overlay.specs.declared.node.NodeState.{NodeState}
use Rattle.sn_cp_nodes.specs.Built.{IsGround}
use Rattle.sn_cp_nodes.specs.Parts.{content_of}
use Rattle.sn_cp_nodes.proofs.ByteLemmas.{IsRoomy}

both : (a b : Bool) → (a && b) ≡ true → (a ≡ true) × (b ≡ true)
both true b e = (refl, e)
both false b e = absurd cc

-- ---- what a number reached

content_in_reach : (s : Store) (o : Option Inode) (block : ℕ) → Contains (content_reach s (content_of o)) block → Contains (inode_reach s o) block
content_in_reach s None block among = none_in block among
content_in_reach s (Some inode) block among = Contains-append_right (block_reach inode.acl_block) (content_reach s inode.content) block among

pub content_within : (s : Store) (file : BlockTree) (number block : ℕ) → Contains (content_reach s (content_of (inode_at s file number))) block → Contains (reach_at s file number) block
unfolding reach_at
content_within s file number block among = content_in_reach s (inode_at s file number) block among

pub same_content : (s r : Store) (file : BlockTree) (number : ℕ) → SameIn (reach_at s file number) s r → SameIn (content_reach s (content_of (inode_at s file number))) s r
same_content s r file number same block among = same block (content_within s file number block among)

-- ---- contents that a version allows

pub roomy_file : (limits : Limits) (content : Content) → limits_of limits.version ≡ Some limits → IsContent limits File content → IsRoomy content
roomy_file limits (Inline bytes) version fits = fits
roomy_file limits (Tree tree) version fits =
    let large = (fixed limits.version limits version).files in
    let most : tree.size ≤ limits.largest_file = leb-true tree.size limits.largest_file (both (nat_lt 64 tree.size) (nat_le tree.size limits.largest_file) fits.1).1 in
    (fits.0.pointers.count, omega (arith, large, most))

pub roomy_kind : (limits : Limits) (kind : Kind) (content : Content) → limits_of limits.version ≡ Some limits → kind ≡ File → IsContent limits kind content → IsRoomy content
roomy_kind limits File content version is fits = roomy_file limits content version fits
roomy_kind limits Directory content version is fits = absurd cc

ends_kind : (s : Store) (kind : Kind) (content : Content) → kind ≡ File → HasContent s kind content → ContentEnds s content
ends_kind s File content is has = has
ends_kind s Directory content is has = absurd cc

bytes_kind : (s : Store) (kind : Kind) (content : Content) → kind ≡ File → file_bytes s kind content ≡ bytes_of s content
bytes_kind s File content is = refl
bytes_kind s Directory content is = absurd cc

-- ---- what was there

module _ (limits : Limits) (n : ℕ) (s : Store) (file : BlockTree) (layer : Layer) (number : ℕ) (ground : IsGround limits n s file layer) where
  pub old_whole : (block : ℕ) → Contains (content_reach s (content_of (inode_at s file number))) block → length (s block) ≡ 4096
  old_whole block among = (ground.whole block ((reach_parts s file block).1 number (content_within s file number block among))).size

  module _ (inode : Inode) (used : inode_at s file number ≡ Some inode) where
    pub old_valid : IsInode limits inode
    old_valid = valid_inode limits s file ground.sound.records.spelled number inode used

    pub old_roomy : inode.kind ≡ File → IsRoomy inode.content
    old_roomy is = roomy_kind limits inode.kind inode.content ground.version is old_valid.content

    pub old_ends : inode.kind ≡ File → ContentEnds s inode.content
    old_ends is = ends_kind s inode.kind inode.content is (ground.sound.used.contents number inode used)

    pub old_bytes : inode.kind ≡ File → layers.bytes_of (fin.get (image s file).nodes number) ≡ bytes_of s inode.content
    unfolding node_at node_of
    old_bytes is =
        ap layers.bytes_of (node_found s file number) ∙ ap (λ (o : Option Inode). layers.bytes_of (option_map (node_of s) o)) used ∙ bytes_kind s inode.kind inode.content is

  -- what wasn't made anew was there, and of that kind
  pub old_of : (state : NodeState) → fin.get layer.nodes number ≡ Some (Changed state) → state.fresh ≡ false → (inode : Inode) × (inode_at s file number ≡ Some inode) × (inode.kind ≡ state.kind)
  old_of state node stale = from_kind s file number state.kind (told (fin.get (image s file).nodes number) (ground.lies.fits.kinds number state node stale))
    where
      told : (o : Option Node) → option_map (λ (node : Node). node.kind) o ≡ Some state.kind → IsSomeAnd o (λ node. node.kind ≡ state.kind)
      told None e = absurd cc
      told (Some x) e = cc
