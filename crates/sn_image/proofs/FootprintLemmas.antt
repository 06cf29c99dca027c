-- What an inode and a root denote depends on the blocks that they reach.
use Rattle.std.proofs.Common.{◌≡◌, ℕ, ◌*◌, ◌/◌, ◌%◌, ◌==◌, Bool, true, false, if◌then◌else◌, [], ◌∷◌, ◌++◌, map, flat_map, take, drop, Option, Some, None, Contains, refl, sym, ap, subst, ◌∙◌, arith}
use Rattle.std.specs.List.{range_with_len}
use Rattle.std.specs.Option.{option_map}
use Rattle.std.specs.FinMap as fin
use Rattle.std.proofs.lemmas.List.Elements.{Contains-append_left, Contains-append_right}
use Rattle.sn_device.specs.Sectors.{Contents, AgreesOn}
use Rattle.sn_device.proofs.SectorLemmas.{Contains-first}
use Rattle.sn_limits.specs.declared.kind.Kind.{Kind}
use Rattle.sn_limits.specs.declared.kind.Kind.TheVariants.{File, Directory}
use Rattle.sn_layout.specs.declared.tree.BlockTree.{BlockTree}
use Rattle.sn_layout_acl.specs.AclBlock.{joined}
use Rattle.sn_layout_node.specs.declared.content.Content.{Content}
use Rattle.sn_layout_node.specs.declared.content.Content.TheVariants.{Inline, Tree}
use Rattle.sn_layout_node.specs.declared.inode.Inode.{Inode}
use Rattle.sn_model.specs.Tree.{link_to}
use Rattle.sn_ondisk.specs.Blocks.{InBlocks}
use Rattle.sn_ondisk.specs.TreeLaws.{SameIn, ReadsAlike}
use Rattle.sn_ondisk.specs.Trees.{Store, store_of, tree_reach, data_block}
use Rattle.sn_ondisk.proofs.TreeLemmas.{trees_depend}
use Rattle.sn_ondisk.proofs.BlockLemmas.{bytes_at-same}
use Rattle.sn_image.specs.Acls.{acls_in, acls_at, no_acls}
use Rattle.sn_image.specs.Contents.{bytes_of, content_reach}
use Rattle.sn_image.specs.Inodes.{is_number, inode_of, record_at, inode_at}
use Rattle.sn_image.specs.Image.{file_bytes, node_of, node_at, nodes_at, under_number, links_at, image}
use Rattle.sn_image.specs.Laws.{InodeReadsAlike, RootReadsAlike}
use Rattle.sn_image.specs.Names.{names_in, names_of, names_by, names_at, names_under}
use Rattle.sn_image.specs.Reach.{block_reach, inode_reach, reach_at, numbers, reach}
use Rattle.sn_image.proofs.ListLemmas.{flat_map-has, flat_map-alike}
use Rattle.sn_image.proofs.PointLemmas.{used_in}

choose : {X : Type 0} (b : Bool) (x y z : X) → (b ≡ false → y ≡ z) → (if b then x else y) ≡ (if b then x else z)
choose true x y z h = refl
choose false x y z h = h refl

block_reached : (block : ℕ) → (block == 0) ≡ false → Contains (block_reach block) block
block_reached block some = subst (λ (b : Bool). Contains (if b then [] else block ∷ []) block) (sym some) (Contains-first block [])

module _ (s r : Store) where
  acls-same : (block : ℕ) → SameIn (block_reach block) s r → acls_at r block ≡ acls_at s block
  unfolding acls_at
  acls-same block same = choose (block == 0) no_acls (acls_in (r block)) (acls_in (s block)) (λ some. ap acls_in (same block (block_reached block some)))

  bytes-same : (content : Content) → SameIn (content_reach s content) s r → bytes_of r content ≡ bytes_of s content
  bytes-same (Inline bytes) same = refl
  bytes-same (Tree tree) same = (trees_depend s r tree same).bytes

  names-same : (content : Content) → SameIn (content_reach s content) s r → names_of r content ≡ names_of s content
  names-same (Inline bytes) same = refl
  names-same (Tree tree) same =
      let alike : ReadsAlike s r tree = trees_depend s r tree same in
      flat_map-alike (λ i. names_in (data_block s tree i)) (λ i. names_in (data_block r tree i)) (range_with_len 0 (tree.size / 4096)) (λ i. ap names_in (alike.blocks i))

  reach-same : (content : Content) → SameIn (content_reach s content) s r → content_reach r content ≡ content_reach s content
  reach-same (Inline bytes) same = refl
  reach-same (Tree tree) same = (trees_depend s r tree same).reach

  file-same : (kind : Kind) (content : Content) → SameIn (content_reach s content) s r → file_bytes r kind content ≡ file_bytes s kind content
  file-same File content same = bytes-same content same
  file-same Directory content same = refl

  by-same : (kind : Kind) (content : Content) → SameIn (content_reach s content) s r → names_by r kind content ≡ names_by s kind content
  by-same File content same = refl
  by-same Directory content same = names-same content same

  module _ (inode : Inode) (same : SameIn (inode_reach s (Some inode)) s r) where
    of_acls : SameIn (block_reach inode.acl_block) s r
    of_acls block among = same block (Contains-append_left (block_reach inode.acl_block) (content_reach s inode.content) block among)

    of_content : SameIn (content_reach s inode.content) s r
    of_content block among = same block (Contains-append_right (block_reach inode.acl_block) (content_reach s inode.content) block among)

    node-same : node_of r inode ≡ node_of s inode
    unfolding node_of
    node-same =
        let acls : acls_at r inode.acl_block ≡ acls_at s inode.acl_block = acls-same inode.acl_block of_acls in
        let bytes : file_bytes r inode.kind inode.content ≡ file_bytes s inode.kind inode.content = file-same inode.kind inode.content of_content in
        λ i. record {
          kind = inode.kind;
          owner = inode.owner;
          group = inode.group;
          set_gid = inode.set_gid;
          sticky = inode.sticky;
          acl = joined inode.objects (acls i).access;
          default_acl = (acls i).default;
          bytes = bytes i;
        }

    pub inodes_depend : InodeReadsAlike s r inode
    inodes_depend = record {
      node = node-same;
      names = by-same inode.kind inode.content of_content;
      reach = ap (λ rest. block_reach inode.acl_block ++ rest) (reach-same inode.content of_content);
    }

  module _ (inodes : BlockTree) (same : SameIn (reach s inodes) s r) where
    of_file : SameIn (tree_reach s inodes) s r
    unfolding reach
    of_file block among = same block (Contains-append_left (tree_reach s inodes) (flat_map (reach_at s inodes) (numbers inodes)) block among)

    record-same : (number : ℕ) → record_at r inodes number ≡ record_at s inodes number
    unfolding record_at
    record-same number = ap (λ bytes. take 128 (drop (128 * (number % 32)) bytes)) ((trees_depend s r inodes of_file).blocks (number / 32))

    inode-same : (number : ℕ) → inode_at r inodes number ≡ inode_at s inodes number
    unfolding inode_at
    inode-same number = ap (λ bytes. if is_number inodes number then inode_of bytes else None) (record-same number)

    of_number : (number : ℕ) (inode : Inode) → inode_at s inodes number ≡ Some inode → SameIn (inode_reach s (Some inode)) s r
    unfolding reach reach_at
    of_number number inode e block among =
        same block (Contains-append_right (tree_reach s inodes) (flat_map (reach_at s inodes) (numbers inodes)) block
        (flat_map-has (reach_at s inodes) (numbers inodes) number block (used_in s inodes number inode e) (subst (λ (o : Option Inode). Contains (inode_reach s o) block) (sym e) among)))

    -- what each number has
    each : {A : Type 0} (g : Store → Option Inode → A) → g r None ≡ g s None → ((inode : Inode) → InodeReadsAlike s r inode → g r (Some inode) ≡ g s (Some inode)) → (number : ℕ) → g r (inode_at r inodes number) ≡ g s (inode_at s inodes number)
    each {A} g none some number = ap (g r) (inode-same number) ∙ told (inode_at s inodes number) refl
      where
        told : (o : Option Inode) → inode_at s inodes number ≡ o → g r o ≡ g s o
        told None e = none
        told (Some inode) e = some inode (inodes_depend inode (of_number number inode e))

    nodes-same : (number : ℕ) → nodes_at r inodes number ≡ nodes_at s inodes number
    unfolding nodes_at node_at
    nodes-same number = each (λ t o. under_number number (option_map (node_of t) o)) refl (λ inode alike. ap (λ node. (number, node) ∷ []) alike.node) number

    links-same : (number : ℕ) → links_at r inodes number ≡ links_at s inodes number
    unfolding links_at names_at
    links-same number = ap (map (λ name. (link_to number name.name, name.number))) (each names_under refl (λ inode alike. alike.names) number)

    reached-same : (number : ℕ) → reach_at r inodes number ≡ reach_at s inodes number
    unfolding reach_at
    reached-same number = each inode_reach refl (λ inode alike. alike.reach) number

    image-same : image r inodes ≡ image s inodes
    unfolding image
    image-same =
        let nodes = flat_map-alike (nodes_at s inodes) (nodes_at r inodes) (numbers inodes) nodes-same in
        let links = flat_map-alike (links_at s inodes) (links_at r inodes) (numbers inodes) links-same in
        λ i. record { nodes = fin.from_entries (nodes i); links = fin.from_entries (links i) }

    all-same : reach r inodes ≡ reach s inodes
    unfolding reach
    all-same =
        ap (λ blocks. blocks ++ flat_map (reach_at r inodes) (numbers inodes)) (trees_depend s r inodes of_file).reach
        ∙ ap (λ blocks. tree_reach s inodes ++ blocks) (flat_map-alike (reach_at s inodes) (reach_at r inodes) (numbers inodes) reached-same)

    pub roots_depend : RootReadsAlike s r inodes
    roots_depend = record { each = inode-same; image = image-same; reach = all-same }

pub roots_depend_on_sectors : (c d : Contents) (inodes : BlockTree) → AgreesOn (InBlocks (reach (store_of c) inodes)) c d → RootReadsAlike (store_of c) (store_of d) inodes
roots_depend_on_sectors c d inodes agrees = roots_depend (store_of c) (store_of d) inodes (λ block among.
    bytes_at-same c d (8 * block) 8 (λ i from to. agrees.same i (let of_block : block ≡ i / 8 = omega (arith, from, to) in subst (Contains (reach (store_of c) inodes)) of_block among)))
