-- What can be read of a root that was checked.
use Rattle.std.proofs.Common.{◌≡◌, ℕ, ◌+◌, ◌*◌, ◌/◌, ◌<◌, ◌≤◌, Some, Contains, sym, subst, arith}
use Rattle.std.proofs.lemmas.List.Elements.{Contains-append_right}
use Rattle.std.proofs.Common.{List}
use Rattle.sn_limits.specs.declared.kind.Kind.{Kind}
use Rattle.sn_limits.specs.declared.kind.Kind.TheVariants.{Directory}
use Rattle.sn_limits.specs.declared.limits.Limits.{Limits}
use Rattle.sn_layout.specs.Pointers.{levels_of}
use Rattle.sn_layout.specs.declared.tree.BlockTree.{BlockTree}
use Rattle.sn_layout_node.specs.Directory.{Link}
use Rattle.sn_layout_node.specs.declared.content.Content.{Content}
use Rattle.sn_layout_node.specs.declared.content.Content.TheVariants.{Tree}
use Rattle.sn_ondisk.specs.Trees.{Store, data_block, entry, tree_reach}
use Rattle.sn_image.specs.Contents.{content_reach}
use Rattle.sn_image.specs.Names.{names_in}
use Rattle.sn_image.specs.Reach.{block_reach, reach}
use Rattle.sn_image.specs.Sound.{HasBlocks, HasContent}
use Rattle.sn_image.proofs.ReachLemmas.{reach_parts}
use Rattle.sn_image.proofs.SoundNodeLemmas.{valid_inode}
use Rattle.sn_tree_read.specs.Laws.{ReachedBlocksLie}
use Rattle.sn_inode.specs.Laws.{SoundInodesAreRead}
use Rattle.sn_dir.specs.Laws.{SoundDirectoriesAreRead}
use Rattle.sn_sound.specs.Faults.{IsNameIn}
use Rattle.sn_check_root.proofs.InodeLemmas.{reach_of}
use Rattle.sn_census.specs.Roots.{IsChecked, IsDirectoryOf, IsReadable}

module _ (limits : Limits) (sectors : ℕ) (s : Store) (inodes : BlockTree) (root : IsChecked limits sectors s inodes) where
  lies : (block : ℕ) → Contains (reach s inodes) block → 8 * block + 8 ≤ sectors
  lies block among = omega (arith, (root.sound.placed.within block among).below, root.room)

  module _ (number : ℕ) (tree : BlockTree) (is : IsDirectoryOf s inodes number tree) where
    tree_lies : (block : ℕ) → Contains (tree_reach s tree) block → 8 * block + 8 ≤ sectors
    tree_lies block among = lies block ((reach_parts s inodes block).1 number
        (subst (λ (xs : List ℕ). Contains xs block) (reach_of limits s inodes number (Some is.inode) is.is)
        (Contains-append_right (block_reach is.inode.acl_block) (content_reach s is.inode.content) block
        (subst (λ (it : Content). Contains (content_reach s it) block) (sym is.content) among))))

    has_blocks : HasBlocks s tree
    has_blocks =
        let has : HasContent s Directory (Tree tree) = subst (λ (it : Content). HasContent s Directory it) is.content
        (subst (λ (k : Kind). HasContent s k is.inode.content) is.kind (root.sound.used.contents number is.inode is.is)) in
        has.1

  pub readable : ReachedBlocksLie → SoundInodesAreRead → SoundDirectoriesAreRead → limits.largest_number < 65536 → IsReadable limits sectors s inodes
  readable trees records directories largest = record {
    least = root.sound.file.least;
    most = omega (arith, root.sound.file.most, largest);
    file = trees sectors s inodes (λ block among. lies block ((reach_parts s inodes block).0 among));
    records = records limits sectors s inodes root.sound.records (λ block among. lies block ((reach_parts s inodes block).0 among));
    directories = λ number tree is. record {
      lies = trees sectors s tree (tree_lies number tree is);
      each = directories sectors s tree (has_blocks number tree is) (tree_lies number tree is);
    };
    valid = λ number inode is. valid_inode limits s inodes root.sound.records.spelled number inode is;
  }

-- a name in a block of a directory
pub name_in : (s : Store) (inodes : BlockTree) (directory i pointer : ℕ) (tree : BlockTree) → IsDirectoryOf s inodes directory tree → i < tree.size / 4096 → pointer ≡ entry s (levels_of tree.size) tree.pointers i
    → (name : Link) → Contains (names_in (data_block s tree i)) name → IsNameIn s inodes directory name pointer
name_in s inodes directory i pointer tree is within here name among = record {
  inode = is.inode;
  is = is.is;
  kind = is.kind;
  tree = tree;
  content = is.content;
  i = i;
  within = within;
  has = among;
  here = here;
}
