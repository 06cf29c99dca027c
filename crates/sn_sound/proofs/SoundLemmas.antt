-- What has a fault isn't sound.
use Rattle.std.proofs.Common.{◌≡◌, inl, inr, ℕ, ◌/◌, true, Option, Some, None, Contains, sym, subst, arith}
use Rattle.std.specs.Prelude.{is_some}
use Rattle.sn_limits.specs.declared.kind.Kind.{Kind}
use Rattle.sn_limits.specs.declared.kind.Kind.TheVariants.{File, Directory}
use Rattle.sn_limits.specs.declared.limits.Limits.{Limits}
use Rattle.sn_layout.specs.declared.tree.BlockTree.{BlockTree}
use Rattle.sn_layout_node.specs.Directory.{Link}
use Rattle.sn_layout_node.specs.declared.content.Content.{Content}
use Rattle.sn_layout_node.specs.declared.content.Content.TheVariants.{Inline, Tree}
use Rattle.sn_layout_node.specs.declared.inode.Inode.{Inode}
use Rattle.sn_ondisk.specs.Trees.{Store, data_block}
use Rattle.sn_image.proofs.ListLemmas.{flat_map-has, range-has}
use Rattle.std.specs.List.{range_with_len}
use Rattle.sn_image.specs.Inodes.{inode_at}
use Rattle.sn_image.specs.Names.{names_in, names_of, names_by, names_under, names_at}
use Rattle.sn_image.specs.Sound.{IsSound, EndsAtSize, HasBlocks, HasContent, HasNames}
use Rattle.sn_sound.specs.Laws.{HasNoFaultAt}
use Rattle.sn_sound.specs.Faults.{IsTreeFault, pointer, byte, IsDirectoryFault, hole, misspelt, twice, many, IsContentFault, IsMisspelt, size, file, misspelt_record, reserved, root, acls, content, hidden, IsNameIn, IsLinkFault, leads, named_root, counted, apart}

pub tree_clean : (s : Store) (tree : BlockTree) (top : ℕ) → EndsAtSize s tree → (block : ℕ) → IsTreeFault s tree top block → ⊥
tree_clean s tree top ends _ (pointer depth i within past some) = some (ends.pointers depth i within past)
tree_clean s tree top ends _ (byte i k within past some) = some (ends.bytes i k within past)

pub directory_clean : (limits : Limits) (s : Store) (inodes tree : BlockTree) (number top : ℕ) → HasNames limits s inodes → HasBlocks s tree → (block : ℕ) → IsDirectoryFault limits s tree (names_at s inodes number) top block → ⊥
directory_clean limits s inodes tree number top names blocks _ (hole i within none) = blocks.no_hole i within none
directory_clean limits s inodes tree number top names blocks _ (misspelt i within wrong) = wrong (blocks.spelled i within)
directory_clean limits s inodes tree number top names blocks _ (twice name two) = absurd (omega (arith, two, names.once number name))
directory_clean limits s inodes tree number top names blocks _ (many more) = absurd (omega (arith, more, names.few number))

pub content_clean : (limits : Limits) (s : Store) (inodes : BlockTree) (number top block : ℕ) (kind : Kind) (it : Content) → HasNames limits s inodes → HasContent s kind it → IsContentFault limits s kind it (names_at s inodes number) top block → ⊥
content_clean limits s inodes number top block kind (Inline bytes) names has fault = fault
content_clean limits s inodes number top block File (Tree tree) names has fault = tree_clean s tree top has block fault
content_clean limits s inodes number top block Directory (Tree tree) names has (inl fault) = tree_clean s tree top has.0 block fault
content_clean limits s inodes number top block Directory (Tree tree) names has (inr fault) = directory_clean limits s inodes tree number top names has.1 block fault

pub spelled_clean : (limits : Limits) (n : ℕ) (s : Store) (inodes : BlockTree) (body : ℕ) → IsSound limits n s inodes → (block : ℕ) → IsMisspelt limits s inodes body block → ⊥
spelled_clean limits n s inodes body sound _ (size wrong) = wrong sound.file
spelled_clean limits n s inodes body sound _ (file block fault) = tree_clean s inodes body sound.ends block fault
spelled_clean limits n s inodes body sound _ (misspelt_record number within wrong) = wrong (sound.records.spelled number within)
spelled_clean limits n s inodes body sound _ (reserved number low some) = some (sound.records.reserved number low)
spelled_clean limits n s inodes body sound _ (root wrong) = wrong sound.records.root
spelled_clean limits n s inodes body sound _ (acls number inode is wrong) = wrong (sound.used.acls number inode is)
spelled_clean limits n s inodes body sound _ (content number inode block is fault) = content_clean limits s inodes number _ block inode.kind inode.content sound.names (sound.used.contents number inode is) fault
spelled_clean limits n s inodes body sound _ (hidden some) = some sound.names.hidden

-- a name in a block is one of the directory
named : (s : Store) (inodes : BlockTree) (directory : ℕ) (name : Link) (block : ℕ) → IsNameIn s inodes directory name block → Contains (names_at s inodes directory) name
unfolding names_at
named s inodes directory name block is = subst (λ (o : Option Inode). Contains (names_under s o) name) (sym is.is) (by_kind is.inode.kind is.inode.content is.kind is.content)
  where
    by_kind : (kind : Kind) (it : Content) → kind ≡ Directory → it ≡ Tree is.tree → Contains (names_by s kind it) name
    by_kind kind it k c = subst (λ (x : Kind). Contains (names_by s x it) name) (sym k) (subst (λ (x : Content). Contains (names_of s x) name) (sym c)
        (flat_map-has (λ i. names_in (data_block s is.tree i)) (range_with_len 0 (is.tree.size / 4096)) is.i name (range-has 0 (is.tree.size / 4096) is.i (omega arith) (omega (arith, is.within))) is.has))

pub linked_clean : (limits : Limits) (n : ℕ) (s : Store) (inodes : BlockTree) (body : ℕ) → IsSound limits n s inodes → (block : ℕ) → IsLinkFault s inodes body block → ⊥
linked_clean limits n s inodes body sound _ (leads directory name block is none) = told (inode_at s inodes name.number) none (sound.linked.leads directory name (named s inodes directory name block is))
  where
    told : (o : Option Inode) → o ≡ None → is_some o ≡ true → ⊥
    told None e t = cc
    told (Some x) e t = cc
linked_clean limits n s inodes body sound _ (named_root some) = some sound.linked.unnamed
linked_clean limits n s inodes body sound _ (counted number inode other is some) = some (sound.linked.counted number inode other is)
linked_clean limits n s inodes body sound _ (apart number inode is kind wrong) = wrong (sound.linked.reached number inode is kind)

pub root_clean : (limits : Limits) (n : ℕ) (s : Store) (inodes : BlockTree) (body block : ℕ) → IsSound limits n s inodes → HasNoFaultAt limits n s inodes body block
root_clean limits n s inodes body block sound = record {
  pointer = λ f. f.outside (sound.placed.within block f.among);
  twice = λ f. absurd (omega (arith, f, sound.placed.once block));
  spelling = spelled_clean limits n s inodes body sound block;
  links = linked_clean limits n s inodes body sound block;
}
