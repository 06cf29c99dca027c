-- A sound root stays sound under limits that allow more, and its snapshots stay a root body's.
use Rattle.std.proofs.Common.{◌≡◌, ℕ, ◌%◌, ◌≤◌, true, ◌&&◌, ◌==◌, List, [], ◌∷◌, length, refl, arith}
use Rattle.std.specs.Prelude.{nat_lt, nat_le}
use Rattle.std.proofs.lemmas.Bool.{leb-true, le-leb}
use Rattle.sn_limits.specs.declared.kind.Kind.{Kind}
use Rattle.sn_limits.specs.declared.kind.Kind.TheVariants.{File, Directory}
use Rattle.sn_limits.specs.declared.limits.Limits.{Limits}
use Rattle.sn_limits.specs.Versions.{Allows}
use Rattle.sn_layout.specs.declared.snapshot.Snapshot.{Snapshot}
use Rattle.sn_layout.specs.declared.tree.BlockTree.{BlockTree}
use Rattle.sn_layout.specs.Snapshot.{AreSnapshots, are_distinct, are_rising, are_within}
use Rattle.sn_layout_node.specs.Inode.{IsContent, IsRecord, is_tree_size}
use Rattle.sn_layout_node.specs.declared.content.Content.{Content}
use Rattle.sn_layout_node.specs.declared.content.Content.TheVariants.{Inline, Tree}
use Rattle.sn_layout_node.specs.declared.inode.InodeRecord.{InodeRecord}
use Rattle.sn_layout_node.specs.declared.inode.InodeRecord.TheVariants.{Unused, Used}
use Rattle.sn_image.specs.Sound.{IsSound, SpellsRecord}
use Rattle.sn_model.proofs.ChainLemmas.{and_both, and_left, and_right}
use Rattle.sn_ondisk.specs.Trees.{Store}

within : (n a b : ℕ) → a ≤ b → nat_le n a ≡ true → nat_le n b ≡ true
within n a b le e = le-leb n b (omega (arith, le, leb-true n a e))

module _ (less more : Limits) (allows : Allows less more) where
  size_stays : (kind : Kind) (size : ℕ) → is_tree_size less kind size ≡ true → is_tree_size more kind size ≡ true
  size_stays File size e = and_both (nat_lt 64 size) (nat_le size more.largest_file) (and_left (nat_lt 64 size) (nat_le size less.largest_file) e)
      (within size less.largest_file more.largest_file allows.files (and_right (nat_lt 64 size) (nat_le size less.largest_file) e))
  size_stays Directory size e = and_both (size % 4096 == 0) (nat_le size more.largest_file) (and_left (size % 4096 == 0) (nat_le size less.largest_file) e)
      (within size less.largest_file more.largest_file allows.files (and_right (size % 4096 == 0) (nat_le size less.largest_file) e))

  content_stays : (kind : Kind) (content : Content) → IsContent less kind content → IsContent more kind content
  content_stays File (Inline bytes) is = is
  content_stays Directory (Inline bytes) is = is
  content_stays File (Tree tree) (fits, size, ends) = (fits, size_stays File tree.size size, ends)
  content_stays Directory (Tree tree) (fits, size, ends) = (fits, size_stays Directory tree.size size, ends)

  record_stays : (r : InodeRecord) → IsRecord less r → IsRecord more r
  record_stays Unused is = is
  record_stays (Used inode) is = record {
    objects = is.objects;
    links = is.links;
    owner = is.owner;
    group = is.group;
    acl_block = is.acl_block;
    content = content_stays inode.kind inode.content is.content;
  }

  spells_stays : (bytes : List ℕ) → SpellsRecord less bytes → SpellsRecord more bytes
  spells_stays bytes (r, is, e) = (r, record_stays r is, e)

  pub sound_stays : (n : ℕ) (s : Store) (inodes : BlockTree) → IsSound less n s inodes → IsSound more n s inodes
  sound_stays n s inodes is = record {
    placed = is.placed;
    file = record { least = is.file.least; most = omega (arith, is.file.most, allows.numbers); whole = is.file.whole };
    ends = is.ends;
    records = record {
      spelled = λ number under. spells_stays _ (is.records.spelled number under);
      reserved = is.records.reserved;
      root = is.records.root;
    };
    used = is.used;
    names = record { once = is.names.once; few = λ directory. omega (arith, is.names.few directory, allows.names); hidden = is.names.hidden };
    linked = is.linked;
  }

  within_stays : (snapshots : List Snapshot) → are_within less.largest_bit snapshots ≡ true → are_within more.largest_bit snapshots ≡ true
  within_stays [] e = refl
  within_stays (s ∷ ss) e = and_both (nat_le s.bit more.largest_bit) (are_within more.largest_bit ss)
      (within s.bit less.largest_bit more.largest_bit allows.bits (and_left (nat_le s.bit less.largest_bit) (are_within less.largest_bit ss) e))
      (within_stays ss (and_right (nat_le s.bit less.largest_bit) (are_within less.largest_bit ss) e))

  pub snapshots_stay : (snapshots : List Snapshot) → AreSnapshots less snapshots → AreSnapshots more snapshots
  snapshots_stay snapshots is =
      let count = nat_le (length snapshots) less.snapshots in
      let rising = are_rising 0 snapshots in
      let inside = are_within less.largest_bit snapshots in
      let distinct = are_distinct snapshots in
      let third = and_left (count && rising && inside) distinct is.held in
      let second = and_left (count && rising) inside third in
      let few = within (length snapshots) less.snapshots more.snapshots allows.snapshots (and_left count rising second) in
      let bits = within_stays snapshots (and_right (count && rising) inside third) in
      let two = and_both (nat_le (length snapshots) more.snapshots) rising few (and_right count rising second) in
      let three = and_both (nat_le (length snapshots) more.snapshots && rising) (are_within more.largest_bit snapshots) two bits in
      record {
        each = is.each;
        held = and_both (nat_le (length snapshots) more.snapshots && rising && are_within more.largest_bit snapshots) distinct three (and_right (count && rising && inside) distinct is.held);
      }
