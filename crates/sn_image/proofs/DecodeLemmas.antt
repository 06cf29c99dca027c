-- What is spelled is read as it was spelled.
use Rattle.std.proofs.Common.{◌≡◌, ℕ, zero, suc, ◌+◌, ◌-◌, ◌*◌, ◌/◌, ◌%◌, ◌^◌, ◌<◌, ◌≤◌, ◌==◌, ◌&&◌, Bool, true, false, if◌then◌else◌, List, [], ◌∷◌, ◌++◌, length, take, drop, Option, Some, None, IsTrue, slice_index, refl, sym, ap, ◌∙◌, arith, append_assoc, length-append}
use Rattle.std.specs.Prelude.{nat_lt, nat_le}
use Rattle.std.specs.Option.{option_map}
use Rattle.std.specs.List.{AllByRecursion}
use Rattle.std.proofs.lemmas.Bool.{leb-true, le-leb, ltb-true}
use Rattle.std.proofs.lemmas.List.{take_at, drop_at}
use Rattle.byteorder.specs.Endian.{little_number}
use Rattle.byteorder.specs.Numbers.{little_number-reads_back}
use Rattle.sn_acl.specs.declared.entries.Tag.{Tag}
use Rattle.sn_acl.specs.declared.entries.Tag.TheVariants.{UserObj, User, GroupObj, Group, Mask, Other}
use Rattle.sn_acl.specs.declared.entries.Entry.{Entry}
use Rattle.sn_acl.specs.declared.modes.Mode.{Mode}
use Rattle.sn_acl.specs.Modes.{mode_bits}
use Rattle.sn_limits.specs.declared.kind.Kind.{Kind}
use Rattle.sn_limits.specs.declared.kind.Kind.TheVariants.{File, Directory}
use Rattle.sn_limits.specs.declared.limits.Limits.{Limits}
use Rattle.sn_layout.specs.Bytes.{number_bytes, numbers_bytes, zeros}
use Rattle.sn_layout.specs.BlockTree.{IsBlockTree}
use Rattle.sn_layout.proofs.Fields.{length-zeros}
use Rattle.sn_layout_acl.specs.AclEntry.{IsEntry, tag_number, entry_bytes, entries_bytes}
use Rattle.sn_layout_acl.specs.AclBlock.{IsAclBlock, IsDefault, acl_block_bytes, default_entries}
use Rattle.sn_layout_acl.specs.declared.acl_block.AclBlock.{AclBlock}
use Rattle.sn_layout_acl.proofs.AclLists.{named_entries, default_each, valid_some}
use Rattle.sn_layout_acl.proofs.EntryLists.{length-entries}
use Rattle.sn_layout_node.specs.Directory.{Link, IsLink, Spells, begins_link, link_bytes, links_bytes}
use Rattle.sn_layout_node.proofs.Links.{length-link, length-links, none_left}
use Rattle.sn_image.specs.Acls.{tag_in, entry_in, entries_in, acl_of, acls_in}
use Rattle.sn_image.specs.Names.{first_name, names_within, names_in}
use Rattle.sn_acl.specs.Entries.{qualifier_of}
use Rattle.sn_layout.specs.declared.tree.BlockTree.{BlockTree}
use Rattle.sn_layout_acl.specs.Mode.{IsMode}
use Rattle.sn_layout_node.specs.declared.content.Content.{Content}
use Rattle.sn_layout_node.specs.declared.content.Content.TheVariants.{Inline, Tree}
use Rattle.sn_layout_node.specs.declared.inode.Inode.{Inode}
use Rattle.sn_layout_node.specs.Inode.{IsInode, IsContent, inode_bytes, content_bytes, kind_number, flags_number, size_of}
use Rattle.sn_layout_node.proofs.Heads.{head_fits}
use Rattle.sn_ondisk.specs.Blocks.{numbers_in}
use Rattle.sn_ondisk.proofs.BlockLemmas.{numbers_in-numbers_bytes}
use Rattle.sn_image.specs.Inodes.{number_at, kind_of, mode_in, size_in, content_in, tree_in, inode_in, inode_of}

-- ---- inodes

mode_again : (mode : Mode) → IsMode mode → mode_in (mode_bits mode) ≡ mode
mode_again mode fits =
    let owner : (mode_bits mode / 64) % 8 ≡ mode.owner = omega (arith, fits.owner, fits.group, fits.other) in
    let group : (mode_bits mode / 8) % 8 ≡ mode.group = omega (arith, fits.owner, fits.group, fits.other) in
    let other : mode_bits mode % 8 ≡ mode.other = omega (arith, fits.owner, fits.group, fits.other) in
    λ i. record { owner = owner i; group = group i; other = other i }

mode_small : (mode : Mode) → IsMode mode → mode_bits mode < 256 ^ 2
mode_small mode fits = omega (arith, fits.owner, fits.group, fits.other)

module _ (limits : Limits) (inode : Inode) (fits : IsInode limits inode) where
  size_again : size_in (inode_bytes inode) ≡ size_of inode.content
  unfolding number_bytes zeros
  size_again = little_number-reads_back 8 (size_of inode.content) [] (head_fits limits inode fits).size

  links_again : number_at (inode_bytes inode) 4 2 ≡ inode.links
  unfolding number_bytes zeros
  links_again = little_number-reads_back 2 inode.links [] (head_fits limits inode fits).links

  owner_again : number_at (inode_bytes inode) 8 4 ≡ inode.owner
  unfolding number_bytes zeros
  owner_again = little_number-reads_back 4 inode.owner [] (head_fits limits inode fits).owner

  group_again : number_at (inode_bytes inode) 12 4 ≡ inode.group
  unfolding number_bytes zeros
  group_again = little_number-reads_back 4 inode.group [] (head_fits limits inode fits).group

  acl_again : number_at (inode_bytes inode) 24 4 ≡ inode.acl_block
  unfolding number_bytes zeros
  acl_again = little_number-reads_back 4 inode.acl_block [] (head_fits limits inode fits).acl_block

  objects_again : mode_in (number_at (inode_bytes inode) 2 2) ≡ inode.objects
  unfolding number_bytes zeros
  objects_again = ap mode_in (little_number-reads_back 2 (mode_bits inode.objects) [] (mode_small inode.objects fits.objects)) ∙ mode_again inode.objects fits.objects

  content_behind : drop 64 (inode_bytes inode) ≡ content_bytes inode.content
  unfolding number_bytes zeros
  content_behind = refl

  flag_bits : (a b : Bool) → (((flags_number a b % 2) == 1) ≡ a) × ((((flags_number a b / 2) % 2) == 1) ≡ b)
  flag_bits false false = (refl, refl)
  flag_bits false true = (refl, refl)
  flag_bits true false = (refl, refl)
  flag_bits true true = (refl, refl)

  flags_again : slice_index (inode_bytes inode) 1 ≡ flags_number inode.set_gid inode.sticky
  unfolding number_bytes zeros
  flags_again = refl

-- ---- contents

inline_again : (bytes : List ℕ) → length bytes ≤ 64 → (size : ℕ) → size ≡ length bytes → (record_bytes : List ℕ) → drop 64 record_bytes ≡ content_bytes (Inline bytes) → size_in record_bytes ≡ size → content_in File record_bytes ≡ Inline bytes
inline_again bytes small size is record_bytes behind at =
    let few : nat_le (size_in record_bytes) 64 ≡ true = le-leb (size_in record_bytes) 64 (omega (arith, small, is, at)) in
    let part : take (size_in record_bytes) (drop 64 record_bytes) ≡ bytes =
    ap (λ (r : List ℕ). take (size_in record_bytes) r) behind ∙ take_at bytes (zeros (64 - length bytes)) (size_in record_bytes) (sym (at ∙ is)) in
    ap (λ (b : Bool). if b then Inline (take (size_in record_bytes) (drop 64 record_bytes)) else Tree (tree_in record_bytes)) few
    ∙ ap (λ (b : List ℕ). Inline b) part

tree_again : (tree : BlockTree) → IsBlockTree tree → (record_bytes : List ℕ) → drop 64 record_bytes ≡ numbers_bytes 4 tree.pointers → size_in record_bytes ≡ tree.size → tree_in record_bytes ≡ tree
tree_again tree fits record_bytes behind at =
    let pointers : numbers_in 16 (drop 64 record_bytes) ≡ tree.pointers =
    ap (numbers_in 16) behind ∙ ap (λ (n : ℕ). numbers_in n (numbers_bytes 4 tree.pointers)) (sym fits.pointers.count) ∙ numbers_in-numbers_bytes tree.pointers fits.pointers.fit in
    λ i. record { size = at i; pointers = pointers i }

large : (limit size : ℕ) → IsTrue (nat_lt 64 size && nat_le size limit) → nat_le size 64 ≡ false
large limit size is = told (nat_le size 64) refl
  where
    first : (a b : Bool) → IsTrue (a && b) → a ≡ true
    first true b h = refl
    first false b h = absurd cc

    told : (b : Bool) → nat_le size 64 ≡ b → b ≡ false
    told true e = absurd (omega (arith, leb-true size 64 e, ltb-true 64 size (first (nat_lt 64 size) (nat_le size limit) is)))
    told false e = refl

content_again : (limits : Limits) (kind : Kind) (content : Content) → IsContent limits kind content → (record_bytes : List ℕ) → drop 64 record_bytes ≡ content_bytes content → size_in record_bytes ≡ size_of content → content_in kind record_bytes ≡ content
content_again limits File (Inline bytes) fits record_bytes behind at = inline_again bytes fits (length bytes) refl record_bytes behind at
content_again limits File (Tree tree) fits record_bytes behind at =
    ap (λ (b : Bool). if b then Inline (take (size_in record_bytes) (drop 64 record_bytes)) else Tree (tree_in record_bytes)) (ap (λ (n : ℕ). nat_le n 64) at ∙ large limits.largest_file tree.size fits.1)
    ∙ ap (λ (t : BlockTree). Tree t) (tree_again tree fits.0 record_bytes behind at)
content_again limits Directory (Inline bytes) fits record_bytes behind at = absurd fits
content_again limits Directory (Tree tree) fits record_bytes behind at = ap (λ (t : BlockTree). Tree t) (tree_again tree fits.0 record_bytes behind at)

module _ (limits : Limits) (inode : Inode) (fits : IsInode limits inode) where
  fields_again : inode_in (inode_bytes inode) inode.kind ≡ inode
  unfolding inode_in
  fields_again =
      let flags = flag_bits limits inode fits inode.set_gid inode.sticky in
      let at_flags = flags_again limits inode fits in
      let set_gid : ((slice_index (inode_bytes inode) 1 % 2) == 1) ≡ inode.set_gid = ap (λ (n : ℕ). (n % 2) == 1) at_flags ∙ flags.0 in
      let sticky : (((slice_index (inode_bytes inode) 1 / 2) % 2) == 1) ≡ inode.sticky = ap (λ (n : ℕ). ((n / 2) % 2) == 1) at_flags ∙ flags.1 in
      let objects = objects_again limits inode fits in
      let links = links_again limits inode fits in
      let owner = owner_again limits inode fits in
      let group = group_again limits inode fits in
      let acl = acl_again limits inode fits in
      let content = content_again limits inode.kind inode.content fits.content (inode_bytes inode) (content_behind limits inode fits) (size_again limits inode fits) in
      λ i. record {
        kind = inode.kind;
        set_gid = set_gid i;
        sticky = sticky i;
        objects = objects i;
        links = links i;
        owner = owner i;
        group = group i;
        acl_block = acl i;
        content = content i;
      }

  kind_again : (kind : Kind) → kind_of (kind_number kind) ≡ Some kind
  kind_again File = refl
  kind_again Directory = refl

  kind_first : slice_index (inode_bytes inode) 0 ≡ kind_number inode.kind
  unfolding number_bytes zeros
  kind_first = refl

  pub inode_read : inode_of (inode_bytes inode) ≡ Some inode
  unfolding inode_of
  inode_read = ap (option_map (inode_in (inode_bytes inode))) (ap kind_of kind_first ∙ kind_again inode.kind) ∙ ap (λ (x : Inode). Some x) fields_again

pub unused_read : inode_of (zeros 128) ≡ None
unfolding inode_of zeros
unused_read = refl

-- ---- ACL blocks

tag_again : (tag : Tag) → tag_in (tag_number tag) (qualifier_of tag) ≡ tag
tag_again UserObj = refl
tag_again (User n) = refl
tag_again GroupObj = refl
tag_again (Group n) = refl
tag_again Mask = refl
tag_again Other = refl

entry_again : (e : Entry) (rest : List ℕ) → IsEntry e → entry_in (entry_bytes e ++ rest) ≡ e
unfolding number_bytes zeros
entry_again e rest fits =
    let id = little_number-reads_back 4 (qualifier_of e.tag) [] fits.qualifier in
    let tag = ap (tag_in (tag_number e.tag)) id ∙ tag_again e.tag in
    λ i. record { tag = tag i; permissions = e.permissions }

entry_behind : (e : Entry) (rest : List ℕ) → drop 8 (entry_bytes e ++ rest) ≡ rest
unfolding number_bytes zeros
entry_behind e rest = refl

entries_again : (es : List Entry) (rest : List ℕ) → AllByRecursion IsEntry es → entries_in (length es) (entries_bytes es ++ rest) ≡ es
unfolding entries_in
entries_again [] rest fits = refl
entries_again (e ∷ es) rest fits =
    let flat : entries_bytes (e ∷ es) ++ rest ≡ entry_bytes e ++ (entries_bytes es ++ rest) = append_assoc (entry_bytes e) (entries_bytes es) rest in
    ap (λ (b : List ℕ). entry_in b ∷ entries_in (length es) (drop 8 b)) flat
    ∙ ap (λ (x : Entry). x ∷ entries_in (length es) (drop 8 (entry_bytes e ++ (entries_bytes es ++ rest)))) (entry_again e (entries_bytes es ++ rest) fits.0)
    ∙ ap (λ (b : List ℕ). e ∷ entries_in (length es) b) (entry_behind e (entries_bytes es ++ rest))
    ∙ ap (λ (xs : List Entry). e ∷ xs) (entries_again es rest fits.1)

default_again : (default : Option (List Entry)) → IsDefault default → acl_of (default_entries default) ≡ default
default_again None valid = refl
default_again (Some []) valid = absurd (omega (arith, valid_some [] valid))
default_again (Some (e ∷ es)) valid = refl

module _ (acls : AclBlock) (fits : IsAclBlock acls) where
  abbrev access_bytes : List ℕ
  access_bytes = entries_bytes acls.access

  abbrev default_bytes : List ℕ
  default_bytes = entries_bytes (default_entries acls.default)

  abbrev left : List ℕ
  left = zeros (4088 - 8 * (length acls.access + length (default_entries acls.default)))

  counts_first : (slice_index (acl_block_bytes acls) 0 ≡ length acls.access) × (slice_index (acl_block_bytes acls) 1 ≡ length (default_entries acls.default))
  unfolding zeros
  counts_first = (refl, refl)

  lists_behind : drop 8 (acl_block_bytes acls) ≡ access_bytes ++ (default_bytes ++ left)
  unfolding zeros
  lists_behind = append_assoc access_bytes default_bytes left

  pub acls_read : acls_in (acl_block_bytes acls) ≡ acls
  unfolding acls_in
  acls_read =
      let access : entries_in (slice_index (acl_block_bytes acls) 0) (drop 8 (acl_block_bytes acls)) ≡ acls.access =
      ap (λ (n : ℕ). entries_in n (drop 8 (acl_block_bytes acls))) counts_first.0
      ∙ ap (entries_in (length acls.access)) lists_behind
      ∙ entries_again acls.access (default_bytes ++ left) (named_entries acls.access fits.access) in
      let behind : drop (8 * slice_index (acl_block_bytes acls) 0) (drop 8 (acl_block_bytes acls)) ≡ default_bytes ++ left =
      ap (λ (b : List ℕ). drop (8 * slice_index (acl_block_bytes acls) 0) b) lists_behind
      ∙ drop_at access_bytes (default_bytes ++ left) (8 * slice_index (acl_block_bytes acls) 0) (omega (arith, counts_first.0, length-entries acls.access)) in
      let others : entries_in (slice_index (acl_block_bytes acls) 1) (drop (8 * slice_index (acl_block_bytes acls) 0) (drop 8 (acl_block_bytes acls))) ≡ default_entries acls.default =
      ap (λ (n : ℕ). entries_in n (drop (8 * slice_index (acl_block_bytes acls) 0) (drop 8 (acl_block_bytes acls)))) counts_first.1
      ∙ ap (entries_in (length (default_entries acls.default))) behind
      ∙ entries_again (default_entries acls.default) left (default_each acls.default fits.default) in
      let default : acl_of (entries_in (slice_index (acl_block_bytes acls) 1) (drop (8 * slice_index (acl_block_bytes acls) 0) (drop 8 (acl_block_bytes acls)))) ≡ acls.default = ap acl_of others ∙ default_again acls.default fits.default in
      λ i. record { access = access i; default = default i }

-- ---- directory blocks

long_zeros : (n : ℕ) → begins_link (zeros n) ≡ false
unfolding zeros
long_zeros zero = refl
long_zeros (suc zero) = refl
long_zeros (suc (suc n)) = no_test (nat_le 3 (length (zeros (suc (suc n)))))
  where
    no_test : (b : Bool) → (b && false) ≡ false
    no_test true = refl
    no_test false = refl

-- a name begins where one is left
begins : (link : Link) (links : List Link) (n : ℕ) → AllByRecursion IsLink (link ∷ links) → begins_link (link_bytes link ++ (links_bytes links ++ zeros n)) ≡ true
begins link links n each = told (begins_link (link_bytes link ++ (links_bytes links ++ zeros n))) refl
  where
    told : (b : Bool) → begins_link (link_bytes link ++ (links_bytes links ++ zeros n)) ≡ b → b ≡ true
    told true e = refl
    told false e =
        let flat : links_bytes (link ∷ links) ++ zeros n ≡ link_bytes link ++ (links_bytes links ++ zeros n) = append_assoc (link_bytes link) (links_bytes links) (zeros n) in
        let none = none_left (link_bytes link ++ (links_bytes links ++ zeros n)) n e (link ∷ links, each, sym flat) in
        absurd (omega (arith, ap length none, length-append (link_bytes link) (links_bytes links ++ zeros n), length-append (links_bytes links) (zeros n), length-link link, length-zeros n))

first_again : (link : Link) (rest : List ℕ) → IsLink link → first_name (link_bytes link ++ rest) ≡ link
unfolding number_bytes
first_again link rest fits =
    let number : little_number 2 (link_bytes link ++ rest) ≡ link.number = little_number-reads_back 2 link.number [] fits.most in
    let name : take (length link.name) (link.name ++ rest) ≡ link.name = take_at link.name rest (length link.name) refl in
    λ i. record { number = number i; name = name i }

behind_first : (link : Link) (rest : List ℕ) → drop (slice_index (link_bytes link ++ rest) 2) (drop 3 (link_bytes link ++ rest)) ≡ rest
unfolding number_bytes
behind_first link rest = drop_at link.name rest (length link.name) refl

names_again : (n : ℕ) (links : List Link) (m : ℕ) → AllByRecursion IsLink links → length (links_bytes links) ≤ n → names_within n (links_bytes links ++ zeros m) ≡ links
unfolding names_within
names_again zero [] m each room = refl
names_again (suc n) [] m each room = ap (λ (b : Bool). if b then first_name (zeros m) ∷ names_within n (drop (slice_index (zeros m) 2) (drop 3 (zeros m))) else []) (long_zeros m)
names_again zero (link ∷ links) m each room = absurd (omega (arith, length-links link links))
names_again (suc n) (link ∷ links) m each room =
    let rest = links_bytes links ++ zeros m in
    let flat : links_bytes (link ∷ links) ++ zeros m ≡ link_bytes link ++ rest = append_assoc (link_bytes link) (links_bytes links) (zeros m) in
    ap (names_within (suc n)) flat
    ∙ ap (λ (b : Bool). if b then first_name (link_bytes link ++ rest) ∷ names_within n (drop (slice_index (link_bytes link ++ rest) 2) (drop 3 (link_bytes link ++ rest))) else []) (begins link links m each)
    ∙ ap (λ (l : Link). l ∷ names_within n (drop (slice_index (link_bytes link ++ rest) 2) (drop 3 (link_bytes link ++ rest)))) (first_again link rest each.0)
    ∙ ap (λ (b : List ℕ). link ∷ names_within n b) (behind_first link rest)
    ∙ ap (λ (ls : List Link). link ∷ ls) (names_again n links m each.1 (omega (arith, room, length-links link links)))

pub directory_read : (block : List ℕ) (links : List Link) → Spells block links → names_in block ≡ links
unfolding names_in
directory_read block links spells =
    let room : length (links_bytes links) ≤ length block = omega (arith, ap length spells.bytes, length-append (links_bytes links) (zeros (4096 - length (links_bytes links)))) in
    ap (names_within (length block)) spells.bytes ∙ names_again (length block) links (4096 - length (links_bytes links)) spells.fit.each room
