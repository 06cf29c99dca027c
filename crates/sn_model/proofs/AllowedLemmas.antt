-- A name tree stays one under limits that allow more, and what can be done to it can be done under them.
use Rattle.std.proofs.Common.{◌≡◌, ℕ, ◌+◌, ◌≤◌, true, ◌&&◌, ◌||◌, ◌==◌, List, [], ◌∷◌, length, Some, inl, inr, arith, ltb-true}
use Rattle.std.specs.Prelude.{nat_lt, nat_le, is_none, is_some}
use Rattle.std.specs.List.{list_all}
use Rattle.std.specs.FinMap as map
use Rattle.std.proofs.lemmas.Bool.{leb-true, le-leb, lt-ltb}
use Rattle.sn_limits.specs.declared.limits.Limits.{Limits}
use Rattle.sn_limits.specs.Versions.{Allows}
use Rattle.sn_model.specs.Changes.{apply, apply_all, file_at, is_free_number}
use Rattle.sn_model.specs.NameTree.{IsTree, IsNode}
use Rattle.sn_model.specs.declared.change.Change.{Change}
use Rattle.sn_model.specs.declared.change.Change.TheVariants.{Make, AddLink, Remove, Rename, Write, SetSize, SetAttributes}
use Rattle.sn_model.specs.declared.link.Link.{Link}
use Rattle.sn_model.specs.Tree.{Node, Tree, link_to, names_in, names_for}
use Rattle.sn_model.proofs.ChainLemmas.{and_both, and_left, and_right, bind_some, some_bind}
use Rattle.sn_model.proofs.PartLemmas.{HasRoomFor, made_is, made_of, linked_is, linked_of, IsRenamed, renamed_is, renamed_of, fits_file, written_is, written_of, cut_is, cut_of}

below : (n a b : ℕ) → a ≤ b → nat_lt n a ≡ true → nat_lt n b ≡ true
below n a b le e = lt-ltb n b (omega (arith, le, ltb-true n a e))

within : (n a b : ℕ) → a ≤ b → nat_le n a ≡ true → nat_le n b ≡ true
within n a b le e = le-leb n b (omega (arith, le, leb-true n a e))

module _ (less more : Limits) (allows : Allows less more) where
  pub tree_stays : (tree : Tree) → IsTree less tree → IsTree more tree
  tree_stays tree is = record {
    hierarchy = is.hierarchy;
    nodes = record {
      nodes = λ number node e. node_stays number node (is.nodes.nodes number node e);
      names = is.nodes.names;
      hidden = is.nodes.hidden;
    };
    few = record {
      names = λ directory. omega (arith, is.few.names directory, allows.names);
      links = λ number file. omega (arith, is.few.links number file, allows.links);
    };
  }
    where
      node_stays : (number : ℕ) (node : Node) → IsNode less number node → IsNode more number node
      node_stays number node n = record {
        first = n.first;
        within = omega (arith, n.within, allows.numbers);
        owner = n.owner;
        group = n.group;
        acl = n.acl;
        default_acl = n.default_acl;
        of_file = n.of_file;
        of_directory = n.of_directory;
        bytes = n.bytes;
        size = omega (arith, n.size, allows.files);
      }

  room_stays : (tree : Tree) (link : Link) (number : ℕ) → HasRoomFor less tree link number → HasRoomFor more tree link number
  room_stays tree link number r = record {
    directory = r.directory;
    parent = r.parent;
    names = below (names_in tree link.directory) less.names more.names allows.names r.names;
    links = below (names_for tree number) less.links more.links allows.links r.links;
  }

  free_stays : (tree : Tree) (number : ℕ) → is_free_number less tree number ≡ true → is_free_number more tree number ≡ true
  free_stays tree number e =
      let vacant = is_none (map.get tree.nodes number) || (is_some (file_at tree number) && names_for tree number == 0) in
      let front = and_left (nat_lt 2 number && nat_le number less.largest_number) vacant e in
      and_both (nat_lt 2 number && nat_le number more.largest_number) vacant
      (and_both (nat_lt 2 number) (nat_le number more.largest_number) (and_left (nat_lt 2 number) (nat_le number less.largest_number) front)
      (within number less.largest_number more.largest_number allows.numbers (and_right (nat_lt 2 number) (nat_le number less.largest_number) front)))
      (and_right (nat_lt 2 number && nat_le number less.largest_number) vacant e)

  bytes_stay : (offset : ℕ) (bytes : List ℕ) → fits_file less offset bytes ≡ true → fits_file more offset bytes ≡ true
  bytes_stay offset bytes e =
      let some = nat_lt 0 (length bytes) in
      let are = list_all (λ b. nat_lt b 256) bytes in
      let front = and_left (some && nat_le (offset + length bytes) less.largest_file) are e in
      and_both (some && nat_le (offset + length bytes) more.largest_file) are
      (and_both some (nat_le (offset + length bytes) more.largest_file) (and_left some (nat_le (offset + length bytes) less.largest_file) front)
      (within (offset + length bytes) less.largest_file more.largest_file allows.files (and_right some (nat_le (offset + length bytes) less.largest_file) front)))
      (and_right (some && nat_le (offset + length bytes) less.largest_file) are e)

  renamed_stays : (tree : Tree) (old new : Link) (number : ℕ) (node : Node) (after : Tree) → IsRenamed less tree old new number node after → IsRenamed more tree old new number node after
  renamed_stays tree old new number node after (inl p) = inl p
  renamed_stays tree old new number node after (inr (other, m)) = inr (
    other,
    record {
      directory = m.directory;
      parent = m.parent;
      name = m.name;
      cleared = m.cleared;
      cleared_is = m.cleared_is;
      room = room_stays _ new number m.room;
      gives = m.gives;
    },
  )

  pub change_stays : (change : Change) (tree after : Tree) → apply less change tree ≡ Some after → apply more change tree ≡ Some after
  change_stays (Make directory name number kind o) tree after e =
      let p = made_is less tree (link_to directory name) number kind o after e in
      made_of more tree (link_to directory name) number kind o after (record { free = free_stays tree number p.free; vacant = p.vacant; owned = p.owned; room = room_stays tree (link_to directory name) number p.room; gives = p.gives })
  change_stays (AddLink directory name number) tree after e =
      let p = linked_is less tree (link_to directory name) number after e in
      linked_of more tree (link_to directory name) number after (record { node = p.node; file = p.file; vacant = p.vacant; room = room_stays tree (link_to directory name) number p.room; gives = p.gives })
  change_stays (Remove directory name) tree after e = e
  change_stays (Rename old_directory old_name new_directory new_name) tree after e =
      let old = link_to old_directory old_name in
      let new = link_to new_directory new_name in
      let p = renamed_is less tree old new after e in
      renamed_of more tree old new after (record { number = p.number; node = p.node; named = p.named; there = p.there; done = renamed_stays tree old new p.number p.node after p.done })
  change_stays (Write number offset bytes) tree after e =
      let p = written_is less tree number offset bytes after e in
      written_of more tree number offset bytes after (record { node = p.node; file = p.file; fits = bytes_stay offset bytes p.fits; gives = p.gives })
  change_stays (SetSize number size) tree after e =
      let p = cut_is less tree number size after e in
      cut_of more tree number size after (record { node = p.node; file = p.file; fits = within size less.largest_file more.largest_file allows.files p.fits; gives = p.gives })
  change_stays (SetAttributes number o) tree after e = e

  pub list_stays : (changes : List Change) (tree after : Tree) → apply_all less changes tree ≡ Some after → apply_all more changes tree ≡ Some after
  unfolding apply_all
  list_stays [] tree after e = e
  list_stays (c ∷ cs) tree after e =
      let one = bind_some (apply less c tree) (apply_all less cs) after e in
      some_bind (apply more c tree) (apply_all more cs) one.0 (Some after) (change_stays c tree one.0 one.1) (list_stays cs one.0 after one.2)
