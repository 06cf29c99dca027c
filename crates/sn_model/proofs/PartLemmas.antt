-- Each change as its parts: what holds where it can be applied, and that it can where they hold.
use Rattle.std.proofs.Common.{◌≡◌, ℕ, ◌+◌, Bool, true, false, cond, ◌&&◌, ◌==◌, nat_lt, nat_le, List, [], length, Option, Some, refl, sym, ap, ◌∙◌, ◌⊎◌, inl, inr}
use Rattle.std.specs.List.{list_all}
use Rattle.std.specs.FinMap as map
use Rattle.sn_limits.specs.declared.kind.Kind.{Kind}
use Rattle.sn_walk.specs.Views.{is_directory}
use Rattle.sn_limits.specs.declared.limits.Limits.{Limits}
use Rattle.sn_model.specs.declared.change.Ownership.{Ownership}
use Rattle.sn_model.specs.declared.link.Link.{Link}
use Rattle.sn_model.specs.Chains.{◌>>=◌, only_if}
use Rattle.sn_model.specs.Tree.{Node, Tree, names_in, names_for}
use Rattle.sn_model.specs.Changes.{is_file, same_kind, directory_at, file_at, is_ownership, is_vacant, has_room_for, is_free_number, node_with, put_node, put_link, take_link, take_node, made, linked, unlinked, removed, replaced, is_new_name, same_number, exchanged, moved, renamed, resized, overwritten, with_bytes, written, cut, owned}
use Rattle.sn_model.proofs.ChainLemmas.{bind_some, some_bind, only_some, some_only, only_true, and_left, and_right, and_both, some_same}

pub file_is : (tree : Tree) (number : ℕ) (node : Node) → file_at tree number ≡ Some node → (map.get tree.nodes number ≡ Some node) × (is_file node.kind ≡ true)
file_is tree number node e =
    let s = bind_some (map.get tree.nodes number) (λ n. only_if (is_file n.kind) >>= (λ _. Some n)) node e in
    let t = only_some (is_file s.0.kind) (Some s.0) node s.2 in
    let same = some_same _ _ t.1 in
    (s.1 ∙ t.1, ap (λ (n : Node). is_file n.kind) (sym same) ∙ t.0)

pub is_file_at : (tree : Tree) (number : ℕ) (node : Node) → map.get tree.nodes number ≡ Some node → is_file node.kind ≡ true → file_at tree number ≡ Some node
is_file_at tree number node e f = some_bind _ (λ n. only_if (is_file n.kind) >>= (λ _. Some n)) node (Some node) e (some_only (is_file node.kind) (Some node) (Some node) f refl)

pub directory_is : (tree : Tree) (number : ℕ) (node : Node) → directory_at tree number ≡ Some node → (map.get tree.nodes number ≡ Some node) × (is_directory node.kind ≡ true)
directory_is tree number node e =
    let s = bind_some (map.get tree.nodes number) (λ n. only_if (is_directory n.kind) >>= (λ _. Some n)) node e in
    let t = only_some (is_directory s.0.kind) (Some s.0) node s.2 in
    let same = some_same _ _ t.1 in
    (s.1 ∙ t.1, ap (λ (n : Node). is_directory n.kind) (sym same) ∙ t.0)

pub is_directory_at : (tree : Tree) (number : ℕ) (node : Node) → map.get tree.nodes number ≡ Some node → is_directory node.kind ≡ true → directory_at tree number ≡ Some node
is_directory_at tree number node e f = some_bind _ (λ n. only_if (is_directory n.kind) >>= (λ _. Some n)) node (Some node) e (some_only (is_directory node.kind) (Some node) (Some node) f refl)

-- a directory and a number that may get one more name
pub record HasRoomFor (limits : Limits) (tree : Tree) (link : Link) (number : ℕ) : Type 0 where
  pub directory : Node
  pub parent : directory_at tree link.directory ≡ Some directory
  pub names : nat_lt (names_in tree link.directory) limits.names ≡ true
  pub links : nat_lt (names_for tree number) limits.links ≡ true

room_for : (limits : Limits) (tree : Tree) (link : Link) (number : ℕ) (u : Unit {0}) → has_room_for limits tree link number ≡ Some u → HasRoomFor limits tree link number
room_for limits tree link number u e =
    let s = bind_some (directory_at tree link.directory) (λ _. only_if (nat_lt (names_in tree link.directory) limits.names && nat_lt (names_for tree number) limits.links)) u e in
    let t = only_true _ u s.2 in
    record {
      directory = s.0;
      parent = s.1;
      names = and_left _ (nat_lt (names_for tree number) limits.links) t;
      links = and_right (nat_lt (names_in tree link.directory) limits.names) _ t;
    }

room_of : (limits : Limits) (tree : Tree) (link : Link) (number : ℕ) → HasRoomFor limits tree link number → has_room_for limits tree link number ≡ Some tt
room_of limits tree link number p =
    some_bind (directory_at tree link.directory) (λ _. only_if (nat_lt (names_in tree link.directory) limits.names && nat_lt (names_for tree number) limits.links)) p.directory _ p.parent
    (ap only_if (and_both _ _ p.names p.links))

pub record Made (limits : Limits) (tree : Tree) (link : Link) (number : ℕ) (kind : Kind) (o : Ownership) (after : Tree) : Type 0 where
  pub free : is_free_number limits tree number ≡ true
  pub vacant : is_vacant tree link ≡ true
  pub owned : is_ownership kind o ≡ true
  pub room : HasRoomFor limits tree link number
  pub gives : put_link (put_node tree number (node_with kind o [])) link number ≡ after

pub made_is : (limits : Limits) (tree : Tree) (link : Link) (number : ℕ) (kind : Kind) (o : Ownership) (after : Tree) → made limits tree link number kind o ≡ Some after → Made limits tree link number kind o after
unfolding made
made_is limits tree link number kind o after e =
    let whole = put_link (put_node tree number (node_with kind o [])) link number in
    let s = only_some (is_free_number limits tree number && is_vacant tree link && is_ownership kind o) (has_room_for limits tree link number >>= (λ _. Some whole)) after e in
    let u = bind_some (has_room_for limits tree link number) (λ _. Some whole) after s.1 in
    let both = and_left (is_free_number limits tree number && is_vacant tree link) (is_ownership kind o) s.0 in
    record {
      free = and_left _ (is_vacant tree link) both;
      vacant = and_right (is_free_number limits tree number) _ both;
      owned = and_right (is_free_number limits tree number && is_vacant tree link) _ s.0;
      room = room_for limits tree link number u.0 u.1;
      gives = some_same _ _ u.2;
    }

pub made_of : (limits : Limits) (tree : Tree) (link : Link) (number : ℕ) (kind : Kind) (o : Ownership) (after : Tree) → Made limits tree link number kind o after → made limits tree link number kind o ≡ Some after
unfolding made
made_of limits tree link number kind o after p =
    let whole = put_link (put_node tree number (node_with kind o [])) link number in
    some_only (is_free_number limits tree number && is_vacant tree link && is_ownership kind o) _ _ (and_both _ _ (and_both _ _ p.free p.vacant) p.owned)
    (some_bind (has_room_for limits tree link number) (λ _. Some whole) tt _ (room_of limits tree link number p.room) (ap (λ (t : Tree). Some t) p.gives))

pub record Linked (limits : Limits) (tree : Tree) (link : Link) (number : ℕ) (after : Tree) : Type 0 where
  pub node : Node
  pub file : file_at tree number ≡ Some node
  pub vacant : is_vacant tree link ≡ true
  pub room : HasRoomFor limits tree link number
  pub gives : put_link tree link number ≡ after

pub linked_is : (limits : Limits) (tree : Tree) (link : Link) (number : ℕ) (after : Tree) → linked limits tree link number ≡ Some after → Linked limits tree link number after
unfolding linked
linked_is limits tree link number after e =
    let a = bind_some (file_at tree number) (λ _. only_if (is_vacant tree link) >>= (λ _. has_room_for limits tree link number >>= (λ _. Some (put_link tree link number)))) after e in
    let s = only_some (is_vacant tree link) (has_room_for limits tree link number >>= (λ _. Some (put_link tree link number))) after a.2 in
    let u = bind_some (has_room_for limits tree link number) (λ _. Some (put_link tree link number)) after s.1 in
    record { node = a.0; file = a.1; vacant = s.0; room = room_for limits tree link number u.0 u.1; gives = some_same _ _ u.2 }

pub linked_of : (limits : Limits) (tree : Tree) (link : Link) (number : ℕ) (after : Tree) → Linked limits tree link number after → linked limits tree link number ≡ Some after
unfolding linked
linked_of limits tree link number after p =
    some_bind (file_at tree number) (λ _. only_if (is_vacant tree link) >>= (λ _. has_room_for limits tree link number >>= (λ _. Some (put_link tree link number)))) p.node _ p.file
    (some_only (is_vacant tree link) _ _ p.vacant
    (some_bind (has_room_for limits tree link number) (λ _. Some (put_link tree link number)) tt _ (room_of limits tree link number p.room) (ap (λ (t : Tree). Some t) p.gives)))

-- a directory's name goes with the directory, a file's alone
pub record DirectoryGone (tree : Tree) (link : Link) (number : ℕ) (node : Node) (after : Tree) : Type 0 where
  pub kind : is_directory node.kind ≡ true
  pub empty : (names_in tree number == 0) ≡ true
  pub gives : take_node (take_link tree link) number ≡ after

pub record NameGone (tree : Tree) (link : Link) (node : Node) (after : Tree) : Type 0 where
  pub kind : is_directory node.kind ≡ false
  pub gives : take_link tree link ≡ after

abbrev pub Unlinked : Tree → Link → ℕ → Node → Tree → Type 0
Unlinked tree link number node after = DirectoryGone tree link number node after ⊎ NameGone tree link node after

pub unlinked_is : (tree : Tree) (link : Link) (number : ℕ) (node : Node) (after : Tree) → unlinked tree link number node ≡ Some after → Unlinked tree link number node after
unlinked_is tree link number node after e = told (is_directory node.kind) refl e
  where
    told : (b : Bool) → is_directory node.kind ≡ b → cond b (only_if (names_in tree number == 0) >>= (λ _. Some (take_node (take_link tree link) number))) (Some (take_link tree link)) ≡ Some after → Unlinked tree link number node after
    told true k f = let s = only_some (names_in tree number == 0) (Some (take_node (take_link tree link) number)) after f in inl (record { kind = k; empty = s.0; gives = some_same _ _ s.1 })
    told false k f = inr (record { kind = k; gives = some_same _ _ f })

pub unlinked_of : (tree : Tree) (link : Link) (number : ℕ) (node : Node) (after : Tree) → Unlinked tree link number node after → unlinked tree link number node ≡ Some after
unlinked_of tree link number node after (inl p) =
    ap (λ b. cond b (only_if (names_in tree number == 0) >>= (λ _. Some (take_node (take_link tree link) number))) (Some (take_link tree link))) p.kind
    ∙ some_only (names_in tree number == 0) _ _ p.empty (ap (λ (t : Tree). Some t) p.gives)
unlinked_of tree link number node after (inr p) =
    ap (λ b. cond b (only_if (names_in tree number == 0) >>= (λ _. Some (take_node (take_link tree link) number))) (Some (take_link tree link))) p.kind
    ∙ ap (λ (t : Tree). Some t) p.gives

pub record Removed (tree : Tree) (link : Link) (after : Tree) : Type 0 where
  pub number : ℕ
  pub node : Node
  pub named : map.get tree.links link ≡ Some number
  pub there : map.get tree.nodes number ≡ Some node
  pub gone : unlinked tree link number node ≡ Some after

pub removed_is : (tree : Tree) (link : Link) (after : Tree) → removed tree link ≡ Some after → Removed tree link after
unfolding removed
removed_is tree link after e =
    let a = bind_some (map.get tree.links link) (λ number. map.get tree.nodes number >>= (λ node. unlinked tree link number node)) after e in
    let b = bind_some (map.get tree.nodes a.0) (λ node. unlinked tree link a.0 node) after a.2 in
    record { number = a.0; node = b.0; named = a.1; there = b.1; gone = b.2 }

pub removed_of : (tree : Tree) (link : Link) (after : Tree) → Removed tree link after → removed tree link ≡ Some after
unfolding removed
removed_of tree link after p =
    some_bind (map.get tree.links link) (λ number. map.get tree.nodes number >>= (λ node. unlinked tree link number node)) p.number _ p.named
    (some_bind (map.get tree.nodes p.number) (λ node. unlinked tree link p.number node) p.node _ p.there p.gone)

-- what had the new name of a rename
pub record Replaced (tree : Tree) (new : Link) (moved : Node) (number : ℕ) (after : Tree) : Type 0 where
  pub node : Node
  pub there : map.get tree.nodes number ≡ Some node
  pub alike : same_kind moved.kind node.kind ≡ true
  pub gone : unlinked tree new number node ≡ Some after

pub replaced_is : (tree : Tree) (new : Link) (moved : Node) (number : ℕ) (after : Tree) → replaced tree new moved (Some number) ≡ Some after → Replaced tree new moved number after
replaced_is tree new moved number after e =
    let a = bind_some (map.get tree.nodes number) (λ node. only_if (same_kind moved.kind node.kind) >>= (λ _. unlinked tree new number node)) after e in
    let s = only_some (same_kind moved.kind a.0.kind) (unlinked tree new number a.0) after a.2 in
    record { node = a.0; there = a.1; alike = s.0; gone = s.1 }

pub replaced_of : (tree : Tree) (new : Link) (moved : Node) (number : ℕ) (after : Tree) → Replaced tree new moved number after → replaced tree new moved (Some number) ≡ Some after
replaced_of tree new moved number after p =
    some_bind (map.get tree.nodes number) (λ node. only_if (same_kind moved.kind node.kind) >>= (λ _. unlinked tree new number node)) p.node _ p.there
    (some_only (same_kind moved.kind p.node.kind) _ _ p.alike p.gone)

pub record Moved (limits : Limits) (tree : Tree) (old new : Link) (number : ℕ) (node : Node) (after : Tree) : Type 0 where
  pub directory : Node
  pub parent : directory_at tree new.directory ≡ Some directory
  pub name : is_new_name tree new number node ≡ true
  pub cleared : Tree
  pub cleared_is : replaced tree new node (map.get tree.links new) ≡ Some cleared
  pub room : HasRoomFor limits (take_link cleared old) new number
  pub gives : put_link (take_link cleared old) new number ≡ after

moved_is : (limits : Limits) (tree : Tree) (old new : Link) (number : ℕ) (node : Node) (after : Tree) → moved limits tree old new number node ≡ Some after → Moved limits tree old new number node after
moved_is limits tree old new number node after e =
    let a = bind_some (directory_at tree new.directory) (λ _. only_if (is_new_name tree new number node) >>= (λ _. replaced tree new node (map.get tree.links new) >>= (λ cleared. exchanged limits cleared old new number))) after e in
    let s = only_some (is_new_name tree new number node) (replaced tree new node (map.get tree.links new) >>= (λ cleared. exchanged limits cleared old new number)) after a.2 in
    let p = bind_some (replaced tree new node (map.get tree.links new)) (λ cleared. exchanged limits cleared old new number) after s.1 in
    let u = bind_some (has_room_for limits (take_link p.0 old) new number) (λ _. Some (put_link (take_link p.0 old) new number)) after p.2 in
    record {
      directory = a.0;
      parent = a.1;
      name = s.0;
      cleared = p.0;
      cleared_is = p.1;
      room = room_for limits (take_link p.0 old) new number u.0 u.1;
      gives = some_same _ _ u.2;
    }

moved_of : (limits : Limits) (tree : Tree) (old new : Link) (number : ℕ) (node : Node) (after : Tree) → Moved limits tree old new number node after → moved limits tree old new number node ≡ Some after
moved_of limits tree old new number node after p =
    some_bind (directory_at tree new.directory) (λ _. only_if (is_new_name tree new number node) >>= (λ _. replaced tree new node (map.get tree.links new) >>= (λ cleared. exchanged limits cleared old new number))) p.directory _ p.parent
    (some_only (is_new_name tree new number node) _ _ p.name
    (some_bind (replaced tree new node (map.get tree.links new)) (λ cleared. exchanged limits cleared old new number) p.cleared _ p.cleared_is
    (some_bind (has_room_for limits (take_link p.cleared old) new number) (λ _. Some (put_link (take_link p.cleared old) new number)) tt _ (room_of limits (take_link p.cleared old) new number p.room) (ap (λ (t : Tree). Some t) p.gives))))

-- both names are of one object, or the name is moved
abbrev pub IsRenamed : Limits → Tree → Link → Link → ℕ → Node → Tree → Type 0
IsRenamed limits tree old new number node after = ((same_number number (map.get tree.links new) ≡ true) × (tree ≡ after)) ⊎ ((same_number number (map.get tree.links new) ≡ false) × Moved limits tree old new number node after)

pub record Renamed (limits : Limits) (tree : Tree) (old new : Link) (after : Tree) : Type 0 where
  pub number : ℕ
  pub node : Node
  pub named : map.get tree.links old ≡ Some number
  pub there : map.get tree.nodes number ≡ Some node
  pub done : IsRenamed limits tree old new number node after

abbrev renaming : Limits → Tree → Link → Link → ℕ → Node → Option Tree
renaming limits tree old new number node = cond (same_number number (map.get tree.links new)) (Some tree) (moved limits tree old new number node)

pub renamed_is : (limits : Limits) (tree : Tree) (old new : Link) (after : Tree) → renamed limits tree old new ≡ Some after → Renamed limits tree old new after
unfolding renamed
renamed_is limits tree old new after e =
    let a = bind_some (map.get tree.links old) (λ number. map.get tree.nodes number >>= (λ node. renaming limits tree old new number node)) after e in
    let b = bind_some (map.get tree.nodes a.0) (λ node. renaming limits tree old new a.0 node) after a.2 in
    record { number = a.0; node = b.0; named = a.1; there = b.1; done = told a.0 b.0 (same_number a.0 (map.get tree.links new)) refl b.2 }
  where
    told : (number : ℕ) (node : Node) (b : Bool) → same_number number (map.get tree.links new) ≡ b → cond b (Some tree) (moved limits tree old new number node) ≡ Some after → IsRenamed limits tree old new number node after
    told number node true t f = inl (t, some_same _ _ f)
    told number node false t f = inr (t, moved_is limits tree old new number node after f)

pub renamed_of : (limits : Limits) (tree : Tree) (old new : Link) (after : Tree) → Renamed limits tree old new after → renamed limits tree old new ≡ Some after
unfolding renamed
renamed_of limits tree old new after p =
    some_bind (map.get tree.links old) (λ number. map.get tree.nodes number >>= (λ node. renaming limits tree old new number node)) p.number _ p.named
    (some_bind (map.get tree.nodes p.number) (λ node. renaming limits tree old new p.number node) p.node _ p.there (told p.done))
  where
    told : IsRenamed limits tree old new p.number p.node after → renaming limits tree old new p.number p.node ≡ Some after
    told (inl q) = ap (λ b. cond b (Some tree) (moved limits tree old new p.number p.node)) q.0 ∙ ap (λ (t : Tree). Some t) q.1
    told (inr q) = ap (λ b. cond b (Some tree) (moved limits tree old new p.number p.node)) q.0 ∙ moved_of limits tree old new p.number p.node after q.1

abbrev pub fits_file : Limits → ℕ → List ℕ → Bool
fits_file limits offset bytes = nat_lt 0 (length bytes) && nat_le (offset + length bytes) limits.largest_file && list_all (λ b. nat_lt b 256) bytes

pub record Written (limits : Limits) (tree : Tree) (number offset : ℕ) (bytes : List ℕ) (after : Tree) : Type 0 where
  pub node : Node
  pub file : file_at tree number ≡ Some node
  pub fits : fits_file limits offset bytes ≡ true
  pub gives : with_bytes tree number node (overwritten node.bytes offset bytes) ≡ after

pub written_is : (limits : Limits) (tree : Tree) (number offset : ℕ) (bytes : List ℕ) (after : Tree) → written limits tree number offset bytes ≡ Some after → Written limits tree number offset bytes after
unfolding written
written_is limits tree number offset bytes after e =
    let a = bind_some (file_at tree number) (λ node. only_if (fits_file limits offset bytes) >>= (λ _. Some (with_bytes tree number node (overwritten node.bytes offset bytes)))) after e in
    let s = only_some (fits_file limits offset bytes) (Some (with_bytes tree number a.0 (overwritten a.0.bytes offset bytes))) after a.2 in
    record { node = a.0; file = a.1; fits = s.0; gives = some_same _ _ s.1 }

pub written_of : (limits : Limits) (tree : Tree) (number offset : ℕ) (bytes : List ℕ) (after : Tree) → Written limits tree number offset bytes after → written limits tree number offset bytes ≡ Some after
unfolding written
written_of limits tree number offset bytes after p =
    some_bind (file_at tree number) (λ node. only_if (fits_file limits offset bytes) >>= (λ _. Some (with_bytes tree number node (overwritten node.bytes offset bytes)))) p.node _ p.file
    (some_only (fits_file limits offset bytes) _ _ p.fits (ap (λ (t : Tree). Some t) p.gives))

pub record Cut (limits : Limits) (tree : Tree) (number size : ℕ) (after : Tree) : Type 0 where
  pub node : Node
  pub file : file_at tree number ≡ Some node
  pub fits : nat_le size limits.largest_file ≡ true
  pub gives : with_bytes tree number node (resized node.bytes size) ≡ after

pub cut_is : (limits : Limits) (tree : Tree) (number size : ℕ) (after : Tree) → cut limits tree number size ≡ Some after → Cut limits tree number size after
unfolding cut
cut_is limits tree number size after e =
    let a = bind_some (file_at tree number) (λ node. only_if (nat_le size limits.largest_file) >>= (λ _. Some (with_bytes tree number node (resized node.bytes size)))) after e in
    let s = only_some (nat_le size limits.largest_file) (Some (with_bytes tree number a.0 (resized a.0.bytes size))) after a.2 in
    record { node = a.0; file = a.1; fits = s.0; gives = some_same _ _ s.1 }

pub cut_of : (limits : Limits) (tree : Tree) (number size : ℕ) (after : Tree) → Cut limits tree number size after → cut limits tree number size ≡ Some after
unfolding cut
cut_of limits tree number size after p =
    some_bind (file_at tree number) (λ node. only_if (nat_le size limits.largest_file) >>= (λ _. Some (with_bytes tree number node (resized node.bytes size)))) p.node _ p.file
    (some_only (nat_le size limits.largest_file) _ _ p.fits (ap (λ (t : Tree). Some t) p.gives))

pub record Owned (tree : Tree) (number : ℕ) (o : Ownership) (after : Tree) : Type 0 where
  pub node : Node
  pub there : map.get tree.nodes number ≡ Some node
  pub fits : is_ownership node.kind o ≡ true
  pub gives : put_node tree number (node_with node.kind o node.bytes) ≡ after

pub owned_is : (tree : Tree) (number : ℕ) (o : Ownership) (after : Tree) → owned tree number o ≡ Some after → Owned tree number o after
unfolding owned
owned_is tree number o after e =
    let a = bind_some (map.get tree.nodes number) (λ node. only_if (is_ownership node.kind o) >>= (λ _. Some (put_node tree number (node_with node.kind o node.bytes)))) after e in
    let s = only_some (is_ownership a.0.kind o) (Some (put_node tree number (node_with a.0.kind o a.0.bytes))) after a.2 in
    record { node = a.0; there = a.1; fits = s.0; gives = some_same _ _ s.1 }

pub owned_of : (tree : Tree) (number : ℕ) (o : Ownership) (after : Tree) → Owned tree number o after → owned tree number o ≡ Some after
unfolding owned
owned_of tree number o after p =
    some_bind (map.get tree.nodes number) (λ node. only_if (is_ownership node.kind o) >>= (λ _. Some (put_node tree number (node_with node.kind o node.bytes)))) p.node _ p.there
    (some_only (is_ownership p.node.kind o) _ _ p.fits (ap (λ (t : Tree). Some t) p.gives))
