-- What a change does to a tree. It can't be applied, and there is no tree, where a number that it names isn't there or of another kind, where a number or a name that it makes is taken, or where the result would break a rule of the name tree.
use Rattle.std.specs.Prelude.{ℕ, ◌+◌, ◌-◌, ◌^◌, Bool, true, false, not, ◌&&◌, ◌||◌, ◌==◌, nat_lt, nat_le, List, [], ◌∷◌, ◌++◌, zero, suc, length, take, drop, replicate, filter, Option, None, Some, is_none, is_some, if◌then◌else◌}
use Rattle.std.specs.Option.{option_map_or}
use Rattle.std.specs.List.{list_any, list_all, flat_map}
use Rattle.std.specs.FinMap as map
use Rattle.sn_acl.specs.declared.entries.Entry.{Entry}
use Rattle.sn_acl.specs.AccessList.{is_acl}
use Rattle.sn_limits.specs.declared.kind.Kind.{Kind}
use Rattle.sn_limits.specs.declared.kind.Kind.TheVariants.{File, Directory}
use Rattle.sn_limits.specs.Names.{is_name}
use Rattle.sn_walk.specs.Views.{is_directory, is_hidden_name}
use Rattle.sn_limits.specs.declared.limits.Limits.{Limits}
use Rattle.sn_model.specs.declared.change.Change.{Change}
use Rattle.sn_model.specs.declared.change.Change.TheVariants.{Make, AddLink, Remove, Rename, Write, SetSize, SetAttributes}
use Rattle.sn_model.specs.declared.change.Ownership.{Ownership}
use Rattle.sn_model.specs.declared.link.Link.{Link}
use Rattle.sn_model.specs.Chains.{◌>>=◌, only_if}
use Rattle.sn_model.specs.Tree.{Node, Tree, link_to, names_in, names_for}

-- nodes and names put in and taken out
abbrev pub put_node : Tree → ℕ → Node → Tree
put_node tree number node = record tree { nodes = map.insert tree.nodes number node }

abbrev pub put_link : Tree → Link → ℕ → Tree
put_link tree link number = record tree { links = map.insert tree.links link number }

abbrev pub take_link : Tree → Link → Tree
take_link tree link = record tree { links = map.remove tree.links link }

abbrev pub take_node : Tree → ℕ → Tree
take_node tree number = record tree { nodes = map.remove tree.nodes number }

abbrev pub node_with : Kind → Ownership → List ℕ → Node
node_with kind o bytes = record { kind = kind; owner = o.owner; group = o.group; set_gid = o.set_gid; sticky = o.sticky; acl = o.acl; default_acl = o.default_acl; bytes = bytes }

abbrev pub ownership_of : Node → Ownership
ownership_of node = record { owner = node.owner; group = node.group; set_gid = node.set_gid; sticky = node.sticky; acl = node.acl; default_acl = node.default_acl }

-- a node of a kind
abbrev pub is_file : Kind → Bool
is_file File = true
is_file Directory = false

abbrev pub same_kind : Kind → Kind → Bool
same_kind File File = true
same_kind Directory Directory = true
same_kind _ _ = false

abbrev pub directory_at : Tree → ℕ → Option Node
directory_at tree number = map.get tree.nodes number >>= (λ node. only_if (is_directory node.kind) >>= (λ _. Some node))

abbrev pub file_at : Tree → ℕ → Option Node
file_at tree number = map.get tree.nodes number >>= (λ node. only_if (is_file node.kind) >>= (λ _. Some node))

-- a file has no default ACL
abbrev pub is_default_acl : Kind → Option (List Entry) → Bool
is_default_acl kind acl = option_map_or (λ entries. is_directory kind && is_acl entries) acl true

-- owner, group and ACLs that a node of a kind can have
abbrev pub is_ownership : Kind → Ownership → Bool
is_ownership kind o = nat_lt o.owner (2 ^ 32) && nat_lt o.group (2 ^ 32) && is_acl o.acl && is_default_acl kind o.default_acl

-- a name that a directory can have, and doesn't yet
abbrev pub is_vacant : Tree → Link → Bool
is_vacant tree link = is_name link.name && not (is_hidden_name link.directory link.name) && is_none (map.get tree.links link)

-- a directory may get one more name, and a number too
abbrev pub has_room_for : Limits → Tree → Link → ℕ → Option (Unit {0})
has_room_for limits tree link number = directory_at tree link.directory >>= (λ _. only_if (nat_lt (names_in tree link.directory) limits.names && nat_lt (names_for tree number) limits.links))

-- no node with a name has the number; 2 is the root's
abbrev pub is_free_number : Limits → Tree → ℕ → Bool
is_free_number limits tree number = nat_lt 2 number && nat_le number limits.largest_number && (is_none (map.get tree.nodes number) || (is_some (file_at tree number) && names_for tree number == 0))

-- make: a file without names that had the number goes
unfoldable pub made : Limits → Tree → Link → ℕ → Kind → Ownership → Option Tree
made limits tree link number kind o = do
  _ ← only_if (is_free_number limits tree number && is_vacant tree link && is_ownership kind o)
  _ ← has_room_for limits tree link number
  Some (put_link (put_node tree number (node_with kind o [])) link number)

-- link: only a file may get one more name
unfoldable pub linked : Limits → Tree → Link → ℕ → Option Tree
linked limits tree link number = do
  _ ← file_at tree number
  _ ← only_if (is_vacant tree link)
  _ ← has_room_for limits tree link number
  Some (put_link tree link number)

-- a name goes: a directory goes with it, and has to be empty; a file stays
abbrev pub unlinked : Tree → Link → ℕ → Node → Option Tree
unlinked tree link number node =
    if is_directory node.kind
    then (only_if (names_in tree number == 0) >>= (λ _. Some (take_node (take_link tree link) number)))
    else Some (take_link tree link)

unfoldable pub removed : Tree → Link → Option Tree
removed tree link = do
  number ← map.get tree.links link
  node ← map.get tree.nodes number
  unlinked tree link number node

-- what has the new name goes, if there is such: a directory for a directory, a file for a file
abbrev pub replaced : Tree → Link → Node → Option ℕ → Option Tree
replaced tree new moved None = Some tree
replaced tree new moved (Some number) = map.get tree.nodes number >>= (λ node. only_if (same_kind moved.kind node.kind) >>= (λ _. unlinked tree new number node))

-- a directory, the one that it is in, and so on up, among so many: each step up is by a name of its own
unfoldable pub chain_up : Tree → ℕ → ℕ → List ℕ
chain_up tree zero directory = directory ∷ []
chain_up tree (suc more) directory = directory ∷ flat_map (λ e. chain_up tree more e.0.directory) (filter (λ e. e.1 == directory) (map.entries tree.links))

abbrev pub is_at_or_below : Tree → ℕ → ℕ → Bool
is_at_or_below tree top directory = list_any (λ d. d == top) (chain_up tree (map.len tree.links) directory)

-- a name that what is moved can get: no directory gets into itself
abbrev pub is_new_name : Tree → Link → ℕ → Node → Bool
is_new_name tree new number node = is_name new.name && not (is_hidden_name new.directory new.name) && not (is_directory node.kind && is_at_or_below tree number new.directory)

abbrev pub same_number : ℕ → Option ℕ → Bool
same_number a found = option_map_or (λ b. a == b) found false

-- a name exchanged for another
abbrev pub exchanged : Limits → Tree → Link → Link → ℕ → Option Tree
exchanged limits tree old new number = has_room_for limits (take_link tree old) new number >>= (λ _. Some (put_link (take_link tree old) new number))

abbrev pub moved : Limits → Tree → Link → Link → ℕ → Node → Option Tree
moved limits tree old new number node = directory_at tree new.directory >>= (λ _. only_if (is_new_name tree new number node) >>= (λ _. replaced tree new node (map.get tree.links new) >>= (λ cleared. exchanged limits cleared old new number)))

-- rename: where both names are of one object, nothing changes
unfoldable pub renamed : Limits → Tree → Link → Link → Option Tree
renamed limits tree old new = do
  number ← map.get tree.links old
  node ← map.get tree.nodes number
  if same_number number (map.get tree.links new) then Some tree else moved limits tree old new number node

-- bytes past the end are zeros
abbrev pub resized : List ℕ → ℕ → List ℕ
resized bytes size = take size (bytes ++ replicate (size - length bytes) 0)

abbrev pub overwritten : List ℕ → ℕ → List ℕ → List ℕ
overwritten bytes offset new = resized bytes offset ++ (new ++ drop (offset + length new) bytes)

abbrev pub with_bytes : Tree → ℕ → Node → List ℕ → Tree
with_bytes tree number node bytes = put_node tree number (record node { bytes = bytes })

unfoldable pub written : Limits → Tree → ℕ → ℕ → List ℕ → Option Tree
written limits tree number offset bytes = do
  node ← file_at tree number
  _ ← only_if (nat_lt 0 (length bytes) && nat_le (offset + length bytes) limits.largest_file && list_all (λ b. nat_lt b 256) bytes)
  Some (with_bytes tree number node (overwritten node.bytes offset bytes))

unfoldable pub cut : Limits → Tree → ℕ → ℕ → Option Tree
cut limits tree number size = do
  node ← file_at tree number
  _ ← only_if (nat_le size limits.largest_file)
  Some (with_bytes tree number node (resized node.bytes size))

unfoldable pub owned : Tree → ℕ → Ownership → Option Tree
owned tree number o = do
  node ← map.get tree.nodes number
  _ ← only_if (is_ownership node.kind o)
  Some (put_node tree number (node_with node.kind o node.bytes))

-- what a change does to a tree, or None where it can't be applied
abbrev pub apply : Limits → Change → Tree → Option Tree
apply limits (Make directory name number kind o) tree = made limits tree (link_to directory name) number kind o
apply limits (AddLink directory name number) tree = linked limits tree (link_to directory name) number
apply limits (Remove directory name) tree = removed tree (link_to directory name)
apply limits (Rename old_directory old_name new_directory new_name) tree = renamed limits tree (link_to old_directory old_name) (link_to new_directory new_name)
apply limits (Write number offset bytes) tree = written limits tree number offset bytes
apply limits (SetSize number size) tree = cut limits tree number size
apply limits (SetAttributes number o) tree = owned tree number o

-- one change after the other, up to the first that can't be applied
unfoldable pub apply_all : Limits → List Change → Tree → Option Tree
apply_all limits [] tree = Some tree
apply_all limits (c ∷ cs) tree = apply limits c tree >>= apply_all limits cs
