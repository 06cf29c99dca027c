-- The path of a node, looked at before it is used.
use Rattle.std.specs.Prelude.{ℕ, ◌==◌, Bool, false, zero, suc, List, length, Option, None, Some, Result, Ok, Err, ok_or, if◌then◌else◌}
use Rattle.std.specs.FinMap as map
use Rattle.sn_fuse_replies.specs.declared.errno.Errno.{Errno}
use Rattle.sn_fuse_replies.specs.declared.errno.Errno.TheVariants.{ENAMETOOLONG, ESTALE}
use Rattle.sn_node_table.specs.Paths.{child_path_of, path_of}
use Rattle.sn_node_table.specs.Tables.{inode_of, links_of}
use Rattle.sn_node_table.specs.declared.path.NoPath.{NoPath}
use Rattle.sn_node_table.specs.declared.path.NoPath.TheVariants.{Stale, TooLong}
use Rattle.sn_plan.specs.Asking.{finds}
use Rattle.sn_plan.specs.Plans.{Drops, Keeps, Kept, Knows, Plan, Gives, given, ◌>>=◌}

abbrev pub is_number : ℕ → Option ℕ → Bool
is_number number None = false
is_number number (Some found) = found == number

-- the path that a node's first names make, none where it or a directory above it has no name left
abbrev pub text_in : Result (List ℕ) NoPath → Result (Option (List ℕ)) Errno
text_in (Ok text) = Ok (Some text)
text_in (Err Stale) = Ok None
text_in (Err TooLong) = Err ENAMETOOLONG

-- a node's first name is forgotten
abbrev pub forgets : ℕ → Plan (Option (List ℕ))
forgets id = Keeps (Drops id) (Gives None)

-- a path is used that leads to the object with the node's number
abbrev pub looked : ℕ → ℕ → Option (List ℕ) → Plan (Option (List ℕ))
looked id number None = forgets id
looked id number (Some text) = finds text >>= (λ found. if is_number number found then Gives (Some text) else forgets id)

unfoldable pub try_place : ℕ → ℕ → Plan (Option (List ℕ))
try_place id number = Knows (λ kept. given (text_in (path_of kept.nodes id)) >>= looked id number)

abbrev pub or_else : Plan (Option (List ℕ)) → Option (List ℕ) → Plan (Option (List ℕ))
or_else others (Some text) = Gives (Some text)
or_else others None = others

-- the first name, and then so many others
unfoldable pub tries : ℕ → ℕ → ℕ → Plan (Option (List ℕ))
tries zero id number = try_place id number
tries (suc others) id number = try_place id number >>= or_else (tries others id number)

abbrev pub tries_all : Kept → ℕ → ℕ → Plan (Option (List ℕ))
tries_all kept id number = tries (length (links_of (map.get kept.nodes.nodes id))) id number

-- the path of a node that leads to its own object, none where no name of it does any longer
unfoldable pub place_of : ℕ → Plan (Option (List ℕ))
place_of id = Knows (λ kept. given (ok_or (inode_of kept.nodes id) ESTALE) >>= tries_all kept id)

-- ---- paths that a call can use

-- the path of a node that has one
unfoldable pub path_at : ℕ → Plan (List ℕ)
path_at id = place_of id >>= (λ place. given (ok_or place ESTALE))

abbrev pub child_in : Result (List ℕ) NoPath → Result (List ℕ) Errno
child_in (Ok text) = Ok text
child_in (Err Stale) = Err ESTALE
child_in (Err TooLong) = Err ENAMETOOLONG

-- the path of a name of a directory whose own path was looked at
unfoldable pub child_at : ℕ → List ℕ → Plan (List ℕ)
child_at parent name = path_at parent >>= (λ _. Knows (λ kept. given (child_in (child_path_of kept.nodes parent name))))
