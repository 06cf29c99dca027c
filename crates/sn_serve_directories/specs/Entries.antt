-- What a listing has.
use Rattle.std.specs.Prelude.{ℕ, ◌+◌, ◌==◌, List, [], ◌∷◌, ◌++◌, map, take, Option, None, Some, Result, Ok, Err, if◌then◌else◌}
use Rattle.std.specs.declared.vec.Vec.{Vec}
use Rattle.sn_fuse_replies.specs.declared.errno.Errno.{Errno}
use Rattle.sn_fuse_replies.specs.declared.errno.Errno.TheVariants.{EIO, ESTALE}
use Rattle.sn_fuse_replies.specs.declared.listing.EntryKind.{EntryKind}
use Rattle.sn_fuse_replies.specs.declared.listing.EntryKind.TheVariants as entry_kind
use Rattle.sn_host_names.specs.Escapes.{image_name}
use Rattle.sn_limits.specs.Names.{is_name}
use Rattle.sn_limits.specs.declared.kind.Kind.{Kind}
use Rattle.sn_limits.specs.declared.kind.Kind.TheVariants.{Directory, File}
use Rattle.sn_listings.specs.declared.entry.HeldEntry.{HeldEntry}
use Rattle.sn_model.specs.declared.call.Call.TheVariants.{Readdir}
use Rattle.sn_model.specs.declared.reply.Reply.{Reply}
use Rattle.sn_model.specs.declared.reply.Reply.TheVariants.{Names, Refused}
use Rattle.sn_node_table.specs.Paths.{child_path_of}
use Rattle.sn_node_table.specs.declared.path.NoPath.{NoPath}
use Rattle.sn_node_table.specs.declared.path.NoPath.TheVariants.{Stale, TooLong}
use Rattle.sn_plan.specs.Asking.{calls}
use Rattle.sn_plan.specs.Errors.{errno_of}
use Rattle.sn_plan.specs.Places.{place_of}
use Rattle.sn_plan.specs.Plans.{Gives, Kept, Knows, Plan, Refuses, Takes, given, ◌>>=◌}
use Rattle.sn_serve_names.specs.Entries.{number_at, status_at}

-- ---- one entry

-- a name of the image, with what is told of what has it
pub record Entry : Type 0 where
  pub number : ℕ
  pub kind : EntryKind
  pub name : List ℕ

abbrev pub kind_of : Kind → EntryKind
kind_of Directory = entry_kind.Directory
kind_of File = entry_kind.File

unfoldable pub known_entry : List ℕ → List ℕ → Plan Entry
known_entry name path = do
  s ← status_at path
  number ← number_at path
  Takes (Gives (record { number = number; kind = kind_of s.kind; name = name }))

-- Of a name whose path is too long for a call nothing is known: it is told as a file, with the number that tells of none.
abbrev pub unknown : List ℕ → Entry
unknown name = record { number = 0xffffffff; kind = entry_kind.File; name = name }

abbrev pub entry_in_place : List ℕ → Option (List ℕ) → Plan Entry
entry_in_place name None = Takes (Gives (unknown name))
entry_in_place name (Some path) = known_entry name path

-- the path of a name of a directory, none where it is too long
abbrev pub child_in : Result (List ℕ) NoPath → Result (Option (List ℕ)) Errno
child_in (Ok path) = Ok (Some path)
child_in (Err TooLong) = Ok None
child_in (Err Stale) = Err ESTALE

abbrev pub child_of : ℕ → List ℕ → Kept → Result (Option (List ℕ)) Errno
child_of node name kept = child_in (child_path_of kept.nodes node name)

unfoldable pub named_entry : ℕ → List ℕ → Plan Entry
named_entry node name = Knows (λ kept. given (child_of node name kept) >>= entry_in_place name)

-- no directory has what isn't a name
unfoldable pub entry_at : ℕ → List ℕ → Plan Entry
entry_at node name = if is_name name then named_entry node name else Refuses EIO

-- ---- all entries

-- one after the other, after those before
unfoldable pub entries_from : ℕ → List Entry → List (List ℕ) → Plan (List Entry)
entries_from node before [] = Gives before
entries_from node before (name ∷ names) = entry_at node name >>= (λ entry. Takes (entries_from node (before ++ entry ∷ []) names))

-- what readdir told
abbrev pub names_in : Reply → Result (List (List ℕ)) Errno
names_in (Names names) = Ok names
names_in (Refused refusal) = Err (errno_of refusal.errno)
names_in _ = Err EIO

unfoldable pub names_at : List ℕ → Plan (List (List ℕ))
names_at path = Takes (calls 0 (Readdir path) >>= (λ reply. given (names_in reply)))

-- where the last slash of a path is, from a place on: the last one before that was here
abbrev pub last_slash : ℕ → ℕ → List ℕ → ℕ
last_slash last place [] = last
last_slash last place (byte ∷ bytes) = last_slash (if byte == 47 then place else last) (place + 1) bytes

-- the path of the directory above, which is the root above the root
abbrev pub up_to : ℕ → List ℕ → List ℕ
up_to slash path = if slash == 0 then 47 ∷ [] else take slash path

abbrev pub above : List ℕ → List ℕ
above path = up_to (last_slash 0 0 path) path

-- the directory itself, and the one above
abbrev pub dots : ℕ → ℕ → List Entry
dots number over = record { number = number; kind = entry_kind.Directory; name = 46 ∷ [] } ∷ record { number = over; kind = entry_kind.Directory; name = 46 ∷ 46 ∷ [] } ∷ []

unfoldable pub dots_at : List ℕ → Plan (List Entry)
dots_at path = do
  number ← number_at path
  over ← number_at (above path)
  Takes (Gives (dots number over))

unfoldable pub entries_at : ℕ → List ℕ → Plan (List Entry)
entries_at node path = do
  before ← dots_at path
  names ← names_at path
  entries_from node before names

-- a directory to which no name leads has been removed, and has no entries
abbrev pub entries_in_place : ℕ → Option (List ℕ) → Plan (List Entry)
entries_in_place node None = Gives []
entries_in_place node (Some path) = entries_at node path

unfoldable pub entries_of : ℕ → Plan (List Entry)
entries_of node = place_of node >>= entries_in_place node

-- ---- what is held of them: each by the name of the mount that the name of the image denotes

abbrev pub image_of : HeldEntry → Entry
image_of held = record { number = held.number; kind = held.kind; name = image_name held.name }

abbrev pub images_of : List HeldEntry → List Entry
images_of held = map image_of held

abbrev pub image_in : Result HeldEntry Errno → Result Entry Errno
image_in (Ok held) = Ok (image_of held)
image_in (Err e) = Err e

abbrev pub images_in : {Z : Type 0} → Result (Vec HeldEntry Z) Errno → Result (List Entry) Errno
images_in (Ok held) = Ok (images_of held.items)
images_in (Err e) = Err e
