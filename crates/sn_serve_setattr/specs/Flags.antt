-- What a SETATTR sets, and what is so already.
use Rattle.std.specs.Prelude.{ℕ, ◌%◌, ◌==◌, ◌&&◌, ◌||◌, Bool, nat_lt, not, Option, None, Some, if◌then◌else◌}
use Rattle.sn_callers.specs.Files.{file_at}
use Rattle.sn_callers.specs.declared.open_files.OpenFile.{OpenFile}
use Rattle.sn_fuse.specs.declared.operation.NewAttributes.{NewAttributes}
use Rattle.sn_fuse.specs.declared.operation.Time.{Time}
use Rattle.sn_fuse_replies.specs.declared.answer.Attributes.{Attributes}
use Rattle.sn_plan.specs.Plans.{Kept}
use Rattle.sn_serve_files.specs.Flags.{has}

-- Bits of a SETATTR: 1 the mode, 2 the user, 4 the group, 8 the size, 16 and 32 the times of access and modification, 64 through a handle, 128 and 256 these times are now

abbrev pub sets_mode : NewAttributes → Bool
sets_mode new = has new.flags.0 1

abbrev pub sets_user : NewAttributes → Bool
sets_user new = has new.flags.0 2

abbrev pub sets_group : NewAttributes → Bool
sets_group new = has new.flags.0 4

abbrev pub sets_size : NewAttributes → Bool
sets_size new = has new.flags.0 8

-- the open file through which the size is set
abbrev pub file_of : NewAttributes → Kept → Option OpenFile
file_of new kept = if has new.flags.0 64 then file_at kept.files new.handle else None

abbrev pub value_if : Bool → ℕ → Option ℕ
value_if b value = if b then Some value else None

abbrev pub sets_owner : NewAttributes → Bool
sets_owner new = sets_user new || sets_group new

-- ---- times

abbrev pub sets_accessed : NewAttributes → Bool
sets_accessed new = has new.flags.0 16

abbrev pub sets_modified : NewAttributes → Bool
sets_modified new = has new.flags.0 32

abbrev pub sets_times : NewAttributes → Bool
sets_times new = sets_accessed new || sets_modified new

-- a time that is set is the one that the message names, and not that of the clock
abbrev pub names_accessed : NewAttributes → Bool
names_accessed new = sets_accessed new && not (has new.flags.0 128)

abbrev pub names_modified : NewAttributes → Bool
names_modified new = sets_modified new && not (has new.flags.0 256)

abbrev pub names_times : NewAttributes → Bool
names_times new = names_accessed new || names_modified new

-- both are the clock's
abbrev pub are_now : NewAttributes → Bool
are_now new = sets_accessed new && sets_modified new && not (names_times new)

-- times of now come along with a new size
abbrev pub come_with_size : NewAttributes → Bool
come_with_size new = sets_size new && not (names_times new)

-- fewer than 10^9 nanoseconds (POSIX.1-2017, futimens(), EINVAL)
abbrev pub is_time : Time → Bool
is_time time = nat_lt time.nanoseconds 1000000000

abbrev pub are_times : NewAttributes → Bool
are_times new = (not (names_accessed new) || is_time new.accessed) && (not (names_modified new) || is_time new.modified)

-- ---- what is so already

-- in the live tree: others have further homes
abbrev pub is_live : Attributes → Bool
is_live there = nat_lt there.number 65536

-- who asks may set what an owner may
abbrev pub is_owner : ℕ → Attributes → Bool
is_owner user there = user == 0 || user == there.user

-- A call as who asks would be done, and clear no S_ISGID, which is 1,024.
abbrev pub keeps_all : ℕ → Attributes → Bool
keeps_all user there = is_live there && is_owner user there && (user == 0 || not (has there.mode 1024))

abbrev pub same_user : Attributes → NewAttributes → Bool
same_user there new = not (sets_user new) || new.user == there.user

abbrev pub same_group : Attributes → NewAttributes → Bool
same_group there new = not (sets_group new) || new.group == there.group

-- owner and group, or the mode, are as they are to be
abbrev pub has_owner : ℕ → Attributes → NewAttributes → Bool
has_owner user there new = keeps_all user there && same_user there new && same_group there new

abbrev pub has_mode : ℕ → Attributes → NewAttributes → Bool
has_mode user there new = keeps_all user there && new.mode % 2048 == there.mode % 2048
