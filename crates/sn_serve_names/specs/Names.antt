-- Names of a mount as names of the image, and the directory of snapshots.
use Rattle.std.specs.Prelude.{ℕ, ◌==◌, Bool, false, nat_le, List, length, Option, None, Some, Result, Ok, Err, if◌then◌else◌}
use Rattle.sn_fuse_replies.specs.declared.errno.Errno.{Errno}
use Rattle.sn_fuse_replies.specs.declared.errno.Errno.TheVariants.{EINVAL, ENAMETOOLONG}
use Rattle.sn_host_names.specs.Escapes.{image_name, is_host_name}
use Rattle.sn_node_table.specs.Tables.{inode_of}
use Rattle.sn_plan.specs.Places.{child_at}
use Rattle.sn_plan.specs.Plans.{Gives, Kept, Knows, Plan, given, ◌>>=◌}

abbrev pub short_name : List ℕ → Result (List ℕ) Errno
short_name image = if nat_le (length image) 255 then Ok image else Err ENAMETOOLONG

-- the name of the image that denotes a name of the mount
abbrev pub image_of : List ℕ → Result (List ℕ) Errno
image_of name = if is_host_name name then short_name (image_name name) else Err EINVAL

-- a name of a directory: that of the image, and the path for calls
pub record NamedPath : Type 0 where
  pub name : List ℕ
  pub path : List ℕ

-- the directory's own path is looked at
unfoldable pub child_of : ℕ → List ℕ → Plan NamedPath
child_of parent name = do
  image ← given (image_of name)
  path ← child_at parent image
  Gives (record { name = image; path = path })

-- the directory of snapshots has number 1, and is a home of its own, the second
abbrev pub is_snapshots_number : Option ℕ → Bool
is_snapshots_number None = false
is_snapshots_number (Some number) = number == 65537

abbrev pub is_snapshots : ℕ → Kept → Bool
is_snapshots id kept = is_snapshots_number (inode_of kept.nodes id)

unfoldable pub are_snapshots : ℕ → Plan Bool
are_snapshots id = Knows (λ kept. Gives (is_snapshots id kept))
