-- What an answer tells of a node.
use Rattle.std.specs.Prelude.{ℕ, ◌+◌, Bool, List, Result, is_none, ok_or, if◌then◌else◌}
use Rattle.std.specs.Int.{div_ceil}
use Rattle.sn_acl.specs.Modes.{mode_bits as permission_bits}
use Rattle.sn_fuse.specs.declared.operation.Time.{Time}
use Rattle.sn_fuse_replies.specs.declared.answer.Attributes.{Attributes}
use Rattle.sn_fuse_replies.specs.declared.answer.Entry.{Entry}
use Rattle.sn_fuse_replies.specs.declared.errno.Errno.{Errno}
use Rattle.sn_fuse_replies.specs.declared.errno.Errno.TheVariants.{ENOENT, ENOMEM, ESTALE}
use Rattle.sn_limits.specs.declared.kind.Kind.{Kind}
use Rattle.sn_limits.specs.declared.kind.Kind.TheVariants.{Directory, File}
use Rattle.sn_model.specs.declared.call.Call.TheVariants.{Stat}
use Rattle.sn_model.specs.declared.reply.FileStatus.{FileStatus}
use Rattle.sn_node_table.specs.Tables.{given as given_id, inode_of, node_at}
use Rattle.sn_node_table.specs.declared.meeting.NodeFault.{NodeFault}
use Rattle.sn_node_table.specs.declared.meeting.NodeFault.TheVariants.{Refused, Stale}
use Rattle.sn_plan.specs.Asking.{calls, finds, sees}
use Rattle.sn_plan.specs.Plans.{Change, Gives, Keeps, Kept, Knows, Makes, Meets, Plan, Refuses, Takes, given, ◌>>=◌}
use Rattle.sn_plan.specs.Replies.{status}
use Rattle.sn_serve_names.specs.Names.{NamedPath}
use Rattle.sn_walk.specs.declared.view.Attributes.{Attributes as Seen}

-- the file system has no times: those that are kept are put in when it is answered
abbrev pub no_time : Time
no_time = record { seconds = 0; nanoseconds = 0 }

-- names are held for a year; how long attributes are is said where the answer is spelled
abbrev pub year : Time
year = record { seconds = 31536000; nanoseconds = 0 }

-- `st_mode`: S_IFDIR or S_IFREG, S_ISGID, S_ISVTX and the permission bits
abbrev pub kind_bits : Kind → ℕ
kind_bits Directory = 0x4000
kind_bits File = 0x8000

abbrev pub bit_if : Bool → ℕ → ℕ
bit_if b bit = if b then bit else 0

abbrev pub mode_bits : FileStatus → ℕ
mode_bits s = kind_bits s.kind + bit_if s.set_gid 1024 + bit_if s.sticky 512 + permission_bits s.mode

abbrev pub attributes_of : ℕ → FileStatus → Attributes
attributes_of number s = record {
  number = number;
  size = s.size;
  blocks = div_ceil s.size 512;
  accessed = no_time;
  modified = no_time;
  changed = no_time;
  mode = mode_bits s;
  links = s.links;
  user = s.owner;
  group = s.group;
  device = 0;
  block_size = 4096;
}

abbrev pub entry_of : ℕ → ℕ → FileStatus → Entry
entry_of id number s = record { node = id; generation = 0; name_lasts = year; attributes_last = no_time; attributes = attributes_of number s }

-- the number of a node's object
abbrev pub number_in : ℕ → Kept → Result ℕ Errno
number_in node kept = ok_or (inode_of kept.nodes node) ESTALE

unfoldable pub number_of : ℕ → Plan ℕ
number_of node = Knows (λ kept. given (number_in node kept))

-- what a node's number tells
unfoldable pub seen_at : ℕ → Plan Seen
seen_at node = do
  number ← number_of node
  seen ← sees number
  given (ok_or seen ESTALE)

-- what is at a path has a number
unfoldable pub number_at : List ℕ → Plan ℕ
number_at path = finds path >>= (λ found. given (ok_or found ENOENT))

-- what user 0 is told of it
unfoldable pub status_at : List ℕ → Plan FileStatus
status_at path = Takes (calls 0 (Stat path) >>= (λ reply. given (status reply)))

-- a name of a directory that is known gets a change, which gives an id
abbrev pub gives_id : Kept → ℕ → Change → ℕ → Plan ℕ
gives_id kept parent change id = if is_none (node_at kept.nodes parent) then Refuses ESTALE else Keeps change (Gives id)

-- a name was found to lead to an object, which has an id or gets a new one
unfoldable pub meets : ℕ → List ℕ → ℕ → Plan ℕ
meets parent name number = Takes (Knows (λ kept. gives_id kept parent (Meets parent name number) (given_id kept.nodes number)))

-- an object was made under a name, and gets a new id
unfoldable pub makes : ℕ → List ℕ → ℕ → Plan ℕ
makes parent name number = Takes (Knows (λ kept. gives_id kept parent (Makes parent name number) kept.nodes.next))

-- what LOOKUP and LINK answer of what a name leads to, with what was told of it
unfoldable pub met_at : ℕ → NamedPath → FileStatus → Plan Entry
met_at parent child s = do
  number ← number_at child.path
  id ← meets parent child.name number
  Gives (entry_of id number s)

-- what is answered of what was made under a name
unfoldable pub made_at : ℕ → NamedPath → Plan Entry
made_at parent child = do
  number ← number_at child.path
  s ← status_at child.path
  id ← makes parent child.name number
  Gives (entry_of id number s)

abbrev pub node_errno : NodeFault → Errno
node_errno Stale = ESTALE
node_errno Refused = ENOMEM
