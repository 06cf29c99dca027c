-- The one spelling of each answer.
use Rattle.std.specs.Prelude.{ℕ, ◌+◌, ◌-◌, ◌^◌, List, [], ◌++◌, length}
use Rattle.sn_bytes.specs.Bytes.{number_bytes, zeros}
use Rattle.sn_fuse.specs.declared.operation.Time.{Time}
use Rattle.sn_fuse_replies.specs.declared.answer.Attributes.{Attributes as TheAttributes}
use Rattle.sn_fuse_replies.specs.declared.answer.Entry.{Entry as TheEntry}
use Rattle.sn_fuse_replies.specs.declared.answer.Opened.{Opened as TheOpened}
use Rattle.sn_fuse_replies.specs.declared.answer.Statistics.{Statistics as TheStatistics}
use Rattle.sn_fuse_replies.specs.declared.answer.Initialized.{Initialized as TheInitialized}
use Rattle.sn_fuse_replies.specs.declared.answer.Answer.{Answer}
use Rattle.sn_fuse_replies.specs.declared.answer.Answer.TheVariants.{Error, Nothing, Entry, Attributes, Opened, Created, Data, Written, Statistics, XattrSize, Listing, Initialized}
use Rattle.sn_fuse_replies.specs.Errno.{errno_number}

abbrev pub sizes_bytes : TheAttributes → List ℕ
sizes_bytes a = number_bytes 8 a.number ++ number_bytes 8 a.size ++ number_bytes 8 a.blocks

abbrev pub times_bytes : TheAttributes → List ℕ
times_bytes a = number_bytes 8 a.accessed.seconds ++ number_bytes 8 a.modified.seconds ++ number_bytes 8 a.changed.seconds
    ++ number_bytes 4 a.accessed.nanoseconds ++ number_bytes 4 a.modified.nanoseconds ++ number_bytes 4 a.changed.nanoseconds

abbrev pub owner_bytes : TheAttributes → List ℕ
owner_bytes a = number_bytes 4 a.mode ++ number_bytes 4 a.links ++ number_bytes 4 a.user ++ number_bytes 4 a.group
    ++ number_bytes 4 a.device ++ number_bytes 4 a.block_size ++ zeros 4

abbrev pub attributes_bytes : TheAttributes → List ℕ
attributes_bytes a = sizes_bytes a ++ times_bytes a ++ owner_bytes a

abbrev pub entry_bytes : TheEntry → List ℕ
entry_bytes e = number_bytes 8 e.node ++ number_bytes 8 e.generation ++ number_bytes 8 e.name_lasts.seconds ++ number_bytes 8 e.attributes_last.seconds
    ++ number_bytes 4 e.name_lasts.nanoseconds ++ number_bytes 4 e.attributes_last.nanoseconds ++ attributes_bytes e.attributes

abbrev pub opened_bytes : TheOpened → List ℕ
opened_bytes o = number_bytes 8 o.handle ++ number_bytes 4 o.flags ++ zeros 4

abbrev pub statistics_bytes : TheStatistics → List ℕ
statistics_bytes s = number_bytes 8 s.blocks ++ number_bytes 8 s.free ++ number_bytes 8 s.available ++ number_bytes 8 s.files ++ number_bytes 8 s.free_files
    ++ number_bytes 4 s.block_size ++ number_bytes 4 s.name_length ++ number_bytes 4 s.fragment_size ++ zeros 28

abbrev pub initialized_bytes : TheInitialized → List ℕ
initialized_bytes i = number_bytes 4 i.major ++ number_bytes 4 i.minor ++ number_bytes 4 i.readahead ++ number_bytes 4 i.flags.0
    ++ number_bytes 2 i.background ++ number_bytes 2 i.congestion ++ number_bytes 4 i.write ++ number_bytes 4 i.time_granularity
    ++ number_bytes 2 i.pages ++ zeros 34

-- attributes, with how long they hold
abbrev pub lasting_bytes : Time → TheAttributes → List ℕ
lasting_bytes last attributes = number_bytes 8 last.seconds ++ number_bytes 4 last.nanoseconds ++ zeros 4 ++ attributes_bytes attributes

abbrev pub created_bytes : TheEntry → TheOpened → List ℕ
created_bytes entry opened = entry_bytes entry ++ opened_bytes opened

abbrev pub count_bytes : ℕ → List ℕ
count_bytes count = number_bytes 4 count ++ zeros 4

-- the numbers of a body
abbrev pub fixed_bytes : Answer → List ℕ
fixed_bytes (Error errno) = []
fixed_bytes Nothing = []
fixed_bytes (Entry entry) = entry_bytes entry
fixed_bytes (Attributes last attributes) = lasting_bytes last attributes
fixed_bytes (Opened opened) = opened_bytes opened
fixed_bytes (Created entry opened) = created_bytes entry opened
fixed_bytes (Data bytes) = []
fixed_bytes (Written count) = count_bytes count
fixed_bytes (Statistics statistics) = statistics_bytes statistics
fixed_bytes (XattrSize size) = count_bytes size
fixed_bytes (Listing listed) = []
fixed_bytes (Initialized initialized) = initialized_bytes initialized

-- and what is after them
abbrev pub tail_of : Answer → List ℕ
tail_of (Data bytes) = bytes
tail_of (Listing listed) = listed
tail_of (Error errno) = []
tail_of Nothing = []
tail_of (Entry entry) = []
tail_of (Attributes last attributes) = []
tail_of (Opened opened) = []
tail_of (Created entry opened) = []
tail_of (Written count) = []
tail_of (Statistics statistics) = []
tail_of (XattrSize size) = []
tail_of (Initialized initialized) = []

-- an error negated, in two's complement; 0 without one
abbrev pub error_number : Answer → ℕ
error_number (Error errno) = 2 ^ 32 - errno_number errno
error_number Nothing = 0
error_number (Entry entry) = 0
error_number (Attributes last attributes) = 0
error_number (Opened opened) = 0
error_number (Created entry opened) = 0
error_number (Data bytes) = 0
error_number (Written count) = 0
error_number (Statistics statistics) = 0
error_number (XattrSize size) = 0
error_number (Listing listed) = 0
error_number (Initialized initialized) = 0

-- how many bytes an answer has, with its head of 16
abbrev pub reply_size : Answer → ℕ
reply_size answer = 16 + (length (fixed_bytes answer) + length (tail_of answer))

abbrev pub head_bytes : ℕ → ℕ → ℕ → List ℕ
head_bytes size error unique = number_bytes 4 size ++ number_bytes 4 error ++ number_bytes 8 unique

-- the length, the error and the unique number of the message that is answered, and then the body
abbrev pub reply_bytes : ℕ → Answer → List ℕ
reply_bytes unique answer = head_bytes (reply_size answer) (error_number answer) unique ++ fixed_bytes answer ++ tail_of answer
