-- The line of an event: its words, with a space between each two, and a line feed.
use Rattle.std.specs.Prelude.{ℕ, ◌^◌, ◌<◌, ◌≤◌, List, [], ◌∷◌, ◌++◌, length, IfSome, IsTrue, codes, decimal}
use Rattle.std.specs.List.{AllByRecursion, join_with_byte}
use Rattle.hex.specs.Hex.{IsBytes}
use Rattle.sn_model.specs.declared.call.Call.{Call}
use Rattle.sn_model.specs.declared.call.Call.TheVariants as call
use Rattle.sn_model.specs.declared.call.Event.{Event}
use Rattle.sn_model.specs.declared.call.Event.TheVariants as event
use Rattle.sn_model.specs.Texts.{access_text}
use Rattle.sn_words.specs.Fields.{content_word, flags_word, has_flag, id_word, kind_word, mode_words, numbers_word, octal, is_word, IsFileMode}

abbrev pub name_of : Call → List ℕ
name_of (call.Login uid gid groups) = codes "login"
name_of call.Logout = codes "logout"
name_of (call.Umask mask) = codes "umask"
name_of (call.Mkdir path mode) = codes "mkdir"
name_of (call.Chmod path mode) = codes "chmod"
name_of (call.Chown path uid gid) = codes "chown"
name_of (call.Stat path) = codes "stat"
name_of (call.Access path want) = codes "access"
name_of (call.GetAcl path kind) = codes "getacl"
name_of (call.SetAcl path kind acl) = codes "setacl"
name_of (call.Rmdir path) = codes "rmdir"
name_of (call.Unlink path) = codes "unlink"
name_of (call.Link old new) = codes "link"
name_of (call.Rename old new) = codes "rename"
name_of (call.Readdir path) = codes "readdir"
name_of (call.Open path flags mode) = codes "open"
name_of (call.Close fd) = codes "close"
name_of (call.Read fd count) = codes "read"
name_of (call.Write fd bytes) = codes "write"
name_of (call.Seek fd offset) = codes "seek"
name_of (call.Ftruncate fd size) = codes "ftruncate"
name_of call.Sync = codes "sync"
name_of (call.SnapCreate name) = codes "snap-create"
name_of (call.SnapDelete name) = codes "snap-delete"
name_of (call.SnapRestore name) = codes "snap-restore"
name_of call.SnapList = codes "snap-list"

abbrev pub arguments_of : Call → List (List ℕ)
arguments_of (call.Login uid gid groups) = decimal uid ∷ decimal gid ∷ numbers_word groups ∷ []
arguments_of call.Logout = []
arguments_of (call.Umask mask) = octal mask ∷ []
arguments_of (call.Mkdir path mode) = path ∷ octal mode ∷ []
arguments_of (call.Chmod path mode) = path ∷ octal mode ∷ []
arguments_of (call.Chown path uid gid) = path ∷ id_word uid ∷ id_word gid ∷ []
arguments_of (call.Stat path) = path ∷ []
arguments_of (call.Access path want) = path ∷ access_text want ∷ []
arguments_of (call.GetAcl path kind) = path ∷ kind_word kind ∷ []
arguments_of (call.SetAcl path kind acl) = path ∷ kind_word kind ∷ acl ∷ []
arguments_of (call.Rmdir path) = path ∷ []
arguments_of (call.Unlink path) = path ∷ []
arguments_of (call.Link old new) = old ∷ new ∷ []
arguments_of (call.Rename old new) = old ∷ new ∷ []
arguments_of (call.Readdir path) = path ∷ []
arguments_of (call.Open path flags mode) = path ∷ flags_word flags ∷ mode_words flags.create mode
arguments_of (call.Close fd) = decimal fd ∷ []
arguments_of (call.Read fd count) = decimal fd ∷ decimal count ∷ []
arguments_of (call.Write fd bytes) = decimal fd ∷ content_word bytes ∷ []
arguments_of (call.Seek fd offset) = decimal fd ∷ decimal offset ∷ []
arguments_of (call.Ftruncate fd size) = decimal fd ∷ decimal size ∷ []
arguments_of call.Sync = []
arguments_of (call.SnapCreate name) = name ∷ []
arguments_of (call.SnapDelete name) = name ∷ []
arguments_of (call.SnapRestore name) = name ∷ []
arguments_of call.SnapList = []

abbrev pub words_of : Event → List (List ℕ)
words_of (event.Call session c) = decimal session ∷ name_of c ∷ arguments_of c
words_of event.Step = codes "step" ∷ []
words_of event.Restart = codes "restart" ∷ []

abbrev pub line_of : Event → List ℕ
line_of e = join_with_byte 32 (words_of e) ++ 10 ∷ []

-- the calls that have a line: numbers of users, groups and descriptors have 32 bits, counts, offsets and sizes 64, modes four octal
-- digits, and a path, an ACL and the name of a snapshot are any words
abbrev pub IsCall : Call → Type 0
IsCall (call.Login uid gid groups) = (uid < 2 ^ 32) × (gid < 2 ^ 32) × AllByRecursion (λ n. n < 2 ^ 32) groups × (length groups ≤ 32)
IsCall call.Logout = Unit {0}
IsCall (call.Umask mask) = mask < 4096
IsCall (call.Mkdir path mode) = IsTrue (is_word path) × (mode < 4096)
IsCall (call.Chmod path mode) = IsTrue (is_word path) × (mode < 4096)
IsCall (call.Chown path uid gid) = IsTrue (is_word path) × IfSome uid (λ n. n < 2 ^ 32) × IfSome gid (λ n. n < 2 ^ 32)
IsCall (call.Stat path) = IsTrue (is_word path)
IsCall (call.Access path want) = IsTrue (is_word path)
IsCall (call.GetAcl path kind) = IsTrue (is_word path)
IsCall (call.SetAcl path kind acl) = IsTrue (is_word path) × IsTrue (is_word acl)
IsCall (call.Rmdir path) = IsTrue (is_word path)
IsCall (call.Unlink path) = IsTrue (is_word path)
IsCall (call.Link old new) = IsTrue (is_word old) × IsTrue (is_word new)
IsCall (call.Rename old new) = IsTrue (is_word old) × IsTrue (is_word new)
IsCall (call.Readdir path) = IsTrue (is_word path)
IsCall (call.Open path flags mode) = IsTrue (is_word path) × IsTrue (has_flag flags) × IsFileMode flags.create mode
IsCall (call.Close fd) = fd < 2 ^ 32
IsCall (call.Read fd count) = (fd < 2 ^ 32) × (count < 2 ^ 64)
IsCall (call.Write fd bytes) = (fd < 2 ^ 32) × IsBytes bytes
IsCall (call.Seek fd offset) = (fd < 2 ^ 32) × (offset < 2 ^ 64)
IsCall (call.Ftruncate fd size) = (fd < 2 ^ 32) × (size < 2 ^ 64)
IsCall call.Sync = Unit {0}
IsCall (call.SnapCreate name) = IsTrue (is_word name)
IsCall (call.SnapDelete name) = IsTrue (is_word name)
IsCall (call.SnapRestore name) = IsTrue (is_word name)
IsCall call.SnapList = Unit {0}

-- the events that have a line
abbrev pub IsEvent : Event → Type 0
IsEvent (event.Call session c) = (session < 2 ^ 32) × IsCall c
IsEvent event.Step = Unit {0}
IsEvent event.Restart = Unit {0}
