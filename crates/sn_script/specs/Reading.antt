-- What the words of a line say, from left to right.
use Rattle.std.specs.Prelude.{ℕ, ◌^◌, nat_le, List, [], ◌∷◌, length, Option, Some, None, if◌then◌else◌, codes}
use Rattle.std.specs.Str.{bytes_eq}
use Rattle.sn_model.specs.Chains.{◌>>=◌}
use Rattle.sn_model.specs.declared.call.Call.{Call}
use Rattle.sn_model.specs.declared.call.Call.TheVariants as call
use Rattle.sn_model.specs.declared.call.Event.{Event}
use Rattle.sn_model.specs.declared.call.Event.TheVariants as event
use Rattle.sn_words.specs.Fields.{parts}
use Rattle.sn_words.specs.Reading.{number_below, octal_of, groups_of, id_of, word_of, want_of, kind_named, flags_of, file_mode_of, content_of}

-- ---- arguments

unfoldable pub path_of : List (List ℕ) → Option (List ℕ)
path_of (path ∷ []) = word_of path
path_of _ = None

unfoldable pub paths_of : List (List ℕ) → Option (List ℕ × List ℕ)
paths_of (old ∷ new ∷ []) = do
  p ← word_of old
  q ← word_of new
  Some (p, q)
paths_of _ = None

unfoldable pub path_mode_of : List (List ℕ) → Option (List ℕ × ℕ)
path_mode_of (path ∷ mode ∷ []) = do
  p ← word_of path
  m ← octal_of mode
  Some (p, m)
path_mode_of _ = None

unfoldable pub descriptor_of : List (List ℕ) → Option ℕ
descriptor_of (fd ∷ []) = number_below (2 ^ 32) fd
descriptor_of _ = None

unfoldable pub descriptor_number_of : List (List ℕ) → Option (ℕ × ℕ)
descriptor_number_of (fd ∷ number ∷ []) = do
  d ← number_below (2 ^ 32) fd
  n ← number_below (2 ^ 64) number
  Some (d, n)
descriptor_number_of _ = None

-- ---- calls

unfoldable pub login_of : List (List ℕ) → Option Call
login_of (uid ∷ gid ∷ groups ∷ []) = do
  u ← number_below (2 ^ 32) uid
  g ← number_below (2 ^ 32) gid
  others ← groups_of groups
  Some (call.Login u g others)
login_of _ = None

unfoldable pub umask_of : List (List ℕ) → Option Call
umask_of (mask ∷ []) = do
  m ← octal_of mask
  Some (call.Umask m)
umask_of _ = None

-- a call without arguments
unfoldable pub bare_of : Call → List (List ℕ) → Option Call
bare_of c [] = Some c
bare_of c _ = None

unfoldable pub chown_of : List (List ℕ) → Option Call
chown_of (path ∷ uid ∷ gid ∷ []) = do
  p ← word_of path
  u ← id_of uid
  g ← id_of gid
  Some (call.Chown p u g)
chown_of _ = None

unfoldable pub access_of : List (List ℕ) → Option Call
access_of (path ∷ want ∷ []) = do
  p ← word_of path
  w ← want_of want
  Some (call.Access p w)
access_of _ = None

unfoldable pub getacl_of : List (List ℕ) → Option Call
getacl_of (path ∷ kind ∷ []) = do
  p ← word_of path
  k ← kind_named kind
  Some (call.GetAcl p k)
getacl_of _ = None

unfoldable pub setacl_of : List (List ℕ) → Option Call
setacl_of (path ∷ kind ∷ acl ∷ []) = do
  p ← word_of path
  k ← kind_named kind
  a ← word_of acl
  Some (call.SetAcl p k a)
setacl_of _ = None

unfoldable pub open_of : List (List ℕ) → Option Call
open_of (path ∷ flags ∷ modes) = do
  p ← word_of path
  f ← flags_of flags
  m ← file_mode_of f.create modes
  Some (call.Open p f m)
open_of _ = None

unfoldable pub write_of : List (List ℕ) → Option Call
write_of (fd ∷ bytes ∷ []) = do
  d ← number_below (2 ^ 32) fd
  bs ← content_of bytes
  Some (call.Write d bs)
write_of _ = None

-- the calls on descriptors
unfoldable pub file_call_of : List ℕ → List (List ℕ) → Option Call
file_call_of name arguments =
    if bytes_eq name (codes "open") then open_of arguments else
    if bytes_eq name (codes "close") then (descriptor_of arguments >>= (λ d. Some (call.Close d))) else
    if bytes_eq name (codes "read") then (descriptor_number_of arguments >>= (λ d. Some (call.Read d.0 d.1))) else
    if bytes_eq name (codes "write") then write_of arguments else
    if bytes_eq name (codes "seek") then (descriptor_number_of arguments >>= (λ d. Some (call.Seek d.0 d.1))) else
    if bytes_eq name (codes "ftruncate") then (descriptor_number_of arguments >>= (λ d. Some (call.Ftruncate d.0 d.1))) else None

-- the calls of modes, owners and ACLs, or on descriptors
unfoldable pub access_call_of : List ℕ → List (List ℕ) → Option Call
access_call_of name arguments =
    if bytes_eq name (codes "chmod") then (path_mode_of arguments >>= (λ p. Some (call.Chmod p.0 p.1))) else
    if bytes_eq name (codes "chown") then chown_of arguments else
    if bytes_eq name (codes "access") then access_of arguments else
    if bytes_eq name (codes "getacl") then getacl_of arguments else
    if bytes_eq name (codes "setacl") then setacl_of arguments else file_call_of name arguments

-- the calls on one path alone, or those of modes, owners and ACLs, or on descriptors
unfoldable pub path_call_of : List ℕ → List (List ℕ) → Option Call
path_call_of name arguments =
    if bytes_eq name (codes "rmdir") then (path_of arguments >>= (λ p. Some (call.Rmdir p))) else
    if bytes_eq name (codes "unlink") then (path_of arguments >>= (λ p. Some (call.Unlink p))) else
    if bytes_eq name (codes "readdir") then (path_of arguments >>= (λ p. Some (call.Readdir p))) else
    if bytes_eq name (codes "stat") then (path_of arguments >>= (λ p. Some (call.Stat p))) else access_call_of name arguments

-- the calls on names, or those of the other groups
unfoldable pub name_call_of : List ℕ → List (List ℕ) → Option Call
name_call_of name arguments =
    if bytes_eq name (codes "mkdir") then (path_mode_of arguments >>= (λ p. Some (call.Mkdir p.0 p.1))) else
    if bytes_eq name (codes "link") then (paths_of arguments >>= (λ p. Some (call.Link p.0 p.1))) else
    if bytes_eq name (codes "rename") then (paths_of arguments >>= (λ p. Some (call.Rename p.0 p.1))) else path_call_of name arguments

-- the calls for a whole point and on snapshots, or on names
unfoldable pub point_call_of : List ℕ → List (List ℕ) → Option Call
point_call_of name arguments =
    if bytes_eq name (codes "sync") then bare_of call.Sync arguments else
    if bytes_eq name (codes "snap-create") then (path_of arguments >>= (λ p. Some (call.SnapCreate p))) else
    if bytes_eq name (codes "snap-delete") then (path_of arguments >>= (λ p. Some (call.SnapDelete p))) else
    if bytes_eq name (codes "snap-restore") then (path_of arguments >>= (λ p. Some (call.SnapRestore p))) else
    if bytes_eq name (codes "snap-list") then bare_of call.SnapList arguments else name_call_of name arguments

unfoldable pub call_of : List ℕ → List (List ℕ) → Option Call
call_of name arguments =
    if bytes_eq name (codes "login") then login_of arguments else
    if bytes_eq name (codes "logout") then bare_of call.Logout arguments else
    if bytes_eq name (codes "umask") then umask_of arguments else point_call_of name arguments

-- the events that are no calls of a session
unfoldable pub lone_event_of : List ℕ → Option Event
lone_event_of name =
    if bytes_eq name (codes "step") then Some event.Step else
    if bytes_eq name (codes "restart") then Some event.Restart else None

unfoldable pub event_of : List (List ℕ) → Option Event
event_of (name ∷ []) = lone_event_of name
event_of (session ∷ name ∷ arguments) = do
  s ← number_below (2 ^ 32) session
  c ← call_of name arguments
  Some (event.Call s c)
event_of _ = None

-- a line without its end; none has more than five words
unfoldable pub line_event : List ℕ → Option Event
line_event line = if nat_le (length (parts 32 line)) 5 then event_of (parts 32 line) else None
