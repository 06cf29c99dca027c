-- Each EACCES of a call is of a place of its path where the access rule denies.
use Rattle.std.specs.Option.{option_flatten, option_map_or}
use Rattle.std.proofs.Common.{◌≡◌, ◌⊎◌, inl, inr, ℕ, ◌^◌, Bool, true, false, cond, List, Option, Some, None, Result, Ok, Err, nat_lt, nat_le, length, refl, ap, subst, sym, ◌∙◌}
use Rattle.std.specs.List.{list_all}
use Rattle.std.specs.Prelude.{codes, slice_get, ok_or, ◌==◌, ◌/◌, ◌%◌}
use Rattle.std.specs.Str.{bytes_eq}
use Rattle.sn_acl.specs.declared.entries.Entry.{Entry}
use Rattle.sn_acl.specs.Text.{acl_of}
use Rattle.sn_limits.specs.declared.limits.Limits.{Limits}
use Rattle.sn_walk.specs.declared.fault.PathFault.{PathFault}
use Rattle.sn_walk.specs.declared.fault.PathFault.TheVariants.{Misspelt, TooLong}
use Rattle.sn_walk.specs.Chains.{◌>>=◌}
use Rattle.sn_walk.specs.Paths.{parsed}
use Rattle.sn_walk.specs.Views.{ViewedTrees}
use Rattle.sn_walk.proofs.ChainLemmas.{bind_ok}
use Rattle.sn_model.specs.declared.call.Call.{Call}
use Rattle.sn_model.specs.declared.call.Call.TheVariants as call
use Rattle.sn_model.specs.declared.outcome.Outcome.{Outcome}
use Rattle.sn_model.specs.declared.reply.Access as access
use Rattle.sn_model.specs.declared.reply.Errno.TheVariants.{Eacces, Einval, Enametoolong, Ebusy, Ebadf}
use Rattle.sn_model.specs.declared.reply.Refusal.{Refusal}
use Rattle.sn_model.specs.declared.session.Session.{Session}
use Rattle.sn_model.specs.AccessCalls.{AclKind, OfAccess, OfDefault, NewDefault, acl_argument, id_argument, mode_bits_argument, new_acl}
use Rattle.sn_model.specs.AccessLaws.{DeniesByRule}
use Rattle.sn_model.specs.FileCalls.{OpenFlags, are_flags, bytes_argument, count_argument, flags_argument}
use Rattle.sn_model.specs.Calls as calls
use Rattle.sn_model.proofs.Deciding as deciding
use Rattle.sn_model.specs.Calls.{new_session, outcome_of, ready}
use Rattle.sn_model.specs.Denials.{IsDenied, path_of}
use Rattle.sn_model.specs.Steps.{decision}
use Rattle.sn_model.specs.Tests.{plain, session_at, logged_in, logged_out, read_path, path_argument, mode_from_bits, new_mode_argument}
use Rattle.sn_model.specs.World.{World, trees_of, viewed_trees}
use Rattle.sn_model.specs.SnapshotCalls.{snapshot_argument}
use Rattle.sn_model.proofs.SnapshotLemmas.{argument_other, create_other, delete_other, restore_other}
use Rattle.sn_model.proofs.AccessDenialLemmas.{denies}
use Rattle.sn_model.proofs.DecisionLemmas.{IsCalled, called}
use Rattle.sn_model.proofs.DenialLemmas.{IsDeniedAt, bind_err, mkdir_denied, stat_denied}
use Rattle.sn_model.proofs.NameDenialLemmas.{link_denied, readdir_denied, rename_denied, rmdir_denied}
use Rattle.sn_model.proofs.OtherLemmas.{chain_other, tested_other}
use Rattle.sn_model.proofs.OpenDenialLemmas.{open_denied, unlink_denied}
use Rattle.sn_model.proofs.FileDenialLemmas.{close_other, ftruncate_other, never_refused, read_other, seek_other, write_other}

-- ---- sessions and arguments

session_other : (world : World) (session : ℕ) (r : Refusal) → session_at world session ≡ Err r → r.errno ≡ Eacces → ⊥
session_other world session r e is = tested_other Einval (λ q. cc q) (nat_lt session 64) (option_flatten (slice_get world.sessions session)) r e is

open_other : (o : Option Session) (r : Refusal) → ok_or o (plain Ebadf) ≡ Err r → r.errno ≡ Eacces → ⊥
open_other None r e is = let never : Ebadf ≡ Eacces = (let same : plain Ebadf ≡ r = cc e in ap (λ (x : Refusal). x.errno) same ∙ is) in cc never
open_other (Some s) r e is = cc e

free_other : (o : Option Session) (r : Refusal) → option_map_or (λ _. Err (plain Ebusy)) o (Ok (tt {0})) ≡ Err r → r.errno ≡ Eacces → ⊥
free_other None r e is = cc e
free_other (Some s) r e is = let never : Ebusy ≡ Eacces = (let same : plain Ebusy ≡ r = cc e in ap (λ (x : Refusal). x.errno) same ∙ is) in cc never

path_other : (word : List ℕ) (r : Refusal) → path_argument word ≡ Err r → r.errno ≡ Eacces → ⊥
path_other word r e is = told (parsed word) e
  where
    told : (p : Result (List (List ℕ)) PathFault) → read_path p ≡ Err r → ⊥
    told (Ok names) f = cc f
    told (Err Misspelt) f = let never : Einval ≡ Eacces = (let same : plain Einval ≡ r = cc f in ap (λ (x : Refusal). x.errno) same ∙ is) in cc never
    told (Err TooLong) f = let never : Enametoolong ≡ Eacces = (let same : plain Enametoolong ≡ r = cc f in ap (λ (x : Refusal). x.errno) same ∙ is) in cc never

mode_other : (bits : ℕ) (r : Refusal) → new_mode_argument bits ≡ Err r → r.errno ≡ Eacces → ⊥
mode_other bits r e is = tested_other Einval (λ q. cc q) (nat_lt bits 512) (mode_from_bits bits) r e is

caller_other : (world : World) (session : ℕ) (r : Refusal) → logged_in world session ≡ Err r → r.errno ≡ Eacces → ⊥
caller_other world session r e is = chain_other (session_at world session) (λ o. ok_or o (plain Ebadf)) r (λ h. session_other world session r h is) (λ o h. open_other o r h is) e

bits_other : (bits : ℕ) (r : Refusal) → mode_bits_argument bits ≡ Err r → r.errno ≡ Eacces → ⊥
bits_other bits r e is = tested_other Einval (λ q. cc q) (nat_lt bits 2048) (record { mode = mode_from_bits (bits % 512); set_gid = bits / 1024 == 1; sticky = bits / 512 % 2 == 1 }) r e is

id_other : (id : Option ℕ) (r : Refusal) → id_argument id ≡ Err r → r.errno ≡ Eacces → ⊥
id_other None r e is = cc e
id_other (Some number) r e is = tested_other Einval (λ q. cc q) (nat_lt number (2 ^ 32)) (Some number) r e is

new_acl_other : (o : Option (List Entry)) (kind : AclKind) (r : Refusal) → new_acl kind o ≡ Err r → r.errno ≡ Eacces → ⊥
new_acl_other None kind r e is = let never : Einval ≡ Eacces = (let same : plain Einval ≡ r = cc e in ap (λ (x : Refusal). x.errno) same ∙ is) in cc never
new_acl_other (Some acl) OfAccess r e is = cc e
new_acl_other (Some acl) OfDefault r e is = cc e

acl_word_other : (kind : AclKind) (word : List ℕ) (r : Refusal) → acl_argument kind word ≡ Err r → r.errno ≡ Eacces → ⊥
acl_word_other OfAccess word r e is = new_acl_other (acl_of word) OfAccess r e is
acl_word_other OfDefault word r e is = told (bytes_eq word (codes "-")) e
  where
    told : (b : Bool) → cond b (Ok (NewDefault None)) (new_acl OfDefault (acl_of word)) ≡ Err r → ⊥
    told true f = cc f
    told false f = new_acl_other (acl_of word) OfDefault r f is

count_other : (count : ℕ) (r : Refusal) → count_argument count ≡ Err r → r.errno ≡ Eacces → ⊥
count_other count r e is = tested_other Einval (λ q. cc q) (nat_le count 65536) count r e is

bytes_other : (bytes : List ℕ) (r : Refusal) → bytes_argument bytes ≡ Err r → r.errno ≡ Eacces → ⊥
bytes_other bytes r e is =
    chain_other (count_argument (length bytes)) (λ _. cond (list_all (λ b. nat_lt b 256) bytes) (Ok bytes) (Err (plain Einval))) r
    (λ h. count_other (length bytes) r h is) (λ _ h. tested_other Einval (λ q. cc q) (list_all (λ b. nat_lt b 256) bytes) bytes r h is) e

abbrev ready_ok : calls.Ready → Result calls.Ready Refusal
ready_ok x = Ok x

never_ok : (x : calls.Ready) (r : Refusal) → ready_ok x ≡ Err r → ⊥
never_ok x r e = cc e

module _ (world : World) (session : ℕ) (r : Refusal) (is : r.errno ≡ Eacces) where
  -- a call of a session that is logged in, and of one whose first argument is a path
  behind_caller : (f : Session → Result calls.Ready Refusal) → ((s : Session) → f s ≡ Err r → ⊥) → (logged_in world session >>= f) ≡ Err r → ⊥
  behind_caller f more e = chain_other (logged_in world session) f r (λ h. caller_other world session r h is) more e

  behind_path : (path : List ℕ) (f : Session → List (List ℕ) → Result calls.Ready Refusal) → ((s : Session) (names : List (List ℕ)) → f s names ≡ Err r → ⊥) → (logged_in world session >>= (λ s. path_argument path >>= (λ names. f s names))) ≡ Err r → ⊥
  behind_path path f more = behind_caller (λ s. path_argument path >>= (λ names. f s names)) (λ s. chain_other (path_argument path) (λ names. f s names) r (λ h. path_other path r h is) (more s))

  behind_paths : (old new : List ℕ) (f : Session → List (List ℕ) → List (List ℕ) → Result calls.Ready Refusal) → ((s : Session) (names others : List (List ℕ)) → f s names others ≡ Err r → ⊥)
      → (logged_in world session >>= (λ s. path_argument old >>= (λ names. path_argument new >>= (λ others. f s names others)))) ≡ Err r → ⊥
  behind_paths old new f more = behind_path old (λ s names. path_argument new >>= (λ others. f s names others)) (λ s names. chain_other (path_argument new) (λ others. f s names others) r (λ h. path_other new r h is) (more s names))

  -- the session and the arguments are refused with other errors
  ready_other : (c : Call) → ready world session c ≡ Err r → ⊥
  ready_other (call.Login uid gid groups) =
      chain_other (logged_out world session) (λ _. ready_ok (deciding.login (new_session uid gid groups))) r
      (chain_other (session_at world session) (λ o. option_map_or (λ _. Err (plain Ebusy)) o (Ok (tt {0}))) r (λ h. session_other world session r h is) (λ o h. free_other o r h is)) (λ _ h. never_ok _ r h)
  ready_other (call.Umask mask) =
      behind_caller (λ s. new_mode_argument mask >>= (λ bits. ready_ok (deciding.umask s bits))) (λ s. chain_other (new_mode_argument mask) (λ bits. ready_ok (deciding.umask s bits)) r (λ h. mode_other mask r h is) (λ bits h. never_ok _ r h))
  ready_other (call.Mkdir path mode) =
      behind_path path (λ s names. new_mode_argument mode >>= (λ bits. ready_ok (deciding.mkdir s names bits)))
      (λ s names. chain_other (new_mode_argument mode) (λ bits. ready_ok (deciding.mkdir s names bits)) r (λ h. mode_other mode r h is) (λ bits h. never_ok _ r h))
  ready_other (call.Chmod path mode) =
      behind_path path (λ s names. mode_bits_argument mode >>= (λ bits. ready_ok (deciding.chmod s names bits)))
      (λ s names. chain_other (mode_bits_argument mode) (λ bits. ready_ok (deciding.chmod s names bits)) r (λ h. bits_other mode r h is) (λ bits h. never_ok _ r h))
  ready_other (call.Chown path uid gid) =
      behind_path path (λ s names. id_argument uid >>= (λ owner. id_argument gid >>= (λ group. ready_ok (deciding.chown s names owner group))))
      (λ s names. chain_other (id_argument uid) (λ owner. id_argument gid >>= (λ group. ready_ok (deciding.chown s names owner group))) r (λ h. id_other uid r h is)
      (λ owner. chain_other (id_argument gid) (λ group. ready_ok (deciding.chown s names owner group)) r (λ h. id_other gid r h is) (λ group h. never_ok _ r h)))
  ready_other (call.Stat path) = behind_path path (λ s names. ready_ok (deciding.stat s names)) (λ s names h. never_ok _ r h)
  ready_other (call.Access path want) = behind_path path (λ s names. ready_ok (deciding.access s names want)) (λ s names h. never_ok _ r h)
  ready_other (call.GetAcl path kind) = behind_path path (λ s names. ready_ok (deciding.getacl s names kind)) (λ s names h. never_ok _ r h)
  ready_other (call.SetAcl path kind acl) =
      behind_path path (λ s names. acl_argument kind acl >>= (λ new. ready_ok (deciding.setacl s names new)))
      (λ s names. chain_other (acl_argument kind acl) (λ new. ready_ok (deciding.setacl s names new)) r (λ h. acl_word_other kind acl r h is) (λ new h. never_ok _ r h))
  ready_other (call.Rmdir path) = behind_path path (λ s names. ready_ok (deciding.rmdir s names)) (λ s names h. never_ok _ r h)
  ready_other (call.Unlink path) = behind_path path (λ s names. ready_ok (deciding.unlink s names)) (λ s names h. never_ok _ r h)
  ready_other (call.Link old new) = behind_paths old new (λ s names others. ready_ok (deciding.link s names others)) (λ s names others h. never_ok _ r h)
  ready_other (call.Rename old new) = behind_paths old new (λ s names others. ready_ok (deciding.rename s names others)) (λ s names others h. never_ok _ r h)
  ready_other (call.Readdir path) = behind_path path (λ s names. ready_ok (deciding.readdir s names)) (λ s names h. never_ok _ r h)
  ready_other call.Logout = behind_caller (λ _. ready_ok deciding.logout) (λ s h. never_ok _ r h)
  ready_other (call.Open path flags mode) =
      behind_path path (λ s names. flags_argument flags >>= (λ asked. new_mode_argument mode >>= (λ bits. ready_ok (deciding.opening session s names asked bits))))
      (λ s names. chain_other (flags_argument flags) (λ asked. new_mode_argument mode >>= (λ bits. ready_ok (deciding.opening session s names asked bits))) r (λ h. tested_other Einval (λ q. cc q) (are_flags flags) flags r h is)
      (λ asked. chain_other (new_mode_argument mode) (λ bits. ready_ok (deciding.opening session s names asked bits)) r (λ h. mode_other mode r h is) (λ bits h. never_ok _ r h)))
  ready_other (call.Close fd) = behind_caller (λ _. ready_ok (deciding.close session fd)) (λ s h. never_ok _ r h)
  ready_other (call.Read fd count) =
      behind_caller (λ _. count_argument count >>= (λ many. ready_ok (deciding.read session fd many)))
      (λ s. chain_other (count_argument count) (λ many. ready_ok (deciding.read session fd many)) r (λ h. count_other count r h is) (λ many h. never_ok _ r h))
  ready_other (call.Write fd bytes) =
      behind_caller (λ _. bytes_argument bytes >>= (λ new. ready_ok (deciding.write session fd new)))
      (λ s. chain_other (bytes_argument bytes) (λ new. ready_ok (deciding.write session fd new)) r (λ h. bytes_other bytes r h is) (λ new h. never_ok _ r h))
  ready_other (call.Seek fd offset) = behind_caller (λ _. ready_ok (deciding.seek session fd offset)) (λ s h. never_ok _ r h)
  ready_other (call.Ftruncate fd size) = behind_caller (λ _. ready_ok (deciding.ftruncate session fd size)) (λ s h. never_ok _ r h)
  ready_other call.Sync = behind_caller (λ _. ready_ok deciding.sync) (λ s h. never_ok _ r h)
  ready_other (call.SnapCreate name) =
      behind_caller (λ s. snapshot_argument name >>= (λ new. ready_ok (deciding.snap_create s new)))
      (λ s. chain_other (snapshot_argument name) (λ new. ready_ok (deciding.snap_create s new)) r (λ h. argument_other r is name h) (λ new h. never_ok _ r h))
  ready_other (call.SnapDelete name) =
      behind_caller (λ s. snapshot_argument name >>= (λ old. ready_ok (deciding.snap_delete s old)))
      (λ s. chain_other (snapshot_argument name) (λ old. ready_ok (deciding.snap_delete s old)) r (λ h. argument_other r is name h) (λ old h. never_ok _ r h))
  ready_other (call.SnapRestore name) =
      behind_caller (λ s. snapshot_argument name >>= (λ old. ready_ok (deciding.snap_restore s old)))
      (λ s. chain_other (snapshot_argument name) (λ old. ready_ok (deciding.snap_restore s old)) r (λ h. argument_other r is name h) (λ old h. never_ok _ r h))
  ready_other call.SnapList = behind_caller (λ _. ready_ok deciding.snap_list) (λ s h. never_ok _ r h)

read_ok : (p : Result (List (List ℕ)) PathFault) (names : List (List ℕ)) → read_path p ≡ Ok names → p ≡ Ok names
read_ok (Ok all) names e = let same : all ≡ names = cc e in ap (λ (x : List (List ℕ)). Ok x) same
read_ok (Err Misspelt) names e = cc e
read_ok (Err TooLong) names e = cc e

same_ready : (x y : calls.Ready) → ready_ok x ≡ Ok y → x ≡ y
same_ready x y e = cc e

-- ---- the calls

module _ (limits : Limits) (world : World) (session : ℕ) (r : Refusal) (is : r.errno ≡ Eacces) where
  abbrev trees : ViewedTrees
  trees = viewed_trees (trees_of world)

  -- what follows the tests of the session and of the arguments
  abbrev Denies : Call → Type 0
  Denies c = (x : calls.Ready) → ready world session c ≡ Ok x → outcome_of limits world x ≡ Err r → IsDenied world session c r

  goes_on : (x y : calls.Ready) → ready_ok x ≡ Ok y → outcome_of limits world y ≡ Err r → outcome_of limits world x ≡ Err r
  goes_on x y same e = subst (λ (z : calls.Ready). outcome_of limits world z ≡ Err r) (sym (same_ready x y same)) e

  -- it is one of the call's paths
  of_word : (c : Call) (which : ℕ) (word : List ℕ) (s : Session) (names : List (List ℕ)) → logged_in world session ≡ Ok s → path_argument word ≡ Ok names → path_of c which ≡ Some word → IsDeniedAt trees s.cred which names r → IsDenied world session c r
  of_word c which word s names by read is_word d = record {
    denial = d.denial;
    carried = d.carried;
    caller = s;
    called_by = by;
    word = word;
    path = ap (path_of c) d.path_is ∙ is_word;
    names = names;
    spelled = read_ok (parsed word) names read;
    by_rule = d.by_rule;
  }

  -- it is the call's first path
  of_path : {A : Type 0} (c : Call) (path : List ℕ) (more : Session → List (List ℕ) → Result A Refusal) (x : A) (k : IsCalled world session path more x) → path_of c 1 ≡ Some path → IsDeniedAt trees k.caller.cred 1 k.names r → IsDenied world session c r
  of_path c path more x k first d = of_word c 1 path k.caller k.names k.called_by k.read first d

  -- it is one of the call's two paths
  of_paths : {A : Type 0} (c : Call) (old new : List ℕ) (more : Session → List (List ℕ) → Result A Refusal) (x : A) (k : IsCalled world session old more x) (others : List (List ℕ)) → path_argument new ≡ Ok others → path_of c 1 ≡ Some old → path_of c 2 ≡ Some new
      → IsDeniedAt trees k.caller.cred 1 k.names r ⊎ IsDeniedAt trees k.caller.cred 2 others r → IsDenied world session c r
  of_paths c old new more x k others read first second (inl d) = of_path c old more x k first d
  of_paths c old new more x k others read first second (inr d) = of_word c 2 new k.caller others k.called_by read second d

  at_first : (s : Session) (names : List (List ℕ)) (decided : Result Outcome Refusal) → DeniesByRule trees s names decided → decided ≡ Err r → IsDeniedAt trees s.cred 1 names r
  at_first s names decided by e = let d = by r e is in record { denial = d.denial; carried = d.carried; path_is = d.path; by_rule = d.by_rule }

  login_denies : (uid gid : ℕ) (groups : List ℕ) → Denies (call.Login uid gid groups)
  login_denies uid gid groups x f g =
      let p = bind_ok (logged_out world session) (λ _. ready_ok (deciding.login (new_session uid gid groups))) x f in
      let never = goes_on (deciding.login (new_session uid gid groups)) x p.2 g in cc never

  umask_denies : (mask : ℕ) → Denies (call.Umask mask)
  umask_denies mask x f g =
      let p = bind_ok (logged_in world session) (λ s. new_mode_argument mask >>= (λ bits. ready_ok (deciding.umask s bits))) x f in
      let q = bind_ok (new_mode_argument mask) (λ bits. ready_ok (deciding.umask p.0 bits)) x p.2 in
      let never = goes_on (deciding.umask p.0 q.0) x q.2 g in cc never

  mkdir_denies : (path : List ℕ) (mode : ℕ) → Denies (call.Mkdir path mode)
  mkdir_denies path mode x f g =
      let more = λ (s : Session) (names : List (List ℕ)). new_mode_argument mode >>= (λ bits. ready_ok (deciding.mkdir s names bits)) in
      let k = called world session path more x f in
      let m = bind_ok (new_mode_argument mode) (λ bits. ready_ok (deciding.mkdir k.caller k.names bits)) x k.passed in
      of_path (call.Mkdir path mode) path more x k refl (mkdir_denied limits world k.caller k.names m.0 r is (goes_on (deciding.mkdir k.caller k.names m.0) x m.2 g))

  chmod_denies : (path : List ℕ) (mode : ℕ) → Denies (call.Chmod path mode)
  chmod_denies path mode x f g =
      let more = λ (s : Session) (names : List (List ℕ)). mode_bits_argument mode >>= (λ bits. ready_ok (deciding.chmod s names bits)) in
      let k = called world session path more x f in
      let m = bind_ok (mode_bits_argument mode) (λ bits. ready_ok (deciding.chmod k.caller k.names bits)) x k.passed in
      of_path (call.Chmod path mode) path more x k refl (at_first k.caller k.names _ ((denies limits trees k.caller k.names).chmod m.0) (goes_on (deciding.chmod k.caller k.names m.0) x m.2 g))

  chown_denies : (path : List ℕ) (uid gid : Option ℕ) → Denies (call.Chown path uid gid)
  chown_denies path uid gid x f g =
      let more = λ (s : Session) (names : List (List ℕ)). id_argument uid >>= (λ owner. id_argument gid >>= (λ group. ready_ok (deciding.chown s names owner group))) in
      let k = called world session path more x f in
      let a = bind_ok (id_argument uid) (λ owner. id_argument gid >>= (λ group. ready_ok (deciding.chown k.caller k.names owner group))) x k.passed in
      let b = bind_ok (id_argument gid) (λ group. ready_ok (deciding.chown k.caller k.names a.0 group)) x a.2 in
      of_path (call.Chown path uid gid) path more x k refl (at_first k.caller k.names _ ((denies limits trees k.caller k.names).chown a.0 b.0) (goes_on (deciding.chown k.caller k.names a.0 b.0) x b.2 g))

  stat_denies : (path : List ℕ) → Denies (call.Stat path)
  stat_denies path x f g =
      let more = λ (s : Session) (names : List (List ℕ)). ready_ok (deciding.stat s names) in
      let k = called world session path more x f in
      of_path (call.Stat path) path more x k refl (stat_denied limits world k.caller k.names (record { owner = 0; group = 0; other = 0 }) r is (goes_on (deciding.stat k.caller k.names) x k.passed g))

  access_denies : (path : List ℕ) (want : access.Access) → Denies (call.Access path want)
  access_denies path want x f g =
      let more = λ (s : Session) (names : List (List ℕ)). ready_ok (deciding.access s names want) in
      let k = called world session path more x f in
      of_path (call.Access path want) path more x k refl (at_first k.caller k.names _ ((denies limits trees k.caller k.names).access want) (goes_on (deciding.access k.caller k.names want) x k.passed g))

  getacl_denies : (path : List ℕ) (kind : AclKind) → Denies (call.GetAcl path kind)
  getacl_denies path kind x f g =
      let more = λ (s : Session) (names : List (List ℕ)). ready_ok (deciding.getacl s names kind) in
      let k = called world session path more x f in
      of_path (call.GetAcl path kind) path more x k refl (at_first k.caller k.names _ ((denies limits trees k.caller k.names).getacl kind) (goes_on (deciding.getacl k.caller k.names kind) x k.passed g))

  setacl_denies : (path : List ℕ) (kind : AclKind) (acl : List ℕ) → Denies (call.SetAcl path kind acl)
  setacl_denies path kind acl x f g =
      let more = λ (s : Session) (names : List (List ℕ)). acl_argument kind acl >>= (λ new. ready_ok (deciding.setacl s names new)) in
      let k = called world session path more x f in
      let a = bind_ok (acl_argument kind acl) (λ new. ready_ok (deciding.setacl k.caller k.names new)) x k.passed in
      of_path (call.SetAcl path kind acl) path more x k refl (at_first k.caller k.names _ ((denies limits trees k.caller k.names).setacl a.0) (goes_on (deciding.setacl k.caller k.names a.0) x a.2 g))

  -- a call of a session that is logged in, and that has no path
  behind_session : (c : Call) (y : calls.Ready) (x : calls.Ready) → (logged_in world session >>= (λ _. ready_ok y)) ≡ Ok x → outcome_of limits world x ≡ Err r → outcome_of limits world y ≡ Err r
  behind_session c y x f g = let p = bind_ok (logged_in world session) (λ _. ready_ok y) x f in goes_on y x p.2 g

  rmdir_denies : (path : List ℕ) → Denies (call.Rmdir path)
  rmdir_denies path x f g =
      let more = λ (s : Session) (names : List (List ℕ)). ready_ok (deciding.rmdir s names) in
      let k = called world session path more x f in
      of_path (call.Rmdir path) path more x k refl (rmdir_denied limits world k.caller r is k.names (goes_on (deciding.rmdir k.caller k.names) x k.passed g))

  unlink_denies : (path : List ℕ) → Denies (call.Unlink path)
  unlink_denies path x f g =
      let more = λ (s : Session) (names : List (List ℕ)). ready_ok (deciding.unlink s names) in
      let k = called world session path more x f in
      of_path (call.Unlink path) path more x k refl (unlink_denied r is trees k.caller k.names limits (goes_on (deciding.unlink k.caller k.names) x k.passed g))

  link_denies : (old new : List ℕ) → Denies (call.Link old new)
  link_denies old new x f g =
      let more = λ (s : Session) (names : List (List ℕ)). path_argument new >>= (λ others. ready_ok (deciding.link s names others)) in
      let k = called world session old more x f in
      let n = bind_ok (path_argument new) (λ others. ready_ok (deciding.link k.caller k.names others)) x k.passed in
      of_paths (call.Link old new) old new more x k n.0 n.1 refl refl (link_denied limits world k.caller r is k.names n.0 (goes_on (deciding.link k.caller k.names n.0) x n.2 g))

  rename_denies : (old new : List ℕ) → Denies (call.Rename old new)
  rename_denies old new x f g =
      let more = λ (s : Session) (names : List (List ℕ)). path_argument new >>= (λ others. ready_ok (deciding.rename s names others)) in
      let k = called world session old more x f in
      let n = bind_ok (path_argument new) (λ others. ready_ok (deciding.rename k.caller k.names others)) x k.passed in
      of_paths (call.Rename old new) old new more x k n.0 n.1 refl refl (rename_denied limits world k.caller r is k.names n.0 (goes_on (deciding.rename k.caller k.names n.0) x n.2 g))

  readdir_denies : (path : List ℕ) → Denies (call.Readdir path)
  readdir_denies path x f g =
      let more = λ (s : Session) (names : List (List ℕ)). ready_ok (deciding.readdir s names) in
      let k = called world session path more x f in
      of_path (call.Readdir path) path more x k refl (readdir_denied limits world k.caller r is k.names (goes_on (deciding.readdir k.caller k.names) x k.passed g))

  logout_denies : Denies call.Logout
  logout_denies x f g = absurd (never_refused _ r (behind_session call.Logout deciding.logout x f g))

  sync_denies : Denies call.Sync
  sync_denies x f g = absurd (never_refused _ r (behind_session call.Sync deciding.sync x f g))

  snap_create_denies : (name : List ℕ) → Denies (call.SnapCreate name)
  snap_create_denies name x f g =
      let p = bind_ok (logged_in world session) (λ s. snapshot_argument name >>= (λ new. ready_ok (deciding.snap_create s new))) x f in
      let n = bind_ok (snapshot_argument name) (λ new. ready_ok (deciding.snap_create p.0 new)) x p.2 in
      absurd (create_other limits world p.0 n.0 r is (goes_on (deciding.snap_create p.0 n.0) x n.2 g))

  snap_delete_denies : (name : List ℕ) → Denies (call.SnapDelete name)
  snap_delete_denies name x f g =
      let p = bind_ok (logged_in world session) (λ s. snapshot_argument name >>= (λ old. ready_ok (deciding.snap_delete s old))) x f in
      let n = bind_ok (snapshot_argument name) (λ old. ready_ok (deciding.snap_delete p.0 old)) x p.2 in
      absurd (delete_other world p.0 n.0 r is (goes_on (deciding.snap_delete p.0 n.0) x n.2 g))

  snap_restore_denies : (name : List ℕ) → Denies (call.SnapRestore name)
  snap_restore_denies name x f g =
      let p = bind_ok (logged_in world session) (λ s. snapshot_argument name >>= (λ old. ready_ok (deciding.snap_restore s old))) x f in
      let n = bind_ok (snapshot_argument name) (λ old. ready_ok (deciding.snap_restore p.0 old)) x p.2 in
      absurd (restore_other limits world p.0 n.0 r is (goes_on (deciding.snap_restore p.0 n.0) x n.2 g))

  snap_list_denies : Denies call.SnapList
  snap_list_denies x f g = absurd (never_refused _ r (behind_session call.SnapList deciding.snap_list x f g))

  open_denies : (path : List ℕ) (flags : OpenFlags) (mode : ℕ) → Denies (call.Open path flags mode)
  open_denies path flags mode x f g =
      let more = λ (s : Session) (names : List (List ℕ)). flags_argument flags >>= (λ asked. new_mode_argument mode >>= (λ bits. ready_ok (deciding.opening session s names asked bits))) in
      let k = called world session path more x f in
      let a = bind_ok (flags_argument flags) (λ asked. new_mode_argument mode >>= (λ bits. ready_ok (deciding.opening session k.caller k.names asked bits))) x k.passed in
      let m = bind_ok (new_mode_argument mode) (λ bits. ready_ok (deciding.opening session k.caller k.names a.0 bits)) x a.2 in
      of_path (call.Open path flags mode) path more x k refl (open_denied r is limits world k.caller k.names world.descriptors session a.0 m.0 (goes_on (deciding.opening session k.caller k.names a.0 m.0) x m.2 g))

  close_denies : (fd : ℕ) → Denies (call.Close fd)
  close_denies fd x f g = absurd (close_other world.descriptors session fd r is (behind_session (call.Close fd) (deciding.close session fd) x f g))

  read_denies : (fd count : ℕ) → Denies (call.Read fd count)
  read_denies fd count x f g =
      let p = bind_ok (logged_in world session) (λ _. count_argument count >>= (λ many. ready_ok (deciding.read session fd many))) x f in
      let n = bind_ok (count_argument count) (λ many. ready_ok (deciding.read session fd many)) x p.2 in
      absurd (read_other world session fd n.0 r is (goes_on (deciding.read session fd n.0) x n.2 g))

  write_denies : (fd : ℕ) (bytes : List ℕ) → Denies (call.Write fd bytes)
  write_denies fd bytes x f g =
      let p = bind_ok (logged_in world session) (λ _. bytes_argument bytes >>= (λ new. ready_ok (deciding.write session fd new))) x f in
      let n = bind_ok (bytes_argument bytes) (λ new. ready_ok (deciding.write session fd new)) x p.2 in
      absurd (write_other limits world session fd n.0 r is (goes_on (deciding.write session fd n.0) x n.2 g))

  seek_denies : (fd offset : ℕ) → Denies (call.Seek fd offset)
  seek_denies fd offset x f g = absurd (seek_other limits world.descriptors session fd offset r is (behind_session (call.Seek fd offset) (deciding.seek session fd offset) x f g))

  ftruncate_denies : (fd size : ℕ) → Denies (call.Ftruncate fd size)
  ftruncate_denies fd size x f g = absurd (ftruncate_other limits world.descriptors session fd size r is (behind_session (call.Ftruncate fd size) (deciding.ftruncate session fd size) x f g))

  decided_denies : (c : Call) → Denies c
  decided_denies (call.Login uid gid groups) = login_denies uid gid groups
  decided_denies (call.Umask mask) = umask_denies mask
  decided_denies (call.Mkdir path mode) = mkdir_denies path mode
  decided_denies (call.Chmod path mode) = chmod_denies path mode
  decided_denies (call.Chown path uid gid) = chown_denies path uid gid
  decided_denies (call.Stat path) = stat_denies path
  decided_denies (call.Access path want) = access_denies path want
  decided_denies (call.GetAcl path kind) = getacl_denies path kind
  decided_denies (call.SetAcl path kind acl) = setacl_denies path kind acl
  decided_denies (call.Rmdir path) = rmdir_denies path
  decided_denies (call.Unlink path) = unlink_denies path
  decided_denies (call.Link old new) = link_denies old new
  decided_denies (call.Rename old new) = rename_denies old new
  decided_denies (call.Readdir path) = readdir_denies path
  decided_denies call.Logout = logout_denies
  decided_denies (call.Open path flags mode) = open_denies path flags mode
  decided_denies (call.Close fd) = close_denies fd
  decided_denies (call.Read fd count) = read_denies fd count
  decided_denies (call.Write fd bytes) = write_denies fd bytes
  decided_denies (call.Seek fd offset) = seek_denies fd offset
  decided_denies (call.Ftruncate fd size) = ftruncate_denies fd size
  decided_denies call.Sync = sync_denies
  decided_denies (call.SnapCreate name) = snap_create_denies name
  decided_denies (call.SnapDelete name) = snap_delete_denies name
  decided_denies (call.SnapRestore name) = snap_restore_denies name
  decided_denies call.SnapList = snap_list_denies

pub access_denied : (limits : Limits) (world : World) (session : ℕ) (c : Call) (r : Refusal) → decision limits world session c ≡ Err r → r.errno ≡ Eacces → IsDenied world session c r
access_denied limits world session c r e is = told (bind_err (ready world session c) (outcome_of limits world) r e)
  where
    told : (ready world session c ≡ Err r) ⊎ ((x : calls.Ready) × (ready world session c ≡ Ok x) × (outcome_of limits world x ≡ Err r)) → IsDenied world session c r
    told (inl h) = absurd (ready_other world session r is c h)
    told (inr h) = decided_denies limits world session r is c h.0 h.1 h.2
