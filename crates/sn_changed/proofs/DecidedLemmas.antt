-- No file gets its first name by what a call decides.
use Rattle.std.proofs.Common.{◌≡◌, ℕ, ◌+◌, ◌≤◌, Bool, true, false, cond, ◌==◌, List, [], ◌∷◌, Option, Some, None, Result, Ok, Err, length, take, drop, refl, sym, ap, subst, ◌∙◌, ◌⊎◌, inl, inr, ◌*◌}
use Rattle.std.specs.Prelude.{IsSomeAnd}
use Rattle.std.specs.FinMap as map
use Rattle.sn_acl.specs.declared.modes.Mode.{Mode}
use Rattle.sn_limits.specs.declared.kind.Kind.TheVariants.{Directory, File}
use Rattle.sn_limits.specs.declared.kind.Kind.{Kind}
use Rattle.sn_limits.specs.declared.limits.Limits.{Limits}
use Rattle.sn_walk.specs.declared.object.Home.{Home}
use Rattle.sn_walk.specs.declared.object.Home.TheVariants.{Live}
use Rattle.sn_walk.specs.declared.object.Object.{Object}
use Rattle.sn_walk.specs.declared.object.Object.TheVariants as object
use Rattle.sn_walk.specs.declared.view.Attributes.{Attributes}
use Rattle.sn_walk.specs.declared.walking.Found.{Found}
use Rattle.sn_walk.specs.declared.walking.Walked.{Walked}
use Rattle.sn_walk.specs.declared.walking.Walked.TheVariants.{Root, Name}
use Rattle.sn_walk.specs.Chains.{◌>>=◌}
use Rattle.sn_walk.specs.Objects.{number_of, root}
use Rattle.sn_walk.specs.Views.{ViewedTrees, attributes_at}
use Rattle.sn_walk.specs.Walks.{EndsAt, found_as, found_at, walk_of}
use Rattle.sn_walk.proofs.ChainLemmas.{bind_ok}
use Rattle.sn_walk.proofs.WalkLemmas.{ends_at}
use Rattle.sn_model.specs.declared.argument.OpenFlags.{OpenFlags}
use Rattle.sn_model.specs.declared.call.Call.{Call}
use Rattle.sn_model.specs.declared.call.Call.TheVariants as call
use Rattle.sn_model.specs.declared.change.Change.TheVariants.{Make, Remove, SetSize}
use Rattle.sn_model.specs.declared.reply.Errno.TheVariants.{Enoent, Eperm}
use Rattle.sn_model.specs.declared.reply.Refusal.{Refusal}
use Rattle.sn_model.specs.declared.session.Session.{Session}
use Rattle.sn_model.specs.AccessCalls.{access_outcome, chmod_outcome, chown_outcome, getacl_outcome, live_if, setacl_outcome}
use Rattle.sn_model.specs.Calls.{Ready, mkdir_outcome, new_session, outcome_of, ready, seen, stat_outcome, with_path}
use Rattle.sn_model.specs.AccessCalls.{acl_argument, id_argument, mode_bits_argument}
use Rattle.sn_model.specs.SnapshotCalls.{snapshot_argument}
use Rattle.sn_model.specs.FileCalls.{bytes_argument, count_argument, flags_argument, file_charge}
use Rattle.sn_model.specs.Tests.{logged_in, logged_out, new_mode_argument, path_argument}
use Rattle.sn_model.proofs.Deciding as deciding
use Rattle.sn_model.specs.Descriptors.{descriptor_at, is_offset, next_descriptor, readable_at, writable_at}
use Rattle.sn_model.specs.FileCalls.{access_of, close_outcome, creating, file, first_ownership, ftruncate_outcome, is_size, no_directory, not_exclusive, open_absent, open_bytes, open_found, open_outcome, open_there, opens_new, opens_there, read_outcome, reads, seek_outcome, unlink_outcome, write_offset, write_outcome, write_some, writes}
use Rattle.sn_model.specs.NameCalls.{home_of, link_outcome, may_link, readdir_outcome, rename_outcome, rmdir_outcome}
use Rattle.sn_model.specs.NameTree.{IsHierarchy}
use Rattle.sn_model.specs.declared.outcome.AskedPoint.{AskedPoint}
use Rattle.sn_model.specs.declared.outcome.AskedPoint.TheVariants.{Freezes, Plain, Restores, Thaws, Unasked}
use Rattle.sn_model.specs.declared.outcome.Caller.{Caller}
use Rattle.sn_model.specs.declared.outcome.Caller.TheVariants.{Closes, LogsIn, LogsOut, Moves, Opens, OpensNew, SetsUmask, Stays}
use Rattle.sn_model.specs.declared.outcome.Outcome.{Outcome}
use Rattle.sn_model.specs.declared.outcome.Pending.{Pending}
use Rattle.sn_model.specs.declared.outcome.Pending.TheVariants.{Does, Makes, Nothing}
use Rattle.sn_model.specs.Outcomes.{tells, asks, does}
use Rattle.sn_model.specs.Seen.{last_name, parent_of}
use Rattle.sn_model.specs.SnapshotCalls.{snap_create_outcome, snap_delete_outcome, snap_restore_outcome}
use Rattle.sn_model.specs.Settling.{is_nameless, nameless_in}
use Rattle.sn_model.specs.Steps.{Comes, IsNumberFor, TakesMemory, changed, decision, filled}
use Rattle.sn_model.specs.Tests.{full, granted, has_room, live, not_present, one_tree, prefix, sticky, there, writable_parent}
use Rattle.sn_model.specs.Tree.{Node, Tree, link_to, viewed}
use Rattle.sn_model.specs.World.{Descriptor, World, trees_of, viewed_trees}
use Rattle.sn_model.specs.Worlds.{IsCall, IsWorld}
use Rattle.sn_model.specs.declared.reply.Reply.TheVariants as reply
use Rattle.sn_model.proofs.PointedLemmas.{pointed_live}
use Rattle.sn_model.proofs.SnapshotLemmas.{create_is, delete_is, restore_is}
use Rattle.sn_model.proofs.AccessCallLemmas.{access_tells, chmod_some, chown_some, getacl_tells, setacl_some, there_is}
use Rattle.sn_model.proofs.ChainLemmas.{some_same}
use Rattle.sn_model.proofs.DecidedLemmas.{decided_is}
use Rattle.sn_model.proofs.DecisionLemmas.{live_node, mkdir_is, ok, same_ok, stat_is, walked_ok}
use Rattle.sn_model.proofs.NameCallLemmas.{readdir_tells, rmdir_is}
use Rattle.sn_model.proofs.NameChains as chains
use Rattle.sn_model.proofs.OpenLemmas.{named_at}
use Rattle.sn_model.proofs.OutcomeLemmas.{FitsCaller, IsAlone, LeavesLive, OnChange}
use Rattle.sn_model.proofs.RenameLemmas.{IsOne, IsRenaming, has_passed, rename_is}
use Rattle.sn_overlay_change.specs.FirstNames.{GivesNoFirstName, StayNameless}
use Rattle.sn_overlay_change.proofs.StayingLemmas.{named_is_not, nameless_stay, staying_is_counted}
use Rattle.sn_changed.specs.Decided.{IsLogged, KeepsOpen, PendsNoFirstName}
use Rattle.sn_changed.proofs.HoldsLemmas.{keeps_filled, kept_open_stay}

abbrev ClosesNone : Caller → Type 0
ClosesNone Stays = Unit {0}
ClosesNone (LogsIn s) = Unit {0}
ClosesNone (SetsUmask mask) = Unit {0}
ClosesNone LogsOut = ⊥
ClosesNone (Opens fd home number flags) = Unit {0}
ClosesNone (OpensNew fd flags) = Unit {0}
ClosesNone (Closes fd) = ⊥
ClosesNone (Moves fd offset) = Unit {0}

-- what is decided gives no file its first name, of a node that is made as far as it is known yet; and where it changes the tree, it closes nothing
abbrev Spares : Tree → Pending → Caller → Type 0
Spares tree Nothing caller = Unit {0}
Spares tree (Makes directory name kind o) caller = ClosesNone caller
Spares tree (Does c) caller = GivesNoFirstName tree c × ClosesNone caller

-- what takes memory is no login, the only call that says its numbers
taking_is_call : (c : Call) → TakesMemory c → IsCall c
taking_is_call (call.Login uid gid groups) h = absurd h
taking_is_call _ h = tt

-- ---- what a path leads to

directory_is_not : (tree : Tree) (number : ℕ) (found : Option Node) → IsSomeAnd found (λ node. node.kind ≡ Directory) → is_nameless tree number found ≡ false
directory_is_not tree number None h = absurd h
directory_is_not tree number (Some node) h = ap (λ (k : Kind). is_nameless tree number (Some (record node { kind = k }))) h

root_found : (place : ℕ) (a : Option Attributes) (found : Found) → found_as place root a ≡ Some found → found.object ≡ root
root_found place None found e = cc e
root_found place (Some a) found e = ap (λ (f : Found). f.object) (sym (some_same (record { object = root; place = place; attributes = a }) found e))

module _ (limits : Limits) (world : World) where
  abbrev trees : ViewedTrees
  trees = viewed_trees (trees_of world)

  abbrev Spared : Outcome → Type 0
  Spared o = Spares world.live o.change o.caller

  abbrev Decided : Result Outcome Refusal → Type 0
  Decided (Ok o) = Spared o
  Decided (Err refusal) = Unit {0}

  -- a test, and what follows it
  then : {A : Type 0} (test : Result A Refusal) (f : A → Result Outcome Refusal) → ((x : A) → Decided (f x)) → Decided (test >>= f)
  then (Ok x) f more = more x
  then (Err refusal) f more = tt

  either : (b : Bool) (x y : Result Outcome Refusal) → Decided x → Decided y → Decided (cond b x y)
  either true x y first second = first
  either false x y first second = second

  each : (decided : Result Outcome Refusal) → ((o : Outcome) → decided ≡ Ok o → Spared o) → Decided decided
  each (Ok o) h = h o refl
  each (Err refusal) h = tt

  decides : (o p : Outcome) → o ≡ p → Spared p → Spared o
  decides o p e h = subst Spared (sym e) h

  -- the root is a directory, and each other node was found under a name
  reached_is_not : (names : List (List ℕ)) (w : Walked) (found : Found) (number : ℕ) → IsHierarchy world.live → EndsAt trees names w → found_at trees w ≡ Some found → found.object ≡ object.Node Live number → is_nameless world.live number (map.get world.live.nodes number) ≡ false
  reached_is_not (name ∷ names) Root found number h ends f is = absurd ends
  reached_is_not [] Root found number h ends f is =
      let same : 2 ≡ number = ap number_of (sym (root_found 0 (attributes_at trees root) found f) ∙ is) in
      subst (λ (n : ℕ). is_nameless world.live n (map.get world.live.nodes n) ≡ false) same (directory_is_not world.live 2 (map.get world.live.nodes 2) h.root)
  reached_is_not names (Name directory place last) found number h ends f is =
      let named = named_at world names (Name directory place last) Eperm (directory, place) found number ends refl f is in
      named_is_not world.live (link_to named.directory (last_name names)) number named.named (map.get world.live.nodes number)

  full_is_not : (s : Session) (names : List (List ℕ)) (found : Found) (number : ℕ) → IsHierarchy world.live → full trees s.cred 1 names ≡ Ok found → live found.object ≡ Ok number → is_nameless world.live number (map.get world.live.nodes number) ≡ false
  full_is_not s names found number h e l =
      let w = bind_ok (prefix trees s.cred 1 names) (λ w. there (found_at trees w)) found e in
      let ends = ends_at trees s.cred names w.0 (walked_ok 1 (walk_of trees s.cred names) w.0 w.1) in
      reached_is_not names w.0 found number h ends (there_is (found_at trees w.0) found w.2) (live_node found.object number l)

  -- ---- the calls

  link_gives_none : (s : Session) (names others : List (List ℕ)) (o : Outcome) → IsHierarchy world.live → link_outcome limits (seen limits world) s names others ≡ Ok o → Spared o
  unfolding link_outcome
  link_gives_none s names others o h e =
      let all = seen limits world in
      let x = bind_ok (full all.trees s.cred 1 names) (chains.link_kind limits all s others) o e in
      let k = bind_ok (no_directory x.0) (λ _. chains.link_walk limits all s others x.0) o x.2 in
      let w = bind_ok (prefix all.trees s.cred 2 others) (chains.link_tree limits all s others x.0) o k.2 in
      let t = bind_ok (one_tree x.0.object (home_of w.0)) (λ _. chains.link_live limits all s others x.0 w.0) o w.2 in
      let n = bind_ok (live x.0.object) (chains.link_new limits all s others x.0 w.0) o t.2 in
      let at = bind_ok (not_present w.0) (chains.link_parent limits all s others x.0 n.0) o n.2 in
      let p = bind_ok (writable_parent all.trees s.cred 2 at.0.1 at.0.0) (λ _. chains.link_count limits all s others x.0 n.0 at.0) o at.2 in
      let c = bind_ok (may_link limits x.0) (λ _. chains.link_room limits all s others at.0 n.0) o p.2 in
      let r = bind_ok (all.names.room (number_of at.0.0)) (λ _. chains.link_end limits all s others at.0 n.0) o c.2 in
      decides o _ (sym (same_ok _ o r.2)) (full_is_not s names x.0 n.0 h x.1 n.1, tt)

  unlink_gives_none : (s : Session) (names : List (List ℕ)) → Decided (unlink_outcome limits trees s names)
  unfolding unlink_outcome
  unlink_gives_none s names =
      let last = λ (at : Object × ℕ). ok (does (3 * limits.inode_charge + limits.block_charge) (Remove (number_of at.0) (last_name names))) in
      let behind = λ (w : Walked) (f : Found). parent_of Eperm w >>= (λ at. writable_parent trees s.cred 1 at.1 at.0 >>= (λ parent. sticky s.cred 1 parent f >>= (λ _. last at))) in
      then (prefix trees s.cred 1 names) (λ w. there (found_at trees w) >>= (λ f. no_directory f >>= (λ _. live f.object >>= (λ _. behind w f)))) (λ w.
      then (there (found_at trees w)) (λ f. no_directory f >>= (λ _. live f.object >>= (λ _. behind w f))) (λ f.
      then (no_directory f) (λ _. live f.object >>= (λ _. behind w f)) (λ u.
      then (live f.object) (λ _. behind w f) (λ n.
      then (parent_of Eperm w) (λ at. writable_parent trees s.cred 1 at.1 at.0 >>= (λ parent. sticky s.cred 1 parent f >>= (λ _. last at))) (λ at.
      then (writable_parent trees s.cred 1 at.1 at.0) (λ parent. sticky s.cred 1 parent f >>= (λ _. last at)) (λ p.
      then (sticky s.cred 1 p f) (λ _. last at) (λ _. (tt, tt))))))))

  module _ (s : Session) (names : List (List ℕ)) (fd : ℕ) (flags : OpenFlags) (mode : Mode) where
    there_gives_none : (found : Found) → Decided (open_there limits s fd flags found)
    unfolding open_there
    there_gives_none found =
        let last = λ (at : Home × ℕ). ok (opens_there limits flags fd at.0 at.1) in
        let asked = granted s.cred 1 found.place (access_of flags) (Some found.attributes) in
        then (not_exclusive flags) (λ _. file found >>= (λ at. live_if flags.write found.object >>= (λ _. asked >>= (λ _. last at)))) (λ u.
        then (file found) (λ at. live_if flags.write found.object >>= (λ _. asked >>= (λ _. last at))) (λ at.
        then (live_if flags.write found.object) (λ _. asked >>= (λ _. last at)) (λ v.
        then asked (λ _. last at) (λ _. told at flags.truncate))))
      where
        told : (at : Home × ℕ) (b : Bool) → Spared (opens_there limits (record flags { truncate = b }) fd at.0 at.1)
        told at true = (tt, tt)
        told at false = tt

    absent_gives_none : (w : Walked) → Decided (open_absent limits (seen limits world) s fd flags mode names w)
    unfolding open_absent
    absent_gives_none w =
        let last = λ (d : ℕ) (p : Attributes). ok (opens_new limits flags fd d (last_name names) (first_ownership File s mode p ((viewed world.live).default_acl d))) in
        then (creating flags) (λ _. parent_of Enoent w >>= (λ at. live at.0 >>= (λ d. writable_parent trees s.cred 1 at.1 at.0 >>= (λ p. has_room limits world.live d >>= (λ _. last d p))))) (λ u.
        then (parent_of Enoent w) (λ at. live at.0 >>= (λ d. writable_parent trees s.cred 1 at.1 at.0 >>= (λ p. has_room limits world.live d >>= (λ _. last d p)))) (λ at.
        then (live at.0) (λ d. writable_parent trees s.cred 1 at.1 at.0 >>= (λ p. has_room limits world.live d >>= (λ _. last d p))) (λ d.
        then (writable_parent trees s.cred 1 at.1 at.0) (λ p. has_room limits world.live d >>= (λ _. last d p)) (λ p.
        then (has_room limits world.live d) (λ _. last d p) (λ _. tt)))))

    found_gives_none : (w : Walked) (found : Option Found) → Decided (open_found limits (seen limits world) s fd flags mode names w found)
    found_gives_none w None = absent_gives_none w
    found_gives_none w (Some found) = there_gives_none found

  open_gives_none : (session : ℕ) (s : Session) (names : List (List ℕ)) (flags : OpenFlags) (mode : Mode) → Decided (open_outcome limits (seen limits world) world.descriptors session s names flags mode)
  unfolding open_outcome
  open_gives_none session s names flags mode =
      then (next_descriptor world.descriptors session) (λ fd. prefix trees s.cred 1 names >>= (λ w. open_found limits (seen limits world) s fd flags mode names w (found_at trees w))) (λ fd.
      then (prefix trees s.cred 1 names) (λ w. open_found limits (seen limits world) s fd flags mode names w (found_at trees w)) (λ w.
      found_gives_none s names fd flags mode w (found_at trees w)))

  rename_gives_none : (s : Session) (names others : List (List ℕ)) (o : Outcome) → ((o ≡ tells reply.Done) × IsOne world s names others) ⊎ IsRenaming limits world s names others o → Spared o
  rename_gives_none s names others o (inl one) = decides o _ one.0 tt
  rename_gives_none s names others o (inr p) = decides o _ (has_passed limits world s names others p.moving o p.moved).made (tt, tt)

  close_gives_none : (session fd : ℕ) → Decided (close_outcome world.descriptors session fd)
  unfolding close_outcome
  close_gives_none session fd = then (descriptor_at world.descriptors session fd) (λ _. ok (asks (Closes fd) reply.Done)) (λ _. tt)

  read_gives_none : (session fd count : ℕ) → Decided (read_outcome world session fd count)
  unfolding read_outcome
  read_gives_none session fd count = then (readable_at world.descriptors session fd) (λ d. ok (reads fd d (take count (drop d.offset (open_bytes world d))))) (λ _. tt)

  some_gives_none : (fd number offset : ℕ) (bytes : List ℕ) → Decided (write_some limits fd number offset bytes)
  unfolding write_some
  some_gives_none fd number offset bytes = then (is_size limits (offset + length bytes)) (λ _. ok (writes limits fd number offset bytes)) (λ _. (tt, tt))

  write_gives_none : (session fd : ℕ) (bytes : List ℕ) → Decided (write_outcome limits world session fd bytes)
  unfolding write_outcome
  write_gives_none session fd bytes =
      let some = λ (d : Descriptor). write_some limits fd d.number (write_offset d (open_bytes world d)) bytes in
      then (writable_at world.descriptors session fd) (λ d. cond (length bytes == 0) (ok (tells (reply.Number 0))) (some d)) (λ d.
      either (length bytes == 0) (ok (tells (reply.Number 0))) (some d) tt (some_gives_none fd d.number (write_offset d (open_bytes world d)) bytes))

  seek_gives_none : (session fd offset : ℕ) → Decided (seek_outcome limits world.descriptors session fd offset)
  unfolding seek_outcome
  seek_gives_none session fd offset =
      then (descriptor_at world.descriptors session fd) (λ _. is_offset limits offset >>= (λ to. ok (asks (Moves fd to) (reply.Number to)))) (λ d.
      then (is_offset limits offset) (λ to. ok (asks (Moves fd to) (reply.Number to))) (λ _. tt))

  ftruncate_gives_none : (session fd size : ℕ) → Decided (ftruncate_outcome limits world.descriptors session fd size)
  unfolding ftruncate_outcome
  ftruncate_gives_none session fd size =
      then (writable_at world.descriptors session fd) (λ d. is_size limits size >>= (λ _. ok (does (file_charge limits 1) (SetSize d.number size)))) (λ d.
      then (is_size limits size) (λ _. ok (does (file_charge limits 1) (SetSize d.number size))) (λ _. (tt, tt)))

  -- and so where the tests of the session and of the arguments come first
  abbrev Readied : Result Ready Refusal → Type 0
  Readied (Ok decides) = Decided (outcome_of limits world decides)
  Readied (Err refusal) = Unit {0}

  behind : {A : Type 0} (r : Result A Refusal) (f : A → Result Ready Refusal) → ((x : A) → Readied (f x)) → Readied (r >>= f)
  behind (Ok x) f more = more x
  behind (Err refusal) f more = tt

  named : (session : ℕ) (path : List ℕ) (f : Session → List (List ℕ) → Result Ready Refusal) → ((s : Session) (names : List (List ℕ)) → Readied (f s names)) → Readied (with_path world session path f)
  named session path f more = behind (logged_in world session) (λ s. path_argument path >>= (λ names. f s names)) (λ s. behind (path_argument path) (λ names. f s names) (more s))

  call_gives_none : (session : ℕ) (c : Call) → IsHierarchy world.live → Readied (ready world session c)
  call_gives_none session (call.Login uid gid groups) h = behind (logged_out world session) (λ _. ok (deciding.login (new_session uid gid groups))) (λ _. tt)
  call_gives_none session (call.Umask mask) h = behind (logged_in world session) (λ s. new_mode_argument mask >>= (λ bits. ok (deciding.umask s bits))) (λ s. behind (new_mode_argument mask) (λ bits. ok (deciding.umask s bits)) (λ bits. tt))
  call_gives_none session (call.Mkdir path mode) h = named session path (λ s names. new_mode_argument mode >>= (λ bits. ok (deciding.mkdir s names bits))) (λ s names. behind (new_mode_argument mode) (λ bits. ok (deciding.mkdir s names bits)) (λ bits. each (mkdir_outcome limits (seen limits world) s names bits) (λ o e. decides o _ (mkdir_is limits world s names bits o e).made tt)))
  call_gives_none session (call.Chmod path mode) h = named session path (λ s names. mode_bits_argument mode >>= (λ bits. ok (deciding.chmod s names bits))) (λ s names. behind (mode_bits_argument mode) (λ bits. ok (deciding.chmod s names bits)) (λ bits. each (chmod_outcome limits trees s names bits) (λ o e. decides o _ (chmod_some limits trees s names bits o e).2 (tt, tt))))
  call_gives_none session (call.Chown path uid gid) h = named session path (λ s names. id_argument uid >>= (λ owner. id_argument gid >>= (λ group. ok (deciding.chown s names owner group)))) (λ s names. behind (id_argument uid) (λ owner. id_argument gid >>= (λ group. ok (deciding.chown s names owner group))) (λ owner. behind (id_argument gid) (λ group. ok (deciding.chown s names owner group)) (λ group. each (chown_outcome limits trees s names owner group) (λ o e. decides o _ (chown_some limits trees s names owner group o e).2 (tt, tt)))))
  call_gives_none session (call.Stat path) h = named session path (λ s names. ok (deciding.stat s names)) (λ s names. each (stat_outcome trees s names) (λ o e. decides o _ (stat_is world s names o e).1 tt))
  call_gives_none session (call.Access path want) h = named session path (λ s names. ok (deciding.access s names want)) (λ s names. each (access_outcome trees s names want) (λ o e. decides o _ (access_tells trees s names want o e) tt))
  call_gives_none session (call.GetAcl path kind) h = named session path (λ s names. ok (deciding.getacl s names kind)) (λ s names. each (getacl_outcome trees s names kind) (λ o e. decides o _ (getacl_tells trees s names kind o e).1 tt))
  call_gives_none session (call.SetAcl path kind acl) h = named session path (λ s names. acl_argument kind acl >>= (λ new. ok (deciding.setacl s names new))) (λ s names. behind (acl_argument kind acl) (λ new. ok (deciding.setacl s names new)) (λ new. each (setacl_outcome limits trees s names new) (λ o e. decides o _ (setacl_some limits trees s names new o e).2 (tt, tt))))
  call_gives_none session (call.Rmdir path) h = named session path (λ s names. ok (deciding.rmdir s names)) (λ s names. each (rmdir_outcome limits (seen limits world) s names) (λ o e. decides o _ (rmdir_is limits world s names o e).made (tt, tt)))
  call_gives_none session (call.Unlink path) h = named session path (λ s names. ok (deciding.unlink s names)) (λ s names. unlink_gives_none s names)
  call_gives_none session (call.Link old new) h = named session old (λ s names. path_argument new >>= (λ others. ok (deciding.link s names others))) (λ s names. behind (path_argument new) (λ others. ok (deciding.link s names others)) (λ others. each (link_outcome limits (seen limits world) s names others) (λ o e. link_gives_none s names others o h e)))
  call_gives_none session (call.Rename old new) h = named session old (λ s names. path_argument new >>= (λ others. ok (deciding.rename s names others))) (λ s names. behind (path_argument new) (λ others. ok (deciding.rename s names others)) (λ others. each (rename_outcome limits (seen limits world) s names others) (λ o e. rename_gives_none s names others o (rename_is limits world s names others o e))))
  call_gives_none session (call.Readdir path) h = named session path (λ s names. ok (deciding.readdir s names)) (λ s names. each (readdir_outcome (seen limits world) s names) (λ o e. decides o _ (readdir_tells limits world s names o e).1 tt))
  call_gives_none session call.Logout h = behind (logged_in world session) (λ _. ok deciding.logout) (λ _. tt)
  call_gives_none session (call.Open path flags mode) h = named session path (λ s names. flags_argument flags >>= (λ asked. new_mode_argument mode >>= (λ bits. ok (deciding.opening session s names asked bits)))) (λ s names. behind (flags_argument flags) (λ asked. new_mode_argument mode >>= (λ bits. ok (deciding.opening session s names asked bits))) (λ asked. behind (new_mode_argument mode) (λ bits. ok (deciding.opening session s names asked bits)) (λ bits. open_gives_none session s names asked bits)))
  call_gives_none session (call.Close fd) h = behind (logged_in world session) (λ _. ok (deciding.close session fd)) (λ _. close_gives_none session fd)
  call_gives_none session (call.Read fd count) h = behind (logged_in world session) (λ _. count_argument count >>= (λ many. ok (deciding.read session fd many))) (λ _. behind (count_argument count) (λ many. ok (deciding.read session fd many)) (λ many. read_gives_none session fd many))
  call_gives_none session (call.Write fd bytes) h = behind (logged_in world session) (λ _. bytes_argument bytes >>= (λ new. ok (deciding.write session fd new))) (λ _. behind (bytes_argument bytes) (λ new. ok (deciding.write session fd new)) (λ new. write_gives_none session fd new))
  call_gives_none session (call.Seek fd offset) h = behind (logged_in world session) (λ _. ok (deciding.seek session fd offset)) (λ _. seek_gives_none session fd offset)
  call_gives_none session (call.Ftruncate fd size) h = behind (logged_in world session) (λ _. ok (deciding.ftruncate session fd size)) (λ _. ftruncate_gives_none session fd size)
  call_gives_none session call.Sync h = behind (logged_in world session) (λ _. ok deciding.sync) (λ _. tt)
  call_gives_none session (call.SnapCreate name) h = behind (logged_in world session) (λ s. snapshot_argument name >>= (λ new. ok (deciding.snap_create s new))) (λ s. behind (snapshot_argument name) (λ new. ok (deciding.snap_create s new)) (λ new. each (snap_create_outcome limits world s new) (λ o e. decides o _ (sym (create_is limits world s new o e).0) tt)))
  call_gives_none session (call.SnapDelete name) h = behind (logged_in world session) (λ s. snapshot_argument name >>= (λ old. ok (deciding.snap_delete s old))) (λ s. behind (snapshot_argument name) (λ old. ok (deciding.snap_delete s old)) (λ old. each (snap_delete_outcome world s old) (λ o e. decides o _ (sym (delete_is world s old o e).0) tt)))
  call_gives_none session (call.SnapRestore name) h = behind (logged_in world session) (λ s. snapshot_argument name >>= (λ old. ok (deciding.snap_restore s old))) (λ s. behind (snapshot_argument name) (λ old. ok (deciding.snap_restore s old)) (λ old. each (snap_restore_outcome limits world s old) (λ o e. decides o _ (sym (restore_is limits world s old o e).0) tt)))
  call_gives_none session call.SnapList h = behind (logged_in world session) (λ _. ok deciding.snap_list) (λ _. tt)

  filled_in : (number : ℕ) (pending : Pending) (caller : Caller) → Spares world.live pending caller → IsNumberFor limits world.live number pending → PendsNoFirstName world.live number pending
  filled_in number Nothing caller h free = tt
  filled_in number (Makes directory name kind o) caller h free = ap (is_nameless world.live number) free.unused
  filled_in number (Does c) caller h free = h.0

  closes_none : (pending : Pending) (caller : Caller) → Spares world.live pending caller → IsLogged pending → ClosesNone caller
  closes_none Nothing caller h logged = absurd logged
  closes_none (Makes directory name kind o) caller h logged = h
  closes_none (Does c) caller h logged = h.1

  module _ (session : ℕ) (c : Call) (o : Outcome) (e : decision limits world session c ≡ Ok o) where
    spared : IsHierarchy world.live → Spared o
    spared h =
        let r = bind_ok (ready world session c) (outcome_of limits world) o e in
        subst Decided r.2 (subst Readied r.1 (call_gives_none session c h))

    pub decided_give_no_first_name : (number : ℕ) → IsHierarchy world.live → IsNumberFor limits world.live number o.change → PendsNoFirstName world.live number o.change
    decided_give_no_first_name number h free = filled_in number o.change o.caller (spared h) free

    pub logged_keep_open : IsWorld limits world → IsLogged o.change → KeepsOpen world.descriptors session o.caller
    logged_keep_open whole logged =
        let d = decided_is limits world session c o e in
        keeps o.change o.caller (d.fits (taking_is_call c (taken o.change d.takes logged)) whole) (closes_none o.change o.caller (spared whole.live.hierarchy) logged)
      where
        taken : (pending : Pending) → OnChange (TakesMemory c) pending → IsLogged pending → TakesMemory c
        taken Nothing h logged = absurd logged
        taken (Makes directory name kind own) h logged = h
        taken (Does change) h logged = h

        keeps : (pending : Pending) (caller : Caller) → FitsCaller limits world session pending caller → ClosesNone caller → KeepsOpen world.descriptors session caller
        keeps pending Stays fits none = tt
        keeps pending (LogsIn s) fits none = tt
        keeps pending (SetsUmask mask) fits none = tt
        keeps pending LogsOut fits none = none
        keeps pending (Opens fd home number flags) fits none = fits.0.next
        keeps pending (OpensNew fd flags) fits none = fits.0.next
        keeps pending (Closes fd) fits none = none
        keeps pending (Moves fd offset) fits none = tt

  stays : (number : ℕ) (pending : Pending) (after : Tree) → PendsNoFirstName world.live number pending → changed limits number pending world.live ≡ Some after → StayNameless world.live after
  stays number Nothing after h e = subst (StayNameless world.live) (some_same _ _ e) (λ n bare_now. bare_now)
  stays number (Makes directory name kind o) after h e = nameless_stay limits (Make directory name number kind o) world.live after h e
  stays number (Does c) after h e = nameless_stay limits c world.live after h e

-- a point that comes with a change leaves the live tree
leaves_live : (p : AskedPoint) (change : Pending) (caller : Caller) → IsAlone p change caller → IsLogged change → LeavesLive p
leaves_live Unasked change caller alone logged = tt
leaves_live Plain change caller alone logged = tt
leaves_live (Freezes name) change caller alone logged = tt
leaves_live (Thaws name) change caller alone logged = tt
leaves_live (Restores name) change caller alone logged = subst IsLogged alone.0 logged

pub logged_stay_nameless : (limits : Limits) (old new : World) (session : ℕ) (c : Call) (o : Outcome) → IsWorld limits old → decision limits old session c ≡ Ok o → IsLogged o.change → Comes limits old session o new → StayNameless old.live new.live
logged_stay_nameless limits old new session c o whole e logged comes =
    let named = decided_give_no_first_name limits old session c o e comes.number whole.live.hierarchy comes.free in
    let open_then = keeps_filled old.descriptors session comes.number o.caller (logged_keep_open limits old session c o e whole logged) in
    subst (StayNameless old.live) (sym (ap (λ (w : World). w.live) comes.world ∙ pointed_live o.point (leaves_live o.point o.change o.caller (decided_is limits old session c o e).points.alone logged) _))
    (kept_open_stay limits old session (filled comes.number o.caller) comes.tree whole (stays limits old comes.number o.change comes.tree named comes.applied) open_then)

pub logged_keep_nameless : (limits : Limits) (old new : World) (session : ℕ) (c : Call) (o : Outcome) → IsWorld limits old → decision limits old session c ≡ Ok o → IsLogged o.change → Comes limits old session o new → nameless_in old.live ≤ nameless_in new.live
logged_keep_nameless limits old new session c o whole e logged comes = staying_is_counted old.live new.live (logged_stay_nameless limits old new session c o whole e logged comes)
