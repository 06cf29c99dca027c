-- Every decided change can be applied.
use Rattle.std.proofs.Common.{◌≡◌, ℕ, zero, suc, ◌+◌, ◌*◌, ◌-◌, ◌<◌, ◌^◌, Bool, true, false, not, cond, ◌&&◌, ◌||◌, ◌==◌, nat_lt, List, [], ◌∷◌, length, Option, Some, None, Result, Ok, Err, is_some, is_none, refl, sym, ap, subst, ◌∙◌, ◌⊎◌, inl, inr, arith, ltb-true}
use Rattle.std.specs.Prelude.{IfSome, slice_get}
use Rattle.std.specs.FinMap as map
use Rattle.std.specs.List.{list_all, AllByRecursion}
use Rattle.std.proofs.lemmas.Bool.{true≢false, lt-ltb, le-leb, leb-false}
use Rattle.std.proofs.lemmas.Nat.{and_le_l, and_le_r}
use Rattle.sn_acl.specs.declared.entries.Entry.{Entry}
use Rattle.sn_acl.specs.declared.modes.Mode.{Mode}
use Rattle.sn_acl.specs.Modes.{three_entries, mode_of, with_mode, common_mode, mode_without}
use Rattle.sn_acl.specs.Inheritance.{inherited_access, inherited_default}
use Rattle.sn_acl.specs.AccessList.{IsValid, is_acl}
use Rattle.sn_acl.proofs.ModeLemmas.{IsMode, valid-with_mode}
use Rattle.sn_acl.proofs.Validity.{test-from_valid}
use Rattle.sn_walk.specs.declared.fault.PathFault.{PathFault}
use Rattle.sn_walk.specs.declared.fault.PathFault.TheVariants.{Misspelt, TooLong}
use Rattle.sn_limits.specs.declared.kind.Kind.{Kind}
use Rattle.sn_limits.specs.declared.kind.Kind.TheVariants.{File, Directory}
use Rattle.sn_limits.specs.Names.{is_name_spelled, has_name_length, is_name}
use Rattle.sn_walk.specs.Paths.{last_after, parsed, of_word, of_names, of_length, components}
use Rattle.sn_walk.specs.Objects.{number_of}
use Rattle.sn_walk.specs.Views.{ViewedTrees, is_directory}
use Rattle.sn_model.specs.declared.call.Call.{Call}
use Rattle.sn_model.specs.declared.call.Call.TheVariants as call
use Rattle.sn_model.specs.declared.reply.Errno.TheVariants.{Einval}
use Rattle.sn_model.specs.declared.session.Session.{Session}
use Rattle.sn_model.specs.Tree.{Tree, Node, attributes_of, link_to, names_in, names_for, with_node}
use Rattle.sn_model.specs.World.{World, trees_of, viewed_trees}
use Rattle.sn_model.specs.NameTree.{IsNode, IsTree}
use Rattle.sn_model.specs.Changes.{is_default_acl, is_ownership, is_free_number, file_at, node_with, made, owned}
use Rattle.sn_walk.specs.Chains.{◌>>=◌}
use Rattle.sn_model.specs.Tests.{plain, logged_out, logged_in, read_path, path_argument, mode_from_bits, new_mode_argument}
use Rattle.sn_model.specs.declared.reply.Access as access
use Rattle.sn_model.specs.declared.reply.Refusal.{Refusal}
use Rattle.sn_model.specs.declared.reply.Reply.{Reply}
use Rattle.sn_model.specs.declared.reply.Reply.TheVariants as reply
use Rattle.sn_limits.specs.declared.limits.Limits.{Limits}
use Rattle.sn_model.specs.declared.change.Ownership.{Ownership}
use Rattle.sn_model.specs.Outcomes.{AskedPoint, Plain, Freezes, Thaws, Restores, Nothing, Outcome, LogsIn, SetsUmask, Stays, points_for, tells}
use Rattle.sn_model.specs.AccessCalls.{AclKind, acl_argument, id_argument, mode_bits_argument}
use Rattle.sn_model.specs.declared.change.Change.TheVariants.{AddLink, Remove, Rename, SetAttributes}
use Rattle.sn_model.specs.FileCalls.{OpenFlags, bytes_argument, count_argument, first_ownership, flags_argument}
use Rattle.sn_model.proofs.OpenLemmas.{opening_is, unlink_is}
use Rattle.sn_model.proofs.SeatLemmas.{seat_of}
use Rattle.sn_model.proofs.FileDecidedLemmas.{bytes_are, close_is, ftruncate_is, logout_is, reads_is, seek_is, write_is}
use Rattle.sn_model.proofs.ChargeLemmas.{remove_pays}
use Rattle.sn_model.proofs.OutcomeLemmas.{FitsPoint, IsAlone, IsAnswer, LeavesLive, done, is_asked, told, turned}
use Rattle.sn_model.proofs.SnapshotLemmas.{argument_is, create_is, delete_is, restore_is}
use Rattle.sn_model.specs.Charges.{point_charge}
use Rattle.sn_model.specs.NameLaws.{changes_names}
use Rattle.sn_model.specs.Settling.{nameless_if}
use Rattle.sn_model.specs.SnapshotCalls.{snapshot_argument}
pub use Rattle.sn_model.proofs.OutcomeLemmas.{IsDecided}
use Rattle.sn_model.specs.AccessLaws.{GivesTo, SetsAcl, ShowsMode}
use Rattle.sn_model.proofs.Deciding as deciding
use Rattle.sn_model.specs.Calls.{Ready, ready, outcome_of, new_session, last_name}
use Rattle.sn_model.specs.Steps.{IsNumber, IsNumberFor, TakesMemory, asks_for_point, changed, decision}
use Rattle.sn_model.specs.Worlds.{IsCaller, IsSession, IsWorld}
use Rattle.sn_model.proofs.ChainLemmas.{and_left, and_right, and_both}
use Rattle.sn_model.proofs.NameLemmas.{no_names_for}
use Rattle.sn_model.proofs.PartLemmas.{is_directory_at, made_of}
use Rattle.sn_walk.proofs.ChainLemmas.{bind_ok}
use Rattle.sn_model.proofs.DecisionLemmas as found
use Rattle.sn_model.proofs.DecisionLemmas.{HasPlace, called, same_ok, mkdir_is, stat_is}
use Rattle.sn_model.proofs.NameCallLemmas.{link_applies, link_is, readdir_tells, rmdir_applies, rmdir_is}
use Rattle.sn_model.proofs.RenameLemmas.{IsOne, IsRenaming, has_passed, rename_applies, rename_is}
use Rattle.sn_model.proofs.AccessCallLemmas.{SetsSome, access_tells, can_be_set, chmod_is, chmod_some, chown_is, chown_some, getacl_tells, setacl_is, setacl_some}

-- the ACLs of a new object are valid
three_acl : (mode : Mode) → IsMode mode → is_acl (three_entries mode) ≡ true
three_acl mode h =
    let entry = λ (n : ℕ) (k : n < 8). and_both (nat_lt n 8) true (lt-ltb n 8 k) refl in
    and_both (nat_lt mode.owner 8 && true) _ (entry mode.owner h.owner)
    (and_both (nat_lt mode.group 8 && true) _ (entry mode.group h.group) (and_both (nat_lt mode.other 8 && true) true (entry mode.other h.other) refl))

inherited_acl : (default : Option (List Entry)) (mode umask : Mode) → IsMode mode → IfSome default IsValid → is_acl (inherited_access default mode umask) ≡ true
inherited_acl None mode umask h v = three_acl (mode_without mode umask) (record {
  owner = omega (arith, and_le_l mode.owner (255 - umask.owner), h.owner);
  group = omega (arith, and_le_l mode.group (255 - umask.group), h.group);
  other = omega (arith, and_le_l mode.other (255 - umask.other), h.other);
})
inherited_acl (Some d) mode umask h v = test-from_valid (with_mode (common_mode (mode_of d) mode) d) (valid-with_mode (common_mode (mode_of d) mode) d (record {
  owner = omega (arith, and_le_r (mode_of d).owner mode.owner, h.owner);
  group = omega (arith, and_le_r (mode_of d).group mode.group, h.group);
  other = omega (arith, and_le_r (mode_of d).other mode.other, h.other);
}) v)

default_acl_of : (default : Option (List Entry)) → IfSome default IsValid → is_default_acl Directory default ≡ true
default_acl_of None v = refl
default_acl_of (Some d) v = test-from_valid d v

-- what is given to a new directory is an ownership
new_ownership : (limits : Limits) (s : Session) (mode : Mode) (tree : Tree) (number : ℕ) (parent : Node) → IsCaller s → IsMode mode → IsNode limits number parent → is_ownership Directory (first_ownership Directory s mode (attributes_of tree number parent) parent.default_acl) ≡ true
new_ownership limits s mode tree number parent caller h node =
    and_both _ _ (and_both _ _ (and_both _ _ (lt-ltb s.cred.uid (2 ^ 32) caller.uid) (group parent.set_gid)) (inherited_acl parent.default_acl mode s.umask h node.default_acl)) (default_acl_of parent.default_acl node.default_acl)
  where
    group : (b : Bool) → nat_lt (cond b parent.group s.cred.gid) (2 ^ 32) ≡ true
    group true = lt-ltb parent.group (2 ^ 32) node.group
    group false = lt-ltb s.cred.gid (2 ^ 32) caller.gid

-- the same of a new file
new_file_ownership : (limits : Limits) (s : Session) (mode : Mode) (tree : Tree) (number : ℕ) (parent : Node) → IsCaller s → IsMode mode → IsNode limits number parent → is_ownership File (first_ownership File s mode (attributes_of tree number parent) parent.default_acl) ≡ true
new_file_ownership limits s mode tree number parent caller h node =
    and_both _ _ (and_both _ _ (and_both _ _ (lt-ltb s.cred.uid (2 ^ 32) caller.uid) (group parent.set_gid)) (inherited_acl parent.default_acl mode s.umask h node.default_acl)) (none_of parent.default_acl)
  where
    group : (b : Bool) → nat_lt (cond b parent.group s.cred.gid) (2 ^ 32) ≡ true
    group true = lt-ltb parent.group (2 ^ 32) node.group
    group false = lt-ltb s.cred.gid (2 ^ 32) caller.gid

    none_of : (default : Option (List Entry)) → is_default_acl File (inherited_default default false) ≡ true
    none_of None = refl
    none_of (Some d) = refl

-- the names of a path are names
pub record AreNames (names : List (List ℕ)) : Type 0 where
  pub spelled : list_all is_name_spelled names ≡ true
  pub short : list_all has_name_length names ≡ true

abbrev path_ok : List (List ℕ) → Result (List (List ℕ)) PathFault
path_ok names = Ok names

same_path : (all names : List (List ℕ)) → path_ok all ≡ Ok names → all ≡ names
same_path all names e = cc

of_length_is : (names all : List (List ℕ)) → list_all is_name_spelled all ≡ true → of_length all ≡ Ok names → AreNames names
of_length_is names all h e = told (list_all has_name_length all) refl e
  where
    told : (b : Bool) → list_all has_name_length all ≡ b → cond b (path_ok all) (Err TooLong) ≡ Ok names → AreNames names
    told true t f = subst AreNames (same_path all names f) (record { spelled = h; short = t })
    told false t f = cc

of_names_is : (names all : List (List ℕ)) → of_names all ≡ Ok names → AreNames names
of_names_is names all e = told (list_all is_name_spelled all) refl e
  where
    told : (b : Bool) → list_all is_name_spelled all ≡ b → cond b (of_length all) (Err Misspelt) ≡ Ok names → AreNames names
    told true t f = of_length_is names all t f
    told false t f = cc

of_word_is : (names : List (List ℕ)) (word : List ℕ) → of_word word ≡ Ok names → AreNames names
of_word_is names [] e = cc
of_word_is names (b ∷ bs) e = told (b == 47) e
  where
    told : (t : Bool) → cond t (of_names (components bs)) (Err Misspelt) ≡ Ok names → AreNames names
    told true f = of_names_is names (components bs) f
    told false f = cc

parsed_is : (names : List (List ℕ)) (word : List ℕ) → parsed word ≡ Ok names → AreNames names
parsed_is names word e = told (nat_lt 1023 (length word)) e
  where
    told : (t : Bool) → cond t (Err TooLong) (of_word word) ≡ Ok names → AreNames names
    told true f = cc
    told false f = of_word_is names word f

read_is : (r : Result (List (List ℕ)) PathFault) (names : List (List ℕ)) → read_path r ≡ Ok names → r ≡ Ok names
read_is (Ok all) names e = ap path_ok (same_ok all names e)
read_is (Err Misspelt) names e = cc
read_is (Err TooLong) names e = cc

pub path_names : (word : List ℕ) (names : List (List ℕ)) → path_argument word ≡ Ok names → AreNames names
path_names word names e = parsed_is names word (read_is (parsed word) names e)

last_is_name : (first : List ℕ) (more : List (List ℕ)) → AreNames (first ∷ more) → is_name (last_after first more) ≡ true
last_is_name first [] h = and_both _ _ (and_left (is_name_spelled first) true h.spelled) (and_left (has_name_length first) true h.short)
last_is_name first (next ∷ more) h = last_is_name next more (record { spelled = and_right (is_name_spelled first) _ h.spelled; short = and_right (has_name_length first) _ h.short })

pub last_is : (names : List (List ℕ)) (first : List ℕ) (more : List (List ℕ)) → names ≡ first ∷ more → AreNames names → is_name (last_name names) ≡ true
last_is names first more some are = ap (λ (ns : List (List ℕ)). is_name (last_name ns)) some ∙ last_is_name first more (subst AreNames some are)

-- the mode of a new object has bits of three
mode_is : (bits : ℕ) (mode : Mode) → new_mode_argument bits ≡ Ok mode → IsMode mode
mode_is bits mode e = told (nat_lt bits 512) refl e
  where
    told : (b : Bool) → nat_lt bits 512 ≡ b → cond b (found.ok (mode_from_bits bits)) (Err (plain Einval)) ≡ Ok mode → IsMode mode
    told true t f =
        let few : bits < 512 = ltb-true bits 512 t in
        subst IsMode (same_ok (mode_from_bits bits) mode f) (record { owner = omega arith; group = omega arith; other = omega arith })
    told false t f = cc

-- whoever is logged in is one of the sessions
caller_at : (sessions : List (Option Session)) (i : ℕ) (s : Session) → AllByRecursion IsSession sessions → slice_get sessions i ≡ Some (Some s) → IsCaller s
caller_at [] i s all e = cc
caller_at (None ∷ sessions) zero s all e = cc
caller_at (Some x ∷ sessions) zero s all e = let same : x ≡ s = cc in subst IsCaller same all.0
caller_at (session ∷ sessions) (suc i) s all e = caller_at sessions i s all.1 e

caller_is : (world : World) (session : ℕ) (s : Session) → AllByRecursion IsSession world.sessions → logged_in world session ≡ Ok s → IsCaller s
caller_is world session s all e = caller_at world.sessions session s all (seat_of world session s e)

-- a new node can be made where there is a place for it
module _ (limits : Limits) (tree : Tree) (names : List (List ℕ)) (directory number : ℕ) (kind : Kind) (given : Ownership) (some_links : 0 < limits.links) (whole : IsTree limits tree) (are : AreNames names) (p : HasPlace limits tree names directory) (free : IsNumber limits tree number) (owned : is_ownership kind given ≡ true) where
  number_free : is_free_number limits tree number ≡ true
  number_free = and_both _ _ (and_both _ _ (lt-ltb 2 number free.first) (le-leb number limits.largest_number free.within)) (ap (λ o. is_none o || (is_some (file_at tree number) && names_for tree number == 0)) free.unused)

  nameless : names_for tree number ≡ 0
  nameless = no_names_for tree number (λ link e. true≢false (sym (whole.hierarchy.leads link number e) ∙ ap is_some free.unused))

  is_last : is_name (last_name names) ≡ true
  is_last = last_is names p.new.first p.new.more p.new.some_names are

  pub place_applies : made limits tree (link_to directory (last_name names)) number kind given ≡ Some (with_node tree number (link_to directory (last_name names)) (node_with kind given []))
  place_applies = made_of limits tree (link_to directory (last_name names)) number kind given _ (record {
    free = number_free;
    vacant = and_both _ _ (and_both _ _ is_last (ap not p.new.seen)) (ap is_none p.new.absent);
    owned = owned;
    room = record {
      directory = p.parent;
      parent = is_directory_at tree directory p.parent p.there (ap is_directory p.kind);
      names = lt-ltb (names_in tree directory) limits.names (leb-false limits.names (names_in tree directory) p.room);
      links = ap (λ n. nat_lt n limits.links) nameless ∙ lt-ltb 0 limits.links some_links;
    };
    gives = refl;
  })

module _ (limits : Limits) (world : World) (session : ℕ) where
  abbrev trees : ViewedTrees
  trees = viewed_trees (trees_of world)

  -- what follows the tests of the session and of the arguments
  abbrev ReadyTo : Call → Outcome → Type 0
  ReadyTo c o = (r : Ready) × (ready world session c ≡ Ok r) × (outcome_of limits world r ≡ Ok o)

  goes_on : (r q : Ready) (o : Outcome) → found.ok r ≡ Ok q → outcome_of limits world q ≡ Ok o → outcome_of limits world r ≡ Ok o
  goes_on r q o same e = subst (λ (x : Ready). outcome_of limits world x ≡ Ok o) (sym (same_ok r q same)) e

  tells_decided : (c : Call) → asks_for_point c ≡ false → (o : Outcome) (answer : Reply) → IsAnswer answer → o ≡ tells answer → IsDecided limits world session c o
  tells_decided c alone o answer is e = subst (IsDecided limits world session c) (sym e) (told limits world session c alone answer is)

  -- a point that is asked for
  asked : (c : Call) (o : Outcome) (charge : ℕ) (p : AskedPoint) → is_asked p ≡ asks_for_point c → IsAlone p Nothing Stays → (changes_names c ≡ false → LeavesLive p) → charge ≡ point_charge limits world p → FitsPoint limits world p → TakesMemory c → points_for charge p ≡ o → IsDecided limits world session c o
  asked c o charge p asks alone leaves pays fits takes e = subst (IsDecided limits world session c) e (record {
    answers = λ refusal f. cc f;
    left = tt;
    of_old = tt;
    keeps = λ h. (tt, leaves h);
    charged = λ h. tt;
    pays = omega (arith, pays);
    takes = tt;
    opens = λ f. cc f;
    applies = λ n l w f. refl;
    fits = λ k w. tt;
    points = record { asks = asks; alone = alone; fits = fits };
  })

  login_decided : (uid gid : ℕ) (groups : List ℕ) (o : Outcome) → ReadyTo (call.Login uid gid groups) o → IsDecided limits world session (call.Login uid gid groups) o
  login_decided uid gid groups o r =
      let s = new_session uid gid groups in
      let p = bind_ok (logged_out world session) (λ _. found.ok (deciding.login s)) r.0 r.1 in
      subst (IsDecided limits world session (call.Login uid gid groups)) (same_ok _ _ (goes_on (deciding.login s) r.0 o p.2 r.2))
      (turned limits world session (call.Login uid gid groups) refl (LogsIn s) reply.Done (λ refusal e. cc e) (λ f. cc f) (λ k w. record { uid = k.0; gid = k.1 }))

  umask_decided : (mask : ℕ) (o : Outcome) → ReadyTo (call.Umask mask) o → IsDecided limits world session (call.Umask mask) o
  umask_decided mask o r =
      let p = bind_ok (logged_in world session) (λ s. new_mode_argument mask >>= (λ bits. found.ok (deciding.umask s bits))) r.0 r.1 in
      let q = bind_ok (new_mode_argument mask) (λ bits. found.ok (deciding.umask p.0 bits)) r.0 p.2 in
      subst (IsDecided limits world session (call.Umask mask)) (same_ok _ _ (goes_on (deciding.umask p.0 q.0) r.0 o q.2 r.2))
      (turned limits world session (call.Umask mask) refl (SetsUmask q.0) (reply.Mode p.0.umask) (λ refusal e. cc e) (λ f. cc f) (λ k w. tt))

  mkdir_decided : (path : List ℕ) (mode : ℕ) (o : Outcome) → ReadyTo (call.Mkdir path mode) o → IsDecided limits world session (call.Mkdir path mode) o
  mkdir_decided path mode o r =
      let k = called world session path (λ s names. new_mode_argument mode >>= (λ bits. found.ok (deciding.mkdir s names bits))) r.0 r.1 in
      let m = bind_ok (new_mode_argument mode) (λ bits. found.ok (deciding.mkdir k.caller k.names bits)) r.0 k.passed in
      let p = mkdir_is limits world k.caller k.names m.0 o (goes_on (deciding.mkdir k.caller k.names m.0) r.0 o m.2 r.2) in
      subst (IsDecided limits world session (call.Mkdir path mode)) (sym p.made) (record {
        answers = λ refusal e. cc e;
        left = p.at.number;
        of_old = tt;
        keeps = λ h. cc h;
        charged = λ h. omega (arith, h);
        pays = omega arith;
        takes = tt;
        opens = λ f. cc f;
        applies = λ number some_links whole free.
            let own = first_ownership Directory k.caller m.0 (attributes_of world.live p.directory p.at.parent) p.at.parent.default_acl in
            let owned = new_ownership limits k.caller m.0 world.live p.directory p.at.parent (caller_is world session k.caller whole.callers k.called_by) (mode_is mode m.0 m.1) (whole.live.nodes.nodes p.directory p.at.parent p.at.there) in
            ap is_some (place_applies limits world.live k.names p.directory number Directory own some_links whole.live (path_names path k.names k.read) p.at free owned);
        fits = λ n w. tt;
        points = record { asks = refl; alone = tt; fits = tt };
      })

  -- attributes that are set
  set_decided : (c : Call) → asks_for_point c ≡ false → (o : Outcome) (is : SetsSome limits o) → TakesMemory c → (IsWorld limits world → is_some (owned world.live is.0 is.1) ≡ true) → IsDecided limits world session c o
  set_decided c alone o is takes can = subst (IsDecided limits world session c) (sym is.2) (done limits world session c alone limits.inode_charge (SetAttributes is.0 is.1) refl takes tt (λ _. tt) (λ h. h) can)

  chmod_decided : (path : List ℕ) (mode : ℕ) (o : Outcome) → ReadyTo (call.Chmod path mode) o → IsDecided limits world session (call.Chmod path mode) o
  chmod_decided path mode o r =
      let k = called world session path (λ s names. mode_bits_argument mode >>= (λ bits. found.ok (deciding.chmod s names bits))) r.0 r.1 in
      let m = bind_ok (mode_bits_argument mode) (λ bits. found.ok (deciding.chmod k.caller k.names bits)) r.0 k.passed in
      let e = goes_on (deciding.chmod k.caller k.names m.0) r.0 o m.2 r.2 in
      let is = chmod_some limits trees k.caller k.names m.0 o e in
      set_decided (call.Chmod path mode) refl o is tt (λ whole. can_be_set limits world k.caller o (ShowsMode k.caller m.0) is (chmod_is limits world k.caller k.names mode m.0 o whole m.1 e))

  chown_decided : (path : List ℕ) (uid gid : Option ℕ) (o : Outcome) → ReadyTo (call.Chown path uid gid) o → IsDecided limits world session (call.Chown path uid gid) o
  chown_decided path uid gid o r =
      let k = called world session path (λ s names. id_argument uid >>= (λ owner. id_argument gid >>= (λ group. found.ok (deciding.chown s names owner group)))) r.0 r.1 in
      let a = bind_ok (id_argument uid) (λ owner. id_argument gid >>= (λ group. found.ok (deciding.chown k.caller k.names owner group))) r.0 k.passed in
      let b = bind_ok (id_argument gid) (λ group. found.ok (deciding.chown k.caller k.names a.0 group)) r.0 a.2 in
      let e = goes_on (deciding.chown k.caller k.names a.0 b.0) r.0 o b.2 r.2 in
      let is = chown_some limits trees k.caller k.names a.0 b.0 o e in
      set_decided (call.Chown path uid gid) refl o is tt (λ whole. can_be_set limits world k.caller o (GivesTo k.caller a.0 b.0) is (chown_is limits world k.caller k.names uid a.0 gid b.0 o whole a.1 b.1 e))

  stat_decided : (path : List ℕ) (o : Outcome) → ReadyTo (call.Stat path) o → IsDecided limits world session (call.Stat path) o
  stat_decided path o r =
      let k = called world session path (λ s names. found.ok (deciding.stat s names)) r.0 r.1 in
      let t = stat_is world k.caller k.names o (goes_on (deciding.stat k.caller k.names) r.0 o k.passed r.2) in
      tells_decided (call.Stat path) refl o (reply.Status t.0) (λ refusal e. cc e) t.1

  access_decided : (path : List ℕ) (want : access.Access) (o : Outcome) → ReadyTo (call.Access path want) o → IsDecided limits world session (call.Access path want) o
  access_decided path want o r =
      let k = called world session path (λ s names. found.ok (deciding.access s names want)) r.0 r.1 in
      tells_decided (call.Access path want) refl o reply.Done (λ refusal e. cc e) (access_tells trees k.caller k.names want o (goes_on (deciding.access k.caller k.names want) r.0 o k.passed r.2))

  getacl_decided : (path : List ℕ) (kind : AclKind) (o : Outcome) → ReadyTo (call.GetAcl path kind) o → IsDecided limits world session (call.GetAcl path kind) o
  getacl_decided path kind o r =
      let k = called world session path (λ s names. found.ok (deciding.getacl s names kind)) r.0 r.1 in
      let t = getacl_tells trees k.caller k.names kind o (goes_on (deciding.getacl k.caller k.names kind) r.0 o k.passed r.2) in
      tells_decided (call.GetAcl path kind) refl o (reply.Acl t.0) (λ refusal e. cc e) t.1

  setacl_decided : (path : List ℕ) (kind : AclKind) (acl : List ℕ) (o : Outcome) → ReadyTo (call.SetAcl path kind acl) o → IsDecided limits world session (call.SetAcl path kind acl) o
  setacl_decided path kind acl o r =
      let k = called world session path (λ s names. acl_argument kind acl >>= (λ new. found.ok (deciding.setacl s names new))) r.0 r.1 in
      let a = bind_ok (acl_argument kind acl) (λ new. found.ok (deciding.setacl k.caller k.names new)) r.0 k.passed in
      let e = goes_on (deciding.setacl k.caller k.names a.0) r.0 o a.2 r.2 in
      let is = setacl_some limits trees k.caller k.names a.0 o e in
      set_decided (call.SetAcl path kind acl) refl o is tt (λ whole. can_be_set limits world k.caller o (SetsAcl a.0) is (setacl_is limits world k.caller k.names kind acl a.0 o whole a.1 e))

  -- a call of a session that is logged in
  seated : (more : Session → Result Ready Refusal) (r : Ready) → (logged_in world session >>= more) ≡ Ok r → (s : Session) × (logged_in world session ≡ Ok s) × (more s ≡ Ok r)
  seated more r e = bind_ok (logged_in world session) more r e

  rmdir_decided : (path : List ℕ) (o : Outcome) → ReadyTo (call.Rmdir path) o → IsDecided limits world session (call.Rmdir path) o
  rmdir_decided path o r =
      let k = called world session path (λ s names. found.ok (deciding.rmdir s names)) r.0 r.1 in
      let p = rmdir_is limits world k.caller k.names o (goes_on (deciding.rmdir k.caller k.names) r.0 o k.passed r.2) in
      subst (IsDecided limits world session (call.Rmdir path)) (sym p.made) (done limits world session (call.Rmdir path) refl (2 * limits.inode_charge + limits.block_charge) (Remove p.directory (last_name k.names)) (remove_pays limits world.live p.directory (last_name k.names) p.number p.node true p.named p.there p.kind) tt tt (λ h. cc h) (λ h. omega (arith, h)) (λ whole. rmdir_applies limits world.live k.names o p))

  unlink_decided : (path : List ℕ) (o : Outcome) → ReadyTo (call.Unlink path) o → IsDecided limits world session (call.Unlink path) o
  unlink_decided path o r =
      let k = called world session path (λ s names. found.ok (deciding.unlink s names)) r.0 r.1 in
      unlink_is limits world session k.caller k.names path o (goes_on (deciding.unlink k.caller k.names) r.0 o k.passed r.2)

  link_decided : (old new : List ℕ) (o : Outcome) → ReadyTo (call.Link old new) o → IsDecided limits world session (call.Link old new) o
  link_decided old new o r =
      let k = called world session old (λ s names. path_argument new >>= (λ others. found.ok (deciding.link s names others))) r.0 r.1 in
      let n = bind_ok (path_argument new) (λ others. found.ok (deciding.link k.caller k.names others)) r.0 k.passed in
      let p = link_is limits world k.caller k.names n.0 o (goes_on (deciding.link k.caller k.names n.0) r.0 o n.2 r.2) in
      subst (IsDecided limits world session (call.Link old new)) (sym p.made) (done limits world session (call.Link old new) refl (2 * limits.inode_charge + limits.block_charge) (AddLink p.directory (last_name n.0) p.number) refl tt tt (λ h. cc h) (λ h. omega (arith, h)) (λ whole. link_applies limits world.live n.0 o p (last_is n.0 p.new.first p.new.more p.new.some_names (path_names new n.0 n.1))))

  -- a name is moved, or both are of one thing
  rename_comes : (old new : List ℕ) (caller : Session) (names others : List (List ℕ)) (o : Outcome) → path_argument new ≡ Ok others
      → ((o ≡ tells reply.Done) × IsOne world caller names others) ⊎ IsRenaming limits world caller names others o → IsDecided limits world session (call.Rename old new) o
  rename_comes old new caller names others o read (inl one) = tells_decided (call.Rename old new) refl o reply.Done (λ refusal e. cc e) one.0
  rename_comes old new caller names others o read (inr p) =
      let m = p.moving in
      let t = has_passed limits world caller names others m o p.moved in
      let change = Rename (number_of m.old_directory) (last_name names) (number_of m.new_directory) (last_name others) in
      subst (IsDecided limits world session (call.Rename old new)) (sym t.made) (record {
        answers = λ refusal e. cc e;
        left = tt;
        of_old = tt;
        keeps = λ h. cc h;
        charged = λ h. omega (arith, h);
        pays = omega arith;
        takes = tt;
        opens = λ f. cc f;
        applies = λ number some_links whole free. rename_applies limits world caller names others o some_links whole.live p (λ first more e. last_is others first more e (path_names new others read));
        fits = λ k w. tt;
        points = record { asks = refl; alone = tt; fits = tt };
      })

  rename_decided : (old new : List ℕ) (o : Outcome) → ReadyTo (call.Rename old new) o → IsDecided limits world session (call.Rename old new) o
  rename_decided old new o r =
      let k = called world session old (λ s names. path_argument new >>= (λ others. found.ok (deciding.rename s names others))) r.0 r.1 in
      let n = bind_ok (path_argument new) (λ others. found.ok (deciding.rename k.caller k.names others)) r.0 k.passed in
      rename_comes old new k.caller k.names n.0 o n.1 (rename_is limits world k.caller k.names n.0 o (goes_on (deciding.rename k.caller k.names n.0) r.0 o n.2 r.2))

  readdir_decided : (path : List ℕ) (o : Outcome) → ReadyTo (call.Readdir path) o → IsDecided limits world session (call.Readdir path) o
  readdir_decided path o r =
      let k = called world session path (λ s names. found.ok (deciding.readdir s names)) r.0 r.1 in
      let t = readdir_tells limits world k.caller k.names o (goes_on (deciding.readdir k.caller k.names) r.0 o k.passed r.2) in
      tells_decided (call.Readdir path) refl o (reply.Names t.0) (λ refusal e. cc e) t.1

  logout_decided : (o : Outcome) → ReadyTo call.Logout o → IsDecided limits world session call.Logout o
  logout_decided o r =
      let k = seated (λ _. found.ok deciding.logout) r.0 r.1 in
      logout_is limits world session o (goes_on deciding.logout r.0 o k.2 r.2)

  open_decided : (path : List ℕ) (flags : OpenFlags) (mode : ℕ) (o : Outcome) → ReadyTo (call.Open path flags mode) o → IsDecided limits world session (call.Open path flags mode) o
  open_decided path flags mode o r =
      let k = called world session path (λ s names. flags_argument flags >>= (λ asked. new_mode_argument mode >>= (λ bits. found.ok (deciding.opening session s names asked bits)))) r.0 r.1 in
      let f = bind_ok (flags_argument flags) (λ asked. new_mode_argument mode >>= (λ bits. found.ok (deciding.opening session k.caller k.names asked bits))) r.0 k.passed in
      let m = bind_ok (new_mode_argument mode) (λ bits. found.ok (deciding.opening session k.caller k.names f.0 bits)) r.0 f.2 in
      let e = goes_on (deciding.opening session k.caller k.names f.0 m.0) r.0 o m.2 r.2 in
      opening_is limits world session k.caller k.names path flags f.0 mode m.0 o k.called_by f.1
      (λ directory number some_links whole at free.
      let own = first_ownership File k.caller m.0 (attributes_of world.live directory at.parent) at.parent.default_acl in
      let owned = new_file_ownership limits k.caller m.0 world.live directory at.parent (caller_is world session k.caller whole.callers k.called_by) (mode_is mode m.0 m.1) (whole.live.nodes.nodes directory at.parent at.there) in
      ap is_some (place_applies limits world.live k.names directory number File own some_links whole.live (path_names path k.names k.read) at free owned)) e

  close_decided : (fd : ℕ) (o : Outcome) → ReadyTo (call.Close fd) o → IsDecided limits world session (call.Close fd) o
  close_decided fd o r =
      let k = seated (λ _. found.ok (deciding.close session fd)) r.0 r.1 in
      close_is limits world session fd o (goes_on (deciding.close session fd) r.0 o k.2 r.2)

  read_decided : (fd count : ℕ) (o : Outcome) → ReadyTo (call.Read fd count) o → IsDecided limits world session (call.Read fd count) o
  read_decided fd count o r =
      let k = seated (λ _. count_argument count >>= (λ many. found.ok (deciding.read session fd many))) r.0 r.1 in
      let n = bind_ok (count_argument count) (λ many. found.ok (deciding.read session fd many)) r.0 k.2 in
      reads_is limits world session fd count n.0 o (goes_on (deciding.read session fd n.0) r.0 o n.2 r.2)

  write_decided : (fd : ℕ) (bytes : List ℕ) (o : Outcome) → ReadyTo (call.Write fd bytes) o → IsDecided limits world session (call.Write fd bytes) o
  write_decided fd bytes o r =
      let k = seated (λ _. bytes_argument bytes >>= (λ new. found.ok (deciding.write session fd new))) r.0 r.1 in
      let n = bind_ok (bytes_argument bytes) (λ new. found.ok (deciding.write session fd new)) r.0 k.2 in
      write_is limits world session fd bytes n.0 o (bytes_are bytes n.0 n.1) (goes_on (deciding.write session fd n.0) r.0 o n.2 r.2)

  seek_decided : (fd offset : ℕ) (o : Outcome) → ReadyTo (call.Seek fd offset) o → IsDecided limits world session (call.Seek fd offset) o
  seek_decided fd offset o r =
      let k = seated (λ _. found.ok (deciding.seek session fd offset)) r.0 r.1 in
      seek_is limits world session fd offset o (goes_on (deciding.seek session fd offset) r.0 o k.2 r.2)

  ftruncate_decided : (fd size : ℕ) (o : Outcome) → ReadyTo (call.Ftruncate fd size) o → IsDecided limits world session (call.Ftruncate fd size) o
  ftruncate_decided fd size o r =
      let k = seated (λ _. found.ok (deciding.ftruncate session fd size)) r.0 r.1 in
      ftruncate_is limits world session fd size o (goes_on (deciding.ftruncate session fd size) r.0 o k.2 r.2)

  sync_decided : (o : Outcome) → ReadyTo call.Sync o → IsDecided limits world session call.Sync o
  sync_decided o r =
      let k = seated (λ _. found.ok deciding.sync) r.0 r.1 in
      asked call.Sync o 0 Plain refl (refl, refl) (λ h. tt) refl tt tt (same_ok _ o (goes_on deciding.sync r.0 o k.2 r.2))

  snap_create_decided : (name : List ℕ) (o : Outcome) → ReadyTo (call.SnapCreate name) o → IsDecided limits world session (call.SnapCreate name) o
  snap_create_decided name o r =
      let p = bind_ok (logged_in world session) (λ s. snapshot_argument name >>= (λ new. found.ok (deciding.snap_create s new))) r.0 r.1 in
      let n = bind_ok (snapshot_argument name) (λ new. found.ok (deciding.snap_create p.0 new)) r.0 p.2 in
      let is = create_is limits world p.0 n.0 o (goes_on (deciding.snap_create p.0 n.0) r.0 o n.2 r.2) in
      asked (call.SnapCreate name) o 0 (Freezes n.0) refl (refl, refl) (λ h. tt) refl (argument_is name n.0 n.1, is.1, is.2) tt is.0

  snap_delete_decided : (name : List ℕ) (o : Outcome) → ReadyTo (call.SnapDelete name) o → IsDecided limits world session (call.SnapDelete name) o
  snap_delete_decided name o r =
      let p = bind_ok (logged_in world session) (λ s. snapshot_argument name >>= (λ old. found.ok (deciding.snap_delete s old))) r.0 r.1 in
      let n = bind_ok (snapshot_argument name) (λ old. found.ok (deciding.snap_delete p.0 old)) r.0 p.2 in
      let is = delete_is world p.0 n.0 o (goes_on (deciding.snap_delete p.0 n.0) r.0 o n.2 r.2) in
      asked (call.SnapDelete name) o 0 (Thaws n.0) refl (refl, refl) (λ h. tt) refl is.1 tt is.0

  snap_restore_decided : (name : List ℕ) (o : Outcome) → ReadyTo (call.SnapRestore name) o → IsDecided limits world session (call.SnapRestore name) o
  snap_restore_decided name o r =
      let p = bind_ok (logged_in world session) (λ s. snapshot_argument name >>= (λ old. found.ok (deciding.snap_restore s old))) r.0 r.1 in
      let n = bind_ok (snapshot_argument name) (λ old. found.ok (deciding.snap_restore p.0 old)) r.0 p.2 in
      let is = restore_is limits world p.0 n.0 o (goes_on (deciding.snap_restore p.0 n.0) r.0 o n.2 r.2) in
      asked (call.SnapRestore name) o (limits.inode_charge * nameless_if (map.get world.frozen n.0)) (Restores n.0) refl (refl, refl) (λ h. cc h) refl (is.1, is.2) tt is.0

  snap_list_decided : (o : Outcome) → ReadyTo call.SnapList o → IsDecided limits world session call.SnapList o
  snap_list_decided o r =
      let k = seated (λ _. found.ok deciding.snap_list) r.0 r.1 in
      tells_decided call.SnapList refl o (reply.Names (map.keys world.frozen)) (λ refusal e. cc e) (sym (same_ok _ o (goes_on deciding.snap_list r.0 o k.2 r.2)))

  by_call : (c : Call) (o : Outcome) → ReadyTo c o → IsDecided limits world session c o
  by_call (call.Login uid gid groups) o r = login_decided uid gid groups o r
  by_call (call.Umask mask) o r = umask_decided mask o r
  by_call (call.Mkdir path mode) o r = mkdir_decided path mode o r
  by_call (call.Chmod path mode) o r = chmod_decided path mode o r
  by_call (call.Chown path uid gid) o r = chown_decided path uid gid o r
  by_call (call.Stat path) o r = stat_decided path o r
  by_call (call.Access path want) o r = access_decided path want o r
  by_call (call.GetAcl path kind) o r = getacl_decided path kind o r
  by_call (call.SetAcl path kind acl) o r = setacl_decided path kind acl o r
  by_call (call.Rmdir path) o r = rmdir_decided path o r
  by_call (call.Unlink path) o r = unlink_decided path o r
  by_call (call.Link old new) o r = link_decided old new o r
  by_call (call.Rename old new) o r = rename_decided old new o r
  by_call (call.Readdir path) o r = readdir_decided path o r
  by_call call.Logout o r = logout_decided o r
  by_call (call.Open path flags mode) o r = open_decided path flags mode o r
  by_call (call.Close fd) o r = close_decided fd o r
  by_call (call.Read fd count) o r = read_decided fd count o r
  by_call (call.Write fd bytes) o r = write_decided fd bytes o r
  by_call (call.Seek fd offset) o r = seek_decided fd offset o r
  by_call (call.Ftruncate fd size) o r = ftruncate_decided fd size o r
  by_call call.Sync o r = sync_decided o r
  by_call (call.SnapCreate name) o r = snap_create_decided name o r
  by_call (call.SnapDelete name) o r = snap_delete_decided name o r
  by_call (call.SnapRestore name) o r = snap_restore_decided name o r
  by_call call.SnapList o r = snap_list_decided o r

  pub decided_is : (c : Call) (o : Outcome) → decision limits world session c ≡ Ok o → IsDecided limits world session c o
  decided_is c o e = by_call c o (bind_ok (ready world session c) (outcome_of limits world) o e)

pub decided_applies : (limits : Limits) (world : World) (session : ℕ) (c : Call) (o : Outcome) (number : ℕ) → 0 < limits.links → IsWorld limits world
    → decision limits world session c ≡ Ok o → IsNumberFor limits world.live number o.change → is_some (changed limits number o.change world.live) ≡ true
decided_applies limits world session c o number some_links whole e free = (decided_is limits world session c o e).applies number some_links whole free
