-- What the machine's replies say, and what it runs over after them.
use Rattle.std.proofs.Common.{◌≡◌, ◌≢◌, ◌⊎◌, ◌+◌, ◌<◌, ℕ, Bool, true, false, cond, Option, Some, None, Result, Ok, Err, List, [], ◌∷◌, length, inl, inr, refl, sym, ap, subst, ◌∙◌, true≢false, arith}
use Rattle.std.specs.Prelude.{nat_le, slice_get, slice_set, take, drop, ok_or}
use Rattle.std.specs.Option.{option_flatten}
use Rattle.std.specs.FinMap as map
use Rattle.sn_acl.specs.declared.entries.Entry.{Entry}
use Rattle.sn_acl.specs.Credential.{Credential}
use Rattle.sn_limits.specs.Versions.{limits_written}
use Rattle.sn_limits.specs.declared.kind.Kind.TheVariants.{File}
use Rattle.sn_walk.specs.declared.fault.PathFault.{PathFault}
use Rattle.sn_walk.specs.declared.fault.PathFault.TheVariants.{Misspelt, TooLong}
use Rattle.sn_walk.specs.declared.object.Home.{Home}
use Rattle.sn_walk.specs.declared.object.Object.{Object}
use Rattle.sn_walk.specs.declared.object.Object.TheVariants.{Node, Snapshots}
use Rattle.sn_walk.specs.declared.walking.Found.{Found}
use Rattle.sn_walk.specs.declared.walking.Walked.{Walked}
use Rattle.sn_walk.specs.Chains.{◌>>=◌}
use Rattle.sn_walk.specs.Objects.{number_of}
use Rattle.sn_walk.specs.Paths.{parsed}
use Rattle.sn_walk.specs.Views.{is_directory}
use Rattle.sn_walk.specs.Walks.{found_at}
use Rattle.sn_walk.proofs.ChainLemmas.{bind_ok}
use Rattle.sn_model.specs.declared.argument.AclKind.{AclKind}
use Rattle.sn_model.specs.declared.call.Call.{Call}
use Rattle.sn_model.specs.declared.call.Call.TheVariants as call
use Rattle.sn_model.specs.declared.call.Event.TheVariants as event
use Rattle.sn_model.specs.declared.reply.Errno.TheVariants.{Ebadf, Einval, Eio, Eisdir, Enomem}
use Rattle.sn_model.specs.declared.reply.Errno.{Errno}
use Rattle.sn_model.specs.declared.reply.FileStatus.{FileStatus}
use Rattle.sn_model.specs.declared.reply.Refusal.{Refusal}
use Rattle.sn_model.specs.declared.reply.Reply.{Reply}
use Rattle.sn_model.specs.declared.reply.Reply.TheVariants as answer
use Rattle.sn_model.specs.declared.session.Session.{Session}
use Rattle.sn_model.specs.AccessCalls.{acl_at, getacl_outcome, has_acl}
use Rattle.sn_model.specs.Calls.{Ready, new_session, outcome_of, stat_outcome, status_of}
use Rattle.sn_model.specs.Descriptors.{Descriptors, closed, descriptor_at, descriptor_for, moved_if, moved_to, next_descriptor, opened, readable_at}
use Rattle.sn_model.specs.FileCalls.{close_outcome, count_argument, file, file_of, open_absent, open_as, open_bytes, open_found, open_outcome, open_there, opens_there, read_outcome, reads}
use Rattle.sn_model.specs.Machine.{CallStep, EventStep, MayWrite, Memory, Mishap, Read, Running, Space, Age, State, Write, refused}
use Rattle.sn_model.specs.NameCalls.{is_listable, read, readdir_outcome}
use Rattle.sn_model.specs.NameTree.{HasKind}
use Rattle.sn_model.specs.Outcomes.{asks, tells}
use Rattle.sn_model.specs.declared.outcome.Caller.{Caller}
use Rattle.sn_model.specs.declared.outcome.Caller.TheVariants.{Closes, LogsIn, Moves, Opens, Stays}
use Rattle.sn_model.specs.declared.outcome.Outcome.{Outcome}
use Rattle.sn_model.specs.Seen.{listed, seen}
use Rattle.sn_model.specs.Settling.{dropped}
use Rattle.sn_model.specs.Steps.{Becomes, Comes, decision, filled, with_caller, with_live}
use Rattle.sn_model.specs.Tests.{full, granted, logged_in, logged_out, mode_from_bits, path_argument, plain, prefix, read_path, there}
use Rattle.sn_model.specs.Tree.{Tree, names_for}
use Rattle.sn_model.specs.World.{Descriptor, Trees, World, descriptor_cmp, trees_of, viewed_trees}
use Rattle.sn_model.specs.Worlds.{IsFound}
use Rattle.sn_model.proofs.ChainLemmas.{some_same}
use Rattle.sn_model.proofs.DecisionLemmas.{called, ok, same_ok}
use Rattle.sn_model.proofs.DroppedLemmas.{dropped_same}
use Rattle.sn_model.proofs.HeldLemmas.{descriptors_total, exact_descriptors}
use Rattle.sn_model.proofs.MapLemmas.{get_inserted, get_left, get_other, get_removed, same_or_apart}
use Rattle.sn_export_reading.specs.Faults.{LeadsNowhere, OfCall, OfMemory, OfMount, reason_of, refusal_in}
use Rattle.sn_export_reading.specs.Serving.{AreFound, HasNoneBeside, HasNoneOpen, HasStatus, InState, IsStepOf, LeadsTo, Reads, ReadsFile, Runs, bytes_at, reader, to_read}
use Rattle.sn_export_reading.proofs.Faults.{IsOwn}

-- ---- a reply that refuses nothing

abbrev pub is_refusal : Reply → Bool
is_refusal (answer.Refused refusal) = true
is_refusal reply = false

never_refused : {A : Type 0} (reply : Reply) (refusal : Refusal) → reply ≡ answer.Refused refusal → is_refusal reply ≡ false → A
never_refused reply refusal e not_refused = absurd (true≢false (sym (ap is_refusal e) ∙ not_refused))

answered : (world : World) (c : Call) (reply : Reply) (met : Option Mishap) (next : State) → EventStep limits_written (Running world) (event.Call 0 c) met reply next → is_refusal reply ≡ false
    → CallStep limits_written world 0 c None reply next
answered world c reply None next step not_refused = step
answered world c reply (Some Write) next step not_refused = never_refused reply _ step.stops.told not_refused
answered world c reply (Some Memory) next step not_refused = never_refused reply _ step.1.told not_refused
answered world c reply (Some Read) next step not_refused = never_refused reply _ step.1.told not_refused
answered world c reply (Some Space) next step not_refused = never_refused reply _ step.1.told not_refused
answered world c reply (Some Age) next step not_refused = never_refused reply _ step.1.told not_refused

-- the call has this outcome, which is what is told, and what answers runs over the world that it makes
pub record IsTold (world : World) (c : Call) (reply : Reply) (Serves : World → Type 0) : Type 0 where
  pub outcome : Outcome
  pub decided : decision limits_written world 0 c ≡ Ok outcome
  pub told : reply ≡ outcome.told
  pub next : World
  pub comes : Comes limits_written world 0 outcome next
  pub serves : Serves next

told_by : (world : World) (c : Call) (reply : Reply) (Serves : World → Type 0) (next : World) (d : Result Outcome Refusal) → decision limits_written world 0 c ≡ d → Becomes limits_written world 0 d reply next
    → is_refusal reply ≡ false → Serves next → IsTold world c reply Serves
told_by world c reply Serves next (Err refusal) e b not_refused serves = never_refused reply refusal b.0 not_refused
told_by world c reply Serves next (Ok outcome) e b not_refused serves = record { outcome = outcome; decided = e; told = b.0; next = next; comes = b.1; serves = serves }

pub is_told : (world : World) (c : Call) (reply : Reply) (Serves : World → Type 0) → IsStepOf world 0 c reply Serves → is_refusal reply ≡ false → IsTold world c reply Serves
is_told world c reply Serves s not_refused =
    let a = answered world c reply s.met s.next s.step not_refused in
    told_by world c reply Serves a.0 (decision limits_written world 0 c) refl a.1 not_refused (subst (λ (state : State). InState Serves state) a.2 s.serves)

-- a descriptor at this offset
abbrev pub at_offset : ℕ → Descriptor → Descriptor
at_offset offset d = record d { offset = offset }

-- ---- a call that changes no tree

module _ (trees : Trees) (are : AreFound trees) (world : World) (same : trees_of world ≡ trees) where
  -- each live file has a name, so that none is dropped
  none_dropped : (other : World) → other.live ≡ world.live → dropped other ≡ other
  none_dropped other is =
      let live : other.live ≡ trees.live = is ∙ ap (λ (t : Trees). t.live) same in
      dropped_same limits_written other (λ n k z. absurd (none n (subst (λ (t : Tree). HasKind t n File) live k) (subst (λ (t : Tree). names_for t n ≡ 0) live z)))
    where
      none : (n : ℕ) → HasKind trees.live n File → names_for trees.live n ≡ 0 → ⊥
      none n k z = omega (arith, are.named n k, z)

  -- what the caller has may change
  pub asked : (o : Outcome) (caller : Caller) (told : Reply) (next : World) → o ≡ asks caller told → ((number : ℕ) → filled number caller ≡ caller) → (with_caller world 0 caller).live ≡ world.live
      → Comes limits_written world 0 o next → next ≡ with_caller world 0 caller
  asked o caller told next e full live comes =
      let c = subst (λ (x : Outcome). Comes limits_written world 0 x next) e comes in
      let tree : c.tree ≡ world.live = sym (some_same _ _ c.applied) in
      c.world ∙ ap (λ (t : Tree). dropped (with_caller (with_live world t) 0 (filled c.number caller))) tree
      ∙ ap (λ (x : Caller). dropped (with_caller world 0 x)) (full c.number) ∙ none_dropped (with_caller world 0 caller) live

-- ---- what is open

-- another descriptor is as it was where one is opened
beside : (table : Descriptors) (fd other : ℕ) (d : Descriptor) → (other ≡ fd → ⊥) → map.get (opened table 0 fd d) (0, other) ≡ map.get table (0, other)
beside table fd other d apart = get_other descriptors_total exact_descriptors table (0, fd) d (0, other) (λ same. apart (ap (λ (k : ℕ × ℕ). k.1) same))

-- the key of a descriptor of session 0
abbrev key_of : ℕ → ℕ × ℕ
key_of fd = (0, fd)

-- none is left where the only one is closed
none_left : (table : Descriptors) (fd : ℕ) → ((other : ℕ) → (other ≡ fd → ⊥) → map.get table (0, other) ≡ None) → (other : ℕ) → map.get (closed table 0 fd) (0, other) ≡ None
none_left table fd alone other = told (same_or_apart descriptors_total exact_descriptors (key_of other) (key_of fd))
  where
    told : (key_of other ≡ key_of fd) ⊎ (key_of other ≢ key_of fd) → map.get (closed table 0 fd) (key_of other) ≡ None
    told (inl same) = ap (map.get (closed table 0 fd)) same ∙ get_removed descriptors_total table (key_of fd)
    told (inr apart) = get_left descriptors_total exact_descriptors table (key_of fd) (key_of other) apart ∙ alone other (λ same. apart (ap key_of same))

-- ---- calls of the reader

read_is : (r : Result (List (List ℕ)) PathFault) (names : List (List ℕ)) → read_path r ≡ Ok names → r ≡ Ok names
read_is (Ok x) names e = ap (λ (n : List (List ℕ)). Ok n) (same_ok x names e)
read_is (Err Misspelt) names e = cc
read_is (Err TooLong) names e = cc

-- what decides a call of the reader's whose first argument is a path
record IsRead (trees : Trees) (world : World) (path : List ℕ) (more : Session → List (List ℕ) → Ready) (o : Outcome) : Type 0 where
  names : List (List ℕ)
  spelled : parsed path ≡ Ok names
  caller : Session
  is_reader : caller.cred ≡ reader
  passed : more caller names limits_written world ≡ Ok o

-- what an open of what is there comes to
record IsOpening (trees : Trees) (path : List ℕ) (o : Outcome) : Type 0 where
  found : Found
  leads : LeadsTo trees path found
  fd : ℕ
  home : Home
  number : ℕ
  object : found.object ≡ Node home number
  is : o ≡ asks (Opens fd home number to_read) (answer.Number fd)

-- it runs on, and these descriptors are open
pub record RunsOn (trees : Trees) (table : Descriptors) (Next : World → Type 0) : Type 0 where
  pub runs : Runs trees Next
  pub table_is : runs.world.descriptors ≡ table

module _ {Serves : World → Type 0} (trees : Trees) (r : Runs trees Serves) where
  by_reader : (path : List ℕ) (more : Session → List (List ℕ) → Ready) (o : Outcome)
      → ((logged_in r.world 0 >>= (λ s. path_argument path >>= (λ names. ok (more s names)))) >>= outcome_of limits_written r.world) ≡ Ok o → IsRead trees r.world path more o
  by_reader path more o e =
      let x = bind_ok (logged_in r.world 0 >>= (λ s. path_argument path >>= (λ names. ok (more s names)))) (outcome_of limits_written r.world) o e in
      let k = called r.world 0 path (λ s names. ok (more s names)) x.0 x.1 in
      let is : more k.caller k.names ≡ x.0 = same_ok _ _ k.passed in
      let same : r.session ≡ k.caller = same_ok _ _ (sym r.seat ∙ k.called_by) in
      record {
        names = k.names;
        spelled = read_is (parsed path) k.names k.read;
        caller = k.caller;
        is_reader = ap (λ (s : Session). s.cred) (sym same) ∙ r.is_reader;
        passed = ap (λ (f : Ready). f limits_written r.world) is ∙ x.2;
      }

  -- what the path leads to in these trees
  leads_to : (path : List ℕ) (names : List (List ℕ)) (cred : Credential) (found : Found) → parsed path ≡ Ok names → cred ≡ reader → full (viewed_trees (trees_of r.world)) cred 1 names ≡ Ok found → LeadsTo trees path found
  leads_to path names cred found spelled is e = record {
    names = names;
    spelled = spelled;
    leads = ap (λ (t : Trees). full (viewed_trees t) reader 1 names) (sym r.same) ∙ ap (λ (c : Credential). full (viewed_trees (trees_of r.world)) c 1 names) (sym is) ∙ e;
  }

  -- a call that only tells leaves all as it was
  runs_on : {Next : World → Type 0} (o : Outcome) (caller : Caller) (told : Reply) (next : World) → o ≡ asks caller told → ((number : ℕ) → filled number caller ≡ caller)
      → trees_of (with_caller r.world 0 caller) ≡ trees_of r.world → logged_in (with_caller r.world 0 caller) 0 ≡ logged_in r.world 0 → Comes limits_written r.world 0 o next → Next next
      → RunsOn trees (with_caller r.world 0 caller).descriptors Next
  runs_on o caller told next e full kept seat comes serves =
      let is = asked trees r.are_found r.world r.same o caller told next e full (ap (λ (t : Trees). t.live) kept) comes in
      record {
        runs = record {
          are_found = r.are_found;
          world = next;
          serves = serves;
          same = ap trees_of is ∙ kept ∙ r.same;
          session = r.session;
          seat = ap (λ (w : World). logged_in w 0) is ∙ seat ∙ r.seat;
          is_reader = r.is_reader;
        };
        table_is = ap (λ (w : World). w.descriptors) is;
      }

  pub stat_told : {Next : World → Type 0} (path : List ℕ) (reply : Reply) (status : FileStatus) → IsStepOf r.world 0 (call.Stat path) reply Next → reply ≡ answer.Status status
      → HasStatus trees path status × RunsOn trees r.world.descriptors Next
  unfolding stat_outcome
  stat_told {Next} path reply status step is =
      let t = is_told r.world (call.Stat path) reply Next step (ap is_refusal is) in
      let d = by_reader path (λ s names limits w. stat_outcome (viewed_trees (trees_of w)) s names) t.outcome t.decided in
      let x = bind_ok (full (viewed_trees (trees_of r.world)) d.caller.cred 1 d.names) (λ (x : Found). ok (tells (answer.Status (status_of (number_of x.object) x.attributes)))) t.outcome d.passed in
      let e : t.outcome ≡ tells (answer.Status (status_of (number_of x.0.object) x.0.attributes)) = sym (same_ok _ _ x.2) in
      let said : answer.Status status ≡ answer.Status (status_of (number_of x.0.object) x.0.attributes) = sym is ∙ t.told ∙ ap (λ (o : Outcome). o.told) e in
      let same : status ≡ status_of (number_of x.0.object) x.0.attributes = cc in
      ((x.0, leads_to path d.names d.caller.cred x.0 d.spelled d.is_reader x.1, same), runs_on t.outcome Stays _ t.next e (λ n. refl) refl refl t.comes t.serves)

  -- what a lookup of a path that leads somewhere is decided to tell
  looked_up : (path : List ℕ) (found : Found) → LeadsTo trees path found → decision limits_written r.world 0 (call.Stat path) ≡ Ok (tells (answer.Status (status_of (number_of found.object) found.attributes)))
  unfolding stat_outcome
  looked_up path found leads =
      let decides : Session → List (List ℕ) → Ready = λ s names limits w. stat_outcome (viewed_trees (trees_of w)) s names in
      let finds : full (viewed_trees (trees_of r.world)) r.session.cred 1 leads.names ≡ Ok found =
      ap (λ (t : Trees). full (viewed_trees t) r.session.cred 1 leads.names) r.same ∙ ap (λ (c : Credential). full (viewed_trees trees) c 1 leads.names) r.is_reader ∙ leads.leads in
      ap (λ (l : Result Session Refusal). (l >>= (λ s. path_argument path >>= (λ names. ok (decides s names)))) >>= outcome_of limits_written r.world) r.seat
      ∙ ap (λ (p : Result (List (List ℕ)) PathFault). (read_path p >>= (λ names. ok (decides r.session names))) >>= outcome_of limits_written r.world) leads.spelled
      ∙ ap (λ (x : Result Found Refusal). x >>= (λ (f : Found). ok (tells (answer.Status (status_of (number_of f.object) f.attributes))))) finds

  -- so it is refused for what it asks for only where that leads nowhere
  pub stat_nowhere : {Next : World → Type 0} (path : List ℕ) (reply : Reply) → IsStepOf r.world 0 (call.Stat path) reply Next → IsOwn (refusal_in reply) → LeadsNowhere trees path
  stat_nowhere path reply s own = λ found leads. never found leads s.met s.next s.step
    where
      of_machine : (errno : Errno) → reply ≡ refused errno → reason_of errno ≡ OfCall
      of_machine errno told =
          let same : Some own.refusal ≡ Some (plain errno) = sym own.is ∙ ap refusal_in told in
          let is : own.refusal ≡ plain errno = cc in
          ap (λ (x : Refusal). reason_of x.errno) (sym is) ∙ own.reason

      -- it is charged for nothing
      free : (found : Found) (o : Outcome) → LeadsTo trees path found → decision limits_written r.world 0 (call.Stat path) ≡ Ok o → o.charge ≡ 0
      free found o leads e = ap (λ (x : Outcome). x.charge) (sym (same_ok _ _ (sym (looked_up path found leads) ∙ e)))

      never : (found : Found) → LeadsTo trees path found → (met : Option Mishap) (next : State) → EventStep limits_written (Running r.world) (event.Call 0 (call.Stat path)) met reply next → ⊥
      never found leads None next step =
          let b = subst (λ (d : Result Outcome Refusal). Becomes limits_written r.world 0 d reply step.0) (looked_up path found leads) step.1 in
          let none : Some own.refusal ≡ None = sym own.is ∙ ap refusal_in b.0 in
          cc
      never found leads (Some Write) next step = let e : OfMount ≡ OfCall = of_machine Eio step.stops.told in cc
      never found leads (Some Memory) next step = let e : OfMemory ≡ OfCall = of_machine Enomem step.1.told in cc
      never found leads (Some Read) next step = let e : OfMount ≡ OfCall = of_machine Eio step.1.told in cc
      never found leads (Some Space) next step = omega (arith, step.0.2, free found step.0.0 leads step.0.1)
      never found leads (Some Age) next step = writes step.0.2
        where
          writes : MayWrite (call.Stat path) step.0.0 → ⊥
          writes (inl charged) = omega (arith, charged, free found step.0.0 leads step.0.1)
          writes (inr for_point) = let never : false ≡ true = for_point in cc

  pub readdir_told : {Next : World → Type 0} (path : List ℕ) (reply : Reply) (names : List (List ℕ)) → IsStepOf r.world 0 (call.Readdir path) reply Next → reply ≡ answer.Names names
      → (found : Found) × LeadsTo trees path found × (names ≡ listed trees found.object) × RunsOn trees r.world.descriptors Next
  unfolding readdir_outcome
  readdir_told {Next} path reply names step is =
      let t = is_told r.world (call.Readdir path) reply Next step (ap is_refusal is) in
      let d = by_reader path (λ s names limits w. readdir_outcome (seen limits w) s names) t.outcome t.decided in
      let all = seen limits_written r.world in
      let last : Found → Result Outcome Refusal = λ (x : Found). granted d.caller.cred 1 x.place read (Some x.attributes) >>= (λ _. ok (tells (answer.Names (listed (trees_of r.world) x.object)))) in
      let x = bind_ok (full all.trees d.caller.cred 1 d.names) (λ (x : Found). is_listable x >>= (λ _. last x)) t.outcome d.passed in
      let k = bind_ok (is_listable x.0) (λ _. last x.0) t.outcome x.2 in
      let g = bind_ok (granted d.caller.cred 1 x.0.place read (Some x.0.attributes)) (λ _. ok (tells (answer.Names (listed (trees_of r.world) x.0.object)))) t.outcome k.2 in
      let e : t.outcome ≡ tells (answer.Names (listed (trees_of r.world) x.0.object)) = sym (same_ok _ _ g.2) in
      let said : answer.Names names ≡ answer.Names (listed (trees_of r.world) x.0.object) = sym is ∙ t.told ∙ ap (λ (o : Outcome). o.told) e in
      let same : names ≡ listed (trees_of r.world) x.0.object = cc in
      (x.0, leads_to path d.names d.caller.cred x.0 d.spelled d.is_reader x.1, same ∙ ap (λ (t : Trees). listed t x.0.object) r.same, runs_on t.outcome Stays _ t.next e (λ n. refl) refl refl t.comes t.serves)

  pub getacl_told : {Next : World → Type 0} (path : List ℕ) (kind : AclKind) (reply : Reply) (acl : Option (List Entry)) → IsStepOf r.world 0 (call.GetAcl path kind) reply Next → reply ≡ answer.Acl acl
      → (found : Found) × LeadsTo trees path found × (acl ≡ acl_at (viewed_trees trees) kind found) × RunsOn trees r.world.descriptors Next
  unfolding getacl_outcome
  getacl_told {Next} path kind reply acl step is =
      let t = is_told r.world (call.GetAcl path kind) reply Next step (ap is_refusal is) in
      let d = by_reader path (λ s names limits w. getacl_outcome (viewed_trees (trees_of w)) s names kind) t.outcome t.decided in
      let views = viewed_trees (trees_of r.world) in
      let x = bind_ok (full views d.caller.cred 1 d.names) (λ (x : Found). has_acl kind x.attributes >>= (λ _. ok (tells (answer.Acl (acl_at views kind x))))) t.outcome d.passed in
      let h = bind_ok (has_acl kind x.0.attributes) (λ _. ok (tells (answer.Acl (acl_at views kind x.0)))) t.outcome x.2 in
      let e : t.outcome ≡ tells (answer.Acl (acl_at views kind x.0)) = sym (same_ok _ _ h.2) in
      let said : answer.Acl acl ≡ answer.Acl (acl_at views kind x.0) = sym is ∙ t.told ∙ ap (λ (o : Outcome). o.told) e in
      let same : acl ≡ acl_at views kind x.0 = cc in
      (x.0, leads_to path d.names d.caller.cred x.0 d.spelled d.is_reader x.1, same ∙ ap (λ (t : Trees). acl_at (viewed_trees t) kind x.0) r.same, runs_on t.outcome Stays _ t.next e (λ n. refl) refl refl t.comes t.serves)

  pub close_told : {Next : World → Type 0} (fd : ℕ) (reply : Reply) → IsStepOf r.world 0 (call.Close fd) reply Next → reply ≡ answer.Done → RunsOn trees (closed r.world.descriptors 0 fd) Next
  unfolding close_outcome
  close_told {Next} fd reply step is =
      let t = is_told r.world (call.Close fd) reply Next step (ap is_refusal is) in
      let x = bind_ok (logged_in r.world 0 >>= (λ _. ok (λ limits w. close_outcome w.descriptors 0 fd))) (outcome_of limits_written r.world) t.outcome t.decided in
      let l = bind_ok (logged_in r.world 0) (λ _. ok (λ limits w. close_outcome w.descriptors 0 fd)) x.0 x.1 in
      let f : close_outcome r.world.descriptors 0 fd ≡ Ok t.outcome = ap (λ (g : Ready). g limits_written r.world) (same_ok _ _ l.2) ∙ x.2 in
      let d = bind_ok (descriptor_at r.world.descriptors 0 fd) (λ _. ok (asks (Closes fd) answer.Done)) t.outcome f in
      runs_on t.outcome (Closes fd) answer.Done t.next (sym (same_ok _ _ d.2)) (λ n. refl) refl refl t.comes t.serves

  -- what is opened is what the path leads to
  file_is : (found : Found) (o : Object) (at : Home × ℕ) → file_of found o ≡ Ok at → o ≡ Node at.0 at.1
  file_is found Snapshots at e = cc
  file_is found (Node home number) at e = told (is_directory found.attributes.kind) e
    where
      told : (b : Bool) → cond b (Err (plain Eisdir)) (ok (home, number)) ≡ Ok at → Node home number ≡ Node at.0 at.1
      told true f = cc
      told false f = ap (λ (x : Home × ℕ). Node x.0 x.1) (same_ok _ _ f)

  opening_there : (path : List ℕ) (s : Session) (fd : ℕ) (found : Found) (o : Outcome) → LeadsTo trees path found → open_there limits_written s fd to_read found ≡ Ok o → IsOpening trees path o
  unfolding open_there
  opening_there path s fd found o leads e =
      let f = bind_ok (file found) (λ at. granted s.cred 1 found.place read (Some found.attributes) >>= (λ _. ok (opens_there limits_written to_read fd at.0 at.1))) o e in
      let g = bind_ok (granted s.cred 1 found.place read (Some found.attributes)) (λ _. ok (opens_there limits_written to_read fd f.0.0 f.0.1)) o f.2 in
      record { found = found; leads = leads; fd = fd; home = f.0.0; number = f.0.1; object = file_is found found.object f.0 f.1; is = sym (same_ok _ _ g.2) }

  opening_found : (path : List ℕ) (names : List (List ℕ)) (s : Session) (fd : ℕ) (walked : Walked) (found : Option Found) (o : Outcome) → parsed path ≡ Ok names → s.cred ≡ reader
      → prefix (viewed_trees (trees_of r.world)) s.cred 1 names ≡ Ok walked → found_at (viewed_trees (trees_of r.world)) walked ≡ found
      → open_found limits_written (seen limits_written r.world) s fd to_read (mode_from_bits 0) names walked found ≡ Ok o → IsOpening trees path o
  unfolding open_absent
  opening_found path names s fd walked None o spelled is p at e = cc
  opening_found path names s fd walked (Some found) o spelled is p at e =
      let views = viewed_trees (trees_of r.world) in
      let leads : full views s.cred 1 names ≡ Ok found = ap (λ (x : Result Walked Refusal). x >>= (λ w. there (found_at views w))) p ∙ ap there at in
      opening_there path s fd found o (leads_to path names s.cred found spelled is leads) e

  -- what was opened is read from its start
  opened_reads : {Next : World → Type 0} (o : Outcome) (fd : ℕ) (home : Home) (number : ℕ) (told : Reply) (next : World) (content : List ℕ) → HasNoneOpen r.world → o ≡ asks (Opens fd home number to_read) told
      → Comes limits_written r.world 0 o next → Next next → content ≡ bytes_at trees (Node home number) → ReadsFile trees fd content 0 Next
  opened_reads o fd home number told next content none e comes serves has =
      let on = runs_on o (Opens fd home number to_read) told next e (λ n. refl) refl refl comes serves in
      let d = descriptor_for to_read home number in
      record {
        runs = on.runs;
        home = home;
        number = number;
        is_open = ap (λ (table : Descriptors). map.get table (0, fd)) on.table_is ∙ get_inserted descriptors_total r.world.descriptors (0, fd) d;
        alone = λ other apart. ap (λ (table : Descriptors). map.get table (0, other)) on.table_is ∙ beside r.world.descriptors fd other d apart ∙ none other;
        content_is = has;
      }

  -- what is read moves the offset on
  moved_reads : {Next : World → Type 0} (o : Outcome) (fd : ℕ) (home : Home) (number offset to : ℕ) (told : Reply) (next : World) (content : List ℕ) → HasNoneBeside r.world fd
      → map.get r.world.descriptors (0, fd) ≡ Some (at_offset offset (descriptor_for to_read home number)) → o ≡ asks (Moves fd to) told → Comes limits_written r.world 0 o next → Next next
      → content ≡ bytes_at trees (Node home number) → ReadsFile trees fd content to Next
  moved_reads o fd home number offset to told next content alone at e comes serves has =
      let on = runs_on o (Moves fd to) told next e (λ n. refl) refl refl comes serves in
      let d : Descriptor = at_offset to (descriptor_for to_read home number) in
      let moved : moved_to r.world.descriptors 0 fd to ≡ opened r.world.descriptors 0 fd d = ap (λ (o : Option Descriptor). moved_if r.world.descriptors 0 fd to o) at in
      let table : on.runs.world.descriptors ≡ opened r.world.descriptors 0 fd d = on.table_is ∙ moved in
      record {
        runs = on.runs;
        home = home;
        number = number;
        is_open = ap (λ (t : Descriptors). map.get t (0, fd)) table ∙ get_inserted descriptors_total r.world.descriptors (0, fd) d;
        alone = λ other apart. ap (λ (t : Descriptors). map.get t (0, other)) table ∙ beside r.world.descriptors fd other d apart ∙ alone other apart;
        content_is = has;
      }

  pub open_told : {Next : World → Type 0} (path : List ℕ) (reply : Reply) (fd : ℕ) → HasNoneOpen r.world → IsStepOf r.world 0 (call.Open path to_read 0) reply Next → reply ≡ answer.Number fd
      → (found : Found) × LeadsTo trees path found × ReadsFile trees fd (bytes_at trees found.object) 0 Next
  unfolding open_outcome
  open_told {Next} path reply fd none step is =
      let t = is_told r.world (call.Open path to_read 0) reply Next step (ap is_refusal is) in
      let all = seen limits_written r.world in
      let d = by_reader path (λ s names limits w. open_outcome limits (seen limits w) w.descriptors 0 s names to_read (mode_from_bits 0)) t.outcome t.decided in
      let n = bind_ok (next_descriptor r.world.descriptors 0) (λ fd. open_as limits_written all d.caller fd d.names to_read (mode_from_bits 0)) t.outcome d.passed in
      let w = bind_ok (prefix all.trees d.caller.cred 1 d.names) (λ w. open_found limits_written all d.caller n.0 to_read (mode_from_bits 0) d.names w (found_at all.trees w)) t.outcome n.2 in
      let x = opening_found path d.names d.caller n.0 w.0 (found_at all.trees w.0) t.outcome d.spelled d.is_reader w.1 refl w.2 in
      let said : answer.Number fd ≡ answer.Number x.fd = sym is ∙ t.told ∙ ap (λ (o : Outcome). o.told) x.is in
      let same : fd ≡ x.fd = cc in
      let file = opened_reads t.outcome x.fd x.home x.number _ t.next (bytes_at trees x.found.object) none x.is t.comes t.serves (ap (bytes_at trees) x.object) in
      (x.found, x.leads, subst (λ (n : ℕ). ReadsFile trees n (bytes_at trees x.found.object) 0 Next) (sym same) file)

  pub read_told : {Next : World → Type 0} (fd count offset : ℕ) (home : Home) (number : ℕ) (content : List ℕ) (reply : Reply) (bytes : List ℕ) → HasNoneBeside r.world fd
      → map.get r.world.descriptors (0, fd) ≡ Some (at_offset offset (descriptor_for to_read home number)) → content ≡ bytes_at trees (Node home number)
      → IsStepOf r.world 0 (call.Read fd count) reply Next → reply ≡ answer.Content bytes → (bytes ≡ take count (drop offset content)) × ReadsFile trees fd content (offset + length bytes) Next
  unfolding read_outcome
  read_told {Next} fd count offset home number content reply bytes alone at has step is =
      let t = is_told r.world (call.Read fd count) reply Next step (ap is_refusal is) in
      let x = bind_ok (logged_in r.world 0 >>= (λ _. count_argument count >>= (λ many. ok (λ limits w. read_outcome w 0 fd many)))) (outcome_of limits_written r.world) t.outcome t.decided in
      let l = bind_ok (logged_in r.world 0) (λ _. count_argument count >>= (λ many. ok (λ limits w. read_outcome w 0 fd many))) x.0 x.1 in
      let m = bind_ok (count_argument count) (λ many. ok (λ limits w. read_outcome w 0 fd many)) x.0 l.2 in
      let many : m.0 ≡ count = sym (counted (nat_le count 65536) m.1) in
      let f : read_outcome r.world 0 fd m.0 ≡ Ok t.outcome = ap (λ (g : Ready). g limits_written r.world) (same_ok _ _ m.2) ∙ x.2 in
      let d : Descriptor = at_offset offset (descriptor_for to_read home number) in
      let readable : readable_at r.world.descriptors 0 fd ≡ Ok d = ap (λ (o : Option Descriptor). ok_or o (plain Ebadf) >>= (λ (d : Descriptor). cond d.readable (Ok d) (Err (plain Ebadf)))) at in
      let all = take m.0 (drop offset (open_bytes r.world d)) in
      let e : t.outcome ≡ reads fd d all = sym (same_ok _ _ (ap (λ (x : Result Descriptor Refusal). x >>= (λ (d : Descriptor). ok (reads fd d (take m.0 (drop d.offset (open_bytes r.world d)))))) (sym readable) ∙ f)) in
      let said : answer.Content bytes ≡ answer.Content all = sym is ∙ t.told ∙ ap (λ (o : Outcome). o.told) e in
      let same : bytes ≡ all = cc in
      let moved = moved_reads t.outcome fd home number offset (offset + length all) _ t.next content alone at e t.comes t.serves has in (
        same ∙ ap (λ (n : ℕ). take n (drop offset (open_bytes r.world d))) many ∙ ap (λ (s : List ℕ). take count (drop offset s)) (ap (λ (t : Trees). bytes_at t (Node home number)) r.same ∙ sym has),
        subst (λ (s : List ℕ). ReadsFile trees fd content (offset + length s) Next) (sym same) moved,
      )
    where
      counted : (b : Bool) {n : ℕ} → cond b (ok count) (Err (plain Einval)) ≡ Ok n → count ≡ n
      counted true e = same_ok _ _ e
      counted false e = cc

-- where no file is open, or one that is closed, none is after it
pub reads_on : {Serves Next : World → Type 0} (trees : Trees) (r : Reads trees Serves) → RunsOn trees r.runs.world.descriptors Next → Reads trees Next
reads_on trees r on = record { runs = on.runs; none_open = λ fd. ap (λ (table : Descriptors). map.get table (0, fd)) on.table_is ∙ r.none_open fd }

pub closed_reads : {Serves Next : World → Type 0} (trees : Trees) (fd : ℕ) (content : List ℕ) (offset : ℕ) (f : ReadsFile trees fd content offset Serves) → RunsOn trees (closed f.runs.world.descriptors 0 fd) Next → Reads trees Next
closed_reads trees fd content offset f on =
    record { runs = on.runs; none_open = λ other. ap (λ (table : Descriptors). map.get table (0, other)) on.table_is ∙ none_left f.runs.world.descriptors fd f.alone other }

-- ---- login

pub found_trees : (world : World) → IsFound limits_written world → AreFound (trees_of world)
found_trees world f = record { live = f.whole.live; frozen = f.whole.frozen; named = f.settled.named }

seated : (seats : List (Option Session)) (s : Session) → 0 < length seats → slice_get (slice_set seats 0 (Some s)) 0 ≡ Some (Some s)
seated [] s some = absurd (omega (arith, some))
seated (seat ∷ seats) s some = refl

pub login_told : {Next : World → Type 0} (world : World) (reply : Reply) → IsFound limits_written world → IsStepOf world 0 (call.Login 0 0 []) reply Next → reply ≡ answer.Done → Reads (trees_of world) Next
login_told {Next} world reply found step is =
    let t = is_told world (call.Login 0 0 []) reply Next step (ap is_refusal is) in
    let s = new_session 0 0 [] in
    let x = bind_ok (logged_out world 0 >>= (λ _. ok (λ limits w. ok (asks (LogsIn s) answer.Done)))) (outcome_of limits_written world) t.outcome t.decided in
    let l = bind_ok (logged_out world 0) (λ _. ok (λ limits w. ok (asks (LogsIn s) answer.Done))) x.0 x.1 in
    let f : ok (asks (LogsIn s) answer.Done) ≡ Ok t.outcome = ap (λ (g : Ready). g limits_written world) (same_ok _ _ l.2) ∙ x.2 in
    let made = asked (trees_of world) (found_trees world found) world refl t.outcome (LogsIn s) answer.Done t.next (sym (same_ok _ _ f)) (λ n. refl) refl t.comes in
    let some : 0 < length world.sessions = omega (arith, found.whole.count) in
    let seat : logged_in (with_caller world 0 (LogsIn s)) 0 ≡ Ok s = ap (λ (o : Option (Option Session)). ok_or (option_flatten o) (plain Ebadf)) (seated world.sessions s some) in
    let none : (fd : ℕ) → map.get t.next.descriptors (0, fd) ≡ None =
    λ fd. ap (λ (w : World). map.get w.descriptors (0, fd)) made ∙ ap (λ (table : Descriptors). map.get table (0, fd)) found.settled.closed ∙ map.get-empty descriptor_cmp (0, fd) in
    record {
      runs = record {
        are_found = found_trees world found;
        world = t.next;
        serves = t.serves;
        same = ap trees_of made;
        session = s;
        seat = ap (λ (w : World). logged_in w 0) made ∙ seat;
        is_reader = refl;
      };
      none_open = none;
    }
