-- Runs keep the world.
use Rattle.std.proofs.Common.{◌≡◌, ◌≢◌, ℕ, zero, suc, ◌≤◌, Bool, true, false, not, cond, ◌==◌, List, [], ◌∷◌, replicate, Option, Some, None, Result, Ok, Err, is_some, refl, sym, ap, subst, ◌∙◌, ◌⊎◌, inl, inr, arith, lit<, lit≤, eq-eqb, true≢false}
use Rattle.std.specs.Prelude.{IsSomeAnd, slice_get, slice_set}
use Rattle.std.specs.List.{AllByRecursion}
use Rattle.std.specs.Ordering.{nat_cmp}
use Rattle.std.specs.Cmp.{nat_cmp_total}
use Rattle.std.specs.Cmp.Lexicographic.{slice_cmp}
use Rattle.std.specs.FinMap as map
use Rattle.std.proofs.lemmas.List.{length-set, length-replicate}
use Rattle.std.proofs.lemmas.Map.Lookups.{exact_unsigned}
use Rattle.sn_limits.specs.declared.kind.Kind.TheVariants.{File, Directory}
use Rattle.sn_limits.specs.Versions.{limits_of, version_1}
use Rattle.sn_limits.proofs.VersionLemmas.{first_allowed}
use Rattle.sn_model.specs.declared.call.Call.{Call}
use Rattle.sn_acl.specs.declared.modes.Mode.{Mode}
use Rattle.sn_model.specs.declared.change.Change.TheVariants.{Make}
use Rattle.sn_model.specs.declared.link.Link.{Link}
use Rattle.sn_model.specs.declared.reply.Refusal.{Refusal}
use Rattle.sn_model.specs.declared.reply.Reply.{Reply}
use Rattle.sn_model.specs.declared.session.Session.{Session}
use Rattle.sn_model.specs.Tree.{Tree, Node, link_cmp, link_to}
use Rattle.sn_walk.specs.declared.object.Home.{Home}
use Rattle.sn_walk.specs.declared.object.Home.TheVariants.{Live, Frozen}
use Rattle.sn_model.specs.World.{Descriptor, World, descriptor_cmp, new_root, new_tree, new_world, tree_in, trees_of}
use Rattle.sn_model.specs.NameTree.{HasKind, IsHierarchy, IsNode, IsTree, Reaches, root}
use Rattle.sn_model.specs.Changes.{node_with}
use Rattle.sn_limits.specs.declared.limits.Limits.{Limits}
use Rattle.sn_model.specs.Descriptors.{Descriptors, closed, descriptor_for, moved_if, opened, without_session}
use Rattle.sn_model.specs.Outcomes.{AskedPoint, Unasked, Plain, Freezes, Thaws, Restores, Pending, Nothing, Makes, Does, Caller, Stays, LogsIn, SetsUmask, LogsOut, Opens, OpensNew, Closes, Moves, Outcome}
use Rattle.sn_model.specs.Steps.{Becomes, Comes, IsNumberFor, Step, changed, decision, filled, masked, with_caller, with_descriptors, with_live}
use Rattle.sn_model.specs.Worlds.{IsSession, IsCall, IsOpenFile, IsWorld}
use Rattle.sn_model.proofs.LinkLemmas.{exact_links, links_total}
use Rattle.sn_model.proofs.MapLemmas.{same_or_apart, get_inserted, get_other, get_was}
use Rattle.sn_model.proofs.CountLemmas.{count_none}
use Rattle.sn_model.proofs.ChainLemmas.{some_same}
use Rattle.sn_model.proofs.PartLemmas.{made_is}
use Rattle.sn_model.proofs.AllowedLemmas.{tree_stays}
use Rattle.sn_model.proofs.MoveLemmas.{is_kind, kind_at, some_node, is_there}
use Rattle.sn_acl.proofs.Validity.{valid-from_test}
use Rattle.sn_model.proofs.TreeLemmas.{tree_kept}
use Rattle.sn_model.proofs.HeldLemmas.{descriptors_total, exact_descriptors}
use Rattle.sn_model.proofs.StayLemmas.{change_stays, file_stays}
use Rattle.sn_model.specs.Settling.{dropped}
use Rattle.sn_model.proofs.DroppedLemmas.{IsUndropped, all_held, dropped_same, dropped_world}
use Rattle.sn_model.proofs.OutcomeLemmas.{DoesToOld, FitsCaller, FitsPoint, IsAlone, IsDecided, MakesFile}
use Rattle.sn_model.proofs.PointedLemmas.{pointed_world}
use Rattle.sn_model.proofs.DecidedLemmas.{decided_is}

-- a session that is opened, or gets another umask, leaves the others
all_set : (sessions : List (Option Session)) (i : ℕ) (o : Option Session) → IsSession o → AllByRecursion IsSession sessions → AllByRecursion IsSession (slice_set sessions i o)
all_set [] i o k all = tt
all_set (one ∷ sessions) zero o k all = (k, all.1)
all_set (one ∷ sessions) (suc i) o k all = (all.0, all_set sessions i o k all.1)

abbrev IsIn : List (Option Session) → ℕ → Type 0
IsIn sessions i = IsSomeAnd (slice_get sessions i) (λ o. is_some o ≡ true)

still_in : (sessions : List (Option Session)) (i j : ℕ) (o : Option Session) → (IsIn sessions i → is_some o ≡ true) → IsIn sessions j → IsIn (slice_set sessions i o) j
still_in [] i j o k h = h
still_in (one ∷ sessions) zero zero o k h = k h
still_in (one ∷ sessions) zero (suc j) o k h = h
still_in (one ∷ sessions) (suc i) zero o k h = h
still_in (one ∷ sessions) (suc i) (suc j) o k h = still_in sessions i j o k h

masked_is : (sessions : List (Option Session)) (i : ℕ) (mask : Mode) → AllByRecursion IsSession sessions → IsSession (masked mask (slice_get sessions i))
masked_is [] i mask all = tt
masked_is (None ∷ sessions) zero mask all = tt
masked_is (Some s ∷ sessions) zero mask all = record { uid = all.0.uid; gid = all.0.gid }
masked_is (one ∷ sessions) (suc i) mask all = masked_is sessions i mask all.1

masked_in : (mask : Mode) (o : Option (Option Session)) → IsSomeAnd o (λ s. is_some s ≡ true) → is_some (masked mask o) ≡ true
masked_in mask None h = absurd h
masked_in mask (Some None) h = h
masked_in mask (Some (Some s)) h = refl

-- the tree of an open file, where only sessions change, or only the live tree
with_files : (a b : World) (home : Home) (number : ℕ) → ((n : ℕ) → HasKind a.live n File → HasKind b.live n File) → a.frozen ≡ b.frozen → IsSomeAnd (tree_in (trees_of a) home) (λ tree. HasKind tree number File) → IsSomeAnd (tree_in (trees_of b) home) (λ tree. HasKind tree number File)
with_files a b Live number live frozen h = live number h
with_files a b (Frozen name) number live frozen h = subst (λ f. IsSomeAnd (map.get f name) (λ tree. HasKind tree number File)) frozen h

-- ---- what becomes of a session and its descriptors, files without names apart

-- another who is logged in, or another mask
seated : (limits : Limits) (world : World) (session : ℕ) (o : Option Session) → IsUndropped limits world → IsSession o → (IsIn world.sessions session → is_some o ≡ true) → IsUndropped limits (record world { sessions = slice_set world.sessions session o })
seated limits world session o w k stays = record {
  live = w.live;
  frozen = w.frozen;
  snapshot_names = w.snapshot_names;
  few_snapshots = w.few_snapshots;
  count = length-set world.sessions session o ∙ w.count;
  callers = all_set world.sessions session o k w.callers;
  open_files = λ i fd d e. let f = w.open_files i fd d e in record {
    caller = still_in world.sessions session i o stays f.caller;
    number = f.number;
    file = with_files world (record world { sessions = slice_set world.sessions session o }) d.home d.number (λ n h. h) refl f.file;
    offset = f.offset;
    live = f.live;
  };
}

-- other descriptors, of files that are there
with_table : (limits : Limits) (world : World) (table : Descriptors) → IsUndropped limits world → ((i fd : ℕ) (d : Descriptor) → map.get table (i, fd) ≡ Some d → IsOpenFile limits world i fd d) → IsUndropped limits (with_descriptors world table)
with_table limits world table w files = record {
  live = w.live;
  frozen = w.frozen;
  snapshot_names = w.snapshot_names;
  few_snapshots = w.few_snapshots;
  count = w.count;
  callers = w.callers;
  open_files = λ i fd d e. let f = files i fd d e in record {
    caller = f.caller;
    number = f.number;
    file = with_files world (with_descriptors world table) d.home d.number (λ n h. h) refl f.file;
    offset = f.offset;
    live = f.live;
  };
}

-- a session that is gone has nothing open
left_open : (table : Descriptors) (session i fd : ℕ) (d : Descriptor) → map.get (without_session table session) (i, fd) ≡ Some d → (i ≢ session) × (map.get table (i, fd) ≡ Some d)
left_open table session i fd d e = told (i == session) refl (sym (map.get-retain_keys table (λ k. not (k.0 == session)) (i, fd) (λ m f. ap (λ (k : ℕ × ℕ). not (k.0 == session)) (sym (exact_descriptors (i, fd) m f)))) ∙ e)
  where
    told : (b : Bool) → (i == session) ≡ b → cond (not b) (map.get table (i, fd)) None ≡ Some d → (i ≢ session) × (map.get table (i, fd) ≡ Some d)
    told true t f = cc
    told false t f = ((λ q. true≢false (sym (eq-eqb i session q) ∙ t)), f)

other_in : (sessions : List (Option Session)) (i j : ℕ) (o : Option Session) → j ≢ i → IsIn sessions j → IsIn (slice_set sessions i o) j
other_in [] i j o apart h = h
other_in (one ∷ sessions) zero zero o apart h = absurd (apart refl)
other_in (one ∷ sessions) zero (suc j) o apart h = h
other_in (one ∷ sessions) (suc i) zero o apart h = h
other_in (one ∷ sessions) (suc i) (suc j) o apart h = other_in sessions i j o (λ q. apart (ap suc q)) h

logged_off : (limits : Limits) (world : World) (session : ℕ) → IsUndropped limits world → IsUndropped limits (with_caller world session LogsOut)
logged_off limits world session w = record {
  live = w.live;
  frozen = w.frozen;
  snapshot_names = w.snapshot_names;
  few_snapshots = w.few_snapshots;
  count = length-set world.sessions session None ∙ w.count;
  callers = all_set world.sessions session None tt w.callers;
  open_files = λ i fd d e. let was = left_open world.descriptors session i fd d e in let f = w.open_files i fd d was.1 in record {
    caller = other_in world.sessions session i None was.0 f.caller;
    number = f.number;
    file = with_files world (with_caller world session LogsOut) d.home d.number (λ n h. h) refl f.file;
    offset = f.offset;
    live = f.live;
  };
}

abbrev Key : Type 0
Key = ℕ × ℕ

abbrev AreOne : Key → Key → Type 0
AreOne a b = a ≡ b

-- one more descriptor
put_open : (limits : Limits) (world : World) (session fd : ℕ) (d : Descriptor) → IsUndropped limits world → IsOpenFile limits world session fd d → IsUndropped limits (with_descriptors world (opened world.descriptors session fd d))
put_open limits world session fd d w is = with_table limits world (opened world.descriptors session fd d) w (λ i n x e. at i n x e (same_or_apart descriptors_total exact_descriptors (i, n) (session, fd)))
  where
    at : (i n : ℕ) (x : Descriptor) → map.get (opened world.descriptors session fd d) (i, n) ≡ Some x → AreOne (i, n) (session, fd) ⊎ (AreOne (i, n) (session, fd) → ⊥) → IsOpenFile limits world i n x
    at i n x e (inl q) =
        let both : Some x ≡ Some d = sym e ∙ ap (map.get (opened world.descriptors session fd d)) q ∙ get_inserted descriptors_total world.descriptors (session, fd) d in
        let same : x ≡ d = cc in
        subst (λ (k : ℕ × ℕ). IsOpenFile limits world k.0 k.1 x) (sym q) (subst (IsOpenFile limits world session fd) (sym same) is)
    at i n x e (inr q) = w.open_files i n x (sym (get_other descriptors_total exact_descriptors world.descriptors (session, fd) d (i, n) q) ∙ e)

moved_open : (limits : Limits) (world : World) (session fd offset : ℕ) → offset ≤ limits.largest_file → IsUndropped limits world → IsUndropped limits (with_caller world session (Moves fd offset))
moved_open limits world session fd offset few w = told (map.get world.descriptors (session, fd)) refl
  where
    told : (o : Option Descriptor) → map.get world.descriptors (session, fd) ≡ o → IsUndropped limits (with_descriptors world (moved_if world.descriptors session fd offset o))
    told None e = w
    told (Some d) e = let f = w.open_files session fd d e in put_open limits world session fd (record d { offset = offset }) w (record { caller = f.caller; number = f.number; file = f.file; offset = few; live = f.live })

closed_open : (limits : Limits) (world : World) (session fd : ℕ) → IsUndropped limits world → IsUndropped limits (with_caller world session (Closes fd))
closed_open limits world session fd w = with_table limits world (closed world.descriptors session fd) w (λ i n d e. w.open_files i n d (get_was descriptors_total exact_descriptors world.descriptors (session, fd) (i, n) d e).1)

zero_least : (n : ℕ) → 0 ≤ n
zero_least n = omega arith

-- whatever becomes of a session
called_on : (limits : Limits) (world : World) (session : ℕ) (change : Pending) (caller : Caller) → FitsCaller limits world session change caller → IsUndropped limits world → IsUndropped limits (with_caller world session caller)
called_on limits world session change Stays fits w = w
called_on limits world session change (LogsIn s) fits w = seated limits world session (Some s) w fits (λ h. refl)
called_on limits world session change (SetsUmask mask) fits w = seated limits world session (masked mask (slice_get world.sessions session)) w (masked_is world.sessions session mask w.callers) (masked_in mask (slice_get world.sessions session))
called_on limits world session change LogsOut fits w = logged_off limits world session w
called_on limits world session change (Opens fd home number flags) fits w = put_open limits world session fd (descriptor_for flags home number) w (record { caller = fits.0.caller; number = fits.0.number; file = fits.1; offset = zero_least limits.largest_file; live = fits.2 })
called_on limits world session change (OpensNew fd flags) fits w = w
called_on limits world session change (Closes fd) fits w = closed_open limits world session fd w
called_on limits world session change (Moves fd offset) fits w = moved_open limits world session fd offset fits w

-- ---- another live tree, in which files stay

with_tree : (limits : Limits) (world : World) (tree : Tree) → IsWorld limits world → IsTree limits tree → ((n : ℕ) → HasKind world.live n File → HasKind tree n File) → IsUndropped limits (with_live world tree)
with_tree limits world tree w whole stays = record {
  live = whole;
  frozen = w.frozen;
  snapshot_names = w.snapshot_names;
  few_snapshots = w.few_snapshots;
  count = w.count;
  callers = w.callers;
  open_files = λ i fd d e. let f = w.open_files i fd d e in record {
    caller = f.caller;
    number = f.number;
    file = with_files world (with_live world tree) d.home d.number stays refl f.file;
    offset = f.offset;
    live = f.live;
  };
}

-- a change that a call has decided
module _ (limits : Limits) (tree after : Tree) (number : ℕ) where
  pub changed_tree : (change : Pending) → IsTree limits tree → changed limits number change tree ≡ Some after → IsTree limits after
  changed_tree Nothing whole e = subst (IsTree limits) (some_same _ _ e) whole
  changed_tree (Makes directory name kind o) whole e = tree_kept limits (Make directory name number kind o) tree after whole e
  changed_tree (Does c) whole e = tree_kept limits c tree after whole e

  -- a file stays a file
  pub changed_stays : (change : Pending) → DoesToOld change → IsNumberFor limits tree number change → changed limits number change tree ≡ Some after → (n : ℕ) → HasKind tree n File → HasKind after n File
  changed_stays Nothing old free e n h = subst (λ (t : Tree). HasKind t n File) (some_same _ _ e) h
  changed_stays (Makes directory name kind o) old free e n h =
      let m = made_is limits tree (link_to directory name) number kind o after e in
      let apart : n ≢ number = (λ q. is_there _ File h (ap (map.get tree.nodes) q ∙ free.unused)) in
      kind_at _ _ File (ap (λ (t : Tree). map.get t.nodes n) (sym m.gives) ∙ get_other nat_cmp_total exact_unsigned tree.nodes number (node_with kind o []) n apart) h
  changed_stays (Does c) old free e n h = file_stays tree after n (change_stays limits c tree after old e n) h

  -- the new file is there
  made_file : (change : Pending) → MakesFile change → changed limits number change tree ≡ Some after → HasKind after number File
  made_file Nothing is e = absurd is
  made_file (Makes directory name kind o) is e =
      let m = made_is limits tree (link_to directory name) number kind o after e in
      is_kind after number (node_with kind o []) File (ap (λ (t : Tree). map.get t.nodes number) (sym m.gives) ∙ get_inserted nat_cmp_total tree.nodes number (node_with kind o [])) is
  made_file (Does c) is e = absurd is

-- the session becomes what it became before, where files have stayed
module _ (limits : Limits) (old : World) (session : ℕ) (change : Pending) (tree : Tree) (number : ℕ) (stays : (n : ℕ) → HasKind old.live n File → HasKind tree n File) (made : MakesFile change → HasKind tree number File) where
  still_fits : (caller : Caller) → FitsCaller limits old session change caller → FitsCaller limits (with_live old tree) session change (filled number caller)
  still_fits Stays fits = tt
  still_fits (LogsIn s) fits = fits
  still_fits (SetsUmask mask) fits = tt
  still_fits LogsOut fits = tt
  still_fits (Opens fd home n flags) fits = (record { caller = fits.0.caller; number = fits.0.number; next = fits.0.next }, with_files old (with_live old tree) home n stays refl fits.1, fits.2)
  still_fits (OpensNew fd flags) fits = (record { caller = fits.0.caller; number = fits.0.number; next = fits.0.next }, made fits.1, λ w. refl)
  still_fits (Closes fd) fits = tt
  still_fits (Moves fd offset) fits = fits

-- what a call's change makes of the live tree, and what becomes of its caller
abbrev pub called_world : World → ℕ → ℕ → Tree → Caller → World
called_world old session number tree caller = with_caller (with_live old tree) session (filled number caller)

-- after a call that asks for a point the world is as it was, but for what that makes of the trees
pub alone_same : (limits : Limits) (old : World) (session : ℕ) → IsWorld limits old → (number : ℕ) (tree : Tree) (change : Pending) (caller : Caller) → change ≡ Nothing → caller ≡ Stays → changed limits number change old.live ≡ Some tree → dropped (called_world old session number tree caller) ≡ old
alone_same limits old session w number tree change caller none stays e =
    let same = some_same _ _ (sym (ap (λ (p : Pending). changed limits number p old.live) none) ∙ e) in
    ap (λ (x : Caller). dropped (called_world old session number tree x)) stays ∙ ap (λ (t : Tree). dropped (with_live old t)) (sym same) ∙ dropped_same limits old (all_held limits old w)

module _ (limits : Limits) (old : World) (session : ℕ) (c : Call) (o : Outcome) (d : IsDecided limits old session c o) (numbers : IsCall c) (w : IsWorld limits old) where
  pub undropped_after : (number : ℕ) (tree : Tree) → IsNumberFor limits old.live number o.change → changed limits number o.change old.live ≡ Some tree → IsUndropped limits (called_world old session number tree o.caller)
  undropped_after number tree free e =
      let stays = changed_stays limits old.live tree number o.change d.of_old free e in
      called_on limits (with_live old tree) session o.change (filled number o.caller)
      (still_fits limits old session o.change tree number stays (λ is. made_file limits old.live tree number o.change is e) o.caller (d.fits numbers w))
      (with_tree limits old tree w (changed_tree limits old.live tree number o.change w.live e) stays)

  fits_after : (number : ℕ) (tree : Tree) → changed limits number o.change old.live ≡ Some tree → (p : AskedPoint) → IsAlone p o.change o.caller → FitsPoint limits old p → FitsPoint limits (dropped (called_world old session number tree o.caller)) p
  fits_after number tree e Unasked alone fits = tt
  fits_after number tree e Plain alone fits = tt
  fits_after number tree e (Freezes name) alone fits = subst (λ (x : World). FitsPoint limits x (Freezes name)) (sym (alone_same limits old session w number tree o.change o.caller alone.0 alone.1 e)) fits
  fits_after number tree e (Thaws name) alone fits = subst (λ (x : World). FitsPoint limits x (Thaws name)) (sym (alone_same limits old session w number tree o.change o.caller alone.0 alone.1 e)) fits
  fits_after number tree e (Restores name) alone fits = subst (λ (x : World). FitsPoint limits x (Restores name)) (sym (alone_same limits old session w number tree o.change o.caller alone.0 alone.1 e)) fits

  pub comes_world : (new : World) → Comes limits old session o new → IsWorld limits new
  comes_world new h =
      subst (IsWorld limits) (sym h.world)
      (pointed_world limits (dropped (called_world old session h.number h.tree o.caller)) o.point (dropped_world limits (called_world old session h.number h.tree o.caller) (undropped_after h.number h.tree h.free h.applied))
      (fits_after h.number h.tree h.applied o.point d.points.alone d.points.fits))

pub becomes_world : (limits : Limits) (old new : World) (session : ℕ) (c : Call) (d : Result Outcome Refusal) (reply : Reply) → decision limits old session c ≡ d → Becomes limits old session d reply new → IsCall c → IsWorld limits old → IsWorld limits new
becomes_world limits old new session c (Err r) reply e h numbers w = subst (IsWorld limits) (sym h.1) w
becomes_world limits old new session c (Ok o) reply e h numbers w = comes_world limits old session c o (decided_is limits old session c o e) numbers w new h.1

pub step_world : (limits : Limits) (old new : World) (session : ℕ) (c : Call) (reply : Reply) → Step limits old session c reply new → IsCall c → IsWorld limits old → IsWorld limits new
step_world limits old new session c reply (inl h) numbers w = becomes_world limits old new session c (decision limits old session c) reply refl h numbers w
step_world limits old new session c reply (inr h) numbers w = subst (IsWorld limits) (sym h.same) w

-- the first world is one
new_named : (l : Link) (n : ℕ) → map.get new_tree.links l ≡ Some n → ⊥
new_named l n e = let never : None ≡ Some n = sym (map.get-empty link_cmp l) ∙ e in cc

new_node_at : map.get new_tree.nodes 2 ≡ Some new_root
new_node_at = get_inserted nat_cmp_total map.empty 2 new_root

new_node : (n : ℕ) (x : Node) → map.get new_tree.nodes n ≡ Some x → (n ≡ 2) × (x ≡ new_root)
new_node n x e = told (same_or_apart nat_cmp_total exact_unsigned n 2)
  where
    told : (n ≡ 2) ⊎ (n ≢ 2) → (n ≡ 2) × (x ≡ new_root)
    told (inl q) = let both : Some x ≡ Some new_root = sym e ∙ ap (map.get new_tree.nodes) q ∙ new_node_at in (q, cc)
    told (inr q) = let never : Some x ≡ None = sym e ∙ get_other nat_cmp_total exact_unsigned map.empty 2 new_root n q ∙ map.get-empty nat_cmp n in cc

new_hierarchy : IsHierarchy new_tree
new_hierarchy = record {
  root = subst (λ (o : Option Node). IsSomeAnd o (λ node. node.kind ≡ Directory)) (sym new_node_at) refl;
  unnamed = λ l e. new_named l 2 e;
  held = λ l n e. absurd (new_named l n e);
  leads = λ l n e. absurd (new_named l n e);
  once = λ a b n kind ea eb. absurd (new_named a n ea);
  reached = λ n kind. let s = some_node _ Directory kind in subst (λ (m : ℕ). Reaches new_tree m) (sym (new_node n s.0 s.1).0) root;
}

root_node : IsNode version_1 2 new_root
root_node = record {
  first = lit≤ tt;
  within = lit≤ tt;
  owner = lit< tt;
  group = lit< tt;
  acl = valid-from_test new_root.acl refl;
  default_acl = tt;
  of_file = λ e. cc;
  of_directory = λ e. refl;
  bytes = tt;
  size = lit≤ tt;
}

new_whole : IsTree version_1 new_tree
new_whole = record {
  hierarchy = new_hierarchy;
  nodes = record {
    nodes = λ n x e. let q = new_node n x e in subst (λ (y : Node). IsNode version_1 n y) (sym q.1) (subst (λ (m : ℕ). IsNode version_1 m new_root) (sym q.0) root_node);
    names = λ l n e. absurd (new_named l n e);
    hidden = map.get-empty link_cmp _;
  };
  few = record {
    names = λ d. subst (λ n. n ≤ 65535) (sym (count_none links_total exact_links (λ e. e.0.directory == d) new_tree.links (λ l n e. absurd (new_named l n e)))) (lit≤ tt);
    links = λ m k. subst (λ n. n ≤ 32767) (sym (count_none links_total exact_links (λ e. e.1 == m) new_tree.links (λ l n e. absurd (new_named l n e)))) (lit≤ tt);
  };
}

-- it is one in each version, since the first allows the least
pub new_tree_is : (version : ℕ) (limits : Limits) → limits_of version ≡ Some limits → IsTree limits new_tree
new_tree_is version limits e = tree_stays version_1 limits (first_allowed version limits e) new_tree new_whole

pub free_sessions : (n : ℕ) → AllByRecursion IsSession (replicate n None)
free_sessions zero = tt
free_sessions (suc n) = (tt, free_sessions n)

pub new_is_world : (version : ℕ) (limits : Limits) → limits_of version ≡ Some limits → IsWorld limits new_world
new_is_world version limits e = record {
  live = new_tree_is version limits e;
  frozen = λ name tree e. let never : None ≡ Some tree = sym (map.get-empty (slice_cmp nat_cmp) name) ∙ e in cc;
  snapshot_names = λ name tree e. let never : None ≡ Some tree = sym (map.get-empty (slice_cmp nat_cmp) name) ∙ e in cc;
  few_snapshots = subst (λ n. n ≤ limits.snapshots) (sym (map.len-empty (slice_cmp nat_cmp) Tree)) (omega arith);
  count = length-replicate {A = Option Session} 64 None;
  callers = free_sessions 64;
  open_files = λ i fd d e. let never : None ≡ Some d = sym (map.get-empty descriptor_cmp (i, fd)) ∙ e in cc;
  held = λ n k z. let s = some_node _ File k in let q = new_node n s.0 s.1 in let never : Directory ≡ File = ap (λ (x : Node). x.kind) (sym q.1) ∙ s.2 in cc;
}
