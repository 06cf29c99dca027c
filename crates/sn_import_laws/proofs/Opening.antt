-- A file that isn't there is opened to be written.
use Rattle.std.proofs.Common.{◌≡◌, ◌≢◌, ◌⊎◌, ℕ, ◌+◌, ◌&&◌, Bool, true, false, cond, List, [], ◌∷◌, Option, Some, None, Ok, not, is_some, inl, inr, refl, sym, ap, subst, ◌∙◌, true≢false}
use Rattle.std.specs.Prelude.{is_none, ok_or}
use Rattle.std.specs.Option.{option_and_then, option_map}
use Rattle.std.specs.FinMap as map
use Rattle.std.specs.Cmp.{nat_cmp_total}
use Rattle.std.proofs.lemmas.Bool.{and_parts}
use Rattle.std.proofs.lemmas.Map.Lookups.{exact_unsigned}
use Rattle.sn_acl.specs.Credential.{Credential}
use Rattle.sn_acl.specs.declared.modes.Mode.{Mode}
use Rattle.sn_limits.specs.Names.{is_name}
use Rattle.sn_limits.specs.declared.kind.Kind.TheVariants.{File}
use Rattle.sn_limits.specs.declared.limits.Limits.{Limits}
use Rattle.sn_walk.specs.declared.object.Home.TheVariants.{Live, Frozen}
use Rattle.sn_walk.specs.declared.object.Object.{Object}
use Rattle.sn_walk.specs.declared.object.Object.TheVariants as object
use Rattle.sn_walk.specs.declared.view.Attributes.{Attributes}
use Rattle.sn_walk.specs.declared.walking.Found.{Found}
use Rattle.sn_walk.specs.declared.walking.Walked.{Walked}
use Rattle.sn_walk.specs.declared.walking.Walked.TheVariants.{Root, Name}
use Rattle.sn_walk.specs.Chains.{◌>>=◌}
use Rattle.sn_walk.specs.Objects.{root}
use Rattle.sn_walk.specs.Paths.{last_after}
use Rattle.sn_walk.specs.Views.{ViewedTrees, child_of, is_hidden_name}
use Rattle.sn_walk.specs.Walks.{found_at, passed, present, walk_from, walk_of}
use Rattle.sn_walk.proofs.ChainLemmas.{bind_ok}
use Rattle.sn_model.specs.declared.argument.OpenFlags.{OpenFlags}
use Rattle.sn_model.specs.declared.call.Call.TheVariants as call
use Rattle.sn_model.specs.declared.change.Ownership.{Ownership}
use Rattle.sn_model.specs.declared.link.Link.{Link}
use Rattle.sn_model.specs.declared.outcome.Outcome.{Outcome}
use Rattle.sn_model.specs.declared.reply.Errno.TheVariants.{Emfile, Enoent}
use Rattle.sn_model.specs.declared.reply.Reply.{Reply}
use Rattle.sn_model.specs.declared.reply.Reply.TheVariants as reply
use Rattle.sn_model.specs.declared.session.Session.{Session}
use Rattle.sn_model.specs.Calls.{Ready, outcome_of, ready}
use Rattle.sn_model.specs.Changes.{node_with, put_link, put_node}
use Rattle.sn_model.specs.Denials.{led_to}
use Rattle.sn_model.specs.Descriptors.{next_descriptor, opened}
use Rattle.sn_model.specs.FileCalls.{first_ownership, flags_argument, open_absent, open_found, open_outcome, open_there, opens_new}
use Rattle.sn_model.specs.NameTree.{HasKind}
use Rattle.sn_model.specs.Seen.{last_name, parent_of, seen}
use Rattle.sn_model.specs.Settling.{dropped}
use Rattle.sn_model.specs.Steps.{Comes}
use Rattle.sn_model.specs.Tests.{has_room, live, new_mode_argument, path_argument, plain, prefix, writable_parent}
use Rattle.sn_model.specs.Tree.{Node, Tree, first_without, link_to, names_for, viewed}
use Rattle.sn_model.specs.World.{Descriptor, World, trees_of, viewed_trees}
use Rattle.sn_model.specs.Worlds.{IsWorld}
use Rattle.sn_model.proofs.DecisionLemmas.{called, live_node, ok, same_ok, walked_ok}
use Rattle.sn_model.proofs.DenialLemmas.{passed_ok, present_ok}
use Rattle.sn_model.proofs.HeldLemmas.{descriptors_total, exact_descriptors}
use Rattle.sn_model.proofs.LinkLemmas.{exact_links, links_total}
use Rattle.sn_model.proofs.MapLemmas.{get_inserted, get_other, same_or_apart}
use Rattle.sn_model.proofs.MoveLemmas.{kind_at}
use Rattle.sn_model.proofs.NameLemmas.{is_unnamed, no_names_for}
use Rattle.sn_model.proofs.PartLemmas.{made_is}
use Rattle.sn_model.proofs.SearchLemmas.{is_found}
use Rattle.sn_import.specs.Calls.{new_file}
use Rattle.sn_import_laws.specs.Contents.{IsFilling, at_end}
use Rattle.sn_import_laws.specs.Files.{IsNewFile}
use Rattle.sn_import_laws.proofs.Held.{held_put, stays}
use Rattle.sn_import_laws.proofs.Setting.{goes_on, ready_ok}
use Rattle.sn_import_laws.proofs.Steps.{IsDone}

-- ---- where a walk leads

-- what leads somewhere leads there still
abbrev pub LeadsStill : ViewedTrees → ViewedTrees → Type 0
LeadsStill old new = (o : Object) (name : List ℕ) (child : Object) → child_of old o name ≡ Some child → child_of new o name ≡ Some child

one_name : (x : Option Object) → option_and_then (λ (child : Object). Some child) x ≡ x
one_name None = refl
one_name (Some o) = refl

pub walk_leads : (old new : ViewedTrees) (cred : Credential) → LeadsStill old new → (place : ℕ) (d : Object) (name : List ℕ) (names : List (List ℕ)) (at : Object) (end : ℕ) (last : Option Object)
    → walk_from old cred place d name names ≡ Ok (Name at end last) → led_to new d (name ∷ names) ≡ child_of new at (last_after name names)
unfolding walk_from led_to
walk_leads old new cred still place d name [] at end last e =
    let b = bind_ok (passed old cred place d name) (λ object. Ok (Name d place object)) (Name at end last) e in
    let same : Name d place b.0 ≡ Name at end last = cc (b.2) in
    let here : d ≡ at = cc same in
    one_name (child_of new d name) ∙ ap (λ (x : Object). child_of new x name) here
walk_leads old new cred still place d name (next ∷ names) at end last e =
    let b = bind_ok (passed old cred place d name) (λ child. present place child >>= (λ object. walk_from old cred (place + 1) object next names)) (Name at end last) e in
    let p = bind_ok (present place b.0) (λ object. walk_from old cred (place + 1) object next names) (Name at end last) b.2 in
    let child = still d name p.0 (passed_ok old cred place d name b.0 b.1 ∙ present_ok old cred place b.0 p.0 p.1) in
    ap (option_and_then (λ (x : Object). led_to new x (next ∷ names))) child ∙ walk_leads old new cred still (place + 1) p.0 next names at end last p.2

-- ---- what an open decides

abbrev pub trees_in : World → ViewedTrees
trees_in world = viewed_trees (trees_of world)

abbrev own_first : World → Session → Mode → Attributes → ℕ → Ownership
own_first world s mode parent directory = first_ownership File s mode parent ((viewed world.live).default_acl directory)

record OpensAt (limits : Limits) (old : World) (s : Session) (names : List (List ℕ)) (mode : Mode) (o : Outcome) : Type 0 where
  fd : ℕ
  next : next_descriptor old.descriptors 0 ≡ Ok fd
  walked : Walked
  walks : prefix (trees_in old) s.cred 1 names ≡ Ok walked
  at : Object × ℕ
  parent_is : parent_of Enoent walked ≡ Ok at
  directory : ℕ
  in_live : live at.0 ≡ Ok directory
  parent : Attributes
  is : o ≡ opens_new limits new_file fd directory (last_name names) (own_first old s mode parent directory)

opens_at : (limits : Limits) (old : World) (s : Session) (names : List (List ℕ)) (mode : Mode) (o : Outcome) → open_outcome limits (seen limits old) old.descriptors 0 s names new_file mode ≡ Ok o → OpensAt limits old s names mode o
unfolding open_outcome open_there open_absent
opens_at limits old s names mode o e =
    let trees = trees_in old in
    let n = bind_ok (next_descriptor old.descriptors 0) (λ fd. prefix trees s.cred 1 names >>= (λ w. open_found limits (seen limits old) s fd new_file mode names w (found_at trees w))) o e in
    let w = bind_ok (prefix trees s.cred 1 names) (λ w. open_found limits (seen limits old) s n.0 new_file mode names w (found_at trees w)) o n.2 in
    told n.0 n.1 w.0 w.1 (found_at trees w.0) w.2
  where
    told : (fd : ℕ) → next_descriptor old.descriptors 0 ≡ Ok fd → (w : Walked) → prefix (trees_in old) s.cred 1 names ≡ Ok w → (f : Option Found) → open_found limits (seen limits old) s fd new_file mode names w f ≡ Ok o → OpensAt limits old s names mode o
    told fd next w walks (Some found) f = cc f
    told fd next w walks None f =
        let trees = trees_in old in
        let last = λ (d : ℕ) (p : Attributes). ok (opens_new limits new_file fd d (last_name names) (own_first old s mode p d)) in
        let at = bind_ok (parent_of Enoent w) (λ at. live at.0 >>= (λ d. writable_parent trees s.cred 1 at.1 at.0 >>= (λ p. has_room limits old.live d >>= (λ _. last d p)))) o f in
        let d = bind_ok (live at.0.0) (λ d. writable_parent trees s.cred 1 at.0.1 at.0.0 >>= (λ p. has_room limits old.live d >>= (λ _. last d p))) o at.2 in
        let p = bind_ok (writable_parent trees s.cred 1 at.0.1 at.0.0) (λ p. has_room limits old.live d.0 >>= (λ _. last d.0 p)) o d.2 in
        let r = bind_ok (has_room limits old.live d.0) (λ _. last d.0 p.0) o p.2 in
        record { fd = fd; next = next; walked = w; walks = walks; at = at.0; parent_is = at.1; directory = d.0; in_live = d.1; parent = p.0; is = sym (same_ok _ o r.2) }

abbrev open_ready : Session → List (List ℕ) → OpenFlags → Mode → Ready
open_ready s names flags mode = λ limits w. open_outcome limits (seen limits w) w.descriptors 0 s names flags mode

record Decided (limits : Limits) (old : World) (path : List ℕ) (o : Outcome) : Type 0 where
  s : Session
  names : List (List ℕ)
  spelled : path_argument path ≡ Ok names
  mode : Mode
  opens : OpensAt limits old s names mode o

decided : (limits : Limits) (old new : World) (path : List ℕ) (answer : Reply) → (d : IsDone limits old 0 (call.Open path new_file 384) answer new) → Decided limits old path d.outcome
decided limits old new path answer d =
    let o = d.outcome in
    let r = bind_ok (ready old 0 (call.Open path new_file 384)) (outcome_of limits old) o d.decided in
    let k = called old 0 path (λ s names. flags_argument new_file >>= (λ asked. new_mode_argument 384 >>= (λ bits. ready_ok (open_ready s names asked bits)))) r.0 r.1 in
    let a = bind_ok (flags_argument new_file) (λ asked. new_mode_argument 384 >>= (λ bits. ready_ok (open_ready k.caller k.names asked bits))) r.0 k.passed in
    let m = bind_ok (new_mode_argument 384) (λ bits. ready_ok (open_ready k.caller k.names a.0 bits)) r.0 a.2 in
    let e = goes_on limits old (open_ready k.caller k.names a.0 m.0) r.0 o m.2 r.2 in
    let flags : a.0 ≡ new_file = sym (same_ok new_file a.0 a.1) in
    let here = subst (λ (x : OpenFlags). open_outcome limits (seen limits old) old.descriptors 0 k.caller k.names x m.0 ≡ Ok o) flags e in
    record { s = k.caller; names = k.names; spelled = k.read; mode = m.0; opens = opens_at limits old k.caller k.names m.0 o here }

-- ---- what it leaves

-- an empty file as open() makes it
pub record IsEmpty (node : Node) : Type 0 where
  pub kind : node.kind ≡ File
  pub set_gid : node.set_gid ≡ false
  pub sticky : node.sticky ≡ false
  pub default_acl : node.default_acl ≡ None
  pub bytes : node.bytes ≡ []

pub record IsOpened (old new : World) (path : List ℕ) (fd : ℕ) : Type 0 where
  pub node : Node
  pub file : IsNewFile old new path fd node
  pub empty : IsEmpty node
  pub filling : IsFilling new fd file.number node

-- the tree with a new name for a new node
abbrev pub tree_with : Tree → ℕ → Link → Node → Tree
tree_with tree number link node = put_link (put_node tree number node) link number

module _ (tree : Tree) (number : ℕ) (link : Link) (node : Node) (absent : map.get tree.links link ≡ None) (unused : map.get tree.nodes number ≡ None) where
  pub link_kept : (other : Link) (n : ℕ) → map.get tree.links other ≡ Some n → map.get (tree_with tree number link node).links other ≡ Some n
  link_kept other n e = get_other links_total exact_links tree.links link number other (λ same. never n (sym e ∙ ap (map.get tree.links) same ∙ absent)) ∙ e
    where
      never : (m : ℕ) → Some m ≡ None → ⊥
      never m e = cc

  -- a file without a name was there before, without one
  pub was_unnamed : (m : ℕ) → HasKind (tree_with tree number link node) m File → names_for (tree_with tree number link node) m ≡ 0 → HasKind tree m File × (names_for tree m ≡ 0)
  was_unnamed m k z = (file_was, no_names_for tree m (λ other e. is_unnamed (tree_with tree number link node) m z other (link_kept other m e)))
    where
      file_was : HasKind tree m File
      file_was = split (same_or_apart nat_cmp_total exact_unsigned m number)
        where
          split : (m ≡ number) ⊎ (m ≢ number) → HasKind tree m File
          split (inl q) = absurd (is_unnamed (tree_with tree number link node) m z link (get_inserted links_total tree.links link number ∙ ap (λ (n : ℕ). Some n) (sym q)))
          split (inr apart) = kind_at _ _ File (sym (get_other nat_cmp_total exact_unsigned tree.nodes number node m apart)) k

-- paths lead where they led
pub leads_still : (old new : World) → new.frozen ≡ old.frozen → ((other : Link) (n : ℕ) → map.get old.live.links other ≡ Some n → map.get new.live.links other ≡ Some n) → LeadsStill (trees_in old) (trees_in new)
leads_still old new frozen kept (object.Node Live d) name child e = told (is_hidden_name d name) (map.get old.live.links (link_to d name)) refl e
  where
    told : (b : Bool) (o : Option ℕ) → map.get old.live.links (link_to d name) ≡ o → cond b (Some object.Snapshots) (option_map (object.Node Live) o) ≡ Some child
        → cond b (Some object.Snapshots) (option_map (object.Node Live) (map.get new.live.links (link_to d name))) ≡ Some child
    told true o is f = f
    told false None is f = cc f
    told false (Some n) is f = ap (option_map (object.Node Live)) (kept (link_to d name) n is) ∙ f
leads_still old new frozen kept (object.Node (Frozen s) d) name child e =
    ap (λ fs. child_of (viewed_trees (record { live = new.live; frozen = fs })) (object.Node (Frozen s) d) name) frozen ∙ e
leads_still old new frozen kept object.Snapshots name child e =
    ap (λ fs. child_of (viewed_trees (record { live = new.live; frozen = fs })) object.Snapshots name) frozen ∙ e

-- the walk of the path led to the directory of the name
pub led_new : (path : ℕ) (old new : World) (s : Session) (names : List (List ℕ)) (w : Walked) (at : Object × ℕ) (directory number : ℕ) → LeadsStill (trees_in old) (trees_in new) → prefix (trees_in old) s.cred path names ≡ Ok w → parent_of Enoent w ≡ Ok at
    → live at.0 ≡ Ok directory → is_hidden_name directory (last_name names) ≡ false → map.get new.live.links (link_to directory (last_name names)) ≡ Some number → led_to (trees_in new) root names ≡ Some (object.Node Live number)
led_new path old new s names Root at directory number still walks parent in_live shown named = cc parent
led_new path old new s [] (Name d place last) at directory number still walks parent in_live shown named = cc (walked_ok path (walk_of (trees_in old) s.cred []) (Name d place last) walks)
led_new path old new s (name ∷ more) (Name d place last) at directory number still walks parent in_live shown named =
    let is : d ≡ object.Node Live directory = ap (λ (x : Object × ℕ). x.0) (same_ok (d, place) at parent) ∙ live_node at.0 directory in_live in
    walk_leads (trees_in old) (trees_in new) s.cred still 0 root name more d place last (walked_ok path (walk_of (trees_in old) s.cred (name ∷ more)) (Name d place last) walks)
    ∙ ap (λ (x : Object). child_of (trees_in new) x (last_after name more)) is
    ∙ ap (λ (b : Bool). cond b (Some object.Snapshots) (option_map (object.Node Live) (map.get new.live.links (link_to directory (last_after name more))))) shown
    ∙ ap (option_map (object.Node Live)) named

pub no_value : (o : Option ℕ) → is_none o ≡ true → o ≡ None
no_value None e = refl
no_value (Some n) e = absurd (true≢false (sym e))

pub shown_name : (b : Bool) → not b ≡ true → b ≡ false
shown_name false e = refl
shown_name true e = absurd (true≢false (sym e))

no_descriptor : (o : Option Descriptor) → is_some o ≡ false → o ≡ None
no_descriptor None e = refl
no_descriptor (Some d) e = absurd (true≢false e)

found_next : (old : World) (fd : ℕ) → next_descriptor old.descriptors 0 ≡ Ok fd → map.get old.descriptors (0, fd) ≡ None
found_next old fd e = told (first_without (λ n. is_some (map.get old.descriptors (0, n))) 0 64) refl e
  where
    told : (o : Option ℕ) → first_without (λ n. is_some (map.get old.descriptors (0, n))) 0 64 ≡ o → ok_or o (plain Emfile) ≡ Ok fd → map.get old.descriptors (0, fd) ≡ None
    told None is f = cc f
    told (Some n) is f =
        let same : n ≡ fd = same_ok n fd f in
        no_descriptor (map.get old.descriptors (0, fd)) (is_found (λ m. is_some (map.get old.descriptors (0, m))) 0 64 fd (is ∙ ap (λ (m : ℕ). Some m) same)).0

-- the world after it
abbrev opened_world : World → ℕ → ℕ → Link → Node → World
opened_world old fd number link node = record old { live = tree_with old.live number link node; descriptors = opened old.descriptors 0 fd (at_end number node) }

pub record Opens (old new : World) (path : List ℕ) (answer : Reply) : Type 0 where
  pub fd : ℕ
  pub told : answer ≡ reply.Number fd
  pub opened_so : IsOpened old new path fd

pub open_put : (limits : Limits) (old new : World) (path : List ℕ) (answer : Reply) → IsWorld limits old → IsDone limits old 0 (call.Open path new_file 384) answer new → Opens old new path answer
open_put limits old new path answer w d =
    let k = decided limits old new path answer d in
    let p = k.opens in
    let c = subst (λ (o : Outcome). Comes limits old 0 o new) p.is d.comes in
    let link = link_to p.directory (last_name k.names) in
    let own = own_first old k.s k.mode p.parent p.directory in
    let node = node_with File own [] in
    let m = made_is limits old.live link c.number File own c.tree c.applied in
    let parts = and_parts (is_name (last_name k.names) && not (is_hidden_name p.directory (last_name k.names))) (is_none (map.get old.live.links link)) m.vacant in
    let absent : map.get old.live.links link ≡ None = no_value (map.get old.live.links link) parts.1 in
    let shown : is_hidden_name p.directory (last_name k.names) ≡ false =
    shown_name (is_hidden_name p.directory (last_name k.names)) (and_parts (is_name (last_name k.names)) (not (is_hidden_name p.directory (last_name k.names))) parts.0).1 in
    let after = opened_world old p.fd c.number link node in
    let is : new ≡ after =
    c.world ∙ ap (λ (t : Tree). dropped (record old { live = t; descriptors = opened old.descriptors 0 p.fd (at_end c.number node) })) (sym m.gives)
    ∙ stays limits old (tree_with old.live c.number link node) (opened old.descriptors 0 p.fd (at_end c.number node)) w (record {
      files = was_unnamed old.live c.number link node absent c.free.unused;
      held = λ n z h. held_put old.descriptors 0 p.fd (at_end c.number node) (λ other there. absurd (never other (sym there ∙ found_next old p.fd p.next))) n h;
    }) in
    let named : map.get after.live.links link ≡ Some c.number = get_inserted links_total old.live.links link c.number in
    let made : map.get after.live.nodes c.number ≡ Some node = get_inserted nat_cmp_total old.live.nodes c.number node in
    let all : IsOpened old after path p.fd = record {
      node = node;
      file = record {
        number = c.number;
        link = link;
        at = record {
          names = k.names;
          spelled = k.spelled;
          led = led_new 1 old after k.s k.names p.walked p.at p.directory c.number (leads_still old after refl (link_kept old.live c.number link node absent c.free.unused)) p.walks p.parent_is p.in_live shown named;
          there = made;
        };
        named = named;
        unused = c.free.unused;
        absent = absent;
        nodes = λ other apart. get_other nat_cmp_total exact_unsigned old.live.nodes c.number node other apart;
        links = λ other apart. get_other links_total exact_links old.live.links link c.number other apart;
        frozen = refl;
        sessions = refl;
        descriptors = λ session other apart. get_other descriptors_total exact_descriptors old.descriptors (0, p.fd) (at_end c.number node) (session, other) apart;
      };
      empty = record { kind = refl; set_gid = refl; sticky = refl; default_acl = refl; bytes = refl };
      filling = record { there = made; kind = refl; descriptor = get_inserted descriptors_total old.descriptors (0, p.fd) (at_end c.number node) };
    } in
    record { fd = p.fd; told = d.told ∙ ap (λ (o : Outcome). o.told) p.is; opened_so = subst (λ (v : World). IsOpened old v path p.fd) (sym is) all }
  where
    never : (x : Descriptor) → Some x ≡ None → ⊥
    never x e = cc
