-- A file gets one more name.
use Rattle.std.proofs.Common.{◌≡◌, ◌+◌, ◌*◌, ◌&&◌, ℕ, true, false, List, Option, Some, None, Ok, not, true≢false, refl, sym, ap, subst, ◌∙◌}
use Rattle.std.specs.Prelude.{is_none}
use Rattle.std.specs.FinMap as map
use Rattle.std.proofs.lemmas.Bool.{and_parts}
use Rattle.sn_limits.specs.Names.{is_name}
use Rattle.sn_limits.specs.declared.kind.Kind.{Kind}
use Rattle.sn_limits.specs.declared.kind.Kind.TheVariants.{File, Directory}
use Rattle.sn_limits.specs.declared.limits.Limits.{Limits}
use Rattle.sn_walk.specs.declared.object.Home.TheVariants.{Live}
use Rattle.sn_walk.specs.declared.object.Object.{Object as Thing}
use Rattle.sn_walk.specs.declared.object.Object.TheVariants as thing
use Rattle.sn_walk.specs.declared.walking.Found.{Found}
use Rattle.sn_walk.specs.declared.walking.Walked.{Walked}
use Rattle.sn_walk.specs.declared.walking.Walked.TheVariants.{Root, Name}
use Rattle.sn_walk.specs.Chains.{◌>>=◌}
use Rattle.sn_walk.specs.Objects.{is_in_tree_of, number_of}
use Rattle.sn_walk.specs.Views.{is_hidden_name}
use Rattle.sn_walk.proofs.ChainLemmas.{bind_ok}
use Rattle.sn_model.specs.declared.call.Call.TheVariants as call
use Rattle.sn_model.specs.declared.change.Change.TheVariants.{AddLink}
use Rattle.sn_model.specs.declared.link.Link.{Link}
use Rattle.sn_model.specs.declared.outcome.Outcome.{Outcome}
use Rattle.sn_model.specs.declared.reply.Errno.TheVariants.{Enoent, Exdev}
use Rattle.sn_model.specs.declared.reply.Reply.{Reply}
use Rattle.sn_model.specs.declared.session.Session.{Session}
use Rattle.sn_model.specs.Calls.{Ready, outcome_of, ready}
use Rattle.sn_model.specs.Changes.{is_file, put_link}
use Rattle.sn_model.specs.FileCalls.{no_directory}
use Rattle.sn_model.specs.NameCalls.{home_of, link_outcome, may_link}
use Rattle.sn_model.specs.Outcomes.{does}
use Rattle.sn_model.specs.Seen.{last_name, parent_of, seen}
use Rattle.sn_model.specs.Steps.{Comes, with_live}
use Rattle.sn_model.specs.Tests.{full, live, not_present, one_tree, path_argument, plain, prefix, writable_parent}
use Rattle.sn_model.specs.Tree.{Tree, link_to}
use Rattle.sn_model.specs.World.{World}
use Rattle.sn_model.specs.Worlds.{IsWorld}
use Rattle.sn_model.proofs.AccessDenialLemmas.{full_led}
use Rattle.sn_model.proofs.DecisionLemmas.{called, live_node, same_ok}
use Rattle.sn_model.proofs.LinkLemmas.{exact_links, links_total}
use Rattle.sn_model.proofs.NameCallLemmas.{cond_true, same_live}
use Rattle.sn_model.proofs.LoseLemmas.{done_loss, none_dropped}
use Rattle.sn_model.proofs.MapLemmas.{get_inserted, get_other}
use Rattle.sn_model.proofs.PartLemmas.{file_is, linked_is}
use Rattle.sn_import_laws.specs.Names.{IsNewLink}
use Rattle.sn_import_laws.proofs.Directories.{new_parent}
use Rattle.sn_import_laws.proofs.Opening.{leads_still, led_new, no_value, shown_name, trees_in}
use Rattle.sn_import_laws.proofs.Setting.{goes_on, ready_ok}
use Rattle.sn_import_laws.proofs.Steps.{IsDone}

record LinksAt (limits : Limits) (old : World) (s : Session) (names others : List (List ℕ)) (o : Outcome) : Type 0 where
  found : Found
  leads : full (trees_in old) s.cred 1 names ≡ Ok found
  walked : Walked
  walks : prefix (trees_in old) s.cred 2 others ≡ Ok walked
  number : ℕ
  in_live : live found.object ≡ Ok number
  at : Thing × ℕ
  parent_is : parent_of Enoent walked ≡ Ok at
  directory : ℕ
  at_is : at.0 ≡ thing.Node Live directory
  is : o ≡ does (2 * limits.inode_charge + limits.block_charge) (AddLink (number_of at.0) (last_name others) number)

-- the new name is in the tree of the file, which is the live one
in_one_tree : (x y : Thing) (n : ℕ) (u : Unit {0}) → one_tree x y ≡ Ok u → x ≡ thing.Node Live n → (d : ℕ) × (y ≡ thing.Node Live d)
in_one_tree x y n u e is = same_live n y (ap (λ (z : Thing). is_in_tree_of z y) (sym is) ∙ cond_true (is_in_tree_of x y) (plain Exdev) u e)

home_is : (w : Walked) (v : Thing × ℕ) → not_present w ≡ Ok v → home_of w ≡ v.0
home_is Root v e = cc e
home_is (Name d place None) v e = ap (λ (p : Thing × ℕ). p.0) (same_ok (d, place) v e)
home_is (Name d place (Some x)) v e = cc e

links_at : (limits : Limits) (old : World) (s : Session) (names others : List (List ℕ)) (o : Outcome) → link_outcome limits (seen limits old) s names others ≡ Ok o → LinksAt limits old s names others o
unfolding link_outcome
links_at limits old s names others o e =
    let trees = trees_in old in
    let f = bind_ok (full trees s.cred 1 names) _ o e in
    let a = bind_ok (no_directory f.0) _ o f.2 in
    let w = bind_ok (prefix trees s.cred 2 others) _ o a.2 in
    let t = bind_ok (one_tree f.0.object (home_of w.0)) _ o w.2 in
    let n = bind_ok (live f.0.object) _ o t.2 in
    let v = bind_ok (not_present w.0) _ o n.2 in
    let p = bind_ok (writable_parent trees s.cred 2 v.0.1 v.0.0) _ o v.2 in
    let l = bind_ok (may_link limits f.0) _ o p.2 in
    let r = bind_ok ((seen limits old).names.room (number_of v.0.0)) _ o l.2 in
    let d = in_one_tree f.0.object (home_of w.0) n.0 t.0 t.1 (live_node f.0.object n.0 n.1) in
    record {
      found = f.0;
      leads = f.1;
      walked = w.0;
      walks = w.1;
      number = n.0;
      in_live = n.1;
      at = v.0;
      parent_is = new_parent w.0 v.0 v.1;
      directory = d.0;
      at_is = sym (home_is w.0 v.0 v.1) ∙ d.1;
      is = sym (same_ok (does (2 * limits.inode_charge + limits.block_charge) (AddLink (number_of v.0.0) (last_name others) n.0)) o r.2);
    }

abbrev link_ready : Session → List (List ℕ) → List (List ℕ) → Ready
link_ready s names others = λ limits w. link_outcome limits (seen limits w) s names others

record Decided (limits : Limits) (old : World) (target path : List ℕ) (o : Outcome) : Type 0 where
  s : Session
  names : List (List ℕ)
  spelled : path_argument target ≡ Ok names
  others : List (List ℕ)
  others_spelled : path_argument path ≡ Ok others
  links : LinksAt limits old s names others o

decided : (limits : Limits) (old new : World) (target path : List ℕ) (answer : Reply) → (d : IsDone limits old 0 (call.Link target path) answer new) → Decided limits old target path d.outcome
decided limits old new target path answer d =
    let o = d.outcome in
    let r = bind_ok (ready old 0 (call.Link target path)) (outcome_of limits old) o d.decided in
    let k = called old 0 target (λ s names. path_argument path >>= (λ others. ready_ok (link_ready s names others))) r.0 r.1 in
    let q = bind_ok (path_argument path) (λ others. ready_ok (link_ready k.caller k.names others)) r.0 k.passed in
    let e = goes_on limits old (link_ready k.caller k.names q.0) r.0 o q.2 r.2 in
    record { s = k.caller; names = k.names; spelled = k.read; others = q.0; others_spelled = q.1; links = links_at limits old k.caller k.names q.0 o e }

file_kind : (k : Kind) → is_file k ≡ true → k ≡ File
file_kind File e = refl
file_kind Directory e = absurd (true≢false (sym e))

pub link_put : (limits : Limits) (old new : World) (target path : List ℕ) (answer : Reply) → IsWorld limits old → IsDone limits old 0 (call.Link target path) answer new → IsNewLink old new target path
link_put limits old new target path answer w d =
    let k = decided limits old new target path answer d in
    let p = k.links in
    let directory = p.directory in
    let name = last_name k.others in
    let change = AddLink directory name p.number in
    let o : d.outcome ≡ does (2 * limits.inode_charge + limits.block_charge) change =
    p.is ∙ ap (λ (x : Thing). does (2 * limits.inode_charge + limits.block_charge) (AddLink (number_of x) name p.number)) p.at_is in
    let c = subst (λ (x : Outcome). Comes limits old 0 x new) o d.comes in
    let link = link_to directory name in
    let m = linked_is limits old.live link p.number c.tree c.applied in
    let file = file_is old.live p.number m.node m.file in
    let parts = and_parts (is_name name && not (is_hidden_name directory name)) (is_none (map.get old.live.links link)) m.vacant in
    let absent : map.get old.live.links link ≡ None = no_value (map.get old.live.links link) parts.1 in
    let shown : is_hidden_name directory name ≡ false = shown_name (is_hidden_name directory name) (and_parts (is_name name) (not (is_hidden_name directory name)) parts.0).1 in
    let loss = done_loss limits old c.tree w change tt c.applied in
    let kept = none_dropped limits (with_live old c.tree) (λ n e. no_number n (loss n e)) in
    let after = with_live old (put_link old.live link p.number) in
    let is : new ≡ after = c.world ∙ kept ∙ ap (with_live old) (sym m.gives) in
    let named : map.get after.live.links link ≡ Some p.number = get_inserted links_total old.live.links link p.number in
    let in_live : live p.at.0 ≡ Ok directory = ap live p.at_is in
    let all : IsNewLink old after target path = record {
      number = p.number;
      node = m.node;
      was = record { names = k.names; spelled = k.spelled; led = (full_led (trees_in old) k.s.cred k.names p.found p.leads).1 ∙ ap (λ (x : Thing). Some x) (live_node p.found.object p.number p.in_live); there = file.0 };
      kind = file_kind m.node.kind file.1;
      name = record {
        link = link;
        at = record {
          names = k.others;
          spelled = k.others_spelled;
          led = led_new 2 old after k.s k.others p.walked p.at directory p.number (leads_still old after refl (name_kept old.live link p.number absent)) p.walks p.parent_is in_live shown named;
          there = file.0;
        };
        named = named;
        absent = absent;
        links = λ other apart. get_other links_total exact_links old.live.links link p.number other apart;
        frozen = refl;
        sessions = refl;
        descriptors = refl;
      };
      nodes = refl;
    } in
    subst (λ (v : World). IsNewLink old v target path) (sym is) all
  where
    nothing : Option ℕ
    nothing = None

    no_number : (m : ℕ) → nothing ≡ Some m → ⊥
    no_number m e = cc

    no_name : (n : ℕ) → Some n ≡ None → ⊥
    no_name n e = cc

    name_kept : (tree : Tree) (link : Link) (number : ℕ) → map.get tree.links link ≡ None → (other : Link) (n : ℕ) → map.get tree.links other ≡ Some n → map.get (put_link tree link number).links other ≡ Some n
    name_kept tree link number absent other n e = get_other links_total exact_links tree.links link number other (λ same. no_name n (sym e ∙ ap (map.get tree.links) same ∙ absent)) ∙ e
