-- A directory that isn't there is made.
use Rattle.std.proofs.Common.{◌≡◌, ◌≢◌, ◌+◌, ◌*◌, ◌&&◌, ℕ, false, List, [], Some, None, Ok, not, refl, sym, ap, subst, ◌∙◌}
use Rattle.std.specs.Prelude.{is_none}
use Rattle.std.specs.FinMap as map
use Rattle.std.specs.Cmp.{nat_cmp_total}
use Rattle.std.proofs.lemmas.Bool.{and_parts}
use Rattle.std.proofs.lemmas.Map.Lookups.{exact_unsigned}
use Rattle.sn_acl.specs.declared.modes.Mode.{Mode}
use Rattle.sn_limits.specs.Names.{is_name}
use Rattle.sn_limits.specs.declared.kind.Kind.TheVariants.{Directory}
use Rattle.sn_limits.specs.declared.limits.Limits.{Limits}
use Rattle.sn_walk.specs.declared.object.Object.{Object as Thing}
use Rattle.sn_walk.specs.declared.view.Attributes.{Attributes}
use Rattle.sn_walk.specs.declared.walking.Walked.{Walked}
use Rattle.sn_walk.specs.declared.walking.Walked.TheVariants.{Root, Name}
use Rattle.sn_walk.specs.Chains.{◌>>=◌}
use Rattle.sn_walk.specs.Views.{is_hidden_name}
use Rattle.sn_walk.proofs.ChainLemmas.{bind_ok}
use Rattle.sn_model.specs.declared.call.Call.TheVariants as call
use Rattle.sn_model.specs.declared.change.Ownership.{Ownership}
use Rattle.sn_model.specs.declared.outcome.Outcome.{Outcome}
use Rattle.sn_model.specs.declared.reply.Errno.TheVariants.{Enoent}
use Rattle.sn_model.specs.declared.reply.Reply.{Reply}
use Rattle.sn_model.specs.declared.session.Session.{Session}
use Rattle.sn_model.specs.Calls.{mkdir_outcome, outcome_of, ready}
use Rattle.sn_model.specs.Changes.{node_with}
use Rattle.sn_model.specs.FileCalls.{first_ownership}
use Rattle.sn_model.specs.Outcomes.{makes}
use Rattle.sn_model.specs.Seen.{last_name, parent_of, seen}
use Rattle.sn_model.specs.Settling.{dropped}
use Rattle.sn_model.specs.Steps.{Comes, with_live}
use Rattle.sn_model.specs.Tests.{has_room, live, new_mode_argument, not_present, path_argument, prefix, writable_parent}
use Rattle.sn_model.specs.Tree.{Node, Tree, link_to, viewed}
use Rattle.sn_model.specs.World.{World}
use Rattle.sn_model.specs.Worlds.{IsWorld}
use Rattle.sn_model.proofs.DecisionLemmas.{called, same_ok}
use Rattle.sn_model.proofs.LinkLemmas.{exact_links, links_total}
use Rattle.sn_model.proofs.MapLemmas.{get_inserted, get_other}
use Rattle.sn_model.proofs.PartLemmas.{made_is}
use Rattle.sn_import_laws.specs.Names.{IsNewName}
use Rattle.sn_import_laws.proofs.Held.{stays}
use Rattle.sn_import_laws.proofs.Opening.{leads_still, led_new, link_kept, no_value, shown_name, tree_with, trees_in, was_unnamed}
use Rattle.sn_import_laws.proofs.Setting.{goes_on, ready_ok}
use Rattle.sn_import_laws.proofs.Steps.{IsDone}
use Rattle.sn_import_laws.proofs.Vacant.{mkdir_ready}

abbrev own_first : World → Session → Mode → Attributes → ℕ → Ownership
own_first world s mode parent directory = first_ownership Directory s mode parent ((viewed world.live).default_acl directory)

record MakesAt (limits : Limits) (old : World) (s : Session) (names : List (List ℕ)) (mode : Mode) (o : Outcome) : Type 0 where
  walked : Walked
  walks : prefix (trees_in old) s.cred 1 names ≡ Ok walked
  at : Thing × ℕ
  parent_is : parent_of Enoent walked ≡ Ok at
  directory : ℕ
  in_live : live at.0 ≡ Ok directory
  parent : Attributes
  is : o ≡ makes (2 * limits.inode_charge + limits.block_charge) (link_to directory (last_name names)) Directory (own_first old s mode parent directory)

pub new_parent : (w : Walked) (v : Thing × ℕ) → not_present w ≡ Ok v → parent_of Enoent w ≡ Ok v
new_parent Root v e = cc e
new_parent (Name d place None) v e = e
new_parent (Name d place (Some x)) v e = cc e

makes_at : (limits : Limits) (old : World) (s : Session) (names : List (List ℕ)) (mode : Mode) (o : Outcome) → mkdir_outcome limits (seen limits old) s names mode ≡ Ok o → MakesAt limits old s names mode o
unfolding mkdir_outcome
makes_at limits old s names mode o e =
    let trees = trees_in old in
    let w = bind_ok (prefix trees s.cred 1 names) _ o e in
    let v = bind_ok (not_present w.0) _ o w.2 in
    let d = bind_ok (live v.0.0) _ o v.2 in
    let p = bind_ok (writable_parent trees s.cred 1 v.0.1 v.0.0) _ o d.2 in
    let r = bind_ok (has_room limits old.live d.0) _ o p.2 in
    record {
      walked = w.0;
      walks = w.1;
      at = v.0;
      parent_is = new_parent w.0 v.0 v.1;
      directory = d.0;
      in_live = d.1;
      parent = p.0;
      is = sym (same_ok (makes (2 * limits.inode_charge + limits.block_charge) (link_to d.0 (last_name names)) Directory (own_first old s mode p.0 d.0)) o r.2);
    }

record Decided (limits : Limits) (old : World) (path : List ℕ) (o : Outcome) : Type 0 where
  s : Session
  names : List (List ℕ)
  spelled : path_argument path ≡ Ok names
  mode : Mode
  makes : MakesAt limits old s names mode o

decided : (limits : Limits) (old new : World) (path : List ℕ) (mode : ℕ) (answer : Reply) → (d : IsDone limits old 0 (call.Mkdir path mode) answer new) → Decided limits old path d.outcome
decided limits old new path mode answer d =
    let o = d.outcome in
    let r = bind_ok (ready old 0 (call.Mkdir path mode)) (outcome_of limits old) o d.decided in
    let k = called old 0 path (λ s names. new_mode_argument mode >>= (λ bits. ready_ok (mkdir_ready s names bits))) r.0 r.1 in
    let m = bind_ok (new_mode_argument mode) (λ bits. ready_ok (mkdir_ready k.caller k.names bits)) r.0 k.passed in
    let e = goes_on limits old (mkdir_ready k.caller k.names m.0) r.0 o m.2 r.2 in
    record { s = k.caller; names = k.names; spelled = k.read; mode = m.0; makes = makes_at limits old k.caller k.names m.0 o e }

-- a new node, and a new name for it
pub record IsMade (old new : World) (path : List ℕ) : Type 0 where
  pub number : ℕ
  pub node : Node
  pub name : IsNewName old new path number node
  pub unused : map.get old.live.nodes number ≡ None
  pub nodes : (other : ℕ) → other ≢ number → map.get new.live.nodes other ≡ map.get old.live.nodes other
  pub kind : node.kind ≡ Directory
  pub sticky : node.sticky ≡ false
  pub bytes : node.bytes ≡ []

pub mkdir_put : (limits : Limits) (old new : World) (path : List ℕ) (mode : ℕ) (answer : Reply) → IsWorld limits old → IsDone limits old 0 (call.Mkdir path mode) answer new → IsMade old new path
mkdir_put limits old new path mode answer w d =
    let k = decided limits old new path mode answer d in
    let p = k.makes in
    let c = subst (λ (o : Outcome). Comes limits old 0 o new) p.is d.comes in
    let link = link_to p.directory (last_name k.names) in
    let own = own_first old k.s k.mode p.parent p.directory in
    let node = node_with Directory own [] in
    let m = made_is limits old.live link c.number Directory own c.tree c.applied in
    let parts = and_parts (is_name (last_name k.names) && not (is_hidden_name p.directory (last_name k.names))) (is_none (map.get old.live.links link)) m.vacant in
    let absent : map.get old.live.links link ≡ None = no_value (map.get old.live.links link) parts.1 in
    let shown : is_hidden_name p.directory (last_name k.names) ≡ false =
    shown_name (is_hidden_name p.directory (last_name k.names)) (and_parts (is_name (last_name k.names)) (not (is_hidden_name p.directory (last_name k.names))) parts.0).1 in
    let after = with_live old (tree_with old.live c.number link node) in
    let is : new ≡ after =
    c.world ∙ ap (λ (t : Tree). dropped (with_live old t)) (sym m.gives)
    ∙ stays limits old (tree_with old.live c.number link node) old.descriptors w (record {
      files = was_unnamed old.live c.number link node absent c.free.unused;
      held = λ n z h. h;
    }) in
    let named : map.get after.live.links link ≡ Some c.number = get_inserted links_total old.live.links link c.number in
    let made : map.get after.live.nodes c.number ≡ Some node = get_inserted nat_cmp_total old.live.nodes c.number node in
    let all : IsMade old after path = record {
      number = c.number;
      node = node;
      name = record {
        link = link;
        at = record {
          names = k.names;
          spelled = k.spelled;
          led = led_new 1 old after k.s k.names p.walked p.at p.directory c.number (leads_still old after refl (link_kept old.live c.number link node absent c.free.unused)) p.walks p.parent_is p.in_live shown named;
          there = made;
        };
        named = named;
        absent = absent;
        links = λ other apart. get_other links_total exact_links old.live.links link c.number other apart;
        frozen = refl;
        sessions = refl;
        descriptors = refl;
      };
      unused = c.free.unused;
      nodes = λ other apart. get_other nat_cmp_total exact_unsigned old.live.nodes c.number node other apart;
      kind = refl;
      sticky = refl;
      bytes = refl;
    } in
    subst (λ (v : World). IsMade old v path) (sym is) all
