-- The first entry of a tree is that of the directory that it goes into.
use Rattle.std.proofs.Common.{◌≡◌, ℕ, Bool, cond, List, [], ◌∷◌, ◌++◌, map, length, take, Option, Some, None, ⊎_elim, inl, inr, refl, sym, ap, subst, ◌∙◌, eq-eqb}
use Rattle.std.specs.Prelude.{IsSomeAnd}
use Rattle.std.specs.FinMap as map_of
use Rattle.std.proofs.Math.Seq.{drop-length}
use Rattle.sn_limits.specs.declared.kind.Kind.{Kind}
use Rattle.sn_limits.specs.declared.kind.Kind.TheVariants.{Directory, File}
use Rattle.sn_limits.specs.declared.limits.Limits.{Limits}
use Rattle.sn_walk.specs.declared.object.Home.TheVariants.{Live}
use Rattle.sn_walk.specs.declared.object.Object.{Object as Thing}
use Rattle.sn_walk.specs.declared.object.Object.TheVariants as object
use Rattle.sn_walk.specs.Objects.{root}
use Rattle.sn_model.specs.declared.call.Call.{Call}
use Rattle.sn_model.specs.Denials.{led_to}
use Rattle.sn_model.specs.Tree.{Node, Tree, link_to}
use Rattle.sn_model.specs.World.{World}
use Rattle.sn_model.specs.Worlds.{IsWorld}
use Rattle.sn_model.proofs.DecisionLemmas.{same_ok}
use Rattle.sn_export.specs.Archives.{Visit, first_visit}
use Rattle.sn_import.specs.Calls.{looked, making_above, opening_calls, owning, through}
use Rattle.sn_import.specs.declared.object.Object.{Object}
use Rattle.sn_import.specs.declared.object.Rights.{Rights}
use Rattle.sn_import.specs.declared.object.What.{What}
use Rattle.sn_import.specs.declared.object.What.TheVariants as what
use Rattle.sn_import_calls.specs.Acts.{Act}
use Rattle.sn_import_calls.specs.Carried.{AreMade}
use Rattle.sn_import_files.specs.Entries.{IsMade, IsOpened, IsUnopened}
use Rattle.sn_import_calls.specs.declared.stop.Stop.{Stop}
use Rattle.sn_archive_laws.specs.Objects.{rights_of}
use Rattle.sn_import_laws.specs.Rights.{with_owner}
use Rattle.sn_import_laws.specs.Runs.{IsRoots, Runs}
use Rattle.sn_import_laws.specs.Trees.{IsTurned}
use Rattle.sn_import_laws.proofs.Rights.{directories_get_owners}
use Rattle.sn_import_laws.proofs.Steps.{led_same, runs_split, still_roots}
use Rattle.sn_import_laws.proofs.Opening.{trees_in}
use Rattle.sn_import_tree_laws.specs.Targets.{IsTarget}
use Rattle.sn_import_tree_laws.proofs.Acts.{made_world}
use Rattle.sn_import_tree_laws.proofs.Ahead.{at_first, begun, first_is, is_first}
use Rattle.sn_import_tree_laws.proofs.Children.{children_of}
use Rattle.sn_import_tree_laws.proofs.Entries.{AreOwed, IsOwed}
use Rattle.sn_import_tree_laws.proofs.Growth.{HasHalf, IsBeside, one_value, some_none}
use Rattle.sn_import_tree_laws.proofs.State.{IsGiven, IsThrough}

abbrev pub top_object : List ℕ → Node → Object
top_object into x = record { path = into; lead = length into; what = what.Top (rights_of x) }

abbrev pub top_visit : ℕ → Visit
top_visit top = record { path = 46 ∷ []; number = top }

-- nothing is made above it
no_above : (into : List ℕ) (rights : Rights) → opening_calls (record { path = into; lead = length into; what = what.Top rights }) ≡ owning into rights ∷ []
no_above into rights = ap (λ (rest : List ℕ). map making_above (through (take (length into) into) rest) ++ looked into (what.Top rights)) (drop-length into)

no_reason : (reason : Stop) → None ≡ Some reason → ⊥
no_reason reason e = cc

-- its owner is set
pub top_owned : (limits : Limits) (old new : World) (into : List ℕ) (rights : Rights) (size : ℕ) (content : List ℕ) (acts : List Act) → IsWorld limits old → IsRoots old
    → IsMade (record { path = into; lead = length into; what = what.Top rights }) size content acts None → Runs limits old acts new → IsTurned old new into (with_owner rights)
top_owned limits old new into rights size content acts whole roots made runs = ⊎_elim
    (λ (u : IsUnopened (record { path = into; lead = length into; what = what.Top rights }) acts None). absurd (no_reason u.reason u.stop_is))
    (λ (o : IsOpened (record { path = into; lead = length into; what = what.Top rights }) size content acts None).
    (let r = runs_split limits old new o.first o.more (subst (λ (xs : List Act). Runs limits old xs new) o.acts_are runs) in
    let same : new ≡ r.0 = subst (λ (xs : List Act). Runs limits r.0 xs new) o.finished.0 r.2 in
    let plan = subst (λ (cs : List Call). AreMade (what.Top rights) cs [] o.first) (no_above into rights) o.made in
    subst (λ (w : World). IsTurned old w into (with_owner rights)) (sym same)
    (directories_get_owners limits old r.0 (record { path = into; lead = length into; what = what.Top rights }) rights o.first whole roots (inr refl) plan r.1)))
    made

pub tops_are_imported : (limits : Limits) (old new : World) (object : Object) (rights : Rights) (size : ℕ) (content : List ℕ) (acts : List Act) → IsWorld limits old → IsRoots old → object.what ≡ what.Top rights → object.lead ≡ length object.path
    → IsMade object size content acts None → Runs limits old acts new → IsTurned old new object.path (with_owner rights)
tops_are_imported limits old new object rights size content acts whole roots is lead made runs =
    let Made : ℕ → What → Type 0 = λ n w. IsMade (record { path = object.path; lead = n; what = w }) size content acts None in
    let here : Made object.lead (what.Top rights) = subst (Made object.lead) is made in
    top_owned limits old new object.path rights size content acts whole roots (subst (λ (n : ℕ). Made n (what.Top rights)) lead here) runs

abbrev some_thing : ℕ → Option Thing
some_thing n = Some (object.Node Live n)

one_number : (a b : ℕ) → some_thing a ≡ some_thing b → a ≡ b
one_number a b e = let same : object.Node Live a ≡ object.Node Live b = cc in cc same

module _ (bounds limits : Limits) (one : Tree) (top : ℕ) (into : List ℕ) (old new : World) (place : ℕ) (target : IsTarget one top old into place) (given : IsGiven bounds one top into target.at.names old place) (x : Node)
    (in_one : map_of.get one.nodes top ≡ Some x) (size : ℕ) (content : List ℕ) (acts : List Act) (whole : IsWorld limits old) (roots : IsRoots old) (made : IsMade (top_object into x) size content acts None) (runs : Runs limits old acts new) where
  kind : x.kind ≡ Directory
  kind = subst (λ (o : Option Node). IsSomeAnd o (λ n. n.kind ≡ Directory)) in_one given.directory

  t : IsTurned old new into (with_owner (rights_of x))
  t = top_owned limits old new into (rights_of x) size content acts whole roots made runs

  at_place : t.number ≡ place
  at_place =
      let names : t.at.names ≡ target.at.names = same_ok t.at.names target.at.names (sym t.at.spelled ∙ target.at.spelled) in
      one_number t.number place (sym t.at.led ∙ ap (led_to (trees_in old) root) names ∙ target.at.led)

  node_is : t.node ≡ target.node
  node_is = one_value (map_of.get old.live.nodes place) t.node target.node (ap (map_of.get old.live.nodes) (sym at_place) ∙ t.at.there) target.at.there

  half : HasHalf one new.live top place
  half =
      let was = whole.live.nodes.nodes place target.node target.at.there in
      let of_one = given.tree_is.nodes.nodes top x in_one in
      record {
        x = x;
        y = with_owner (rights_of x) target.node;
        in_one = in_one;
        in_now = ap (map_of.get new.live.nodes) (sym at_place) ∙ t.turns.made ∙ ap (λ (n : Node). Some (with_owner (rights_of x) n)) node_is;
        half = record {
          kind = target.kind ∙ sym kind;
          owner = refl;
          group = refl;
          bytes = was.of_directory target.kind ∙ sym (of_one.of_directory kind);
          file = λ file. absurd (no_file x.kind kind file);
        };
      }
    where
      no_file : (k : Kind) → k ≡ Directory → k ≡ File → ⊥
      no_file File e f = cc e
      no_file Directory e f = cc f

  beside : IsBeside place old.live new.live
  beside = record {
    nodes = λ n apart there. t.turns.nodes n (λ same. apart (same ∙ at_place));
    links = λ link apart there. (λ i. map_of.get (t.turns.links i) link);
  }

  led : led_to (trees_in new) root target.at.names ≡ Some (object.Node Live place)
  led = led_same old new root target.at.names t.turns.links t.frozen ∙ target.at.led

  pub top_through : IsThrough limits one top target.at.names old new place (at_first top place) (children_of one [] top) (top_visit top ∷ [])
  top_through = record {
    whole = made_world limits old new into (length into) (what.Top (rights_of x)) size content acts whole made runs;
    roots = still_roots old new t.sessions roots;
    led = led;
    reached = begun one top place old.live new.live (λ name. (λ i. map_of.get (t.turns.links i) (link_to place name)) ∙ target.empty name) half beside;
    visited = (record { names = []; c = place; path = refl; leads = refl; to_is = first_is top place; led = refl }, tt);
    met = λ m c e none. never m (is_first top place m c e).0 none;
    around = record { frozen = t.frozen; sessions = t.sessions; descriptors = λ session fd apart. (λ i. map_of.get (t.descriptors i) (session, fd)) };
  }
    where
      never : (m : ℕ) → m ≡ top → first_visit m (top_visit top ∷ []) ≡ None → ⊥
      never m same none =
          let met : first_visit m (top_visit top ∷ []) ≡ Some (top_visit top) = ap (λ (b : Bool). cond b (Some (top_visit top)) (first_visit m [])) (eq-eqb top m (sym same)) in
          some_none (first_visit m (top_visit top ∷ [])) (top_visit top) met none

  pub top_owed : AreOwed one new (at_first top place) (top_object into x ∷ [])
  top_owed = record {
    each = ((top, place, here), tt);
    all = λ a b y e there is. inl (let h = is_first top place a b e in subst (λ (k : ℕ). IsOwed one new (at_first top place) (top_object into x) k b) (sym h.0)
        (subst (IsOwed one new (at_first top place) (top_object into x) top) (sym h.1) here));
  }
    where
      here : IsOwed one new (at_first top place) (top_object into x) top place
      here = record {
        to_is = first_is top place;
        x = x;
        in_one = in_one;
        kind = kind;
        is = inr refl;
        names = target.at.names;
        spelled = target.at.spelled;
        led = led;
      }
