-- How far an import of a tree is, and what one more name adds.
use Rattle.std.proofs.Common.{◌≡◌, ◌≢◌, ◌⊎◌, ℕ, ◌==◌, true, false, List, [], ◌∷◌, ◌++◌, Some, None, Ok, is_some, inl, inr, refl, sym, ap, subst, ◌∙◌, true≢false, eq-eqb}
use Rattle.std.specs.List.{AllByRecursion}
use Rattle.std.specs.Option.{option_map}
use Rattle.std.specs.FinMap as map
use Rattle.sn_limits.specs.declared.kind.Kind.TheVariants.{Directory}
use Rattle.sn_limits.specs.declared.limits.Limits.{Limits}
use Rattle.sn_walk.specs.declared.object.Home.TheVariants.{Live}
use Rattle.sn_walk.specs.declared.object.Object.TheVariants as object
use Rattle.sn_walk.specs.Objects.{root}
use Rattle.sn_walk.specs.Views.{is_hidden_name}
use Rattle.sn_model.specs.declared.link.Link.{Link}
use Rattle.sn_model.specs.Denials.{led_to}
use Rattle.sn_model.specs.NameTree.{HasKind, IsTree}
use Rattle.sn_model.specs.Tests.{path_argument}
use Rattle.sn_model.specs.Tree.{Node, Tree, link_to}
use Rattle.sn_model.specs.World.{World}
use Rattle.sn_model.specs.Worlds.{IsWorld}
use Rattle.sn_model.proofs.DecisionLemmas.{same_ok}
use Rattle.sn_import.specs.declared.object.What.{What}
use Rattle.sn_export.specs.Archives.{Visit, first_visit}
use Rattle.sn_archive_laws.specs.Objects.{in_archive, object_at, path_below}
use Rattle.sn_archive_laws.specs.Trees.{FitsBelow, Leads}
use Rattle.sn_archive_laws.proofs.Links.{are_names, joined_all}
use Rattle.sn_import_laws.specs.Runs.{IsRoots}
use Rattle.sn_import_laws.specs.Trees.{IsAt}
use Rattle.sn_import_laws.specs.Vacant.{IsNowhere, IsThere, IsVacant}
use Rattle.sn_import_laws.proofs.Opening.{LeadsStill, leads_still as still_leads, trees_in}
use Rattle.sn_import_laws.proofs.Steps.{still_roots}
use Rattle.sn_import_tree_laws.proofs.Above.{AllAbove, AllFrom, all_above}
use Rattle.sn_import_tree_laws.proofs.Ahead.{IsAhead, IsReached, all_weaker, further, leads_further, leads_still}
use Rattle.sn_import_tree_laws.proofs.Children.{Next, children_of, link_of}
use Rattle.sn_import_tree_laws.proofs.Growth.{Grows, HasHalf, Learns, Numbers, link_still}
use Rattle.sn_import_tree_laws.proofs.Paths.{path_spelled}
use Rattle.sn_import_tree_laws.proofs.Places.{led_below, led_last, led_still, link_is, one_live, shown_below}
use Rattle.sn_import_tree_laws.proofs.Visits.{names_on, not_visited, visit_of}

-- ---- what doesn't change

-- the tree that was exported, and the directory that it goes into
pub record IsGiven (bounds : Limits) (one : Tree) (top : ℕ) (into : List ℕ) (ns : List (List ℕ)) (old : World) (place : ℕ) : Type 0 where
  pub tree_is : IsTree bounds one
  pub directory : HasKind one top Directory
  pub fits : FitsBelow into one top
  pub spelled : path_argument into ≡ Ok ns
  pub root_there : is_some (map.get old.live.nodes 2) ≡ true
  pub seen : (n : ℕ) (name : List ℕ) → map.get one.links (link_to top name) ≡ Some n → is_hidden_name place name ≡ false

-- what an import leaves
pub record IsAround (old now : World) : Type 0 where
  pub frozen : now.frozen ≡ old.frozen
  pub sessions : now.sessions ≡ old.sessions
  pub descriptors : (session fd : ℕ) → session ≢ 0 → map.get now.descriptors (session, fd) ≡ map.get old.descriptors (session, fd)

-- ---- what was made

pub record IsVisited (one : Tree) (top place : ℕ) (now : Tree) (to : Numbers) (visit : Visit) : Type 0 where
  pub names : List (List ℕ)
  pub c : ℕ
  pub path : visit.path ≡ in_archive names
  pub leads : Leads one top names visit.number
  pub to_is : to visit.number ≡ Some c
  pub led : Leads now place names c

pub record IsThrough (limits : Limits) (one : Tree) (top : ℕ) (ns : List (List ℕ)) (old now : World) (place : ℕ) (to : Numbers) (ahead : List Next) (seen : List Visit) : Type 0 where
  pub whole : IsWorld limits now
  pub roots : IsRoots now
  pub led : led_to (trees_in now) root ns ≡ Some (object.Node Live place)
  pub reached : IsReached one top place old.live now.live to ahead
  pub visited : AllByRecursion (IsVisited one top place now.live to) seen
  pub met : (m c : ℕ) → to m ≡ Some c → first_visit m seen ≡ None → ⊥
  pub around : IsAround old now

-- ---- one more name

-- a path leads to a node by a name that is new, and what was there stays
pub record IsNew (now new : World) (path : List ℕ) (number : ℕ) (node : Node) : Type 0 where
  pub link : Link
  pub at : IsAt new path number node
  pub named : map.get new.live.links link ≡ Some number
  pub absent : map.get now.live.links link ≡ None
  pub links : (other : Link) → other ≢ link → map.get new.live.links other ≡ map.get now.live.links other
  pub nodes : (n : ℕ) → is_some (map.get now.live.nodes n) ≡ true → map.get new.live.nodes n ≡ map.get now.live.nodes n
  pub around : IsAround now new

around_on : (old now new : World) → IsAround old now → IsAround now new → IsAround old new
around_on old now new a b = record {
  frozen = b.frozen ∙ a.frozen;
  sessions = b.sessions ∙ a.sessions;
  descriptors = λ session fd apart. b.descriptors session fd apart ∙ a.descriptors session fd apart;
}

module _ (bounds limits : Limits) (one : Tree) (top : ℕ) (into : List ℕ) (ns : List (List ℕ)) (old : World) (place : ℕ) (given : IsGiven bounds one top into ns old place) where
  -- the path of names that lead somewhere in the tree
  path_of : (names : List (List ℕ)) (name : List ℕ) (end : ℕ) → Leads one top (names ++ name ∷ []) end → path_argument (path_below into (names ++ name ∷ [])) ≡ Ok (ns ++ (names ++ name ∷ []))
  path_of [] name end leads = path_spelled into ns name [] given.spelled (are_names bounds one top (name ∷ []) end given.tree_is.nodes leads) (given.fits (name ∷ []) end leads)
  path_of (first ∷ names) name end leads =
      path_spelled into ns first (names ++ name ∷ []) given.spelled (are_names bounds one top (first ∷ names ++ name ∷ []) end given.tree_is.nodes leads) (given.fits (first ∷ names ++ name ∷ []) end leads)

  pub path_at : (first : List ℕ) (names : List (List ℕ)) (end : ℕ) → Leads one top (first ∷ names) end → path_argument (path_below into (first ∷ names)) ≡ Ok (ns ++ first ∷ names)
  path_at first names end leads = path_spelled into ns first names given.spelled (are_names bounds one top (first ∷ names) end given.tree_is.nodes leads) (given.fits (first ∷ names) end leads)

  module _ (now : World) (to : Numbers) (next : Next) (others : List Next) (seen : List Visit) (t : IsThrough limits one top ns old now place to (next ∷ others) seen) where
    abbrev a : IsAhead one top place now.live to next
    a = t.reached.all.0

    pub leads_on : Leads one top (names_on next) next.number
    leads_on = leads_further one top next.directory next.number next.names next.name a.leads a.named

    pub path_next : path_argument (path_below into (names_on next)) ≡ Ok (ns ++ names_on next)
    path_next = path_of next.names next.name next.number leads_on

    pub shown_next : is_hidden_name a.b next.name ≡ false
    shown_next = told (t.reached.partly.fresh next.directory a.b a.parent)
      where
        told : (a.b ≡ place) ⊎ (map.get old.live.nodes a.b ≡ None) → is_hidden_name a.b next.name ≡ false
        told (inl here) =
            let same : next.directory ≡ top = t.reached.partly.apart next.directory top a.b a.parent (t.reached.partly.first ∙ ap (λ (n : ℕ). Some n) (sym here)) in
            ap (λ (n : ℕ). is_hidden_name n next.name) here ∙ given.seen next.number next.name (ap (λ (n : ℕ). map.get one.links (link_to n next.name)) (sym same) ∙ a.named)
        told (inr unused) = shown_below a.b next.name (λ two. true≢false (sym (given.root_there) ∙ ap is_some (ap (map.get old.live.nodes) (sym two) ∙ unused)))

    -- ---- there is room for it

    there_from : (names more : List (List ℕ)) (first : List ℕ) (middle end b d : ℕ) → Leads one top (first ∷ names) middle → Leads one middle more end → Leads now.live place (first ∷ names) b → Leads now.live b more d
        → AllFrom (IsThere now) into (first ∷ names) more
    there_from names [] first middle end b d leads further_on led led_on = record {
      names = ns ++ first ∷ names;
      spelled = path_at first names middle leads;
      thing = object.Node Live b;
      led = led_below limits now ns place t.whole.live.nodes t.led (first ∷ names) b led;
    }
    there_from names (name ∷ more) first middle end b d leads further_on led led_on = (
      record {
        names = ns ++ first ∷ names;
        spelled = path_at first names middle leads;
        thing = object.Node Live b;
        led = led_below limits now ns place t.whole.live.nodes t.led (first ∷ names) b led;
      },
      there_from (names ++ name ∷ []) more first further_on.0 end led_on.0 d (leads_further one top middle further_on.0 (first ∷ names) name leads further_on.1) further_on.2
          (leads_further now.live place b led_on.0 (first ∷ names) name led led_on.1) led_on.2,
    )

    there_above : (names : List (List ℕ)) (end d : ℕ) → Leads one top names end → Leads now.live place names d → AllAbove (IsThere now) into names
    there_above [] end d leads led = tt
    there_above (name ∷ names) end d leads led = there_from [] names name leads.0 end led.0 d (leads.0, leads.1, refl) leads.2 (led.0, led.1, refl) led.2

    pub nowhere : IsNowhere now (path_below into (names_on next))
    nowhere = record {
      names = ns ++ names_on next;
      spelled = path_next;
      led = led_last limits now ns place t.whole.live.nodes t.led next.names a.b next.name a.led shown_next ∙ ap (option_map (object.Node Live)) a.room;
    }

    pub vacant : (what : What) → IsVacant now (object_at into (names_on next) what)
    vacant what = record {
      above = all_above (IsThere now) into next.names next.name (are_names bounds one top next.names next.directory given.tree_is.nodes a.leads)
          (given.tree_is.nodes.names (link_of next) next.number a.named) (there_above next.names next.directory a.b a.leads a.led);
      absent = nowhere;
    }

    -- ---- it is made

    module _ (new : World) (number : ℕ) (node : Node) (n : IsNew now new (path_below into (names_on next)) number node) (whole : IsWorld limits new) where
      somewhere : Grows now.live new.live n.link number
      somewhere = record { named = n.named; absent = n.absent; links = n.links; nodes = n.nodes }

      pub still : LeadsStill (trees_in now) (trees_in new)
      still = still_leads now new n.around.frozen (λ other l e. link_still now.live new.live n.link other number l somewhere e)

      led_new : led_to (trees_in new) root ns ≡ Some (object.Node Live place)
      led_new = led_still (trees_in now) (trees_in new) still ns root (object.Node Live place) t.led

      link_here : link_to a.b next.name ≡ n.link
      link_here =
          let names : n.at.names ≡ ns ++ names_on next = same_ok n.at.names (ns ++ names_on next) (sym n.at.spelled ∙ path_next) in
          let found = led_last limits new ns place whole.live.nodes led_new next.names a.b next.name (leads_still now.live new.live n.link number place next.names a.b somewhere a.led) shown_next in
          let named = one_live (map.get new.live.links (link_to a.b next.name)) number (sym found ∙ ap (led_to (trees_in new) root) (sym names) ∙ n.at.led) in
          link_is now.live new.live n.link (link_to a.b next.name) number a.room named n.links

      pub grows : Grows now.live new.live (link_to a.b next.name) number
      grows = subst (λ (l : Link). Grows now.live new.live l number) (sym link_here) somewhere

      pub leads_new : Leads new.live place (names_on next) number
      leads_new = leads_further new.live place a.b number next.names next.name (leads_still now.live new.live (link_to a.b next.name) number place next.names a.b grows a.led) grows.named

      pub went_on : (learnt : Numbers) → Learns now.live to learnt next.number number → HasHalf one new.live next.number number
          → ((m : ℕ) (name : List ℕ) → map.get one.links (link_to next.number name) ≡ Some m → map.get new.live.links (link_to number name) ≡ None)
          → ((other : Next) → IsAhead one top place now.live to other → other.directory ≢ next.number)
          → IsThrough limits one top ns old new place learnt (children_of one (names_on next) next.number ++ others) (seen ++ visit_of next ∷ [])
      went_on learnt l half free elsewhere = record {
        whole = whole;
        roots = still_roots now new n.around.sessions t.roots;
        led = led_new;
        reached = further one top place old.live now.live new.live to learnt next others number t.whole.live.hierarchy t.reached grows l half free elsewhere;
        visited = joined_all (IsVisited one top place new.live learnt) seen (visit_of next ∷ []) (all_weaker (IsVisited one top place now.live to) (IsVisited one top place new.live learnt) seen visited_still t.visited) (
          record {
            names = names_on next;
            c = number;
            path = refl;
            leads = leads_on;
            to_is = l.here;
            led = leads_new;
          },
          tt,
        );
        met = λ m c e none. (let unseen = not_visited m seen (visit_of next) none in not_met m c unseen.0 unseen.1 (l.is m c e));
        around = around_on old now new t.around n.around;
      }
        where
          visited_still : (visit : Visit) → IsVisited one top place now.live to visit → IsVisited one top place new.live learnt visit
          visited_still visit v = record {
            names = v.names;
            c = v.c;
            path = v.path;
            leads = v.leads;
            to_is = l.still visit.number v.c v.to_is;
            led = leads_still now.live new.live (link_to a.b next.name) number place v.names v.c grows v.led;
          }

          not_met : (m c : ℕ) → first_visit m seen ≡ None → (next.number == m) ≡ false → ((m ≡ next.number) × (c ≡ number) × (map.get now.live.nodes number ≡ None)) ⊎ (to m ≡ Some c) → ⊥
          not_met m c none other (inl h) = true≢false (sym (eq-eqb next.number m (sym h.0)) ∙ other)
          not_met m c none other (inr h) = t.met m c h none
