-- The names that are still to be made: each has its directory, and room there.
use Rattle.std.proofs.Common.{◌≡◌, ◌≢◌, ◌⊎◌, ℕ, Bool, true, false, cond, List, [], ◌∷◌, ◌++◌, Option, Some, None, ◌==◌, inl, inr, refl, sym, ap, ap₂, subst, ◌∙◌, eqb-true, eq-eqb}
use Rattle.std.specs.List.{AllByRecursion}
use Rattle.std.specs.FinMap as map
use Rattle.sn_model.specs.declared.link.Link.{Link}
use Rattle.sn_model.specs.NameTree.{IsHierarchy}
use Rattle.sn_model.specs.Tree.{Tree, link_to}
use Rattle.sn_archive_laws.proofs.Links.{joined_all}
use Rattle.sn_import_tree_laws.specs.Copies.{IsCopy}
use Rattle.sn_archive_laws.specs.Trees.{Leads}
use Rattle.sn_import_tree_laws.proofs.Children.{AreApart, IsApart, IsIn, IsNextIn, Next, all_children, children_apart, children_are, children_of, link_of}
use Rattle.sn_import_tree_laws.proofs.Growth.{Grows, HasHalf, IsBeside, IsPartial, Learns, Numbers, grown, link_still, one_value, some_none}

-- ---- lists

pub all_with : {A : Type 0} (P Q R : A → Type 0) (xs : List A) → ((x : A) → P x → Q x → R x) → AllByRecursion P xs → AllByRecursion Q xs → AllByRecursion R xs
all_with P Q R [] both first second = tt
all_with P Q R (x ∷ xs) both first second = (both x first.0 second.0, all_with P Q R xs both first.1 second.1)

pub all_weaker : {A : Type 0} (P Q : A → Type 0) (xs : List A) → ((x : A) → P x → Q x) → AllByRecursion P xs → AllByRecursion Q xs
all_weaker P Q [] more is = tt
all_weaker P Q (x ∷ xs) more is = (more x is.0, all_weaker P Q xs more is.1)

joined_apart : (cs rs : List Next) → AreApart cs → AreApart rs → AllByRecursion (λ c. AllByRecursion (IsApart c) rs) cs → AreApart (cs ++ rs)
joined_apart [] rs first second between = second
joined_apart (c ∷ cs) rs first second between = (joined_all (IsApart c) cs rs first.0 between.0, joined_apart cs rs first.1 second between.1)

in_first : (link : Link) (cs rs : List Next) → IsIn link cs → IsIn link (cs ++ rs)
in_first link [] rs h = absurd h
in_first link (c ∷ cs) rs (inl h) = inl h
in_first link (c ∷ cs) rs (inr h) = inr (in_first link cs rs h)

in_second : (link : Link) (cs rs : List Next) → IsIn link rs → IsIn link (cs ++ rs)
in_second link [] rs h = h
in_second link (c ∷ cs) rs h = inr (in_second link cs rs h)

-- ---- names that lead on

pub leads_further : (tree : Tree) (number middle end : ℕ) (names : List (List ℕ)) (name : List ℕ) → Leads tree number names middle → map.get tree.links (link_to middle name) ≡ Some end → Leads tree number (names ++ name ∷ []) end
leads_further tree number middle end [] name leads found = (end, ap (λ (n : ℕ). map.get tree.links (link_to n name)) (sym leads) ∙ found, refl)
leads_further tree number middle end (first ∷ names) name leads found = (leads.0, leads.1, leads_further tree leads.0 middle end names name leads.2 found)

pub leads_still : (now new : Tree) (link : Link) (number from : ℕ) (names : List (List ℕ)) (end : ℕ) → Grows now new link number → Leads now from names end → Leads new from names end
leads_still now new link number from [] end g leads = leads
leads_still now new link number from (name ∷ names) end g leads =
    (leads.0, link_still now new link (link_to from name) number leads.0 g leads.1, leads_still now new link number leads.0 names end g leads.2)

-- ---- how far it is

pub record IsAhead (one : Tree) (top place : ℕ) (now : Tree) (to : Numbers) (next : Next) : Type 0 where
  pub leads : Leads one top next.names next.directory
  pub named : map.get one.links (link_of next) ≡ Some next.number
  pub b : ℕ
  pub parent : to next.directory ≡ Some b
  pub led : Leads now place next.names b
  pub room : map.get now.links (link_to b next.name) ≡ None

abbrev pub IsMade : Tree → Numbers → ℕ → ℕ → List ℕ → Type 0
IsMade now to b m name = (c : ℕ) × (to m ≡ Some c) × (map.get now.links (link_to b name) ≡ Some c)

pub record IsReached (one : Tree) (top place : ℕ) (old now : Tree) (to : Numbers) (ahead : List Next) : Type 0 where
  pub partly : IsPartial one top place old now to
  pub all : AllByRecursion (IsAhead one top place now to) ahead
  pub apart : AreApart ahead
  pub left : (a b m : ℕ) (name : List ℕ) → to a ≡ Some b → map.get one.links (link_to a name) ≡ Some m → IsMade now to b m name ⊎ IsIn (link_to a name) ahead

-- ---- one name is made

module _ (one : Tree) (top place : ℕ) (old now new : Tree) (to learnt : Numbers) (next : Next) (others : List Next) (number : ℕ) (whole : IsHierarchy now)
    (r : IsReached one top place old now to (next ∷ others)) (g : Grows now new (link_to r.all.0.b next.name) number) (l : Learns now to learnt next.number number) (made : HasHalf one new next.number number)
    (free : (n : ℕ) (name : List ℕ) → map.get one.links (link_to next.number name) ≡ Some n → map.get new.links (link_to number name) ≡ None)
    (elsewhere : (other : Next) → IsAhead one top place now to other → other.directory ≢ next.number) where
  abbrev names_on : List (List ℕ)
  names_on = next.names ++ next.name ∷ []

  abbrev cs : List Next
  cs = children_of one names_on next.number

  abbrev b : ℕ
  b = r.all.0.b

  still_ahead : (other : Next) → IsAhead one top place now to other → IsApart next other → IsAhead one top place new learnt other
  still_ahead other a apart = record {
    leads = a.leads;
    named = a.named;
    b = a.b;
    parent = l.still other.directory a.b a.parent;
    led = leads_still now new (link_to b next.name) number place other.names a.b g a.led;
    room = g.links (link_to a.b other.name) differs ∙ a.room;
  }
    where
      differs : link_to a.b other.name ≢ link_to b next.name
      differs same =
          let at : a.b ≡ b = ap (λ (x : Link). x.directory) same in
          let text : other.name ≡ next.name = ap (λ (x : Link). x.name) same in
          let from : other.directory ≡ next.directory = r.partly.apart other.directory next.directory a.b a.parent (r.all.0.parent ∙ ap (λ (n : ℕ). Some n) (sym at)) in
          apart (ap₂ link_to from text)

  child_ahead : (child : Next) → IsNextIn one names_on next.number child → IsAhead one top place new learnt child
  child_ahead child is =
      let named = ap (λ (d : ℕ). map.get one.links (link_to d child.name)) (sym is.1) ∙ is.2 in
      record {
        leads = subst (λ (ns : List (List ℕ)). Leads one top ns child.directory) (sym is.0) (subst (Leads one top names_on) (sym is.1) (leads_further one top next.directory next.number next.names next.name r.all.0.leads r.all.0.named));
        named = is.2;
        b = number;
        parent = ap learnt is.1 ∙ l.here;
        led = subst (λ (ns : List (List ℕ)). Leads new place ns number) (sym is.0)
            (leads_further new place b number next.names next.name (leads_still now new (link_to b next.name) number place next.names b g r.all.0.led) g.named);
        room = free child.number child.name named;
      }

  children_elsewhere : (other : Next) → IsAhead one top place now to other → (child : Next) → IsNextIn one names_on next.number child → IsApart child other
  children_elsewhere other a child is same = elsewhere other a (ap (λ (x : Link). x.directory) same ∙ is.1)

  between : (child : Next) → IsNextIn one names_on next.number child → AllByRecursion (IsApart child) others
  between child is = all_weaker (IsAhead one top place now to) (IsApart child) others (λ other a. children_elsewhere other a child is) r.all.1

  still_left : (a d m : ℕ) (name : List ℕ) → learnt a ≡ Some d → map.get one.links (link_to a name) ≡ Some m → IsMade new learnt d m name ⊎ IsIn (link_to a name) (cs ++ others)
  still_left a d m name e f = told (l.is a d e)
    where
      known : to a ≡ Some d → IsMade now to d m name ⊎ IsIn (link_to a name) (next ∷ others) → IsMade new learnt d m name ⊎ IsIn (link_to a name) (cs ++ others)
      known k (inl h) = inl (h.0, l.still m h.0 h.1, link_still now new (link_to b next.name) (link_to d name) number h.0 g h.2)
      known k (inr (inl here)) =
          let from : next.directory ≡ a = ap (λ (x : Link). x.directory) here in
          let text : next.name ≡ name = ap (λ (x : Link). x.name) here in
          let end : next.number ≡ m = one_value (map.get one.links (link_to a name)) next.number m (ap (map.get one.links) (sym here) ∙ r.all.0.named) f in
          let at : b ≡ d = one_value (to a) b d (ap to (sym from) ∙ r.all.0.parent) k in
          inl (number, ap learnt (sym end) ∙ l.here, ap₂ (λ (n : ℕ) (t : List ℕ). map.get new.links (link_to n t)) (sym at) (sym text) ∙ g.named)
      known k (inr (inr later)) = inr (in_second (link_to a name) cs others later)

      told : ((a ≡ next.number) × (d ≡ number) × (map.get now.nodes number ≡ None)) ⊎ (to a ≡ Some d) → IsMade new learnt d m name ⊎ IsIn (link_to a name) (cs ++ others)
      told (inl h) =
          let here : IsIn (link_to next.number name) cs = all_children one names_on next.number m name (ap (λ (n : ℕ). map.get one.links (link_to n name)) (sym h.0) ∙ f) in
          inr (in_first (link_to a name) cs others (subst (λ (n : ℕ). IsIn (link_to n name) cs) (sym h.0) here))
      told (inr h) = known h (r.left a d m name h f)

  pub further : IsReached one top place old new learnt (cs ++ others)
  further = record {
    partly = grown one top place old now new to learnt next.directory b next.number number next.name whole r.partly r.all.0.parent r.all.0.named g l made;
    all = joined_all (IsAhead one top place new learnt) cs others
        (all_weaker (IsNextIn one names_on next.number) (IsAhead one top place new learnt) cs child_ahead (children_are one names_on next.number))
        (all_with (IsAhead one top place now to) (IsApart next) (IsAhead one top place new learnt) others still_ahead r.all.1 r.apart.0);
    apart = joined_apart cs others (children_apart one names_on next.number) r.apart.1
        (all_weaker (IsNextIn one names_on next.number) (λ c. AllByRecursion (IsApart c) others) cs between (children_are one names_on next.number));
    left = still_left;
  }

-- ---- from the beginning on

abbrev pub at_first : ℕ → ℕ → Numbers
at_first top place a = cond (a == top) (Some place) None

pub is_first : (top place a b : ℕ) → at_first top place a ≡ Some b → (a ≡ top) × (b ≡ place)
is_first top place a b e = told (a == top) refl e
  where
    told : (t : Bool) → (a == top) ≡ t → cond t (Some place) None ≡ Some b → (a ≡ top) × (b ≡ place)
    told true is f = let same : Some place ≡ Some b = f in (eqb-true a top is, cc)
    told false is f = cc f

pub first_is : (top place : ℕ) → at_first top place top ≡ Some place
first_is top place = ap (λ (t : Bool). cond t (Some place) (none_of ℕ)) (eq-eqb top top refl)
  where
    none_of : (A : Type 0) → Option A
    none_of A = None

module _ (one : Tree) (top place : ℕ) (old now : Tree) (empty : (name : List ℕ) → map.get now.links (link_to place name) ≡ None) (half : HasHalf one now top place) (beside : IsBeside place old now) where
  abbrev to : Numbers
  to = at_first top place

  first_ahead : (child : Next) → IsNextIn one [] top child → IsAhead one top place now to child
  first_ahead child is = record {
    leads = subst (λ (ns : List (List ℕ)). Leads one top ns child.directory) (sym is.0) is.1;
    named = is.2;
    b = place;
    parent = ap to is.1 ∙ first_is top place;
    led = subst (λ (ns : List (List ℕ)). Leads now place ns place) (sym is.0) refl;
    room = empty child.name;
  }

  pub begun : IsReached one top place old now to (children_of one [] top)
  begun = record {
    partly = record {
      first = first_is top place;
      apart = λ a b c e f. (is_first top place a c e).0 ∙ sym ((is_first top place b c f).0);
      fresh = λ a b e. inl ((is_first top place a b e).1);
      half = λ a b e. (let is = is_first top place a b e in record { x = half.x; y = half.y; in_one = ap (map.get one.nodes) is.0 ∙ half.in_one; in_now = ap (map.get now.nodes) is.1 ∙ half.in_now; half = half.half });
      back = λ a b c name e f. absurd (some_none (map.get now.links (link_to b name)) c f (ap (λ (n : ℕ). map.get now.links (link_to n name)) ((is_first top place a b e).1) ∙ empty name));
      came = λ m c e. inl ((is_first top place m c e).0);
      beside = beside;
    };
    all = all_weaker (IsNextIn one [] top) (IsAhead one top place now to) (children_of one [] top) first_ahead (children_are one [] top);
    apart = children_apart one [] top;
    left = λ a b m name e f. inr (let is = is_first top place a b e in subst (λ (n : ℕ). IsIn (link_to n name) (children_of one [] top)) (sym is.0)
        (all_children one [] top m name (ap (λ (n : ℕ). map.get one.links (link_to n name)) (sym is.0) ∙ f)));
  }

-- ---- to the end

-- no name is left, and what directories lack comes
pub ended : (one : Tree) (top place : ℕ) (old now new : Tree) (to : Numbers) → IsReached one top place old now to [] → new.links ≡ now.links
    → ((a b : ℕ) → to a ≡ Some b → map.get new.nodes b ≡ map.get one.nodes a) → IsCopy one top new place
ended one top place old now new to r links nodes = record {
  to = to;
  first = r.partly.first;
  apart = r.partly.apart;
  nodes = nodes;
  names = λ a b m name e f. named a b m name (r.left a b m name e f);
  others = λ a b name e f. no_other a b name e f (map.get now.links (link_to b name)) refl;
}
  where
    same : (link : Link) → map.get new.links link ≡ map.get now.links link
    same link = λ i. map.get (links i) link

    named : (a b m : ℕ) (name : List ℕ) → IsMade now to b m name ⊎ IsIn (link_to a name) [] → (n : ℕ) × (to m ≡ Some n) × (map.get new.links (link_to b name) ≡ Some n)
    named a b m name (inl h) = (h.0, h.1, same (link_to b name) ∙ h.2)
    named a b m name (inr h) = absurd h

    no_other : (a b : ℕ) (name : List ℕ) → to a ≡ Some b → map.get one.links (link_to a name) ≡ None → (o : Option ℕ) → map.get now.links (link_to b name) ≡ o → map.get new.links (link_to b name) ≡ None
    no_other a b name e f None g = same (link_to b name) ∙ g
    no_other a b name e f (Some c) g = let q = r.partly.back a b c name e g in absurd (some_none (map.get one.links (link_to a name)) q.0 q.1 f)
