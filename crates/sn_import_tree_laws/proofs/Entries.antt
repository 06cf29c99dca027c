-- The entries of a tree, one after the other.
use Rattle.std.proofs.Common.{◌≡◌, ◌⊎◌, ℕ, ◌+◌, List, [], ◌∷◌, ◌++◌, length, Option, Some, None, Ok, Result, inl, inr, refl, sym, ap, ap₂, subst, ◌∙◌, append-nil, append_assoc}
use Rattle.std.specs.List.{AllByRecursion}
use Rattle.std.specs.FinMap as map
use Rattle.sn_limits.specs.declared.kind.Kind.{Kind}
use Rattle.sn_limits.specs.declared.kind.Kind.TheVariants.{Directory, File}
use Rattle.sn_limits.specs.declared.limits.Limits.{Limits}
use Rattle.sn_walk.specs.declared.object.Home.TheVariants.{Live}
use Rattle.sn_walk.specs.declared.object.Object.TheVariants as object
use Rattle.sn_walk.specs.Objects.{root}
use Rattle.sn_model.specs.Denials.{led_to}
use Rattle.sn_model.specs.Tests.{path_argument}
use Rattle.sn_model.specs.Tree.{Node, Tree}
use Rattle.sn_model.specs.World.{World}
use Rattle.sn_export.specs.Archives.{Visit, Visits, first_visit, visits_in}
use Rattle.sn_import.specs.declared.object.Object.{Object}
use Rattle.sn_import.specs.declared.object.What.TheVariants as what
use Rattle.sn_import_entry.specs.Entries.{lead}
use Rattle.sn_import_entry.specs.declared.fault.EntryFault.{EntryFault}
use Rattle.sn_import_entry.specs.declared.names.Names.{Names}
use Rattle.sn_import_calls.specs.Acts.{Act}
use Rattle.sn_import_files.specs.Entries.{IsDone, IsMade, kept}
use Rattle.sn_import_run.specs.Imports.{AreDone}
use Rattle.sn_import_files.specs.Streams.{Part}
use Rattle.sn_import_calls.specs.declared.stop.Stop.{Stop}
use Rattle.sn_archive_laws.specs.Objects.{directory_object, file_object, in_archive, link_object, object_at, path_below, rights_of}
use Rattle.sn_archive_laws.specs.Trees.{Leads, MakeVisits, Makes, MakesFile, MakesNode, MakesVisit}
use Rattle.sn_archive_laws.proofs.Links.{are_names, joined_all}
use Rattle.sn_import_laws.specs.Rights.{AreRights}
use Rattle.sn_import_laws.specs.Runs.{Runs}
use Rattle.sn_import_laws.proofs.Imports.{files_are_imported}
use Rattle.sn_import_laws.proofs.Named.{directories_are_imported, links_are_imported}
use Rattle.sn_import_laws.proofs.Steps.{runs_split}
use Rattle.sn_import_laws.proofs.Opening.{LeadsStill, trees_in}
use Rattle.sn_import_tree_laws.specs.Reports.{AreCalled}
use Rattle.sn_import_tree_laws.proofs.Acts.{IsWhole, called_parts, done_whole, made_world}
use Rattle.sn_import_tree_laws.proofs.Ahead.{all_weaker}
use Rattle.sn_import_tree_laws.proofs.Children.{Next, children_of}
use Rattle.sn_import_tree_laws.proofs.Growth.{Numbers, one_value}
use Rattle.sn_import_tree_laws.proofs.Makings.{IsFurther, directory_further, file_further, link_further, other_path}
use Rattle.sn_import_tree_laws.proofs.Places.{led_below, led_still}
use Rattle.sn_import_tree_laws.proofs.State.{IsGiven, IsThrough, IsVisited, leads_on, path_next, vacant}
use Rattle.sn_import_tree_laws.proofs.Visits.{archive_once, first_of, found_visit, names_on, none_left, visit_of, visits_append, visits_are, visits_of}

-- ---- directories that are to get their rights

pub record IsOwed (one : Tree) (now : World) (to : Numbers) (kept_one : Object) (a b : ℕ) : Type 0 where
  pub to_is : to a ≡ Some b
  pub x : Node
  pub in_one : map.get one.nodes a ≡ Some x
  pub kind : x.kind ≡ Directory
  pub is : (kept_one.what ≡ what.Directory (rights_of x)) ⊎ (kept_one.what ≡ what.Top (rights_of x))
  pub names : List (List ℕ)
  pub spelled : path_argument kept_one.path ≡ Ok names
  pub led : led_to (trees_in now) root names ≡ Some (object.Node Live b)

abbrev pub IsOwing : Tree → World → Numbers → Object → Type 0
IsOwing one now to kept_one = (a : ℕ) × (b : ℕ) × IsOwed one now to kept_one a b

abbrev pub IsAmong : (Object → Type 0) → List Object → Type 0
IsAmong P [] = ⊥
IsAmong P (x ∷ xs) = P x ⊎ IsAmong P xs

pub among_first : (P : Object → Type 0) (xs ys : List Object) → IsAmong P xs → IsAmong P (xs ++ ys)
among_first P [] ys h = absurd h
among_first P (x ∷ xs) ys (inl h) = inl h
among_first P (x ∷ xs) ys (inr h) = inr (among_first P xs ys h)

pub among_second : (P : Object → Type 0) (xs ys : List Object) → IsAmong P ys → IsAmong P (xs ++ ys)
among_second P [] ys h = h
among_second P (x ∷ xs) ys h = inr (among_second P xs ys h)

pub among_weaker : (P Q : Object → Type 0) (xs : List Object) → ((x : Object) → P x → Q x) → IsAmong P xs → IsAmong Q xs
among_weaker P Q [] more h = h
among_weaker P Q (x ∷ xs) more (inl h) = inl (more x h)
among_weaker P Q (x ∷ xs) more (inr h) = inr (among_weaker P Q xs more h)

-- all directories so far are among these, and nothing else
pub record AreOwed (one : Tree) (now : World) (to : Numbers) (directories : List Object) : Type 0 where
  pub each : AllByRecursion (IsOwing one now to) directories
  pub all : (a b : ℕ) (x : Node) → to a ≡ Some b → map.get one.nodes a ≡ Some x → x.kind ≡ Directory → IsAmong (λ o. IsOwed one now to o a b) directories

owed_still : (one : Tree) (now new : World) (to learnt : Numbers) → ((k b : ℕ) → to k ≡ Some b → learnt k ≡ Some b) → LeadsStill (trees_in now) (trees_in new) → (o : Object) (a b : ℕ) → IsOwed one now to o a b → IsOwed one new learnt o a b
owed_still one now new to learnt still leads o a b w = record {
  to_is = still a b w.to_is;
  x = w.x;
  in_one = w.in_one;
  kind = w.kind;
  is = w.is;
  names = w.names;
  spelled = w.spelled;
  led = led_still (trees_in now) (trees_in new) leads w.names root (object.Node Live b) w.led;
}

-- ---- one entry

abbrev ok_object : Object → Result Object EntryFault
ok_object o = Ok o

one_object : (a b : Object) → ok_object a ≡ ok_object b → a ≡ b
one_object a b e = cc

directory_is : (into : List ℕ) (names : List (List ℕ)) (name : List ℕ) (x : Node) → directory_object into (names ++ name ∷ []) x ≡ object_at into (names ++ name ∷ []) (what.Directory (rights_of x))
directory_is into [] name x = refl
directory_is into (first ∷ names) name x = refl

module _ (bounds limits : Limits) (one : Tree) (top : ℕ) (into : List ℕ) (ns : List (List ℕ)) (old : World) (place : ℕ) (given : IsGiven bounds one top into ns old place) (accounts : Names) where
  module _ (now new : World) (to : Numbers) (next : Next) (others : List Next) (seen : List Visit) (directories : List Object) (t : IsThrough limits one top ns old now place to (next ∷ others) seen) (owed : AreOwed one now to directories)
      (part : Part) (acts : List Act) (own : List Object) (runs : Runs limits now acts new) where
    abbrev names : List (List ℕ)
    names = names_on next

    abbrev Further : Type 0
    Further = IsFurther limits one top ns old now new place to next others seen

    -- how far it is after the entry
    pub record IsEntered : Type 0 where
      pub further : Further
      pub owed_on : AreOwed one new further.learnt (directories ++ own)

    module _ (x : Node) (in_one : map.get one.nodes next.number ≡ Some x) (w : (stop : Option Stop) × IsWhole accounts into part acts own stop) where
      -- the object that the entry makes
      object_made : (o : Object) (content : List ℕ) → Makes accounts into o content part → IsMade o (length content) content acts None × (own ≡ kept o None)
      object_made o content m =
          let same : w.1.object ≡ o = one_object w.1.object o (sym w.1.object_is ∙ m.makes) in
          let all : IsMade o part.member.size part.content acts None = subst (λ (y : Object). IsMade y part.member.size part.content acts None) same w.1.all in (
            subst (λ (c : List ℕ). IsMade o (length content) c acts None) m.has (subst (λ (s : ℕ). IsMade o s part.content acts None) m.size all),
            w.1.own_is ∙ ap (λ (y : Object). kept y None) same,
          )

      -- a file, or a further name of one
      file_entered : x.kind ≡ File → own ≡ [] → (f : Further) → IsEntered
      file_entered is none f = record {
        further = f;
        owed_on = subst (AreOwed one new f.learnt) (sym (ap (λ (os : List Object). directories ++ os) none ∙ append-nil directories)) (record {
          each = all_weaker (IsOwing one now to) (IsOwing one new f.learnt) directories (λ o e. (e.0, e.1, owed_still one now new to f.learnt f.still f.leads o e.0 e.1 e.2)) owed.each;
          all = λ a b y at there kind. among a b y there kind (f.is a b at);
        });
      }
        where
          no_file : (k : Kind) → k ≡ File → k ≡ Directory → ⊥
          no_file File e g = cc g
          no_file Directory e g = cc e

          among : (a b : ℕ) (y : Node) → map.get one.nodes a ≡ Some y → y.kind ≡ Directory → ((a ≡ next.number) × (b ≡ f.number)) ⊎ (to a ≡ Some b) → IsAmong (λ o. IsOwed one new f.learnt o a b) directories
          among a b y there kind (inl h) =
              let same : y ≡ x = one_value (map.get one.nodes next.number) y x (ap (map.get one.nodes) (sym h.0) ∙ there) in_one in
              absurd (no_file x.kind is (ap (λ (z : Node). z.kind) (sym same) ∙ kind))
          among a b y there kind (inr h) = among_weaker (λ o. IsOwed one now to o a b) (λ o. IsOwed one new f.learnt o a b) directories (λ o e. owed_still one now new to f.learnt f.still f.leads o a b e) (owed.all a b y h there kind)

      directory_entered : x.kind ≡ Directory → own ≡ object_at into names (what.Directory (rights_of x)) ∷ [] → (f : Further) → IsEntered
      directory_entered is one_more f = record {
        further = f;
        owed_on = subst (λ (os : List Object). AreOwed one new f.learnt (directories ++ os)) (sym one_more) (record {
          each = joined_all (IsOwing one new f.learnt) directories (made ∷ [])
              (all_weaker (IsOwing one now to) (IsOwing one new f.learnt) directories (λ o e. (e.0, e.1, owed_still one now new to f.learnt f.still f.leads o e.0 e.1 e.2)) owed.each)
              ((next.number, f.number, here), tt);
          all = λ a b y at there kind. among a b y there kind (f.is a b at);
        });
      }
        where
          made : Object
          made = object_at into names (what.Directory (rights_of x))

          here : IsOwed one new f.learnt made next.number f.number
          here = record {
            to_is = f.here;
            x = x;
            in_one = in_one;
            kind = is;
            is = inl refl;
            names = ns ++ names;
            spelled = path_next bounds limits one top into ns old place given now to next others seen t;
            led = led_below limits new ns place f.through.whole.live.nodes f.through.led names f.number f.led;
          }

          among : (a b : ℕ) (y : Node) → map.get one.nodes a ≡ Some y → y.kind ≡ Directory → ((a ≡ next.number) × (b ≡ f.number)) ⊎ (to a ≡ Some b) → IsAmong (λ o. IsOwed one new f.learnt o a b) (directories ++ made ∷ [])
          among a b y there kind (inl h) =
              among_second (λ o. IsOwed one new f.learnt o a b) directories (made ∷ []) (inl (subst (λ (k : ℕ). IsOwed one new f.learnt made k b) (sym h.0) (subst (IsOwed one new f.learnt made next.number) (sym h.1) here)))
          among a b y there kind (inr h) =
              among_first (λ o. IsOwed one new f.learnt o a b) directories (made ∷ [])
              (among_weaker (λ o. IsOwed one now to o a b) (λ o. IsOwed one new f.learnt o a b) directories (λ o e. owed_still one now new to f.learnt f.still f.leads o a b e) (owed.all a b y h there kind))

      are_rights : AreRights (rights_of x)
      are_rights = let node = given.tree_is.nodes.nodes next.number x in_one in record { access = node.acl; default = node.default_acl }

      file_made : x.kind ≡ File → (first : Option Visit) → first_visit next.number seen ≡ first → MakesFile accounts into one top names x first part → IsEntered
      file_made is None none m =
          let o = object_made (file_object into names x) x.bytes m in
          let n = files_are_imported limits now new (file_object into names x) (rights_of x) (length x.bytes) x.bytes acts t.whole t.roots are_rights refl
          (vacant bounds limits one top into ns old place given now to next others seen t (what.File (rights_of x))) o.0 runs in
          let whole = made_world limits now new (path_below into names) (lead into) (what.File (rights_of x)) (length x.bytes) x.bytes acts t.whole o.0 runs in
          file_entered is o.1 (file_further bounds limits one top into ns old place given now to next others seen t x in_one is new n whole none)
      file_made is (Some first) some m =
          let o = object_made (link_object into names m.0) [] m.2 in
          let v = found_visit (IsVisited one top place now.live to) next.number seen first t.visited some in
          let nodes = given.tree_is.nodes in
          let same : v.0.names ≡ m.0 = archive_once v.0.names m.0 (are_names bounds one top v.0.names first.number nodes v.0.leads) (are_names bounds one top m.0 first.number nodes m.1.leads) (sym v.0.path ∙ m.1.path) in
          let leads : Leads one top m.0 next.number = subst (Leads one top m.0) v.1 m.1.leads in
          let led : Leads now.live place m.0 v.0.c = subst (λ (l : List (List ℕ)). Leads now.live place l v.0.c) same v.0.led in
          let at : to next.number ≡ Some v.0.c = ap to (sym v.1) ∙ v.0.to_is in
          let apart = other_path bounds limits one top into ns old place given now to next others seen t x in_one is m.0 v.0.c leads led in
          let room = vacant bounds limits one top into ns old place given now to next others seen t (what.HardLink (path_below into m.0)) in
          let n = links_are_imported limits now new (link_object into names m.0) (path_below into m.0) 0 [] acts t.whole t.roots refl apart room o.0 runs in
          let whole = made_world limits now new (path_below into names) (lead into) (what.HardLink (path_below into m.0)) 0 [] acts t.whole o.0 runs in
          file_entered is o.1 (link_further bounds limits one top into ns old place given now to next others seen t x in_one is new m.0 v.0.c n whole leads led at)

      node_made : (kind : Kind) → x.kind ≡ kind → MakesNode accounts into one top names x kind (first_visit next.number seen) part → IsEntered
      node_made Directory is m =
          let here = object_at into names (what.Directory (rights_of x)) in
          let o = object_made here [] (subst (λ (y : Object). Makes accounts into y [] part) (directory_is into next.names next.name x) m) in
          let n = directories_are_imported limits now new here (rights_of x) 0 [] acts t.whole t.roots refl
          (vacant bounds limits one top into ns old place given now to next others seen t (what.Directory (rights_of x))) o.0 runs in
          let whole = made_world limits now new (path_below into names) (lead into) (what.Directory (rights_of x)) 0 [] acts t.whole o.0 runs in
          directory_entered is o.1 (directory_further bounds limits one top into ns old place given now to next others seen t x in_one is new n whole)
      node_made File is m = file_made is (first_visit next.number seen) refl m

    pub entered : (place_in : ℕ) (stop : Option Stop) → MakesVisit accounts into one top seen (visit_of next) part → IsDone accounts into place_in part acts own stop → AreCalled acts → IsEntered
    entered place_in stop m done called =
        let w = done_whole accounts into place_in part acts own stop done called in
        let nodes = given.tree_is.nodes in
        let leads = leads_on bounds limits one top into ns old place given now to next others seen t in
        let same : m.names ≡ names = archive_once m.names names (are_names bounds one top m.names next.number nodes m.at.leads) (are_names bounds one top names next.number nodes leads) (sym m.at.path) in
        node_made m.node m.there (stop, w) m.node.kind refl (subst (λ (l : List (List ℕ)). MakesNode accounts into one top l m.node m.node.kind (first_visit next.number seen) part) same m.makes)

  -- ---- all of them

  pub record AreEntered (now new : World) (to : Numbers) (seen made : List Visit) (directories more : List Object) : Type 0 where
    pub learnt : Numbers
    pub through : IsThrough limits one top ns old new place learnt [] (seen ++ made)
    pub owed : AreOwed one new learnt (directories ++ more)

  pub all_entered : (now new : World) (to : Numbers) (nexts : List Next) (seen made : List Visit) (parts : List Part) (acts : List Act) (directories more : List Object) (count : ℕ) → IsThrough limits one top ns old now place to nexts seen
      → AreOwed one now to directories → Visits one (visits_of nexts) made [] → MakeVisits accounts into one top seen made parts → AreDone accounts into count parts acts more → AreCalled acts → Runs limits now acts new
      → AreEntered now new to seen made directories more
  all_entered now new to nexts seen [] parts acts directories more count t owed visits make done called runs =
      let none : nexts ≡ [] = none_left nexts visits in
      let d = subst (λ (ps : List Part). AreDone accounts into count ps acts more) make done in
      let same : new ≡ now = subst (λ (xs : List Act). Runs limits now xs new) d.0 runs in
      record {
        learnt = to;
        through = subst (λ (w : World). IsThrough limits one top ns old w place to [] (seen ++ [])) (sym same)
            (subst (IsThrough limits one top ns old now place to []) (sym (append-nil seen)) (subst (λ (l : List Next). IsThrough limits one top ns old now place to l seen) none t));
        owed = subst (λ (w : World). AreOwed one w to (directories ++ more)) (sym same) (subst (AreOwed one now to) (sym (ap (λ (os : List Object). directories ++ os) d.1 ∙ append-nil directories)) owed);
      }
  all_entered now new to nexts seen (visit ∷ made) parts acts directories more count t owed visits make done called runs =
      let f = first_of nexts visit visits.0 visits.1 in
      let d = subst (λ (ps : List Part). AreDone accounts into count ps acts more) make.2 done in
      let both = called_parts d.0 d.1 (subst AreCalled d.5 called) in
      let r = runs_split limits now new d.0 d.1 (subst (λ (xs : List Act). Runs limits now xs new) d.5 runs) in
      let here = subst (λ (l : List Next). IsThrough limits one top ns old now place to l seen) f.nexts_are t in
      let makes = subst (λ (v : Visit). MakesVisit accounts into one top seen v make.0) f.visit_is make.3 in
      let e = entered now r.0 to f.next f.others seen directories here owed make.0 d.0 d.2 r.1 count d.4 makes d.8 both.0 in
      let children = children_of one (names_on f.next) f.next.number in
      let ahead : visits_in one visit ++ visits.0 ≡ visits_of (children ++ f.others) =
      ap₂ (λ (v : Visit) (rest : List Visit). visits_in one v ++ rest) f.visit_is f.more_are
      ∙ ap (λ (vs : List Visit). vs ++ visits_of f.others) (visits_are one (in_archive (names_on f.next)) (names_on f.next) f.next.number refl)
      ∙ sym (visits_append children f.others) in
      let after = subst (λ (v : Visit). MakeVisits accounts into one top (seen ++ v ∷ []) made make.1) f.visit_is make.4 in
      let rest = all_entered r.0 new e.further.learnt (children ++ f.others) (seen ++ visit_of f.next ∷ []) made make.1 d.1 (directories ++ d.2) d.3 (count + 1) e.further.through e.owed_on
      (subst (λ (vs : List Visit). Visits one vs made []) ahead visits.2) after d.9 both.1 r.2 in
      record {
        learnt = rest.learnt;
        through = subst (IsThrough limits one top ns old new place rest.learnt []) (append_assoc seen (visit_of f.next ∷ []) made ∙ ap (λ (v : Visit). seen ++ v ∷ made) (sym f.visit_is)) rest.through;
        owed = subst (AreOwed one new rest.learnt) (append_assoc directories d.2 d.3 ∙ ap (λ (os : List Object). directories ++ os) (sym d.6)) rest.owed;
      }
