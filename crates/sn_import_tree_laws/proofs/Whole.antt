-- An import of an archive that was exported makes its tree.
use Rattle.std.proofs.Common.{◌≡◌, ◌≢◌, ◌⊎◌, ℕ, ◌+◌, true, List, [], ◌∷◌, ◌++◌, length, Option, Some, None, Ok, Result, is_some, inl, inr, refl, sym, ap, ap₂, subst, ◌∙◌, append-nil}
use Rattle.std.specs.Prelude.{IsSomeAnd}
use Rattle.std.specs.Bool.{MatchBool}
use Rattle.std.specs.FinMap as map
use Rattle.sn_limits.specs.Versions.{limits_written}
use Rattle.sn_limits.specs.declared.kind.Kind.{Kind}
use Rattle.sn_limits.specs.declared.kind.Kind.TheVariants.{Directory}
use Rattle.sn_limits.specs.declared.limits.Limits.{Limits}
use Rattle.sn_model.specs.NameTree.{HasKind, IsTree}
use Rattle.sn_model.specs.Tree.{Node, Tree}
use Rattle.sn_model.specs.World.{World}
use Rattle.sn_model.specs.Worlds.{IsWorld}
use Rattle.sn_export.specs.Archives.{IsArchive, Visit, Visits, visits_in}
use Rattle.sn_import.specs.declared.object.Object.{Object}
use Rattle.sn_import_entry.specs.declared.fault.EntryFault.{EntryFault}
use Rattle.sn_import_entry.specs.declared.names.Names.{Names}
use Rattle.sn_import_calls.specs.Acts.{Act}
use Rattle.sn_import_files.specs.Entries.{IsMade, kept}
use Rattle.sn_import_run.specs.Imports.{AreDone, AreRead, IsImport, SetsRights, all, broken, end_told, is_over, sorted, unsorted, within}
use Rattle.sn_import_files.specs.Streams.{IsReadTo, Part}
use Rattle.sn_import_calls.specs.declared.stop.Stop.{Stop}
use Rattle.sn_archive_laws.specs.Trees.{FitsBelow, MakeVisits, Makes, MakesNode, MakesVisit}
use Rattle.sn_archive_laws.proofs.Imports.{import_read}
use Rattle.sn_archive_laws.proofs.Links.{are_names}
use Rattle.sn_import_laws.specs.Runs.{IsRoots, Runs}
use Rattle.sn_import_laws.proofs.Steps.{led_same, runs_split}
use Rattle.sn_import_tree_laws.specs.Reports.{AreCalled}
use Rattle.sn_import_tree_laws.specs.Targets.{IsImported, IsTarget}
use Rattle.sn_import_tree_laws.proofs.Acts.{called_parts, done_whole}
use Rattle.sn_import_tree_laws.proofs.Again.{copies_have_the_archive}
use Rattle.sn_import_tree_laws.proofs.Ahead.{at_first, ended}
use Rattle.sn_import_tree_laws.proofs.Children.{children_of}
use Rattle.sn_import_tree_laws.proofs.Entries.{AreOwed, all_entered}
use Rattle.sn_import_tree_laws.proofs.Granting.{all_full, all_granted, owed_moved}
use Rattle.sn_import_tree_laws.proofs.Growth.{Numbers}
use Rattle.sn_import_tree_laws.proofs.State.{IsGiven, IsThrough}
use Rattle.sn_import_tree_laws.proofs.Tops.{top_object, top_owed, top_through, top_visit}
use Rattle.sn_import_tree_laws.proofs.Visits.{archive_once, visits_are, visits_of}

-- ---- nothing ended the reading

pub record IsAll (accounts : Names) (into : List ℕ) (parts : List Part) (acts : List Act) (directories : List Object) (stop : Option Stop) : Type 0 where
  pub stop_is : stop ≡ None
  pub done : AreDone accounts into 1 parts acts directories

read_all : (accounts : Names) (into : List ℕ) (parts : List Part) (acts : List Act) (directories : List Object) (stop : Option Stop) → AreRead accounts into parts acts directories stop → AreCalled acts → IsAll accounts into parts acts directories stop
read_all accounts into parts _ _ _ (all acts directories done) called = record { stop_is = refl; done = done }
read_all accounts into parts _ _ _ (broken acts directories stop out done) called = absurd ((called_parts acts (end_told (length parts) (Some stop)) called).1.0)
read_all accounts into parts _ _ _ (within front last acts more directories own stop are done one ends) called =
    let w = done_whole accounts into (length front + 1) last more own (Some stop) one (called_parts acts more called).1 in
    absurd (never stop w.stop_is)
  where
    never : (s : Stop) → Some s ≡ None → ⊥
    never s e = cc

-- ---- the first entry, and the others

some_kind : (o : Option Node) → IsSomeAnd o (λ n. n.kind ≡ Directory) → is_some o ≡ true
some_kind None is = absurd is
some_kind (Some n) is = refl

abbrev ok_object : Object → Result Object EntryFault
ok_object o = Ok o

one_object : (a b : Object) → ok_object a ≡ ok_object b → a ≡ b
one_object a b e = cc

module _ (limits : Limits) (accounts : Names) (into : List ℕ) (one : Tree) (top : ℕ) (old new : World) (place : ℕ) (tree_is : IsTree limits_written one) (directory : HasKind one top Directory) (fits : FitsBelow into one top)
    (whole : IsWorld limits old) (roots : IsRoots old) (target : IsTarget one top old into place) where
  given : IsGiven limits_written one top into target.at.names old place
  given = record {
    tree_is = tree_is;
    directory = directory;
    fits = fits;
    spelled = target.at.spelled;
    root_there = some_kind (map.get old.live.nodes 2) whole.live.hierarchy.root;
    seen = target.seen;
  }

  -- after all entries
  record IsMadeSoFar (now : World) (directories : List Object) : Type 0 where
    to : Numbers
    seen : List Visit
    through : IsThrough limits one top target.at.names old now place to [] seen
    owed : AreOwed one now to directories

  entries_made : (made : List Visit) (parts : List Part) (acts : List Act) (directories : List Object) (now : World) → Visits one (top_visit top ∷ []) made [] → MakeVisits accounts into one top [] made parts → AreDone accounts into 1 parts acts directories
      → AreCalled acts → Runs limits old acts now → IsMadeSoFar now directories
  entries_made [] parts acts directories now visits make done called runs = absurd (never visits)
    where
      never : top_visit top ∷ [] ≡ [] → ⊥
      never e = cc e
  entries_made (visit ∷ made) parts acts directories now visits make done called runs =
      let d = subst (λ (ps : List Part). AreDone accounts into 1 ps acts directories) make.2 done in
      let both = called_parts d.0 d.1 (subst AreCalled d.5 called) in
      let r = runs_split limits old now d.0 d.1 (subst (λ (xs : List Act). Runs limits old xs now) d.5 runs) in
      let visit_is : visit ≡ top_visit top = first_visit_is visit visits.0 visits.1 in
      let more_is : visits.0 ≡ [] = no_more visit visits.0 visits.1 in
      let m = subst (λ (v : Visit). MakesVisit accounts into one top [] v make.0) visit_is make.3 in
      let names : m.names ≡ [] = archive_once m.names [] (are_names limits_written one top m.names top tree_is.nodes m.at.leads) tt (sym m.at.path) in
      let makes = subst (λ (ns : List (List ℕ)). MakesNode accounts into one top ns m.node m.node.kind None make.0) names m.makes in
      let kind : m.node.kind ≡ Directory = subst (λ (o : Option Node). IsSomeAnd o (λ n. n.kind ≡ Directory)) m.there directory in
      let own : Makes accounts into (top_object into m.node) [] make.0 = subst (λ (k : Kind). MakesNode accounts into one top [] m.node k None make.0) kind makes in
      let w = done_whole accounts into 1 make.0 d.0 d.2 d.4 d.8 both.0 in
      let object : w.object ≡ top_object into m.node = one_object w.object (top_object into m.node) (sym w.object_is ∙ own.makes) in
      let is = subst (λ (o : Object). IsMade o make.0.member.size make.0.content d.0 None) object w.all in
      let owned : d.2 ≡ top_object into m.node ∷ [] = w.own_is ∙ ap (λ (o : Object). kept o None) object in
      let begins = top_through limits_written limits one top into old r.0 place target given m.node m.there make.0.member.size make.0.content d.0 whole roots is r.1 in
      let owes = top_owed limits_written limits one top into old r.0 place target given m.node m.there make.0.member.size make.0.content d.0 whole roots is r.1 in
      let ahead : visits_in one visit ++ visits.0 ≡ visits_of (children_of one [] top) =
      ap₂ (λ (v : Visit) (rest : List Visit). visits_in one v ++ rest) visit_is more_is
      ∙ append-nil (visits_in one (top_visit top))
      ∙ visits_are one (46 ∷ []) [] top refl in
      let e = all_entered limits_written limits one top into target.at.names old place given accounts r.0 now (at_first top place) (children_of one [] top) (top_visit top ∷ []) made make.1 d.1 (top_object into m.node ∷ []) d.3 (1 + 1)
      begins owes (subst (λ (vs : List Visit). Visits one vs made []) ahead visits.2) (subst (λ (v : Visit). MakeVisits accounts into one top (v ∷ []) made make.1) visit_is make.4) d.9 both.1 r.2 in
      record {
        to = e.learnt;
        seen = (top_visit top ∷ []) ++ made;
        through = e.through;
        owed = subst (AreOwed one now e.learnt) (sym (d.6 ∙ ap (λ (os : List Object). os ++ d.3) owned)) e.owed;
      }
    where
      first_visit_is : (v : Visit) (more : List Visit) → top_visit top ∷ [] ≡ v ∷ more → v ≡ top_visit top
      first_visit_is v more e = let same : top_visit top ≡ v = cc e in sym same

      no_more : (v : Visit) (more : List Visit) → top_visit top ∷ [] ≡ v ∷ more → more ≡ []
      no_more v more e = let same : [] ≡ more = cc e in sym same

  -- ---- and the rights

  rights_made : (now : World) (directories : List Object) (acts : List Act) → IsMadeSoFar now directories → SetsRights directories acts → AreCalled acts → Runs limits now acts new → IsImported one top old new into place
  rights_made now directories _ s unsorted called runs = absurd called.0
  rights_made now directories _ s (sorted order acts deepest granted) called runs =
      let to = s.to in
      let t = s.through in
      let p = t.reached.partly in
      let f = all_granted limits_written limits one now to tree_is p.apart order now new acts
      (record { whole = t.whole; roots = t.roots; links = refl; frozen = refl; sessions = refl; descriptors = refl; half = p.half; nodes = λ n none. refl })
      (owed_moved limits_written limits one now to tree_is p.apart directories order s.owed deepest.same) granted called runs in
      let g = f.granting in
      let full = all_full limits_written limits one now to tree_is p.apart new directories order s.owed deepest.same f in
      let there = g.half top place p.first in
      record {
        node = there.y;
        at = record {
          names = target.at.names;
          spelled = target.at.spelled;
          led = led_same now new _ target.at.names g.links g.frozen ∙ t.led;
          there = there.in_now;
        };
        copy = ended one top place old.live now.live new.live to t.reached g.links full;
        elsewhere = record {
          nodes = λ n apart is. g.nodes n (λ a e. not_below a n apart is e) ∙ p.beside.nodes n apart is;
          links = λ link apart is. (λ i. map.get (g.links i) link) ∙ p.beside.links link apart is;
          frozen = g.frozen ∙ t.around.frozen;
          sessions = g.sessions ∙ t.around.sessions;
          descriptors = λ session fd apart. (λ i. map.get (g.descriptors i) (session, fd)) ∙ t.around.descriptors session fd apart;
        };
      }
    where
      not_below : (a n : ℕ) → n ≢ place → is_some (map.get old.live.nodes n) ≡ true → s.to a ≡ Some n → ⊥
      not_below a n apart is e = told (s.through.reached.partly.fresh a n e)
        where
          no_some : (o : Option Node) → is_some o ≡ true → o ≡ None → ⊥
          no_some None h f = cc h
          no_some (Some x) h f = cc f

          told : (n ≡ place) ⊎ (map.get old.live.nodes n ≡ None) → ⊥
          told (inl h) = apart h
          told (inr h) = no_some (map.get old.live.nodes n) is h

pub trees_are_imported : (limits : Limits) (accounts : Names) (into : List ℕ) (tree : Tree) (top : ℕ) (bytes : List ℕ) (parts : List Part) (stop : Option Stop) (acts : List Act) (old new : World) (place : ℕ) → IsTree limits_written tree → HasKind tree top Directory
    → FitsBelow into tree top → IsArchive tree top (46 ∷ []) bytes → IsReadTo (Some bytes) parts stop → IsImport accounts into parts stop acts → AreCalled acts → IsWorld limits old → IsRoots old → IsTarget tree top old into place → Runs limits old acts new
    → IsImported tree top old new into place
trees_are_imported limits accounts into tree top bytes parts stop acts old new place tree_is directory fits archive read import called whole roots target runs =
    let both = called_parts import.reading import.after (subst AreCalled import.acts_are called) in
    let a = read_all accounts into parts import.reading import.directories stop import.are_read both.0 in
    let make = import_read accounts into tree top bytes parts tree_is directory fits archive (subst (IsReadTo (Some bytes) parts) a.stop_is read) in
    let r = runs_split limits old new import.reading import.after (subst (λ (xs : List Act). Runs limits old xs new) import.acts_are runs) in
    let s = entries_made limits accounts into tree top old new place tree_is directory fits whole roots target archive.visits parts import.reading import.directories r.0 archive.all make a.done both.0 r.1 in
    let sets : SetsRights import.directories import.after = subst (λ (t : Option Stop). MatchBool (is_over t) (import.after ≡ []) (SetsRights import.directories import.after)) a.stop_is import.rights in
    rights_made limits accounts into tree top old new place tree_is directory fits whole roots target r.0 import.directories import.after s sets both.1 r.2

pub imports_are_exported : (limits : Limits) (accounts : Names) (into : List ℕ) (tree : Tree) (top : ℕ) (bytes : List ℕ) (parts : List Part) (stop : Option Stop) (acts : List Act) (old new : World) (place : ℕ) → IsTree limits_written tree → HasKind tree top Directory
    → FitsBelow into tree top → IsArchive tree top (46 ∷ []) bytes → IsReadTo (Some bytes) parts stop → IsImport accounts into parts stop acts → AreCalled acts → IsWorld limits old → IsRoots old → IsTarget tree top old into place → Runs limits old acts new
    → IsArchive new.live place (46 ∷ []) bytes
imports_are_exported limits accounts into tree top bytes parts stop acts old new place tree_is directory fits archive read import called whole roots target runs =
    let i = trees_are_imported limits accounts into tree top bytes parts stop acts old new place tree_is directory fits archive read import called whole roots target runs in
    copies_have_the_archive tree top new.live place (46 ∷ []) bytes i.copy archive
