-- The visits that are to be made are those to names that are still to be made.
use Rattle.std.proofs.Common.{◌≡◌, ℕ, ◌==◌, ◌&&◌, not, Bool, true, false, cond, List, [], ◌∷◌, ◌++◌, map, Option, Some, None, length, refl, sym, ap, ap₂, subst, ◌∙◌, eqb-true}
use Rattle.std.specs.List.{AllByRecursion, list_all}
use Rattle.std.proofs.lemmas.Bool.{and_parts}
use Rattle.std.proofs.lemmas.List.{flat_map_more}
use Rattle.sn_host_names.specs.Escapes.{image_name}
use Rattle.sn_limits.specs.Names.{has_name_length, is_dots, is_name_byte, is_name_spelled}
use Rattle.sn_model.specs.Tree.{Tree}
use Rattle.sn_export.specs.Archives.{Visit, below, first_visit, visits_in}
use Rattle.sn_export.specs.HostNames.{host_name}
use Rattle.sn_export.proofs.Hosts.{named}
use Rattle.sn_untar.specs.Names.{names_of}
use Rattle.sn_archive_laws.specs.Objects.{AreNames, in_archive}
use Rattle.sn_archive_laws.proofs.Places.{names_again}
use Rattle.sn_export_walk.proofs.Names.{links_in}
use Rattle.sn_import_tree_laws.proofs.Children.{LinkEntry, Next, children_of, nexts_in}

abbrev pub names_on : Next → List (List ℕ)
names_on next = next.names ++ next.name ∷ []

abbrev pub visit_of : Next → Visit
visit_of next = record { path = in_archive (names_on next); number = next.number }

abbrev pub visits_of : List Next → List Visit
visits_of nexts = map visit_of nexts

further : (names : List (List ℕ)) (name : List ℕ) → below (in_archive names) name ≡ in_archive (names ++ name ∷ [])
further names name = flat_map_more (λ (n : List ℕ). 47 ∷ host_name n) (46 ∷ []) names name

all_visits : (path : List ℕ) (names : List (List ℕ)) (directory : ℕ) (es : List LinkEntry) → path ≡ in_archive names
    → map (λ (child : List ℕ × ℕ). record { path = below path child.0; number = child.1 }) (map (λ (e : LinkEntry). (e.0.name, e.1)) es) ≡ visits_of (nexts_in names directory es)
all_visits path names directory [] is = refl
all_visits path names directory (e ∷ es) is =
    let here : below path e.0.name ≡ in_archive (names ++ e.0.name ∷ []) = ap (λ (p : List ℕ). below p e.0.name) is ∙ further names e.0.name in
    let more = all_visits path names directory es is in
    (λ i. record { path = here i; number = e.1 } ∷ more i)

-- in a directory
pub visits_are : (tree : Tree) (path : List ℕ) (names : List (List ℕ)) (number : ℕ) → path ≡ in_archive names → visits_in tree (record { path = path; number = number }) ≡ visits_of (children_of tree names number)
visits_are tree path names number is = all_visits path names number (links_in tree number) is

pub visits_append : (first second : List Next) → visits_of (first ++ second) ≡ visits_of first ++ visits_of second
visits_append [] second = refl
visits_append (next ∷ first) second = ap (λ (vs : List Visit). visit_of next ∷ vs) (visits_append first second)

-- the next visit is to the first of these names
pub record First (nexts : List Next) (visit : Visit) (more : List Visit) : Type 0 where
  pub next : Next
  pub others : List Next
  pub nexts_are : nexts ≡ next ∷ others
  pub visit_is : visit ≡ visit_of next
  pub more_are : more ≡ visits_of others

pub first_of : (nexts : List Next) (visit : Visit) (more : List Visit) → visits_of nexts ≡ visit ∷ more → First nexts visit more
first_of [] visit more e = cc e
first_of (next ∷ others) visit more e =
    let same : visit_of next ≡ visit = cc e in
    let rest : visits_of others ≡ more = cc e in
    record { next = next; others = others; nexts_are = refl; visit_is = sym same; more_are = sym rest }

pub none_left : (nexts : List Next) → visits_of nexts ≡ [] → nexts ≡ []
none_left [] e = refl
none_left (next ∷ others) e = cc e

-- ---- what was visited

abbrev pub has_number : ℕ → Visit → Bool
has_number number visit = visit.number == number

-- the first visit to a number is one of them
pub found_visit : (P : Visit → Type 0) (number : ℕ) (seen : List Visit) (first : Visit) → AllByRecursion P seen → first_visit number seen ≡ Some first → P first × (first.number ≡ number)
found_visit P number [] first all e = cc e
found_visit P number (v ∷ seen) first all e =
    elim (v.number == number) as (λ b. (v.number == number) ≡ b → cond b (Some v) (first_visit number seen) ≡ Some first → P first × (first.number ≡ number)) [
      | true ↦ λ is f. (let same : v ≡ first = one v first f in (subst P same all.0, ap (λ (x : Visit). x.number) (sym same) ∙ eqb-true v.number number is))
      | false ↦ λ is f. found_visit P number seen first all.1 f
    ] refl e
  where
    one : (x y : Visit) → Some x ≡ Some y → x ≡ y
    one x y e = cc

-- where none of more visits is to a number, none of the first is, nor is the last
pub not_visited : (number : ℕ) (seen : List Visit) (visit : Visit) → first_visit number (seen ++ visit ∷ []) ≡ None → (first_visit number seen ≡ None) × ((visit.number == number) ≡ false)
not_visited number [] visit e =
    elim (visit.number == number) as (λ b. (visit.number == number) ≡ b → cond b (Some visit) (none_of Visit) ≡ None → (first_visit number [] ≡ None) × ((visit.number == number) ≡ false)) [
      | true ↦ λ is f. cc f
      | false ↦ λ is f. (refl, is)
    ] refl e
  where
    none_of : (A : Type 0) → Option A
    none_of A = None
not_visited number (v ∷ seen) visit e =
    elim (v.number == number) as (λ b. (v.number == number) ≡ b → cond b (Some v) (first_visit number (seen ++ visit ∷ [])) ≡ None → (first_visit number (v ∷ seen) ≡ None) × ((visit.number == number) ≡ false)) [
      | true ↦ λ is f. cc f
      | false ↦ λ is f. (let more = not_visited number seen visit f in (ap (λ (b : Bool). cond b (Some v) (first_visit number seen)) is ∙ more.0, more.1))
    ] refl e

-- ---- a path of an archive has one list of names

images : (names : List (List ℕ)) → AreNames names → map image_name (map host_name names) ≡ names
images [] are = refl
images (name ∷ names) are =
    let parts = and_parts (is_name_spelled name) (has_name_length name) are.0 in
    let bytes = and_parts (not (length name == 0) && not (is_dots name)) (list_all is_name_byte name) parts.0 in
    ap₂ (λ (n : List ℕ) (ns : List (List ℕ)). n ∷ ns) (named name bytes.1) (images names are.1)

pub archive_once : (xs ys : List (List ℕ)) → AreNames xs → AreNames ys → in_archive xs ≡ in_archive ys → xs ≡ ys
archive_once xs ys x_are y_are same =
    let hosts : map host_name xs ≡ map host_name ys = sym (names_again xs false x_are) ∙ ap (λ (p : List ℕ). names_of (p ++ [])) same ∙ names_again ys false y_are in
    sym (images xs x_are) ∙ ap (map image_name) hosts ∙ images ys y_are
