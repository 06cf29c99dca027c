-- A copy has the same archive.
use Rattle.std.proofs.Common.{◌≡◌, ℕ, ◌==◌, Bool, true, false, cond, Option, Some, None, List, [], ◌∷◌, ◌++◌, map, refl, sym, ap, subst, ◌∙◌, true≢false, eqb-true, eq-eqb}
use Rattle.std.specs.List.{AllZip}
use Rattle.std.specs.FinMap as finite
use Rattle.std.proofs.lemmas.List.Elements.{AllZip-push}
use Rattle.sn_limits.specs.declared.kind.Kind.{Kind}
use Rattle.sn_limits.specs.declared.kind.Kind.TheVariants.{Directory, File}
use Rattle.sn_model.specs.Tree.{Node, Tree}
use Rattle.sn_export.specs.Archives.{AreEntries, IsArchive, IsNodeAt, IsVisit, Visit, Visits, acls_of, below, first_visit, link_entry, visits_in}
use Rattle.sn_export.specs.Entries.{AreHeadsOf}
use Rattle.sn_import_tree_laws.specs.Copies.{IsCopy}
use Rattle.sn_import_tree_laws.proofs.Children.{LinkEntry}
use Rattle.sn_import_tree_laws.proofs.Growth.{one_value}
use Rattle.sn_import_tree_laws.proofs.Listings.{IsSameName, names_same}
use Rattle.sn_export_walk.proofs.Names.{links_in}

zip_append : {A : Type 0} (R : A → A → Type 0) (xs ys zs ws : List A) → AllZip R xs ys → AllZip R zs ws → AllZip R (xs ++ zs) (ys ++ ws)
zip_append R [] [] zs ws first second = second
zip_append R [] (y ∷ ys) zs ws first second = absurd first
zip_append R (x ∷ xs) [] zs ws first second = absurd first
zip_append R (x ∷ xs) (y ∷ ys) zs ws first second = (first.0, zip_append R xs ys zs ws first.1 second)

record Cons {A : Type 0} (R : A → A → Type 0) (x : A) (xs ys : List A) : Type 0 where
  y : A
  rest : List A
  ys_are : ys ≡ y ∷ rest
  head : R x y
  tail : AllZip R xs rest

cons_of : {A : Type 0} (R : A → A → Type 0) (x : A) (xs ys : List A) → AllZip R (x ∷ xs) ys → Cons R x xs ys
cons_of R x xs [] z = absurd z
cons_of R x xs (y ∷ ys) z = record { y = y; rest = ys; ys_are = refl; head = z.0; tail = z.1 }

module _ (one : Tree) (top : ℕ) (other : Tree) (place : ℕ) (copy : IsCopy one top other place) where
  abbrev IsSame : Visit → Visit → Type 0
  IsSame v w = (w.path ≡ v.path) × (copy.to v.number ≡ Some w.number)

  abbrev AreSame : List Visit → List Visit → Type 0
  AreSame vs ws = AllZip IsSame vs ws

  visits_to : (p q : List ℕ) (es fs : List LinkEntry) → q ≡ p → AllZip (IsSameName copy.to) es fs
      → AreSame (map (λ (child : List ℕ × ℕ). record { path = below p child.0; number = child.1 }) (map (λ (e : LinkEntry). (e.0.name, e.1)) es))
      (map (λ (child : List ℕ × ℕ). record { path = below q child.0; number = child.1 }) (map (λ (e : LinkEntry). (e.0.name, e.1)) fs))
  visits_to p q [] [] path z = tt
  visits_to p q [] (f ∷ fs) path z = absurd z
  visits_to p q (e ∷ es) [] path z = absurd z
  visits_to p q (e ∷ es) (f ∷ fs) path z = (((λ i. below (path i) (z.0.0 i)), z.0.1), visits_to p q es fs path z.1)

  visits_below : (v w : Visit) → IsSame v w → AreSame (visits_in one v) (visits_in other w)
  visits_below v w same = visits_to v.path w.path (links_in one v.number) (links_in other w.number) same.0 (names_same one top other place copy v.number w.number same.1)

  record Along (ahead made left : List Visit) : Type 0 where
    again : List Visit
    rest : List Visit
    visits : Visits other ahead again rest
    same : AreSame made again
    rest_same : AreSame left rest

  visits_along : (ahead made left next : List Visit) → Visits one ahead made left → AreSame ahead next → Along next made left
  visits_along ahead [] left next visits z = record { again = []; rest = next; visits = refl; same = tt; rest_same = subst (λ (vs : List Visit). AreSame vs next) visits z }
  visits_along ahead (v ∷ made) left next visits z =
      let c = cons_of IsSame v visits.0 next (subst (λ (vs : List Visit). AreSame vs next) visits.1 z) in
      let more = visits_along (visits_in one v ++ visits.0) made left (visits_in other c.y ++ c.rest) visits.2
      (zip_append IsSame (visits_in one v) (visits_in other c.y) visits.0 c.rest (visits_below v c.y c.head) c.tail) in
      record { again = c.y ∷ more.again; rest = more.rest; visits = (c.rest, c.ys_are, more.visits); same = (c.head, more.same); rest_same = more.rest_same }

  -- ---- what was met

  abbrev IsSameFirst : Option Visit → Option Visit → Type 0
  IsSameFirst None None = Unit {0}
  IsSameFirst (Some v) (Some w) = w.path ≡ v.path
  IsSameFirst _ _ = ⊥

  first_same : (m n : ℕ) (seen met : List Visit) → copy.to m ≡ Some n → AreSame seen met → IsSameFirst (first_visit m seen) (first_visit n met)
  first_same m n [] [] at z = tt
  first_same m n [] (w ∷ met) at z = absurd z
  first_same m n (v ∷ seen) [] at z = absurd z
  first_same m n (v ∷ seen) (w ∷ met) at z =
      let more = first_same m n seen met at z.1 in
      elim (v.number == m) as (λ b. (v.number == m) ≡ b → IsSameFirst (cond b (Some v) (first_visit m seen)) (first_visit n (w ∷ met))) [
        | true ↦ λ k. subst (λ (b : Bool). IsSameFirst (Some v) (cond b (Some w) (first_visit n met))) (sym (same_one k)) z.0.0
        | false ↦ λ k. subst (λ (b : Bool). IsSameFirst (first_visit m seen) (cond b (Some w) (first_visit n met))) (sym (other_one (w.number == n) refl k)) more
      ] refl
    where
      same_one : (v.number == m) ≡ true → (w.number == n) ≡ true
      same_one k = eq-eqb w.number n (one_value (copy.to m) w.number n (ap copy.to (sym (eqb-true v.number m k)) ∙ z.0.1) at)

      other_one : (b : Bool) → (w.number == n) ≡ b → (v.number == m) ≡ false → (w.number == n) ≡ false
      other_one false e k = e
      other_one true e k =
          let number : v.number ≡ m = copy.apart v.number m n (z.0.1 ∙ ap (λ (x : ℕ). Some x) (eqb-true w.number n e)) at in
          absurd (true≢false (sym (eq-eqb v.number m number) ∙ k))

  -- ---- the same entries

  node_same : (path : List ℕ) (node : Node) (kind : Kind) (f g : Option Visit) (bytes : List ℕ) → IsSameFirst f g → IsNodeAt path node kind f bytes → IsNodeAt path node kind g bytes
  node_same path node Directory f g bytes same is = is
  node_same path node File None None bytes same is = is
  node_same path node File None (Some w) bytes same is = absurd same
  node_same path node File (Some v) None bytes same is = absurd same
  node_same path node File (Some v) (Some w) bytes same is = subst (λ (p : List ℕ). AreHeadsOf (link_entry path p node) (acls_of node) bytes) (sym same) is

  visit_same : (v w : Visit) (seen met : List Visit) (bytes : List ℕ) → IsSame v w → AreSame seen met → IsVisit seen v (finite.get one.nodes v.number) bytes → IsVisit met w (finite.get other.nodes w.number) bytes
  visit_same v w seen met bytes same z is =
      subst (λ (o : Option Node). IsVisit met w o bytes) (sym (copy.nodes v.number w.number same.1)) (told (finite.get one.nodes v.number) is)
    where
      told : (o : Option Node) → IsVisit seen v o bytes → IsVisit met w o bytes
      told None h = h
      told (Some node) h =
          subst (λ (p : List ℕ). IsNodeAt p node node.kind (first_visit w.number met) bytes) (sym same.0)
          (node_same v.path node node.kind (first_visit v.number seen) (first_visit w.number met) bytes (first_same v.number w.number seen met same.1 z) h)

  entries_same : (visits again seen met : List Visit) (bytes : List ℕ) → AreSame visits again → AreSame seen met → AreEntries one seen visits bytes → AreEntries other met again bytes
  entries_same [] [] seen met bytes z y are = are
  entries_same [] (w ∷ again) seen met bytes z y are = absurd z
  entries_same (v ∷ visits) [] seen met bytes z y are = absurd z
  entries_same (v ∷ visits) (w ∷ again) seen met bytes z y are = (
    are.0,
    are.1,
    are.2,
    visit_same v w seen met are.0 z.0 y are.3,
    entries_same visits again (seen ++ v ∷ []) (met ++ w ∷ []) are.1 z.1 (AllZip-push IsSame seen met v w y z.0) are.4,
  )

  archive_same : (path bytes : List ℕ) → IsArchive one top path bytes → IsArchive other place path bytes
  archive_same path bytes archive =
      let a = visits_along (record { path = path; number = top } ∷ []) archive.visits [] (record { path = path; number = place } ∷ []) archive.all ((refl, copy.first), tt) in
      record {
        visits = a.again;
        all = subst (Visits other (record { path = path; number = place } ∷ []) a.again) (nothing a.rest a.rest_same) a.visits;
        entries = archive.entries;
        are = entries_same archive.visits a.again [] [] archive.entries a.same tt archive.are;
        whole = archive.whole;
      }
    where
      nothing : (ws : List Visit) → AreSame [] ws → ws ≡ []
      nothing [] z = refl
      nothing (w ∷ ws) z = absurd z

pub copies_have_the_archive : (one : Tree) (top : ℕ) (other : Tree) (place : ℕ) (path bytes : List ℕ) → IsCopy one top other place → IsArchive one top path bytes → IsArchive other place path bytes
copies_have_the_archive one top other place path bytes copy archive = archive_same one top other place copy path bytes archive
