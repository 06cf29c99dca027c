-- A directory of a copy has the names of the other, in the same order.
use Rattle.std.proofs.Common.{◌≡◌, ◌⊎◌, ℕ, ◌==◌, Bool, true, false, cond, T, ◌&&◌, Option, Some, None, List, [], ◌∷◌, filter, inl, inr, refl, sym, ap, ◌∙◌, eqb-true, eq-eqb, subst}
use Rattle.std.specs.List.{AllByRecursion, AllZip}
use Rattle.std.specs.Ordering.{eq_by_cmp, is_lt, nat_cmp, ordering_then}
use Rattle.std.specs.declared.cmp.Ordering.{Ordering}
use Rattle.std.specs.declared.cmp.Ordering.TheVariants.{Less, Equal, Greater}
use Rattle.std.specs.Cmp.{nat_cmp_total, tied_itself}
use Rattle.std.specs.Cmp.Lexicographic.{nat_list_cmp_total, slice_cmp}
use Rattle.std.specs.FinMap as finite
use Rattle.std.specs.FinMap.Entries.{below_all, find, is_sorted}
use Rattle.std.proofs.lemmas.Map.Views.{tells_apart}
use Rattle.sn_model.specs.declared.link.Link.{Link}
use Rattle.sn_model.specs.Tree.{Tree, link_cmp, link_to}
use Rattle.sn_model.proofs.LinkLemmas.{exact_links}
use Rattle.sn_export_walk.proofs.Names.{IsNameIn, links_in, names_in_directory}
use Rattle.sn_import_tree_laws.specs.Copies.{IsCopy}
use Rattle.sn_import_tree_laws.proofs.Ahead.{all_weaker, all_with}
use Rattle.sn_import_tree_laws.proofs.Children.{LinkEntry}
use Rattle.sn_import_tree_laws.proofs.Growth.{Numbers, one_value, some_none}

abbrev in_directory : ℕ → LinkEntry → Bool
in_directory directory e = e.0.directory == directory

-- ---- in the order of the names

abbrev IsBelow : LinkEntry → LinkEntry → Type 0
IsBelow e x = slice_cmp nat_cmp e.0.name x.0.name ≡ Less

abbrev AreSorted : List LinkEntry → Type 0
AreSorted [] = Unit {0}
AreSorted (e ∷ es) = AllByRecursion (IsBelow e) es × AreSorted es

both : (a b : Bool) → T (a && b) → T a × T b
both true b h = (tt, h)
both false b h = absurd h

less : (r : Ordering) → T (is_lt r) → r ≡ Less
less Less h = refl
less Equal h = absurd h
less Greater h = absurd h

is_below : (e x : LinkEntry) → e.0.directory ≡ x.0.directory → T (is_lt (link_cmp e.0 x.0)) → IsBelow e x
is_below e x same h =
    let names = slice_cmp nat_cmp e.0.name x.0.name in
    let tied : nat_cmp e.0.directory x.0.directory ≡ Equal = ap (nat_cmp e.0.directory) (sym same) ∙ tied_itself nat_cmp_total e.0.directory in
    sym (ap (λ (r : Ordering). ordering_then r names) tied) ∙ less (link_cmp e.0 x.0) h

below_in : (directory : ℕ) (e : LinkEntry) (es : List LinkEntry) → e.0.directory ≡ directory → T (below_all link_cmp e.0 es) → AllByRecursion (IsBelow e) (filter (in_directory directory) es)
below_in directory e [] own h = tt
below_in directory e (x ∷ es) own h =
    let s = both (is_lt (link_cmp e.0 x.0)) (below_all link_cmp e.0 es) h in
    let more = below_in directory e es own s.1 in
    elim (in_directory directory x) as (λ b. in_directory directory x ≡ b → AllByRecursion (IsBelow e) (cond b (x ∷ filter (in_directory directory) es) (filter (in_directory directory) es))) [
      | true ↦ λ k. (is_below e x (own ∙ sym (eqb-true x.0.directory directory k)) s.0, more)
      | false ↦ λ k. more
    ] refl

sorted_in : (directory : ℕ) (es : List LinkEntry) → T (is_sorted link_cmp es) → AreSorted (filter (in_directory directory) es)
sorted_in directory [] h = tt
sorted_in directory (e ∷ es) h =
    let s = both (below_all link_cmp e.0 es) (is_sorted link_cmp es) h in
    let more = sorted_in directory es s.1 in
    elim (in_directory directory e) as (λ b. in_directory directory e ≡ b → AreSorted (cond b (e ∷ filter (in_directory directory) es) (filter (in_directory directory) es))) [
      | true ↦ λ k. (below_in directory e es (eqb-true e.0.directory directory k) s.0, more)
      | false ↦ λ k. more
    ] refl

-- ---- one of them

abbrev AnyOf : (LinkEntry → Type 0) → List LinkEntry → Type 0
AnyOf P [] = ⊥
AnyOf P (x ∷ xs) = P x ⊎ AnyOf P xs

found_at : (P : LinkEntry → Type 0) (directory n : ℕ) (name : List ℕ) (es : List LinkEntry) → ((f : LinkEntry) → f.0.name ≡ name → f.1 ≡ n → P f) → find link_cmp (link_to directory name) es ≡ Some n → AnyOf P (filter (in_directory directory) es)
found_at P directory n name [] is e = cc e
found_at P directory n name (f ∷ es) is e =
    let more = found_at P directory n name es is in
    elim (eq_by_cmp link_cmp (link_to directory name) f.0) as (λ b. eq_by_cmp link_cmp (link_to directory name) f.0 ≡ b → cond b (Some f.1) (find link_cmp (link_to directory name) es) ≡ Some n → AnyOf P (filter (in_directory directory) (f ∷ es))) [
      | true ↦ λ k g. (let same : link_to directory name ≡ f.0 = tells_apart exact_links (link_to directory name) f.0 k in here same (one f.1 n g))
      | false ↦ λ k g. later (more g)
    ] refl e
  where
    one : (x y : ℕ) → Some x ≡ Some y → x ≡ y
    one x y g = cc

    here : link_to directory name ≡ f.0 → f.1 ≡ n → AnyOf P (filter (in_directory directory) (f ∷ es))
    here same value =
        let own : in_directory directory f ≡ true = eq-eqb f.0.directory directory (ap (λ (l : Link). l.directory) (sym same)) in
        subst (λ (b : Bool). AnyOf P (cond b (f ∷ filter (in_directory directory) es) (filter (in_directory directory) es))) (sym own) (inl (is f (ap (λ (l : Link). l.name) (sym same)) value))

    later : AnyOf P (filter (in_directory directory) es) → AnyOf P (filter (in_directory directory) (f ∷ es))
    later any = elim (in_directory directory f) as (λ b. AnyOf P (cond b (f ∷ filter (in_directory directory) es) (filter (in_directory directory) es))) [
      | true ↦ inr any
      | false ↦ any
    ]

found_in : (P : LinkEntry → Type 0) (tree : Tree) (directory n : ℕ) (name : List ℕ) → ((f : LinkEntry) → f.0.name ≡ name → f.1 ≡ n → P f) → finite.get tree.links (link_to directory name) ≡ Some n → AnyOf P (links_in tree directory)
found_in P tree directory n name is e = found_at P directory n name (finite.entries tree.links) is (sym (finite.get-entries tree.links (link_to directory name)) ∙ e)

any_with : (P Q R : LinkEntry → Type 0) (xs : List LinkEntry) → ((x : LinkEntry) → P x → Q x → R x) → AnyOf P xs → AllByRecursion Q xs → (x : LinkEntry) × R x
any_with P Q R [] is any all = absurd any
any_with P Q R (x ∷ xs) is (inl h) all = (x, is x h all.0)
any_with P Q R (x ∷ xs) is (inr h) all = any_with P Q R xs is h all.1

-- ---- the same names

abbrev pub IsSameName : Numbers → LinkEntry → LinkEntry → Type 0
IsSameName to e f = (f.0.name ≡ e.0.name) × (to e.1 ≡ Some f.1)

-- the same two names, and the one below another
not_both : (e f : LinkEntry) → f.0.name ≡ e.0.name → IsBelow e f → ⊥
not_both e f same below =
    let tied : slice_cmp nat_cmp e.0.name f.0.name ≡ Equal = ap (slice_cmp nat_cmp e.0.name) same ∙ tied_itself nat_list_cmp_total e.0.name in
    never (sym below ∙ tied)
  where
    never : Less ≡ Equal → ⊥
    never g = cc g

module _ (to : Numbers) where
  zipped : (es fs : List LinkEntry) → AreSorted es → AreSorted fs → AllByRecursion (λ e. AnyOf (IsSameName to e) fs) es → AllByRecursion (λ f. AnyOf (λ e. IsSameName to e f) es) fs → AllZip (IsSameName to) es fs
  zipped [] [] s t first second = tt
  zipped [] (f ∷ fs) s t first second = absurd second.0
  zipped (e ∷ es) [] s t first second = absurd first.0
  zipped (e ∷ es) (f ∷ fs) s t first second =
      let head = of first.0 second.0 in (
        head,
        zipped es fs s.1 t.1
            (all_with (λ x. AnyOf (IsSameName to x) (f ∷ fs)) (IsBelow e) (λ x. AnyOf (IsSameName to x) fs) es (λ x any below. later_first head x any below) first.1 s.0)
            (all_with (λ y. AnyOf (λ x. IsSameName to x y) (e ∷ es)) (IsBelow f) (λ y. AnyOf (λ x. IsSameName to x y) es) fs (λ y any below. later_second head y any below) second.1 t.0),
      )
    where
      -- each is below the other
      never : AnyOf (IsSameName to e) fs → AnyOf (λ x. IsSameName to x f) es → ⊥
      never any other =
          let a = any_with (IsSameName to e) (IsBelow f) (λ _. slice_cmp nat_cmp f.0.name e.0.name ≡ Less) fs (λ y same below. ap (slice_cmp nat_cmp f.0.name) (sym same.0) ∙ below) any t.0 in
          let b = any_with (λ x. IsSameName to x f) (IsBelow e) (λ _. slice_cmp nat_cmp e.0.name f.0.name ≡ Less) es (λ x same below. ap (slice_cmp nat_cmp e.0.name) same.0 ∙ below) other s.0 in
          not_both e e refl (nat_list_cmp_total.trans e.0.name f.0.name e.0.name b.1 a.1)

      of : IsSameName to e f ⊎ AnyOf (IsSameName to e) fs → IsSameName to e f ⊎ AnyOf (λ x. IsSameName to x f) es → IsSameName to e f
      of (inl h) k = h
      of (inr h) (inl k) = k
      of (inr h) (inr k) = absurd (never h k)

      later_first : IsSameName to e f → (x : LinkEntry) → AnyOf (IsSameName to x) (f ∷ fs) → IsBelow e x → AnyOf (IsSameName to x) fs
      later_first head x (inl h) below = absurd (not_both e x (sym h.0 ∙ head.0) below)
      later_first head x (inr h) below = h

      later_second : IsSameName to e f → (y : LinkEntry) → AnyOf (λ x. IsSameName to x y) (e ∷ es) → IsBelow f y → AnyOf (λ x. IsSameName to x y) es
      later_second head y (inl h) below = absurd (not_both f y (h.0 ∙ sym head.0) below)
      later_second head y (inr h) below = h

module _ (one : Tree) (top : ℕ) (other : Tree) (place : ℕ) (copy : IsCopy one top other place) (a b : ℕ) (at : copy.to a ≡ Some b) where
  in_other : (e : LinkEntry) → IsNameIn one a e → AnyOf (IsSameName copy.to e) (links_in other b)
  in_other e named =
      let n = copy.names a b e.1 e.0.name at named in
      found_in (IsSameName copy.to e) other b n.0 e.0.name (λ f same value. (same, n.1 ∙ ap (λ (k : ℕ). Some k) (sym value))) n.2

  in_one : (f : LinkEntry) → IsNameIn other b f → AnyOf (λ e. IsSameName copy.to e f) (links_in one a)
  in_one f named = told (finite.get one.links (link_to a f.0.name)) refl
    where
      told : (o : Option ℕ) → finite.get one.links (link_to a f.0.name) ≡ o → AnyOf (λ e. IsSameName copy.to e f) (links_in one a)
      told None e = absurd (some_none (finite.get other.links (link_to b f.0.name)) f.1 named (copy.others a b f.0.name at e))
      told (Some m) e =
          let n = copy.names a b m f.0.name at e in
          let same : n.0 ≡ f.1 = one_value (finite.get other.links (link_to b f.0.name)) n.0 f.1 n.2 named in
          found_in (λ x. IsSameName copy.to x f) one a m f.0.name (λ x name value. (sym name, ap copy.to value ∙ n.1 ∙ ap (λ (k : ℕ). Some k) same)) e

  pub names_same : AllZip (IsSameName copy.to) (links_in one a) (links_in other b)
  names_same = zipped copy.to (links_in one a) (links_in other b)
      (sorted_in a (finite.entries one.links) (finite.entries_sorted one.links))
      (sorted_in b (finite.entries other.links) (finite.entries_sorted other.links))
      (all_weaker (IsNameIn one a) (λ e. AnyOf (IsSameName copy.to e) (links_in other b)) (links_in one a) in_other (names_in_directory one a))
      (all_weaker (IsNameIn other b) (λ f. AnyOf (λ e. IsSameName copy.to e f) (links_in one a)) (links_in other b) in_one (names_in_directory other b))
