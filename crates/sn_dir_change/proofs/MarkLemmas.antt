-- Marks of names.
use Rattle.std.proofs.Common.{◌≡◌, ◌≢◌, ◌⊎◌, inl, inr, ⊎_elim, ℕ, ◌<◌, Bool, true, false, cond, List, [], ◌∷◌, ◌++◌, length, set, get_or, Option, Some, None, refl, sym, ap, subst, ◌∙◌, arith}
use Rattle.std.specs.Prelude.{Contains}
use Rattle.std.specs.Str.{bytes_eq}
use Rattle.std.proofs.lemmas.Bool.{cases_eq, true≢false}
use Rattle.std.proofs.lemmas.List.{get_or-set_same, get_or-set_other}
use Rattle.std.proofs.lemmas.Slice.Eq.{bytes_eq-Decides}
use Rattle.sn_layout_node.specs.Directory.{Link, number_of, without}
use Rattle.sn_dir_change.specs.Changes.{link_for, numbered}
use Rattle.sn_dir_change.specs.NameMarks.{AreMarked, hash_of}
use Rattle.sn_dir_change.specs.declared.name_change.NameChange.{NameChange}
use Rattle.sn_dir_change.proofs.ChangeLemmas.{first_there, more_there, cases_there}
use Rattle.sn_dir_change.proofs.NameLemmas.{number-rest}

abbrev pub is_marked : List Bool → List ℕ → Bool
is_marked marks name = get_or marks (hash_of name) false

-- a name without a mark isn't there
pub unmarked : (marks : List Bool) (name : List ℕ) (links : List Link) → AreMarked marks links → is_marked marks name ≡ false → number_of name links ≡ None
unmarked marks name [] all none = refl
unmarked marks name (link ∷ links) all none = either (bytes_eq link.name name) refl (unmarked marks name links all.1 none)
  where
    either : (b : Bool) → bytes_eq link.name name ≡ b → number_of name links ≡ None → number_of name (link ∷ links) ≡ None
    either true same later =
        let is = (bytes_eq-Decides link.name name).0 same in
        absurd (true≢false (sym all.0 ∙ ap (is_marked marks) is ∙ none))
    either false other later = number-rest name link links other ∙ later

-- ---- while marks are set

-- a mark that is set stays
pub marked_still : (marks : List Bool) (at : ℕ) (name : List ℕ) → at < length marks → is_marked marks name ≡ true → is_marked (set marks at true) name ≡ true
marked_still marks at name within is = ⊎_elim
    (λ (same : hash_of name ≡ at). ap (λ (k : ℕ). get_or (set marks at true) k false) same ∙ get_or-set_same marks at true false within)
    (λ (apart : hash_of name ≢ at). get_or-set_other marks at (hash_of name) true false apart ∙ is)
    (cases_eq (hash_of name) at)

pub marked_now : (marks : List Bool) (at : ℕ) (name : List ℕ) → at < length marks → at ≡ hash_of name → is_marked (set marks at true) name ≡ true
marked_now marks at name within is = ap (λ (k : ℕ). get_or (set marks at true) k false) (sym is) ∙ get_or-set_same marks at true false within

-- the names are marked but for those that are left
abbrev pub AreMarkedBut : List Bool → List Link → List Link → Type 0
AreMarkedBut marks links left = (link : Link) → Contains links link → (is_marked marks link.name ≡ true) ⊎ Contains left link

pub all_marked : (marks : List Bool) (links left : List Link) → left ≡ [] → AreMarkedBut marks links left → AreMarked marks links
all_marked marks [] left none but = tt
all_marked marks (x ∷ xs) left none but = (
  ⊎_elim
      (λ (is : is_marked marks x.name ≡ true). is)
      (λ (there : Contains left x). absurd (let under = subst (λ (ls : List Link). Contains ls x) none there in omega (arith, under.1)))
      (but x (first_there x xs)),
  all_marked marks xs left none (λ link there. but link (more_there x xs link there)),
)

pub one_marked : (marks : List Bool) (at : ℕ) (links left rest : List Link) (next : Link) → at < length marks → at ≡ hash_of next.name → left ≡ next ∷ rest → AreMarkedBut marks links left → AreMarkedBut (set marks at true) links rest
one_marked marks at links left rest next within is was but link there = ⊎_elim
    (λ (marked : is_marked marks link.name ≡ true). inl (marked_still marks at link.name within marked))
    (λ (here : Contains left link). ⊎_elim
    (λ (same : link ≡ next). inl (subst (λ (l : Link). is_marked (set marks at true) l.name ≡ true) (sym same) (marked_now marks at next.name within is)))
    (λ (later : Contains rest link). inr later)
    (cases_there next rest link (subst (λ (ls : List Link). Contains ls link) was here)))
    (but link there)

-- ---- while names change

marked_without : (marks : List Bool) (name : List ℕ) (links : List Link) → AreMarked marks links → AreMarked marks (without name links)
marked_without marks name [] all = tt
marked_without marks name (link ∷ links) all = either (bytes_eq link.name name) (marked_without marks name links all.1)
  where
    either : (b : Bool) → AreMarked marks (without name links) → AreMarked marks (cond b links (link ∷ without name links))
    either true later = all.1
    either false later = (all.0, later)

marked_both : (marks : List Bool) (xs ys : List Link) → AreMarked marks xs → AreMarked marks ys → AreMarked marks (xs ++ ys)
marked_both marks [] ys first second = second
marked_both marks (x ∷ xs) ys first second = (first.0, marked_both marks xs ys first.1 second)

marked_link : (marks : List Bool) (name : List ℕ) (number : Option ℕ) → is_marked marks name ≡ true → AreMarked marks (numbered name number)
marked_link marks name None is = tt
marked_link marks name (Some n) is = (is, tt)

-- a name that is set in its place, or taken out
pub marked_amended : (marks : List Bool) (change : NameChange) (links new : List Link) → new ≡ without change.name.now links ++ link_for change → is_marked marks change.name.now ≡ true → AreMarked marks links → AreMarked marks new
marked_amended marks change links new made is all =
    subst (AreMarked marks) (sym made)
    (marked_both marks (without change.name.now links) (link_for change) (marked_without marks change.name.now links all) (marked_link marks change.name.now change.number is))
