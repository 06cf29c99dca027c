-- Names among links: taken out, put after the others, and lists that are joined.
use Rattle.std.proofs.Common.{◌≡◌, ◌≢◌, ◌⊎◌, inl, inr, ⊎_elim, ℕ, ◌+◌, ◌<◌, ◌≤◌, Bool, true, false, cond, if◌then◌else◌, List, [], ◌∷◌, ◌++◌, length, Option, Some, None, refl, sym, ap, ◌∙◌, arith}
use Rattle.std.specs.Prelude.{is_some}
use Rattle.std.specs.Str.{bytes_eq}
use Rattle.std.proofs.lemmas.Bool.{true≢false}
use Rattle.std.proofs.lemmas.Slice.Eq.{bytes_eq-Decides}
use Rattle.sn_image.proofs.ListLemmas.{count-append}
use Rattle.sn_layout_node.specs.Directory.{Link, links_bytes, number_of, without}
use Rattle.sn_layout_node.proofs.Links.{length-links}
use Rattle.sn_dir_change.specs.Changes.{times_named, numbered}

-- ---- names that are the same, or others

pub same_name : (a b : List ℕ) → a ≡ b → bytes_eq a b ≡ true
same_name a b same = (bytes_eq-Decides a b).1 same

pub other_name : (a b : List ℕ) → a ≢ b → bytes_eq a b ≡ false
other_name a b other = told (bytes_eq a b) refl
  where
    told : (c : Bool) → bytes_eq a b ≡ c → c ≡ false
    told true is = absurd (other ((bytes_eq-Decides a b).0 is))
    told false is = refl

cases_true : (b : Bool) → (b ≡ true) ⊎ (b ≡ false)
cases_true true = inl refl
cases_true false = inr refl

pub cases_name : (a b : List ℕ) → (a ≡ b) ⊎ (a ≢ b)
cases_name a b = told (bytes_eq a b) refl
  where
    told : (c : Bool) → bytes_eq a b ≡ c → (a ≡ b) ⊎ (a ≢ b)
    told true is = inl ((bytes_eq-Decides a b).0 is)
    told false is = inr (λ same. true≢false (sym (same_name a b same) ∙ is))

-- ---- how often a name occurs

module _ (name : List ℕ) where
  pub times-append : (xs ys : List Link) → times_named name (xs ++ ys) ≡ times_named name xs + times_named name ys
  times-append xs ys = count-append (λ (l : Link). bytes_eq l.name name) xs ys

  pub times-same : (link : Link) → bytes_eq link.name name ≡ true → times_named name (link ∷ []) ≡ 1
  times-same link same = ap (λ b. 0 + cond b 1 0) same

  pub times-other : (link : Link) → bytes_eq link.name name ≡ false → times_named name (link ∷ []) ≡ 0
  times-other link other = ap (λ b. 0 + cond b 1 0) other

  pub times-first : (link : Link) (links : List Link) → bytes_eq link.name name ≡ true → times_named name (link ∷ links) ≡ 1 + times_named name links
  times-first link links same = omega (arith, times-append (link ∷ []) links, times-same link same)

  pub times-rest : (link : Link) (links : List Link) → bytes_eq link.name name ≡ false → times_named name (link ∷ links) ≡ times_named name links
  times-rest link links other = omega (arith, times-append (link ∷ []) links, times-other link other)

  pub number-first : (link : Link) (links : List Link) → bytes_eq link.name name ≡ true → number_of name (link ∷ links) ≡ Some link.number
  number-first link links same = rw same refl

  pub number-rest : (link : Link) (links : List Link) → bytes_eq link.name name ≡ false → number_of name (link ∷ links) ≡ number_of name links
  number-rest link links other = rw other refl

  -- a name that occurs nowhere has no number
  pub none-times : (links : List Link) → times_named name links ≡ 0 → number_of name links ≡ None
  none-times [] none = refl
  none-times (link ∷ links) none = ⊎_elim
      (λ (same : bytes_eq link.name name ≡ true). absurd (omega (arith, none, times-first link links same)))
      (λ (other : bytes_eq link.name name ≡ false). number-rest link links other ∙ none-times links (omega (arith, none, times-rest link links other)))
      (cases_true (bytes_eq link.name name))

  pub times-none : (links : List Link) → number_of name links ≡ None → times_named name links ≡ 0
  times-none [] none = refl
  times-none (link ∷ links) none = ⊎_elim
      (λ (same : bytes_eq link.name name ≡ true). let some : Some link.number ≡ None = sym (number-first link links same) ∙ none in absurd cc)
      (λ (other : bytes_eq link.name name ≡ false). times-rest link links other ∙ times-none links (sym (number-rest link links other) ∙ none))
      (cases_true (bytes_eq link.name name))

  pub some-times : (links : List Link) → is_some (number_of name links) ≡ true → 0 < times_named name links
  some-times [] some = absurd cc
  some-times (link ∷ links) some = ⊎_elim
      (λ (same : bytes_eq link.name name ≡ true). omega (arith, times-first link links same))
      (λ (other : bytes_eq link.name name ≡ false). omega (arith, times-rest link links other, some-times links (ap (λ (o : Option ℕ). is_some o) (sym (number-rest link links other)) ∙ some)))
      (cases_true (bytes_eq link.name name))

-- ---- lists that are joined

unfoldable pub or_else : Option ℕ → Option ℕ → Option ℕ
or_else None y = y
or_else (Some x) y = Some x

pub or_none : (o : Option ℕ) → or_else o None ≡ o
unfolding or_else
or_none None = refl
or_none (Some n) = refl

pub number-append : (name : List ℕ) (xs ys : List Link) → number_of name (xs ++ ys) ≡ or_else (number_of name xs) (number_of name ys)
unfolding or_else
number-append name [] ys = refl
number-append name (x ∷ xs) ys = told (bytes_eq x.name name) (number-append name xs ys)
  where
    told : (b : Bool) → number_of name (xs ++ ys) ≡ or_else (number_of name xs) (number_of name ys)
        → (if b then Some x.number else number_of name (xs ++ ys)) ≡ or_else (if b then Some x.number else number_of name xs) (number_of name ys)
    told true later = refl
    told false later = later

-- ---- a name that is taken out

module _ (name : List ℕ) where
  without-first : (link : Link) (links : List Link) → bytes_eq link.name name ≡ true → without name (link ∷ links) ≡ links
  without-first link links same = rw same refl

  without-rest : (link : Link) (links : List Link) → bytes_eq link.name name ≡ false → without name (link ∷ links) ≡ link ∷ without name links
  without-rest link links other = rw other refl

  pub without-none : (links : List Link) → number_of name links ≡ None → without name links ≡ links
  without-none [] none = refl
  without-none (link ∷ links) none = ⊎_elim
      (λ (same : bytes_eq link.name name ≡ true). let some : Some link.number ≡ None = sym (number-first name link links same) ∙ none in absurd cc)
      (λ (other : bytes_eq link.name name ≡ false). without-rest link links other ∙ ap (λ (ls : List Link). link ∷ ls) (without-none links (sym (number-rest name link links other) ∙ none)))
      (cases_true (bytes_eq link.name name))

  pub times-without : (links : List Link) → is_some (number_of name links) ≡ true → times_named name (without name links) + 1 ≡ times_named name links
  times-without [] some = absurd cc
  times-without (link ∷ links) some = ⊎_elim
      (λ (same : bytes_eq link.name name ≡ true). omega (arith, ap (λ (ls : List Link). times_named name ls) (without-first link links same), times-first name link links same))
      (λ (other : bytes_eq link.name name ≡ false).
      let later = times-without links (ap (λ (o : Option ℕ). is_some o) (sym (number-rest name link links other)) ∙ some) in
      omega (arith, ap (λ (ls : List Link). times_named name ls) (without-rest link links other), times-rest name link (without name links) other, times-rest name link links other, later))
      (cases_true (bytes_eq link.name name))

  pub room-without : (links : List Link) → is_some (number_of name links) ≡ true → length (links_bytes (without name links)) + (length name + 3) ≡ length (links_bytes links)
  room-without [] some = absurd cc
  room-without (link ∷ links) some = ⊎_elim
      (λ (same : bytes_eq link.name name ≡ true).
      let size : length link.name ≡ length name = ap (λ (n : List ℕ). length n) ((bytes_eq-Decides link.name name).0 same) in
      omega (arith, ap (λ (ls : List Link). length (links_bytes ls)) (without-first link links same), length-links link links, size))
      (λ (other : bytes_eq link.name name ≡ false).
      let later = room-without links (ap (λ (o : Option ℕ). is_some o) (sym (number-rest name link links other)) ∙ some) in
      omega (arith, ap (λ (ls : List Link). length (links_bytes ls)) (without-rest link links other), length-links link (without name links), length-links link links, later))
      (cases_true (bytes_eq link.name name))

  module _ (other : List ℕ) (apart : other ≢ name) where
    not_both : (link : Link) → bytes_eq link.name name ≡ true → bytes_eq link.name other ≡ false
    not_both link same = other_name link.name other (λ is. apart (sym is ∙ (bytes_eq-Decides link.name name).0 same))

    pub number-without : (links : List Link) → number_of other (without name links) ≡ number_of other links
    number-without [] = refl
    number-without (link ∷ links) = ⊎_elim
        (λ (same : bytes_eq link.name name ≡ true). ap (number_of other) (without-first link links same) ∙ sym (number-rest other link links (not_both link same)))
        (λ (differs : bytes_eq link.name name ≡ false). ap (number_of other) (without-rest link links differs) ∙ beside (bytes_eq link.name other) (number-without links) refl)
        (cases_true (bytes_eq link.name name))
      where
        beside : (b : Bool) → number_of other (without name links) ≡ number_of other links → bytes_eq link.name other ≡ b → number_of other (link ∷ without name links) ≡ number_of other (link ∷ links)
        beside true later is = number-first other link (without name links) is ∙ sym (number-first other link links is)
        beside false later is = number-rest other link (without name links) is ∙ later ∙ sym (number-rest other link links is)

    pub times-kept : (links : List Link) → times_named other (without name links) ≡ times_named other links
    times-kept [] = refl
    times-kept (link ∷ links) = ⊎_elim
        (λ (same : bytes_eq link.name name ≡ true). omega (arith, ap (λ (ls : List Link). times_named other ls) (without-first link links same), times-rest other link links (not_both link same)))
        (λ (differs : bytes_eq link.name name ≡ false).
        omega (arith, ap (λ (ls : List Link). times_named other ls) (without-rest link links differs), times-append other (link ∷ []) (without name links), times-append other (link ∷ []) links, times-kept links))
        (cases_true (bytes_eq link.name name))

-- ---- the link that is to be there

module _ (name : List ℕ) where
  pub number-numbered : (number : Option ℕ) → number_of name (numbered name number) ≡ number
  number-numbered None = refl
  number-numbered (Some n) = number-first name (record { number = n; name = name }) [] (same_name name name refl)

  pub times-numbered : (number : Option ℕ) → times_named name (numbered name number) ≤ 1
  times-numbered None = omega arith
  times-numbered (Some n) = omega (arith, times-same name (record { number = n; name = name }) (same_name name name refl))

  module _ (other : List ℕ) (apart : other ≢ name) where
    pub number-unnumbered : (number : Option ℕ) → number_of other (numbered name number) ≡ None
    number-unnumbered None = refl
    number-unnumbered (Some n) = number-rest other (record { number = n; name = name }) [] (other_name name other (λ same. apart (sym same)))

    pub times-unnumbered : (number : Option ℕ) → times_named other (numbered name number) ≡ 0
    times-unnumbered None = refl
    times-unnumbered (Some n) = times-other other (record { number = n; name = name }) (other_name name other (λ same. apart (sym same)))
