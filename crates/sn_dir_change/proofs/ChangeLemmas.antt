-- Lists of changes of different names, one of which is taken out.
use Rattle.std.proofs.Common.{◌≡◌, ◌≢◌, ◌⊎◌, inl, inr, ⊎_elim, ℕ, zero, suc, ◌+◌, ◌-◌, ◌<◌, false, cond, List, [], ◌∷◌, ◌++◌, length, take, drop, get_or, refl, sym, ap, subst, ◌∙◌, arith}
use Rattle.std.specs.Prelude.{All, Contains}
use Rattle.std.specs.Str.{bytes_eq}
use Rattle.std.specs.Ordering.{nat_cmp}
use Rattle.std.specs.declared.cmp.Ordering.TheVariants.{Less, Equal}
use Rattle.std.specs.Cmp.Lexicographic.{slice_cmp}
use Rattle.std.proofs.lemmas.Bool.{true≢false}
use Rattle.std.proofs.lemmas.Cmp.{nat_list_cmp_total, tied_itself}
use Rattle.std.proofs.lemmas.List.{get_or_default, take_more}
use Rattle.std.proofs.lemmas.List.Elements.{All-head, All-tail, All-more, Contains-append_cases, Contains-append_left, Contains-append_right, Contains-get_or, Contains-push_cases}
use Rattle.sn_image.proofs.ListLemmas.{count-append}
use Rattle.sn_dir_change.specs.Changes.{AreLinkChanges, IsChange}
use Rattle.sn_dir_change.specs.UnderWay.{AreApart, times_changed}
use Rattle.sn_dir_change.specs.declared.name_change.NameChange.{NameChange}
use Rattle.sn_dir_change.proofs.NameLemmas.{same_name, other_name, cases_name}

-- ---- what a list has

module _ {X : Type 0} where
  pub first_there : (x : X) (xs : List X) → Contains (x ∷ xs) x
  first_there x xs = (0, omega arith, refl)

  pub more_there : (x : X) (xs : List X) (y : X) → Contains xs y → Contains (x ∷ xs) y
  more_there x xs y (k, within, is) = (suc k, omega arith, is)

  pub cases_there : (x : X) (xs : List X) (y : X) → Contains (x ∷ xs) y → (y ≡ x) ⊎ Contains xs y
  cases_there x xs y (zero, within, is) = inl (sym is)
  cases_there x xs y (suc k, within, is) = inr (k, omega arith, is)

  -- an element with what is before and after it
  pub split_at : (xs : List X) (k : ℕ) (d : X) → k < length xs → xs ≡ take k xs ++ get_or xs k d ∷ drop (suc k) xs
  split_at [] k d within = absurd (omega (arith, within))
  split_at (x ∷ xs) zero d within = refl
  split_at (x ∷ xs) (suc k) d within = ap (λ (ys : List X). x ∷ ys) (split_at xs k d (omega (arith, within)))

  pub rest_there : (front back : List X) (x y : X) → Contains (front ++ back) y → Contains (front ++ x ∷ back) y
  rest_there front back x y there = ⊎_elim
      (λ (left : Contains front y). Contains-append_left front (x ∷ back) y left)
      (λ (right : Contains back y). Contains-append_right front (x ∷ back) y (more_there x back y right))
      (Contains-append_cases front back y there)

  pub it_there : (front back : List X) (x : X) → Contains (front ++ x ∷ back) x
  it_there front back x = Contains-append_right front (x ∷ back) x (first_there x back)

  pub one_or_rest : (front back : List X) (x y : X) → Contains (front ++ x ∷ back) y → (y ≡ x) ⊎ Contains (front ++ back) y
  one_or_rest front back x y there = ⊎_elim
      (λ (left : Contains front y). inr (Contains-append_left front back y left))
      (λ (right : Contains (x ∷ back) y). ⊎_elim
      (λ (same : y ≡ x). inl same)
      (λ (more : Contains back y). inr (Contains-append_right front back y more))
      (cases_there x back y right))
      (Contains-append_cases front (x ∷ back) y there)

-- ---- how often a name is to change

module _ (name : List ℕ) where
  pub times_joined : (xs ys : List NameChange) → times_changed name (xs ++ ys) ≡ times_changed name xs + times_changed name ys
  times_joined xs ys = count-append (λ (change : NameChange). bytes_eq change.name.now name) xs ys

  times-same : (change : NameChange) → change.name.now ≡ name → times_changed name (change ∷ []) ≡ 1
  times-same change same = ap (λ b. 0 + cond b 1 0) (same_name change.name.now name same)

  times-not : (change : NameChange) → change.name.now ≢ name → times_changed name (change ∷ []) ≡ 0
  times-not change other = ap (λ b. 0 + cond b 1 0) (other_name change.name.now name other)

  absent : (xs : List NameChange) → All (λ (c : NameChange). c.name.now ≢ name) xs → times_changed name xs ≡ 0
  absent [] all = refl
  absent (x ∷ xs) all = omega (arith, times_joined (x ∷ []) xs, times-not x (All-head (λ (c : NameChange). c.name.now ≢ name) x xs all), absent xs (All-tail (λ (c : NameChange). c.name.now ≢ name) x xs all))

  times-there : (xs : List NameChange) (change : NameChange) → Contains xs change → change.name.now ≡ name → 0 < times_changed name xs
  times-there [] change (k, within, is) same = absurd (omega (arith, within))
  times-there (x ∷ xs) change there same = ⊎_elim
      (λ (first : change ≡ x). omega (arith, times_joined (x ∷ []) xs, times-same x (ap (λ (c : NameChange). c.name.now) (sym first) ∙ same)))
      (λ (more : Contains xs change). omega (arith, times_joined (x ∷ []) xs, times-there xs change more same))
      (cases_there x xs change there)

-- ---- one that is taken out

module _ (front back : List NameChange) (change : NameChange) (apart : AreApart (front ++ change ∷ back)) where
  pub apart_rest : AreApart (front ++ back)
  apart_rest name = omega (arith, apart name, times_joined name front (change ∷ back), times_joined name (change ∷ []) back, times_joined name front back)

  -- the others are of other names
  pub other_change : (other : NameChange) → Contains (front ++ back) other → other.name.now ≢ change.name.now
  other_change other there same =
      let name = change.name.now in
      omega (arith, apart name, times_joined name front (change ∷ back), times_joined name (change ∷ []) back, times_joined name front back, times-same name change refl, times-there name (front ++ back) other there same)

-- a name has one change
pub one_change : (changes : List NameChange) → AreApart changes → (a b : NameChange) → Contains changes a → Contains changes b → a.name.now ≡ b.name.now → a ≡ b
one_change [] apart a b (k, within, is) there same = absurd (omega (arith, within))
one_change (x ∷ xs) apart a b left right same = ⊎_elim
    (λ (first : a ≡ x). ⊎_elim
    (λ (second : b ≡ x). first ∙ sym second)
    (λ (more : Contains xs b). absurd (twice b more (sym same ∙ ap (λ (c : NameChange). c.name.now) first)))
    (cases_there x xs b right))
    (λ (more : Contains xs a). ⊎_elim
    (λ (second : b ≡ x). absurd (twice a more (same ∙ ap (λ (c : NameChange). c.name.now) second)))
    (λ (both : Contains xs b). one_change xs (apart_rest [] xs x apart) a b more both same)
    (cases_there x xs b right))
    (cases_there x xs a left)
  where
    twice : (c : NameChange) → Contains xs c → c.name.now ≡ x.name.now → ⊥
    twice c more is = other_change [] xs x apart c more is

-- ---- changes that are looked at one after the other

pub new_more : (list : List NameChange) (k : ℕ) (d : NameChange) (name : List ℕ) → k < length list → All (λ (c : NameChange). c.name.now ≢ name) (take k list) → bytes_eq (get_or list k d).name.now name ≡ false
    → All (λ (c : NameChange). c.name.now ≢ name) (take (k + 1) list)
new_more list k d name within all other =
    All-more (λ (c : NameChange). c.name.now ≢ name) list k d within all (λ same. true≢false (sym (same_name (get_or list k d).name.now name same) ∙ other))

module _ (list : List NameChange) (k : ℕ) (d : NameChange) (within : k < length list) where
  pub apart_more : AreApart (take k list) → All (λ (c : NameChange). c.name.now ≢ (get_or list k d).name.now) (take k list) → AreApart (take (k + 1) list)
  apart_more all new =
      let change = get_or list k d in
      subst AreApart (sym (take_more list k d within)) (λ name. ⊎_elim
      (λ (same : change.name.now ≡ name). omega (arith, times_joined name (take k list) (change ∷ []), times-same name change same, absent name (take k list) (subst (λ (n : List ℕ). All (λ (c : NameChange). c.name.now ≢ n) (take k list)) same new)))
      (λ (other : change.name.now ≢ name). omega (arith, times_joined name (take k list) (change ∷ []), all name, times-not name change other))
      (cases_name change.name.now name))

  -- one of a name that was there
  pub changes_apart : AreApart list → All (λ (c : NameChange). c.name.now ≢ (get_or list k d).name.now) (take k list)
  changes_apart all j e low =
      let split = split_at list k d within in
      let apart = subst AreApart split all in
      other_change (take k list) (drop (suc k) list) (get_or list k d) apart (get_or (take k list) j e) (Contains-append_left (take k list) (drop (suc k) list) (get_or (take k list) j e) (Contains-get_or (take k list) j e low))

  pub link_changes_more : AreLinkChanges (take k list) → IsChange (get_or list k d) → AreLinkChanges (take (k + 1) list)
  link_changes_more all is =
      let change = get_or list k d in
      subst AreLinkChanges (sym (take_more list k d within)) (λ c there. ⊎_elim
      (λ (old : Contains (take k list) c). all c old)
      (λ (last : change ≡ c). subst IsChange last is)
      (Contains-push_cases (take k list) change c there))

-- ---- names that rise

not_itself : (a b : NameChange) → slice_cmp nat_cmp a.name.now b.name.now ≡ Less → a.name.now ≢ b.name.now
not_itself a b less same =
    let equal : slice_cmp nat_cmp a.name.now b.name.now ≡ Equal = ap (λ (n : List ℕ). slice_cmp nat_cmp a.name.now n) (sym same) ∙ tied_itself nat_list_cmp_total a.name.now in
    let never : Less ≡ Equal = sym less ∙ equal in absurd cc

-- each name that comes later is greater
first_less : (c : NameChange) (cs : List NameChange) → ((j : ℕ) (d : NameChange) → suc j < length (c ∷ cs) → slice_cmp nat_cmp (get_or (c ∷ cs) j d).name.now (get_or (c ∷ cs) (suc j) d).name.now ≡ Less)
    → (k : ℕ) (d : NameChange) → k < length cs → slice_cmp nat_cmp c.name.now (get_or cs k d).name.now ≡ Less
first_less c [] rise k d within = absurd (omega (arith, within))
first_less c (x ∷ xs) rise zero d within = rise zero d (omega arith)
first_less c (x ∷ xs) rise (suc k) d within =
    nat_list_cmp_total.trans c.name.now x.name.now (get_or xs k d).name.now (rise zero d (omega arith)) (first_less x xs (λ j e low. rise (suc j) e (omega (arith, low))) k d (omega (arith, within)))

pub rise_apart : (cs : List NameChange) → ((j : ℕ) (d : NameChange) → suc j < length cs → slice_cmp nat_cmp (get_or cs j d).name.now (get_or cs (suc j) d).name.now ≡ Less) → AreApart cs
rise_apart [] rise name = omega arith
rise_apart (c ∷ cs) rise name =
    let rest = rise_apart cs (λ j d low. rise (suc j) d (omega (arith, low))) name in
    ⊎_elim
    (λ (same : c.name.now ≡ name).
    let none : All (λ (x : NameChange). x.name.now ≢ name) cs = (λ k d within is. not_itself c (get_or cs k d) (first_less c cs rise k d within) (same ∙ sym is)) in
    omega (arith, times_joined name (c ∷ []) cs, times-same name c same, absent name cs none))
    (λ (other : c.name.now ≢ name). omega (arith, times_joined name (c ∷ []) cs, times-not name c other, rest))
    (cases_name c.name.now name)

-- one more that comes before the next
pub rise_more : (cs : List NameChange) (i j : ℕ) (d e : NameChange) → suc j ≡ i → i < length cs → slice_cmp nat_cmp (get_or cs (i - 1) e).name.now (get_or cs i e).name.now ≡ Less
    → slice_cmp nat_cmp (get_or cs j d).name.now (get_or cs (suc j) d).name.now ≡ Less
rise_more cs i j d e at within less =
    let before : j ≡ i - 1 = omega (arith, at) in
    let one : get_or cs j d ≡ get_or cs (i - 1) e = get_or_default cs j d e (omega (arith, at, within)) ∙ ap (λ k. get_or cs k e) before in
    let other : get_or cs (suc j) d ≡ get_or cs i e = get_or_default cs (suc j) d e (omega (arith, at, within)) ∙ ap (λ k. get_or cs k e) at in
    ap (λ (x : NameChange). slice_cmp nat_cmp x.name.now (get_or cs (suc j) d).name.now) one ∙ ap (λ (x : NameChange). slice_cmp nat_cmp (get_or cs (i - 1) e).name.now x.name.now) other ∙ less
