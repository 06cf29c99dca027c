-- Two sorted lists of entries, the one merged over the other.
use Rattle.std.proofs.Common.{◌≡◌, Bool, true, false, cond, ◌&&◌, List, [], ◌∷◌, Option, None, Some, refl, sym, ap, ◌∙◌}
use Rattle.std.specs.declared.cmp.Ordering.{Ordering}
use Rattle.std.specs.declared.cmp.Ordering.TheVariants.{Less, Equal, Greater}
use Rattle.std.specs.Cmp.{IsTotalOrder, tied_itself}
use Rattle.std.specs.FinMap.Entries.{below_all, by_order, find, is_sorted}
use Rattle.std.specs.List.{AllByRecursion}
use Rattle.std.specs.Option.{unwrap_or}
use Rattle.std.specs.Ordering.{eq_by_cmp, is_eq, is_lt, ordering_reverse}
use Rattle.std.proofs.lemmas.Bool.{and_parts, true≢false}
use Rattle.std.proofs.lemmas.Cmp.{alike_right}
use Rattle.sn_live_files.specs.Listing.{merged, one_merged, set_all, set_first}

both : (a b : Bool) → a ≡ true → b ≡ true → (a && b) ≡ true
both true b p q = q
both false b p q = p

lesser : (r : Ordering) → is_lt r ≡ true → r ≡ Less
lesser Less h = refl
lesser Equal h = absurd (true≢false (sym h))
lesser Greater h = absurd (true≢false (sym h))

equal : (r : Ordering) → is_eq r ≡ true → r ≡ Equal
equal Less h = absurd (true≢false (sym h))
equal Equal h = refl
equal Greater h = absurd (true≢false (sym h))

-- ---- keys below all of a list

module _ {K X : Type 0} {R : K → K → Ordering} (o : IsTotalOrder R) where
  below_less : (x y : K) (es : List (K × X)) → R x y ≡ Less → below_all R y es ≡ true → below_all R x es ≡ true
  below_less x y [] p h = refl
  below_less x y (e ∷ es) p h =
      let parts = and_parts (is_lt (R y e.0)) (below_all R y es) h in
      both (is_lt (R x e.0)) (below_all R x es) (ap is_lt (o.trans x y e.0 p (lesser (R y e.0) parts.0))) (below_less x y es p parts.1)

  below_tied : (x y : K) (es : List (K × X)) → R x y ≡ Equal → below_all R y es ≡ true → below_all R x es ≡ true
  below_tied x y [] p h = refl
  below_tied x y (e ∷ es) p h =
      let parts = and_parts (is_lt (R y e.0)) (below_all R y es) h in
      both (is_lt (R x e.0)) (below_all R x es) (ap is_lt (o.congr x y e.0 p) ∙ parts.0) (below_tied x y es p parts.1)

  find-below : (x : K) (es : List (K × X)) → below_all R x es ≡ true → find R x es ≡ None
  find-below x [] h = refl
  find-below x (e ∷ es) h =
      let parts = and_parts (is_lt (R x e.0)) (below_all R x es) h in
      ap (λ r. cond (is_eq r) (Some e.1) (find R x es)) (lesser (R x e.0) parts.0) ∙ find-below x es parts.1

  -- what holds of each value that is found holds of each entry
  pub each_entry : (es : List (K × X)) (P : K × X → Type 0) → is_sorted R es ≡ true → ((k : K) (v : X) → find R k es ≡ Some v → P (k, v)) → AllByRecursion P es
  each_entry [] P h told = tt
  each_entry (e ∷ es) P h told =
      let itself = ap (λ r. cond (is_eq r) (Some e.1) (find R e.0 es)) (tied_itself o e.0) in
      (told e.0 e.1 itself, each_entry es P parts.1 (λ k v found. told k v (later k v (eq_by_cmp R k e.0) refl found)))
    where
      parts : (below_all R e.0 es ≡ true) × (is_sorted R es ≡ true)
      parts = and_parts (below_all R e.0 es) (is_sorted R es) h

      later : (k : K) (v : X) (b : Bool) → eq_by_cmp R k e.0 ≡ b → find R k es ≡ Some v → cond b (Some e.1) (find R k es) ≡ Some v
      later k v true t found =
          let none : None ≡ Some v = sym (find-below k es (below_tied k e.0 es (equal (R k e.0) t) parts.0)) ∙ found in
          absurd cc
      later k v false t found = found

-- ---- what is merged

abbrev Rest : Type 0 → Type 0 → Type 0
Rest K X = List (K × Option X) → List (K × X)

module _ {K X : Type 0} {R : K → K → Ordering} (o : IsTotalOrder R) where
  below-set_first : (x : K) (c : K × Option X) (rest : List (K × X)) → is_lt (R x c.0) ≡ true → below_all R x rest ≡ true → below_all R x (set_first c rest) ≡ true
  unfolding set_first
  below-set_first x (key, Some value) rest p h = both (is_lt (R x key)) (below_all R x rest) p h
  below-set_first x (key, None) rest p h = h

  below-set_all : (x : K) (cs : List (K × Option X)) → below_all R x cs ≡ true → below_all R x (set_all cs) ≡ true
  unfolding set_all
  below-set_all x [] h = refl
  below-set_all x (c ∷ cs) h =
      let parts = and_parts (is_lt (R x c.0)) (below_all R x cs) h in
      below-set_first x c (set_all cs) parts.0 (below-set_all x cs parts.1)

  below-one : (x : K) (b : K × X) (on : Rest K X) → is_lt (R x b.0) ≡ true → ((ds : List (K × Option X)) → below_all R x ds ≡ true → below_all R x (on ds) ≡ true)
      → (cs : List (K × Option X)) → below_all R x cs ≡ true → below_all R x (one_merged R b on cs) ≡ true
  unfolding one_merged
  below-one x b on p h [] g = both (is_lt (R x b.0)) (below_all R x (on [])) p (h [] refl)
  below-one x b on p h (c ∷ cs) g =
      let parts = and_parts (is_lt (R x c.0)) (below_all R x cs) g in
      elim (R c.0 b.0) as (λ r. below_all R x (by_order r (set_first c (one_merged R b on cs)) (set_first c (on cs)) (b ∷ on (c ∷ cs))) ≡ true) [
        | Less ↦ below-set_first x c (one_merged R b on cs) parts.0 (below-one x b on p h cs parts.1)
        | Equal ↦ below-set_first x c (on cs) parts.0 (h cs parts.1)
        | Greater ↦ both (is_lt (R x b.0)) (below_all R x (on (c ∷ cs))) p (h (c ∷ cs) g)
      ]

  below-merged : (x : K) (cs : List (K × Option X)) (bs : List (K × X)) → below_all R x cs ≡ true → below_all R x bs ≡ true → below_all R x (merged R cs bs) ≡ true
  unfolding merged
  below-merged x cs [] g h = below-set_all x cs g
  below-merged x cs (b ∷ bs) g h =
      let parts = and_parts (is_lt (R x b.0)) (below_all R x bs) h in
      below-one x b (λ ds. merged R ds bs) parts.0 (λ ds k. below-merged x ds bs k parts.1) cs g

  -- ---- it is sorted

  sorted-set_first : (c : K × Option X) (rest : List (K × X)) → below_all R c.0 rest ≡ true → is_sorted R rest ≡ true → is_sorted R (set_first c rest) ≡ true
  unfolding set_first
  sorted-set_first (key, Some value) rest p h = both (below_all R key rest) (is_sorted R rest) p h
  sorted-set_first (key, None) rest p h = h

  sorted-set_all : (cs : List (K × Option X)) → is_sorted R cs ≡ true → is_sorted R (set_all cs) ≡ true
  unfolding set_all
  sorted-set_all [] h = refl
  sorted-set_all (c ∷ cs) h =
      let parts = and_parts (below_all R c.0 cs) (is_sorted R cs) h in
      sorted-set_first c (set_all cs) (below-set_all c.0 cs parts.0) (sorted-set_all cs parts.1)

  -- one entry below and those after it
  module _ (b : K × X) (bs : List (K × X)) (first : below_all R b.0 bs ≡ true) where
    abbrev on : Rest K X
    on = λ ds. merged R ds bs

    below_both : (x : K) → R x b.0 ≡ Less → (ds : List (K × Option X)) → below_all R x ds ≡ true → below_all R x (on ds) ≡ true
    below_both x p ds g = below-merged x ds bs g (below_less o x b.0 bs p first)

    before : (c : K × Option X) (cs : List (K × Option X)) → R c.0 b.0 ≡ Less → below_all R c.0 cs ≡ true → below_all R c.0 (one_merged R b on cs) ≡ true
    before c cs p g = below-one c.0 b on (ap is_lt p) (below_both c.0 p) cs g

    at_it : (c : K × Option X) (cs : List (K × Option X)) → R c.0 b.0 ≡ Equal → below_all R c.0 cs ≡ true → below_all R c.0 (on cs) ≡ true
    at_it c cs p g = below-merged c.0 cs bs g (below_tied o c.0 b.0 bs p first)

    behind : (c : K × Option X) (cs : List (K × Option X)) → R c.0 b.0 ≡ Greater → below_all R c.0 cs ≡ true → below_all R b.0 (c ∷ cs) ≡ true
    behind c cs p g =
        let less : R b.0 c.0 ≡ Less = o.antisymm b.0 c.0 ∙ ap ordering_reverse p in
        both (is_lt (R b.0 c.0)) (below_all R b.0 cs) (ap is_lt less) (below_less o b.0 c.0 cs less g)

    sorted-one : ((ds : List (K × Option X)) → is_sorted R ds ≡ true → is_sorted R (on ds) ≡ true) → (cs : List (K × Option X)) → is_sorted R cs ≡ true → is_sorted R (one_merged R b on cs) ≡ true
    unfolding one_merged
    sorted-one rest [] h = both (below_all R b.0 (on [])) (is_sorted R (on [])) (below-merged b.0 [] bs refl first) (rest [] refl)
    sorted-one rest (c ∷ cs) h =
        let parts = and_parts (below_all R c.0 cs) (is_sorted R cs) h in
        elim (R c.0 b.0) as (λ r. R c.0 b.0 ≡ r → is_sorted R (by_order r (set_first c (one_merged R b on cs)) (set_first c (on cs)) (b ∷ on (c ∷ cs))) ≡ true) [
          | Less ↦ λ p. sorted-set_first c (one_merged R b on cs) (before c cs p parts.0) (sorted-one rest cs parts.1)
          | Equal ↦ λ p. sorted-set_first c (on cs) (at_it c cs p parts.0) (rest cs parts.1)
          | Greater ↦ λ p. both (below_all R b.0 (on (c ∷ cs))) (is_sorted R (on (c ∷ cs))) (below-merged b.0 (c ∷ cs) bs (behind c cs p parts.0) first) (rest (c ∷ cs) h)
        ] refl

  pub sorted-merged : (cs : List (K × Option X)) (bs : List (K × X)) → is_sorted R cs ≡ true → is_sorted R bs ≡ true → is_sorted R (merged R cs bs) ≡ true
  unfolding merged
  sorted-merged cs [] g h = sorted-set_all cs g
  sorted-merged cs (b ∷ bs) g h =
      let parts = and_parts (below_all R b.0 bs) (is_sorted R bs) h in
      sorted-one b bs parts.0 (λ ds k. sorted-merged ds bs k parts.1) cs g

  -- ---- what it has at a key

  found-tied : (b : Bool) (c : K × Option X) (q : K) (rest : List (K × X)) → eq_by_cmp R q c.0 ≡ b → below_all R c.0 rest ≡ true → cond b None (find R q rest) ≡ find R q rest
  found-tied true c q rest t h = sym (find-below o q rest (below_tied o q c.0 rest (equal (R q c.0) t) h))
  found-tied false c q rest t h = refl

  find-set_first : (c : K × Option X) (rest : List (K × X)) (q : K) → below_all R c.0 rest ≡ true → find R q (set_first c rest) ≡ cond (eq_by_cmp R q c.0) c.1 (find R q rest)
  unfolding set_first
  find-set_first (key, Some value) rest q h = refl
  find-set_first (key, None) rest q h = sym (found-tied (eq_by_cmp R q key) (key, None) q rest refl h)

  unwrap-cond : (b : Bool) (v : Option X) (f : Option (Option X)) (below : Option X) → cond b v (unwrap_or f below) ≡ unwrap_or (cond b (Some v) f) below
  unwrap-cond true v f below = refl
  unwrap-cond false v f below = refl

  find-set_all : (cs : List (K × Option X)) (q : K) → is_sorted R cs ≡ true → find R q (set_all cs) ≡ unwrap_or (find R q cs) None
  unfolding set_all
  find-set_all [] q h = refl
  find-set_all (c ∷ cs) q h =
      let parts = and_parts (below_all R c.0 cs) (is_sorted R cs) h in
      find-set_first c (set_all cs) q (below-set_all c.0 cs parts.0)
      ∙ ap (cond (eq_by_cmp R q c.0) c.1) (find-set_all cs q parts.1)
      ∙ unwrap-cond (eq_by_cmp R q c.0) c.1 (find R q cs) None

  module _ (b : K × X) (bs : List (K × X)) (first : below_all R b.0 bs ≡ true) (q : K) where
    abbrev here : Bool
    here = eq_by_cmp R q b.0

    same_key : (t : Bool) (v : Option X) (f : Option (Option X)) → cond t v (unwrap_or f (find R q bs)) ≡ unwrap_or (cond t (Some v) f) (cond t (Some b.1) (find R q bs))
    same_key true v f = refl
    same_key false v f = refl

    behind_it : (t : Bool) (cs : List (K × Option X)) → here ≡ t → below_all R b.0 cs ≡ true → cond t (Some b.1) (unwrap_or (find R q cs) (find R q bs)) ≡ unwrap_or (find R q cs) (cond t (Some b.1) (find R q bs))
    behind_it true cs t g = ap (λ f. unwrap_or f (Some b.1)) (sym (find-below o q cs (below_tied o q b.0 cs (equal (R q b.0) t) g)))
    behind_it false cs t g = refl

    find-one : ((ds : List (K × Option X)) → is_sorted R ds ≡ true → find R q (merged R ds bs) ≡ unwrap_or (find R q ds) (find R q bs))
        → (cs : List (K × Option X)) → is_sorted R cs ≡ true → find R q (one_merged R b (λ ds. merged R ds bs) cs) ≡ unwrap_or (find R q cs) (find R q (b ∷ bs))
    unfolding one_merged
    find-one rest [] h = ap (cond here (Some b.1)) (rest [] refl)
    find-one rest (c ∷ cs) h =
        let parts = and_parts (below_all R c.0 cs) (is_sorted R cs) h in
        let all = λ (ds : List (K × Option X)). merged R ds bs in
        elim (R c.0 b.0) as (λ r. R c.0 b.0 ≡ r → find R q (by_order r (set_first c (one_merged R b all cs)) (set_first c (all cs)) (b ∷ all (c ∷ cs))) ≡ unwrap_or (find R q (c ∷ cs)) (find R q (b ∷ bs))) [
          | Less ↦ λ p. find-set_first c (one_merged R b all cs) q (before b bs first c cs p parts.0)
              ∙ ap (cond (eq_by_cmp R q c.0) c.1) (find-one rest cs parts.1)
              ∙ unwrap-cond (eq_by_cmp R q c.0) c.1 (find R q cs) (find R q (b ∷ bs))
          | Equal ↦ λ p.
              let tie : eq_by_cmp R q c.0 ≡ here = ap is_eq (alike_right o c.0 b.0 q p) in
              find-set_first c (all cs) q (at_it b bs first c cs p parts.0)
              ∙ ap (cond (eq_by_cmp R q c.0) c.1) (rest cs parts.1)
              ∙ same_key (eq_by_cmp R q c.0) c.1 (find R q cs)
              ∙ ap (λ t. unwrap_or (find R q (c ∷ cs)) (cond t (Some b.1) (find R q bs))) tie
          | Greater ↦ λ p. ap (cond here (Some b.1)) (rest (c ∷ cs) h) ∙ behind_it here (c ∷ cs) refl (behind b bs first c cs p parts.0)
        ] refl

  pub find-merged : (cs : List (K × Option X)) (bs : List (K × X)) (q : K) → is_sorted R cs ≡ true → is_sorted R bs ≡ true → find R q (merged R cs bs) ≡ unwrap_or (find R q cs) (find R q bs)
  unfolding merged
  find-merged cs [] q g h = find-set_all cs q g
  find-merged cs (b ∷ bs) q g h =
      let parts = and_parts (below_all R b.0 bs) (is_sorted R bs) h in
      find-one b bs parts.0 q (λ ds k. find-merged ds bs q k parts.1) cs g

-- ---- one change

module _ {K X : Type 0} where
  pub set_first-none : (c : K × Option X) (rest : List (K × X)) → c.1 ≡ None → set_first c rest ≡ rest
  unfolding set_first
  set_first-none c rest e = ap (λ (v : Option X). set_first (c.0, v) rest) e

  pub set_first-some : (c : K × Option X) (value : X) (rest : List (K × X)) → c.1 ≡ Some value → set_first c rest ≡ (c.0, value) ∷ rest
  unfolding set_first
  set_first-some c value rest e = ap (λ (v : Option X). set_first (c.0, v) rest) e

module _ {K X : Type 0} (R : K → K → Ordering) (b : K × X) (on : Rest K X) where
  pub one-less : (c : K × Option X) (cs : List (K × Option X)) → R c.0 b.0 ≡ Less → one_merged R b on (c ∷ cs) ≡ set_first c (one_merged R b on cs)
  unfolding one_merged
  one-less c cs p = ap (λ r. by_order r (set_first c (one_merged R b on cs)) (set_first c (on cs)) (b ∷ on (c ∷ cs))) p

  pub one-equal : (c : K × Option X) (cs : List (K × Option X)) → R c.0 b.0 ≡ Equal → one_merged R b on (c ∷ cs) ≡ set_first c (on cs)
  unfolding one_merged
  one-equal c cs p = ap (λ r. by_order r (set_first c (one_merged R b on cs)) (set_first c (on cs)) (b ∷ on (c ∷ cs))) p

  pub one-greater : (c : K × Option X) (cs : List (K × Option X)) → R c.0 b.0 ≡ Greater → one_merged R b on (c ∷ cs) ≡ b ∷ on (c ∷ cs)
  unfolding one_merged
  one-greater c cs p = ap (λ r. by_order r (set_first c (one_merged R b on cs)) (set_first c (on cs)) (b ∷ on (c ∷ cs))) p

  pub one-none : one_merged R b on [] ≡ b ∷ on []
  unfolding one_merged
  one-none = refl
