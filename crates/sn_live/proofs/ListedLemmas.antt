-- The files without names, listed number by number.
use Rattle.std.proofs.Common.{◌≡◌, ◌≢◌, ◌⊎◌, inl, inr, ℕ, zero, suc, ◌+◌, ◌<◌, ◌↔◌, Bool, true, false, not, ◌&&◌, ◌||◌, cond, List, [], ◌∷◌, ◌++◌, Option, Some, None, Contains, get_or, is_none, is_some, nat_lt, length, refl, sym, ap, subst, ◌∙◌, arith, true≢false, ltb-true, ltb-false}
use Rattle.std.specs.Prelude.{AllPairs}
use Rattle.std.specs.FinMap as map
use Rattle.std.proofs.lemmas.List.{map-append}
use Rattle.std.proofs.lemmas.List.Elements.{Contains-append_left, Contains-get_or, Contains-push, Contains-push_cases}
use Rattle.std.proofs.lemmas.List.Quantifiers.{all_pairs_push}
use Rattle.sn_limits.specs.Versions.{limits_written}
use Rattle.sn_model.specs.NameTree.{IsTree}
use Rattle.sn_model.specs.Settling.{is_nameless, nameless_in, settled}
use Rattle.sn_model.specs.Tree.{Node, Tree}
use Rattle.sn_model.proofs.SettlingLemmas.{get_without}
use Rattle.sn_overlay_change.proofs.NamelessLemmas.{drops_are_counted}
use Rattle.sn_changed.specs.declared.dropped.DroppedFile.{DroppedFile}
use Rattle.sn_changed.specs.Dropped.{TellsGone, is_gone, numbers_of}
use Rattle.sn_live.specs.Unnamed.{GoWithNames, listed_if}
use Rattle.sn_live.proofs.BareLemmas.{bare_at}

-- They are those that are listed and below a number.
pub record AreListed (listed : ℕ → Bool) (below : ℕ) (files : List DroppedFile) : Type 0 where
  pub each : (n : ℕ) → Contains (numbers_of files) n ↔ ((n < below) × (listed n ≡ true))
  pub once : AllPairs ◌≢◌ (numbers_of files)
  pub named : GoWithNames files

pub none_named : GoWithNames []
none_named k other within = absurd (omega (arith, within))

pub none_listed : (listed : ℕ → Bool) → AreListed listed 0 []
none_listed listed = record {
  each = λ n. (λ c. absurd (omega (arith, c.1)), λ e. absurd (omega (arith, e.0)));
  once = λ i j d low high. absurd (omega (arith, high));
  named = none_named;
}

-- none of all, where none is counted
pub none_counted : (tree : Tree) → nameless_in tree ≡ 0 → AreListed (bare_at tree) 65536 []
none_counted tree none = record {
  each = λ n. (λ c. absurd (omega (arith, c.1)), λ e. absurd (let one = drops_are_counted tree n e.1 in omega (arith, one, none)));
  once = λ i j d low high. absurd (omega (arith, high));
  named = none_named;
}

-- a number that isn't one
one_passed : (listed : ℕ → Bool) (k : ℕ) (files : List DroppedFile) → listed k ≡ false → AreListed listed k files → AreListed listed (k + 1) files
one_passed listed k files is_not so_far = record {
  each = λ n. (λ c. let e = (so_far.each n).0 c in (omega (arith, e.0), e.1), λ e. (so_far.each n).1 (below n e.0 e.1 (nat_lt n k) refl, e.1));
  once = so_far.once;
  named = so_far.named;
}
  where
    below : (n : ℕ) → n < k + 1 → listed n ≡ true → (b : Bool) → nat_lt n k ≡ b → n < k
    below n within is true t = ltb-true n k t
    below n within is false t =
        let last : n ≡ k = omega (arith, within, ltb-false n k t) in
        absurd (true≢false (sym is ∙ ap listed last ∙ is_not))

-- a number that is one
one_listed : (listed : ℕ → Bool) (k : ℕ) (files : List DroppedFile) → listed k ≡ true → AreListed listed k files → AreListed listed (k + 1) (files ++ record { number = k; by_close = false } ∷ [])
one_listed listed k files is so_far = record {
  each = λ n. (λ c. to n (Contains-push_cases (numbers_of files) k n (subst (λ (xs : List ℕ). Contains xs n) numbers c)), λ e. subst (λ (xs : List ℕ). Contains xs n) (sym numbers) (from n e.0 e.1 (nat_lt n k) refl));
  once = subst (AllPairs ◌≢◌) (sym numbers) (all_pairs_push ◌≢◌ (numbers_of files) k so_far.once is_new);
  named = named_more files so_far.named;
}
  where
    numbers : numbers_of (files ++ record { number = k; by_close = false } ∷ []) ≡ numbers_of files ++ k ∷ []
    numbers = map-append (λ (f : DroppedFile). f.number) files (record { number = k; by_close = false } ∷ [])

    to : (n : ℕ) → Contains (numbers_of files) n ⊎ (k ≡ n) → (n < k + 1) × (listed n ≡ true)
    to n (inl before) = let e = (so_far.each n).0 before in (omega (arith, e.0), e.1)
    to n (inr same) = (omega (arith, same), ap listed (sym same) ∙ is)

    from : (n : ℕ) → n < k + 1 → listed n ≡ true → (b : Bool) → nat_lt n k ≡ b → Contains (numbers_of files ++ k ∷ []) n
    from n within e true t = Contains-append_left (numbers_of files) (k ∷ []) n ((so_far.each n).1 (ltb-true n k t, e))
    from n within e false t =
        let last : k ≡ n = omega (arith, within, ltb-false n k t) in
        subst (λ (m : ℕ). Contains (numbers_of files ++ k ∷ []) m) last (Contains-push (numbers_of files) k)

    is_new : (i d : ℕ) → i < length (numbers_of files) → get_or (numbers_of files) i d ≢ k
    is_new i d within same =
        let e = (so_far.each (get_or (numbers_of files) i d)).0 (Contains-get_or (numbers_of files) i d within) in
        omega (arith, e.0, same)

    named_more : (some : List DroppedFile) → GoWithNames some → GoWithNames (some ++ record { number = k; by_close = false } ∷ [])
    named_more [] so zero other within = refl
    named_more [] so (suc i) other within = absurd (omega (arith, within))
    named_more (file ∷ some) so zero other within = so zero other (omega arith)
    named_more (file ∷ some) so (suc i) other within = named_more some (λ j d low. so (suc j) d (omega (arith, low))) i other (omega (arith, within))

pub listed_more : (listed : ℕ → Bool) (k : ℕ) (files : List DroppedFile) → AreListed listed k files → AreListed listed (k + 1) (listed_if listed k files)
listed_more listed k files so_far = told (listed k) refl
  where
    told : (b : Bool) → listed k ≡ b → AreListed listed (k + 1) (cond b (files ++ record { number = k; by_close = false } ∷ []) files)
    told true e = one_listed listed k files e so_far
    told false e = one_passed listed k files e so_far

-- ---- all of them

went : (is_bare : Bool) (o : Option Node) → (is_some o && is_none (cond (not is_bare || false) o None)) ≡ true → is_bare ≡ true
went true o e = refl
went false (Some x) e = absurd (true≢false (sym e))
went false None e = absurd (true≢false (sym e))

goes : (o : Option Node) (is_bare : Bool) → is_some o ≡ true → is_bare ≡ true → (is_some o && is_none (cond (not is_bare || false) o None)) ≡ true
goes (Some x) true some e = refl
goes (Some x) false some e = absurd (true≢false (sym e))
goes None b some e = absurd (true≢false (sym some))

bare_there : (tree : Tree) (n : ℕ) (o : Option Node) → is_nameless tree n o ≡ true → is_some o ≡ true
bare_there tree n (Some x) e = refl
bare_there tree n None e = absurd (true≢false (sym e))

pub all_listed : (tree : Tree) (listed : ℕ → Bool) (files : List DroppedFile) → IsTree limits_written tree → ((n : ℕ) → listed n ≡ bare_at tree n) → AreListed listed 65536 files → TellsGone tree (settled tree) files
all_listed tree listed files whole tells all = record {
  each = λ n. (
    λ c. let e = sym (tells n) ∙ ((all.each n).0 c).1 in gone n ∙ goes (map.get tree.nodes n) (bare_at tree n) (bare_there tree n (map.get tree.nodes n) e) e,
    λ e. let is = went (bare_at tree n) (map.get tree.nodes n) (sym (gone n) ∙ e) in (all.each n).1 (within n (map.get tree.nodes n) refl is, tells n ∙ is),
  );
  once = all.once;
}
  where
    gone : (n : ℕ) → is_gone tree (settled tree) n ≡ (is_some (map.get tree.nodes n) && is_none (cond (not (bare_at tree n) || false) (map.get tree.nodes n) None))
    gone n = ap (λ (o : Option Node). is_some (map.get tree.nodes n) && is_none o) (get_without (λ _. false) tree n)

    within : (n : ℕ) (o : Option Node) → map.get tree.nodes n ≡ o → bare_at tree n ≡ true → n < 65536
    within n (Some x) e is = let most = (whole.nodes.nodes n x e).within in omega (arith, most)
    within n None e is = absurd (true≢false (sym is ∙ ap (is_nameless tree n) e))
