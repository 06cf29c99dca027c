-- The names of a directory, block by block.
use Rattle.std.proofs.Common.{◌≡◌, ℕ, zero, suc, ◌+◌, ◌-◌, ◌<◌, ◌≤◌, ◌==◌, Bool, true, false, if◌then◌else◌, List, [], ◌∷◌, ◌++◌, length, flat_map, Option, Some, None, refl, sym, ap, ◌∙◌, arith, append_assoc, append-nil, length-append}
use Rattle.std.specs.Prelude.{is_some}
use Rattle.std.specs.List.{range_with_len}
use Rattle.std.specs.Str.{bytes_eq}
use Rattle.std.proofs.lemmas.Bool.{eqb-true, true≢false}
use Rattle.std.proofs.lemmas.List.Concat.{flat_map-append}
use Rattle.sn_layout.specs.declared.tree.BlockTree.{BlockTree}
use Rattle.sn_layout_node.specs.Directory.{Link, number_of}
use Rattle.sn_ondisk.specs.Trees.{Store, data_block}
use Rattle.sn_image.specs.Names.{names_in}
use Rattle.sn_dir.specs.Blocks.{names_before}

-- ---- names found

pub none_of : (o : Option ℕ) → is_some o ≡ false → o ≡ None
none_of None is = refl
none_of (Some n) is = absurd cc

pub not_none : (o : Option ℕ) → is_some o ≡ true → o ≡ None → ⊥
not_none o some none = true≢false (sym some ∙ ap (λ (x : Option ℕ). is_some x) none)

pub not_zero : (n : ℕ) → 0 < n → (n == 0) ≡ false
not_zero n some = told (n == 0) refl
  where
    told : (b : Bool) → (n == 0) ≡ b → b ≡ false
    told true is = absurd (omega (arith, some, eqb-true n 0 is))
    told false is = refl

module _ (name : List ℕ) where
  pub number-behind : (front back : List Link) → number_of name front ≡ None → number_of name (front ++ back) ≡ number_of name back
  number-behind [] back none = refl
  number-behind (link ∷ links) back none = told (bytes_eq link.name name) none (number-behind links back)
    where
      told : (b : Bool) → (if b then Some link.number else number_of name links) ≡ None → (number_of name links ≡ None → number_of name (links ++ back) ≡ number_of name back) → (if b then Some link.number else number_of name (links ++ back)) ≡ number_of name back
      told true never later = absurd cc
      told false still later = later still

  pub number-front : (front back : List Link) → is_some (number_of name front) ≡ true → number_of name (front ++ back) ≡ number_of name front
  number-front [] back some = absurd cc
  number-front (link ∷ links) back some = told (bytes_eq link.name name) some (number-front links back)
    where
      told : (b : Bool) → is_some (if b then Some link.number else number_of name links) ≡ true → (is_some (number_of name links) ≡ true → number_of name (links ++ back) ≡ number_of name links) → (if b then Some link.number else number_of name (links ++ back)) ≡ (if b then Some link.number else number_of name links)
      told true here later = refl
      told false still later = later still

-- ---- block by block

pub range-more : (a n : ℕ) → range_with_len a (suc n) ≡ range_with_len a n ++ (a + n) ∷ []
range-more a zero = let here : a ≡ a + 0 = omega arith in ap (λ (k : ℕ). k ∷ []) here
range-more a (suc n) =
    let there : a + 1 + n ≡ a + suc n = omega arith in
    ap (λ (xs : List ℕ). a ∷ xs) (range-more (a + 1) n ∙ ap (λ (k : ℕ). range_with_len (a + 1) n ++ k ∷ []) there)

module _ (s : Store) (tree : BlockTree) where
  pub before-more : (i : ℕ) → names_before s tree (i + 1) ≡ names_before s tree i ++ names_in (data_block s tree i)
  before-more i =
      let next : i + 1 ≡ suc i = omega arith in
      let last : 0 + i ≡ i = omega arith in
      let f = λ (j : ℕ). names_in (data_block s tree j) in
      ap (λ (n : ℕ). names_before s tree n) next
      ∙ ap (λ (xs : List ℕ). flat_map f xs) (range-more 0 i ∙ ap (λ (k : ℕ). range_with_len 0 i ++ k ∷ []) last)
      ∙ flat_map-append f (range_with_len 0 i) (i ∷ [])
      ∙ ap (λ (xs : List Link). names_before s tree i ++ xs) (append-nil (f i))

  further : (i d : ℕ) → (rest : List Link) × (names_before s tree (i + d) ≡ names_before s tree i ++ rest)
  further i zero = let here : i + 0 ≡ i = omega arith in ([], ap (λ (n : ℕ). names_before s tree n) here ∙ sym (append-nil (names_before s tree i)))
  further i (suc d) =
      let w = further i d in
      let next : i + suc d ≡ i + d + 1 = omega arith in (
        w.0 ++ names_in (data_block s tree (i + d)),
        ap (λ (n : ℕ). names_before s tree n) next
            ∙ before-more (i + d)
            ∙ ap (λ (xs : List Link). xs ++ names_in (data_block s tree (i + d))) w.1
            ∙ append_assoc (names_before s tree i) w.0 (names_in (data_block s tree (i + d))),
      )

  -- the names before a block are before each later one too
  pub before-front : (i n : ℕ) → i ≤ n → (rest : List Link) × (names_before s tree n ≡ names_before s tree i ++ rest)
  before-front i n le =
      let w = further i (n - i) in
      let there : i + (n - i) ≡ n = omega (arith, le) in
      (w.0, sym (ap (λ (k : ℕ). names_before s tree k) there) ∙ w.1)

  module _ (i : ℕ) where
    pub count_more : (n : ℕ) → n ≡ length (names_before s tree i) → (count : ℕ) → count ≡ length (names_in (data_block s tree i)) → n + count ≡ length (names_before s tree (i + 1))
    count_more n is count here = omega (arith, is, here, ap (λ (xs : List Link). length xs) (before-more i), length-append (names_before s tree i) (names_in (data_block s tree i)))

    pub none_more : names_before s tree i ≡ [] → length (names_in (data_block s tree i)) ≡ 0 → names_before s tree (i + 1) ≡ []
    none_more none here = before-more i ∙ ap (λ (xs : List Link). xs ++ names_in (data_block s tree i)) none ∙ empty (names_in (data_block s tree i)) here
      where
        empty : (xs : List Link) → length xs ≡ 0 → xs ≡ []
        empty [] is = refl
        empty (x ∷ xs) is = absurd (omega (arith, is))

    -- as soon as there is a name, there is one
    pub some_later : (n : ℕ) → i + 1 ≤ n → 0 < length (names_in (data_block s tree i)) → 0 < length (names_before s tree n)
    some_later n le some =
        let w = before-front (i + 1) n le in
        omega (
          arith,
          some,
          ap (λ (xs : List Link). length xs) w.1,
          length-append (names_before s tree (i + 1)) w.0,
          ap (λ (xs : List Link). length xs) (before-more i),
          length-append (names_before s tree i) (names_in (data_block s tree i)),
        )

    module _ (name : List ℕ) (none : number_of name (names_before s tree i) ≡ None) where
      pub number_more : number_of name (names_before s tree (i + 1)) ≡ number_of name (names_in (data_block s tree i))
      number_more = ap (number_of name) (before-more i) ∙ number-behind name (names_before s tree i) (names_in (data_block s tree i)) none

      -- a name that was found stays the first of its bytes
      pub number_later : (n : ℕ) → i + 1 ≤ n → is_some (number_of name (names_in (data_block s tree i))) ≡ true → number_of name (names_before s tree n) ≡ number_of name (names_in (data_block s tree i))
      number_later n le some =
          let w = before-front (i + 1) n le in
          let found : is_some (number_of name (names_before s tree (i + 1))) ≡ true = ap (λ (o : Option ℕ). is_some o) number_more ∙ some in
          ap (number_of name) w.1 ∙ number-front name (names_before s tree (i + 1)) w.0 found ∙ number_more
