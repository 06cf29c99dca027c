-- A number that is read is spelled so, and one that is spelled so is read. The same of a list of numbers.
use Rattle.std.proofs.Common.{◌≡◌, ℕ, ◌+◌, ◌^◌, ◌<◌, ◌≤◌, true, ltb, List, [], ◌∷◌, ◌++◌, length, drop, get_or, map, Option, Some, None, refl, sym, ap, subst, ◌∙◌, append_assoc, add-one, lit≤, arith}
use Rattle.std.specs.Prelude.{decimal, ◌&&◌}
use Rattle.std.specs.Borrow.{Bor}
use Rattle.std.specs.List.{AllByRecursion}
use Rattle.std.specs.Str.{bytes_eq}
use Rattle.std.specs.Str.Parse.{digits_value}
use Rattle.std.proofs.lemmas.Bool.{lt-ltb, ltb-true}
use Rattle.std.proofs.lemmas.Fmt.{decimal_is_IsNumeral}
use Rattle.std.proofs.lemmas.List.{append-nil, drop_all}
use Rattle.std.proofs.lemmas.Slice.Eq.{bytes_eq-Decides}
use Rattle.std.proofs.Math.Seq.{drop-cons}
use Rattle.std.specs.Prelude.{Err}
use Rattle.arrayvec.specs.declared.array_vec.ArrayVec.{ArrayVec}
use Rattle.sn_model.specs.Chains.{◌>>=◌}
use Rattle.sn_model.proofs.ChainLemmas.{bind_some, some_same}
use Rattle.sn_words.specs.declared.fault.SpellingFault.{SpellingFault}
use Rattle.sn_words.specs.declared.fault.SpellingFault.TheVariants.{Bad, Memory}
use Rattle.sn_words.specs.Reading.{IsRead, number_below, numbers_of}
use Rattle.sn_words.proofs.Parts.{texts}
use Rattle.sn_words.proofs.Options.{passed, both_true, none_from}

pub number_again : (limit n : ℕ) → limit ≤ 2 ^ 64 → n < limit → number_below limit (decimal n) ≡ Some n
unfolding number_below
number_again limit n wide lt =
    let small : n < 2 ^ 64 = omega arith in
    let value : digits_value 10 (decimal n) ≡ n = (decimal_is_IsNumeral n small).1 in
    let same : bytes_eq (decimal n) (decimal n) ≡ true = (bytes_eq-Decides (decimal n) (decimal n)).1 refl in
    let below : ltb n limit ≡ true = lt-ltb n limit lt in
    rw (value, same, below) refl

pub number_takes : (limit n : ℕ) (word : List ℕ) → number_below limit word ≡ Some n → (word ≡ decimal n) × (n < limit)
unfolding number_below
number_takes limit n word e =
    let v = digits_value 10 word in
    let t = passed (bytes_eq word (decimal v) && ltb v limit) (Some v) n e in
    let parts = both_true (bytes_eq word (decimal v)) (ltb v limit) t.0 in
    let same : word ≡ decimal v = (bytes_eq-Decides word (decimal v)).0 parts.0 in
    let below : v < limit = ltb-true v limit parts.1 in
    subst (λ (k : ℕ). (word ≡ decimal k) × (k < limit)) (some_same v n t.1) (same, below)

-- where no number is spelled so, none is read
pub number_none : (limit : ℕ) (word : List ℕ) → ((n : ℕ) → n < limit → word ≡ decimal n → ⊥) → number_below limit word ≡ None
number_none limit word h = none_from (number_below limit word) (λ n e. let t = number_takes limit n word e in h n t.1 t.0)

-- a number below a limit is read under a wider one, and one that isn't below it is refused
pub number_narrower : (limit wide : ℕ) (word : List ℕ) (n : ℕ) → wide ≤ 2 ^ 64 → limit ≤ wide → number_below wide word ≡ Some n → n < limit → number_below limit word ≡ Some n
number_narrower limit wide word n bound le read lt =
    let p = number_takes wide n word read in
    ap (number_below limit) p.0 ∙ number_again limit n (omega arith) lt

pub number_too_large : (limit wide : ℕ) (word : List ℕ) (n : ℕ) → wide ≤ 2 ^ 64 → limit ≤ wide → number_below wide word ≡ Some n → (n < limit → ⊥) → number_below limit word ≡ None
number_too_large limit wide word n bound le read large = number_none limit word (λ m lt e.
    let other : number_below wide word ≡ Some m = ap (number_below wide) e ∙ number_again wide m bound (omega arith) in
    let same : m ≡ n = some_same m n (sym other ∙ read) in
    large (subst (λ (k : ℕ). k < limit) same lt))

pub number_none_narrower : (limit wide : ℕ) (word : List ℕ) → wide ≤ 2 ^ 64 → limit ≤ wide → number_below wide word ≡ None → number_below limit word ≡ None
number_none_narrower limit wide word bound le none = number_none limit word (λ m lt e.
    let other : number_below wide word ≡ Some m = ap (number_below wide) e ∙ number_again wide m bound (omega arith) in
    let contrary = sym none ∙ other in
    absurd cc)

pub fault_narrower : (fault : SpellingFault) (limit wide : ℕ) (word : List ℕ) → wide ≤ 2 ^ 64 → limit ≤ wide → IsRead {X = ℕ} {Y = ℕ} (λ n. n) (Err fault) (number_below wide word)
    → IsRead {X = ℕ} {Y = ℕ} (λ n. n) (Err fault) (number_below limit word)
fault_narrower Bad limit wide word bound le none = number_none_narrower limit wide word bound le none
fault_narrower Memory limit wide word bound le none = tt

cons_same : {A : Type 0} (x y : A) (xs ys : List A) → x ≡ y → xs ≡ ys → x ∷ xs ≡ y ∷ ys
cons_same x y xs ys p q = cc

pub numbers_again : (ns : List ℕ) → AllByRecursion (λ n. n < 2 ^ 32) ns → numbers_of (map decimal ns) ≡ Some ns
unfolding numbers_of
numbers_again [] h = refl
numbers_again (n ∷ ns) h = rw (number_again (2 ^ 32) n (lit≤ tt) h.0, numbers_again ns h.1) refl

pub numbers_take : (words : List (List ℕ)) (ns : List ℕ) → numbers_of words ≡ Some ns → (words ≡ map decimal ns) × AllByRecursion (λ n. n < 2 ^ 32) ns
unfolding numbers_of
numbers_take [] ns e = subst (λ (k : List ℕ). ([] ≡ map decimal k) × AllByRecursion (λ n. n < 2 ^ 32) k) (some_same [] ns e) (refl, tt)
numbers_take (word ∷ words) ns e =
    let a = bind_some (number_below (2 ^ 32) word) (λ n. numbers_of words >>= (λ others. Some (n ∷ others))) ns e in
    let b = bind_some (numbers_of words) (λ others. Some (a.0 ∷ others)) ns a.2 in
    let first = number_takes (2 ^ 32) a.0 word a.1 in
    let others = numbers_take words b.0 b.1 in
    let both : word ∷ words ≡ decimal a.0 ∷ map decimal b.0 = cons_same word (decimal a.0) words (map decimal b.0) first.0 others.0 in
    subst (λ (k : List ℕ). (word ∷ words ≡ map decimal k) × AllByRecursion (λ n. n < 2 ^ 32) k) (some_same (a.0 ∷ b.0) ns b.2) (both, (first.1, others.1))

-- ---- reading number after number

-- the numbers read before, and those that are still read
abbrev pub with_front : List ℕ → Option (List ℕ) → Option (List ℕ)
with_front front read = read >>= (λ ns. Some (front ++ ns))

regroup : (front : List ℕ) (n : ℕ) (read : Option (List ℕ)) → with_front front (read >>= (λ ns. Some (n ∷ ns))) ≡ with_front (front ++ n ∷ []) read
regroup front n (Some ns) = ap (λ (k : List ℕ). Some k) (simp append_assoc)
regroup front n None = refl

pub one_more : (front : List ℕ) (n : ℕ) (word : List ℕ) (words : List (List ℕ)) (total : Option (List ℕ)) → number_below (2 ^ 32) word ≡ Some n
    → with_front front (numbers_of (word ∷ words)) ≡ total → with_front (front ++ n ∷ []) (numbers_of words) ≡ total
unfolding numbers_of
one_more front n word words total e so_far =
    let one : with_front front (numbers_of (word ∷ words)) ≡ with_front (front ++ n ∷ []) (numbers_of words) = rw e (regroup front n (numbers_of words)) in
    sym one ∙ so_far

pub refuses : (front : List ℕ) (word : List ℕ) (words : List (List ℕ)) (total : Option (List ℕ)) → number_below (2 ^ 32) word ≡ None
    → with_front front (numbers_of (word ∷ words)) ≡ total → total ≡ None
unfolding numbers_of
refuses front word words total e so_far =
    let one : with_front front (numbers_of (word ∷ words)) ≡ None = rw e refl in
    sym so_far ∙ one

pub all_read : (front : List ℕ) (total : Option (List ℕ)) → with_front front (numbers_of []) ≡ total → total ≡ Some front
unfolding numbers_of
all_read front total so_far = sym so_far ∙ ap (λ (k : List ℕ). Some k) (append-nil front)

-- the words still to be read begin with the one at index i
pub words_ahead : (words : List (Bor (List ℕ))) (i : ℕ) (d : Bor (List ℕ)) → i < length words → texts (drop i words) ≡ (get_or words i d).now ∷ texts (drop (i + 1) words)
words_ahead words i d lt = rw (add-one, drop-cons words i d lt) refl

pub loop_goes_on : (front : List ℕ) (n i : ℕ) (words : List (Bor (List ℕ))) (d : Bor (List ℕ)) (total : Option (List ℕ)) → i < length words → number_below (2 ^ 32) (get_or words i d).now ≡ Some n
    → with_front front (numbers_of (texts (drop i words))) ≡ total → with_front (front ++ n ∷ []) (numbers_of (texts (drop (i + 1) words))) ≡ total
loop_goes_on front n i words d total lt e so_far =
    let ahead = words_ahead words i d lt in
    one_more front n (get_or words i d).now (texts (drop (i + 1) words)) total e (ap (λ (t : List (List ℕ)). with_front front (numbers_of t)) (sym ahead) ∙ so_far)

pub loop_refuses : (fault : SpellingFault) (front : List ℕ) (i : ℕ) (words : List (Bor (List ℕ))) (d : Bor (List ℕ)) (total : Option (List ℕ)) → i < length words
    → IsRead {X = ℕ} {Y = ℕ} (λ n. n) (Err fault) (number_below (2 ^ 32) (get_or words i d).now)
    → with_front front (numbers_of (texts (drop i words))) ≡ total → IsRead {X = ArrayVec ℕ 32 (Unit {0})} {Y = List ℕ} (λ ns. ns.items) (Err fault) total
loop_refuses Memory front i words d total lt e so_far = tt
loop_refuses Bad front i words d total lt e so_far =
    let ahead = words_ahead words i d lt in
    refuses front (get_or words i d).now (texts (drop (i + 1) words)) total e (ap (λ (t : List (List ℕ)). with_front front (numbers_of t)) (sym ahead) ∙ so_far)

pub loop_ends : (front : List ℕ) (i : ℕ) (words : List (Bor (List ℕ))) (total : Option (List ℕ)) → length words ≤ i → with_front front (numbers_of (texts (drop i words))) ≡ total → total ≡ Some front
loop_ends front i words total le so_far =
    let nothing : drop i words ≡ [] = drop_all i words le in
    all_read front total (ap (λ (t : List (Bor (List ℕ))). with_front front (numbers_of (texts t))) (sym nothing) ∙ so_far)
