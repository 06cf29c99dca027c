-- Names that are looked for, block after block.
use Rattle.std.proofs.Common.{◌≡◌, ℕ, ◌||◌, Bool, true, List, [], ◌∷◌, ◌++◌, length, map, take, drop, take_all, append-nil, Option, Some, None, refl, sym, ap, ◌∙◌, arith}
use Rattle.std.specs.Prelude.{All, is_some}
use Rattle.std.proofs.lemmas.List.{drop_all, length-map}
use Rattle.std.proofs.lemmas.List.Elements.{All-head, All-tail}
use Rattle.sn_layout_node.specs.Directory.{Link, number_of}
use Rattle.sn_dir_change.specs.Standing.{change_of, seen, seen_too}
use Rattle.sn_dir_change.specs.declared.name_change.NameChange.{NameChange}
use Rattle.sn_dir_change.specs.declared.standing.Sought.{Sought}
use Rattle.sn_dir_change.proofs.NameLemmas.{or_else, number-append}

either : (a b : Option ℕ) → is_some (or_else a b) ≡ (is_some a || is_some b)
unfolding or_else
either None b = refl
either (Some n) b = refl

-- what was seen in the names before, and is seen in those here
pub seen-more : (front here : List Link) (changes : List NameChange) → map (seen_too here) (map (seen front) changes) ≡ map (seen (front ++ here)) changes
seen-more front here [] = refl
seen-more front here (change ∷ changes) =
    let name = change.name.now in
    let one : (is_some (number_of name front) || is_some (number_of name here)) ≡ is_some (number_of name (front ++ here)) =
    sym (ap (λ (o : Option ℕ). is_some o) (number-append name front here) ∙ either (number_of name front) (number_of name here)) in
    ap (λ (b : Bool). record { change = change; stands = b } ∷ map (seen_too here) (map (seen front) changes)) one
    ∙ ap (λ (xs : List Sought). seen (front ++ here) change ∷ xs) (seen-more front here changes)

-- where all were found, further names add nothing
pub seen-all : (names : List Link) (list : List Sought) → All (λ (sought : Sought). sought.stands ≡ true) list → map (seen_too names) list ≡ list
seen-all names [] all = refl
seen-all names (sought ∷ list) all =
    let here : sought.stands ≡ true = All-head (λ (s : Sought). s.stands ≡ true) sought list all in
    let there = is_some (number_of sought.change.name.now names) in
    let one : (sought.stands || there) ≡ sought.stands = ap (λ (b : Bool). b || there) here ∙ sym here in
    ap (λ (b : Bool). record { change = sought.change; stands = b } ∷ map (seen_too names) list) one
    ∙ ap (λ (xs : List Sought). sought ∷ xs) (seen-all names list (All-tail (λ (s : Sought). s.stands ≡ true) sought list all))

-- they are the changes of before
pub listed-too : (names : List Link) (list : List Sought) → map change_of (map (seen_too names) list) ≡ map change_of list
listed-too names [] = refl
listed-too names (sought ∷ list) = ap (λ (xs : List NameChange). sought.change ∷ xs) (listed-too names list)

pub listed-seen : (names : List Link) (changes : List NameChange) → map change_of (map (seen names) changes) ≡ changes
listed-seen names [] = refl
listed-seen names (change ∷ changes) = ap (λ (xs : List NameChange). change ∷ xs) (listed-seen names changes)

-- as many as there were
pub length-listed : (new old : List Sought) → map change_of new ≡ map change_of old → length new ≡ length old
length-listed new old same = sym (length-map new change_of) ∙ ap (λ (xs : List NameChange). length xs) same ∙ length-map old change_of

-- a list that was lent whole, once it is given back
pub given-back : {X : Type 0} (count : ℕ) (new old : List X) → count ≡ length new → length new ≡ length old → take count (new ++ drop (length new) old) ≡ new
given-back count new old all same =
    ap (λ (xs : List _). take count (new ++ xs)) (drop_all (length new) old (omega (arith, same)))
    ∙ ap (λ (xs : List _). take count xs) (append-nil new)
    ∙ take_all count new (omega (arith, all))
