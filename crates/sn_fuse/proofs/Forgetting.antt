-- The nodes that bytes list, and the bytes that list nodes.
use Rattle.std.proofs.Common.{◌≡◌, ℕ, zero, suc, ◌+◌, ◌*◌, ◌<◌, ◌≤◌, List, [], ◌∷◌, ◌++◌, Some, length, take, drop, slice_get, refl, sym, ap, subst, ◌∙◌, append_assoc, length-append, arith}
use Rattle.std.specs.List.{flat_map, AllByRecursion}
use Rattle.std.proofs.lemmas.List.{take-append-drop, length-take-le, length-drop, drop-drop, drop_at, get_or-drop}
use Rattle.std.proofs.lemmas.List.Concat.{flat_map-cons}
use Rattle.byteorder.specs.Endian.{little_number}
use Rattle.byteorder.specs.Numbers.{little_from-take, little_from-lt}
use Rattle.sn_bytes.specs.Bytes.{number_bytes}
use Rattle.sn_bytes.proofs.Fields.{IsBytes, number_bytes-8, length-number_bytes, same_numbers}
use Rattle.sn_fuse.specs.Body.{IsForget, forget_bytes}
use Rattle.sn_fuse.specs.Forgets.{forgets_in}
use Rattle.sn_fuse.specs.declared.forgets.Forget.{Forget}
use Rattle.sn_fuse.proofs.Bodies.{length_zero}

pub length-forgets_in : (count : ℕ) (bytes : List ℕ) → length (forgets_in count bytes) ≡ count
length-forgets_in zero bytes = refl
length-forgets_in (suc count) bytes = ap suc (length-forgets_in count (drop 16 bytes))

-- each one in its place
pub get-forgets_in : (count i : ℕ) (bytes : List ℕ) → i < count
    → slice_get (forgets_in count bytes) i ≡ Some (record { node = little_number 8 (drop (16 * i) bytes); lookups = little_number 8 (drop (16 * i + 8) bytes) })
get-forgets_in zero i bytes lt = absurd (omega arith)
get-forgets_in (suc count) zero bytes lt = refl
get-forgets_in (suc count) (suc i) bytes lt =
    let node : 16 + 16 * i ≡ 16 * suc i = omega arith in
    let lookups : 16 + (16 * i + 8) ≡ 16 * suc i + 8 = omega arith in
    get-forgets_in count i (drop 16 bytes) (omega arith)
    ∙ rw (drop-drop (16 * i) 16 bytes, drop-drop (16 * i + 8) 16 bytes, node, lookups) refl

length-forget_bytes : (forget : Forget) → length (forget_bytes forget) ≡ 16
length-forget_bytes forget = omega (arith, length-append (number_bytes 8 forget.node) (number_bytes 8 forget.lookups), length-number_bytes 8 forget.node, length-number_bytes 8 forget.lookups)

pub forgets_size : (forgets : List Forget) → length (flat_map forget_bytes forgets) ≡ 16 * length forgets
forgets_size [] = omega arith
forgets_size (forget ∷ forgets) =
    let whole = ap length (flat_map-cons forget_bytes forget forgets) ∙ length-append (forget_bytes forget) (flat_map forget_bytes forgets) in
    omega (arith, whole, length-forget_bytes forget, forgets_size forgets)

take_bytes : (n : ℕ) (bytes : List ℕ) → IsBytes bytes → IsBytes (take n bytes)
take_bytes zero bytes are i = omega arith
take_bytes (suc n) [] are i = are i
take_bytes (suc n) (b ∷ bytes) are zero = are 0
take_bytes (suc n) (b ∷ bytes) are (suc i) = take_bytes n bytes (λ j. are (suc j)) i

drop_bytes : (n : ℕ) (bytes : List ℕ) → IsBytes bytes → IsBytes (drop n bytes)
drop_bytes n bytes are i = omega (arith, get_or-drop n bytes i 0, are (n + i))

-- what is after so many bytes is bytes too
pub behind_bytes : (n : ℕ) (all front rest : List ℕ) → IsBytes all → length front ≡ n → all ≡ front ++ rest → IsBytes rest
behind_bytes n all front rest are long e =
    let same : drop n all ≡ rest = ap (drop n) e ∙ drop_at front rest n long in
    subst (λ (bytes : List ℕ). IsBytes bytes) same (drop_bytes n all are)

-- the number of the first eight bytes is spelled by them
front_number : (bytes : List ℕ) → IsBytes bytes → 8 ≤ length bytes → number_bytes 8 (little_number 8 bytes) ≡ take 8 bytes
front_number bytes are many =
    number_bytes-8 (take 8 bytes) (little_number 8 bytes) (length-take-le 8 bytes many) (take_bytes 8 bytes are) (sym (little_from-take 0 8 8 bytes (omega arith)))

-- bytes that are as many as so many nodes have are the spelling of these
pub forgets_spelled : (count : ℕ) (bytes : List ℕ) → IsBytes bytes → length bytes ≡ 16 * count
    → AllByRecursion IsForget (forgets_in count bytes) × (bytes ≡ flat_map forget_bytes (forgets_in count bytes))
forgets_spelled zero bytes are long = (tt, length_zero bytes (omega arith))
forgets_spelled (suc count) bytes are long =
    let second = drop 8 bytes in
    let others = forgets_in count (drop 16 bytes) in
    let first : Forget = record { node = little_number 8 bytes; lookups = little_number 8 second } in
    let second_are = drop_bytes 8 bytes are in
    let count_second = length-drop 8 bytes in
    let later = forgets_spelled count (drop 16 bytes) (drop_bytes 16 bytes are) (omega (arith, length-drop 16 bytes)) in
    let node = front_number bytes are (omega arith) in
    let lookups = front_number second second_are (omega arith) in
    let here : forget_bytes first ≡ take 8 bytes ++ take 8 second = rw (node, lookups) refl in
    let whole : flat_map forget_bytes (first ∷ others) ≡ bytes =
    flat_map-cons forget_bytes first others
    ∙ ap (λ (r : List ℕ). r ++ flat_map forget_bytes others) here
    ∙ ap (λ (r : List ℕ). (take 8 bytes ++ take 8 second) ++ r) (sym later.1)
    ∙ append_assoc (take 8 bytes) (take 8 second) (drop 16 bytes)
    ∙ ap (λ (r : List ℕ). take 8 bytes ++ (take 8 second ++ r)) (sym (drop-drop 8 8 bytes))
    ∙ ap (λ (r : List ℕ). take 8 bytes ++ r) (take-append-drop 8 second)
    ∙ take-append-drop 8 bytes in
    ((record { node = little_from-lt 0 8 bytes are; lookups = little_from-lt 0 8 second second_are }, later.0), sym whole)

-- no bytes list two lists of nodes
pub same_forgets : (xs ys : List Forget) → AllByRecursion IsForget xs → AllByRecursion IsForget ys → flat_map forget_bytes xs ≡ flat_map forget_bytes ys → xs ≡ ys
same_forgets [] [] fit-x fit-y e = refl
same_forgets [] (y ∷ ys) fit-x fit-y e = absurd (omega (arith, ap length e, forgets_size (y ∷ ys)))
same_forgets (x ∷ xs) [] fit-x fit-y e = absurd (omega (arith, ap length e, forgets_size (x ∷ xs)))
same_forgets (x ∷ xs) (y ∷ ys) fit-x fit-y e =
    let flat = λ (f : Forget) (fs : List Forget). flat_map-cons forget_bytes f fs ∙ append_assoc (number_bytes 8 f.node) (number_bytes 8 f.lookups) (flat_map forget_bytes fs) in
    let node = same_numbers 8 x.node y.node (number_bytes 8 x.lookups ++ flat_map forget_bytes xs) (number_bytes 8 y.lookups ++ flat_map forget_bytes ys) fit-x.0.node fit-y.0.node (sym (flat x xs) ∙ e ∙ flat y ys) in
    let lookups = same_numbers 8 x.lookups y.lookups (flat_map forget_bytes xs) (flat_map forget_bytes ys) fit-x.0.lookups fit-y.0.lookups node.1 in
    rw (node.0, lookups.0, same_forgets xs ys fit-x.1 fit-y.1 lookups.1) refl
