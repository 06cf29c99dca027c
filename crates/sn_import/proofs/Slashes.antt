-- The directories that a path leads through, one at a time.
use Rattle.std.proofs.Common.{◌≡◌, ℕ, ◌+◌, ◌<◌, ◌≤◌, false, cond, List, [], ◌∷◌, ◌++◌, length, take, drop, refl, sym, ap, ◌∙◌, append_assoc, length-append, length-drop, arith}
use Rattle.std.proofs.Math.ListN.{drop_of_length-le}
use Rattle.std.proofs.Math.Seq.{take-append_seam, take-append-add, drop-append-add}
use Rattle.std.proofs.lemmas.List.{append-nil, length-take-le, take-append-drop}
use Rattle.std.proofs.lemmas.List.Elements.{All-head, All-tail}
use Rattle.std.specs.Prelude.{All, ◌==◌}
use Rattle.sn_import.specs.Calls.{through, through_from}

named : (component front others : List ℕ) → All (λ b. (b == 47) ≡ false) component
    → through front (component ++ 47 ∷ others) ≡ (front ++ component) ∷ through ((front ++ component) ++ 47 ∷ []) others
named [] front others plain = ap (λ f. f ∷ through (f ++ 47 ∷ []) others) (sym (append-nil front))
named (c ∷ component) front others plain =
    let rest = through (front ++ c ∷ []) (component ++ 47 ∷ others) in
    ap (λ b. cond b (front ∷ rest) rest) (All-head (λ b. (b == 47) ≡ false) c component plain)
    ∙ named component (front ++ c ∷ []) others (All-tail (λ b. (b == 47) ≡ false) c component plain)
    ∙ ap (λ f. f ∷ through (f ++ 47 ∷ []) others) (append_assoc front (c ∷ []) component)

unnamed : (rest front : List ℕ) → All (λ b. (b == 47) ≡ false) rest → through front rest ≡ []
unnamed [] front plain = refl
unnamed (c ∷ rest) front plain =
    let others = through (front ++ c ∷ []) rest in
    ap (λ b. cond b (front ∷ others) others) (All-head (λ b. (b == 47) ≡ false) c rest plain)
    ∙ unnamed rest (front ++ c ∷ []) (All-tail (λ b. (b == 47) ≡ false) c rest plain)

pub no_slash : (path : List ℕ) (from : ℕ) → All (λ b. (b == 47) ≡ false) (drop from path) → through_from from path ≡ []
no_slash path from plain = unnamed (drop from path) (take from path) plain

pub at_end : (path : List ℕ) (from : ℕ) → length path ≤ from → through_from from path ≡ []
at_end path from long = ap (through (take from path)) (drop_of_length-le path long)

-- a path that is cut after a slash
seam : (front others path : List ℕ) (n : ℕ) → path ≡ front ++ 47 ∷ others → length front ≡ n
    → front ∷ through (front ++ 47 ∷ []) others ≡ take n path ∷ through (take (n + 1) path) (drop (n + 1) path)
seam front others path n whole long =
    let first : take n path ≡ front = ap (take n) whole ∙ ap (λ k. take k (front ++ 47 ∷ others)) (sym long) ∙ take-append_seam front (47 ∷ others) in
    let more : take (n + 1) path ≡ front ++ 47 ∷ [] = ap (take (n + 1)) whole ∙ ap (λ k. take (k + 1) (front ++ 47 ∷ others)) (sym long) ∙ take-append-add front (47 ∷ others) 1 in
    let rest : drop (n + 1) path ≡ others = ap (drop (n + 1)) whole ∙ ap (λ k. drop (k + 1) (front ++ 47 ∷ others)) (sym long) ∙ drop-append-add front (47 ∷ others) 1 in
    ap (λ f. f ∷ through (front ++ 47 ∷ []) others) (sym first) ∙ ap (λ f. take n path ∷ through f others) (sym more) ∙ ap (λ o. take n path ∷ through (take (n + 1) path) o) (sym rest)

pub is_within : (path component others : List ℕ) (from : ℕ) → drop from path ≡ component ++ 47 ∷ others → from + length component < length path
is_within path component others from found = omega (arith, length-drop from path, ap length found, length-append component (47 ∷ others))

pub slash : (path component others : List ℕ) (from : ℕ) → from ≤ length path → drop from path ≡ component ++ 47 ∷ others → All (λ b. (b == 47) ≡ false) component
    → through_from from path ≡ take (from + length component) path ∷ through_from (from + length component + 1) path
slash path component others from within found plain =
    let front = take from path in
    let whole : path ≡ (front ++ component) ++ 47 ∷ others = sym (take-append-drop from path) ∙ ap (λ r. front ++ r) found ∙ sym (append_assoc front component (47 ∷ others)) in
    let long : length (front ++ component) ≡ from + length component = length-append front component ∙ ap (λ n. n + length component) (length-take-le from path within) in
    ap (through front) found ∙ named component front others plain ∙ seam (front ++ component) others path (from + length component) whole long
