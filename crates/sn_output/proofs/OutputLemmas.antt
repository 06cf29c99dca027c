-- Bytes that are appended to others, piece by piece.
use Rattle.std.proofs.Common.{◌≡◌, ℕ, ◌+◌, ◌≤◌, List, [], ◌++◌, Some, None, take, drop, length, sym, ap, subst, ◌∙◌, append_assoc, arith}
use Rattle.std.specs.declared.option.Option.{Option}
use Rattle.std.specs.Io.KnownBytes.{Appends, Keeps}
use Rattle.sn_output.specs.Outputs.{AppendsFront}
use Rattle.std.proofs.lemmas.List.{append-nil, drop-drop, length-drop, take_all}
use Rattle.std.proofs.Math.Seq.{take-add}

pub appends_none : (a : Option (List ℕ)) → Appends a a []
appends_none None = tt
appends_none (Some xs) = sym (append-nil xs)

pub appends_more : (a b c : Option (List ℕ)) (t u : List ℕ) → Appends a b t → Appends b c u → Appends a c (t ++ u)
appends_more None b c t u h k = tt
appends_more (Some xs) None c t u h k = absurd h
appends_more (Some xs) (Some ys) None t u h k = absurd k
appends_more (Some xs) (Some ys) (Some zs) t u h k = k ∙ ap (λ (s : List ℕ). s ++ u) h ∙ append_assoc xs t u

pub appends_kept : (a b c : Option (List ℕ)) (t : List ℕ) → Appends a b t → Keeps b c → Appends a c t
appends_kept None b c t h k = tt
appends_kept (Some xs) None c t h k = absurd h
appends_kept (Some xs) (Some ys) None t h k = absurd k
appends_kept (Some xs) (Some ys) (Some zs) t h k = k ∙ h

pub keeps_same : (a b : Option (List ℕ)) → b ≡ a → Keeps a b
keeps_same None b e = tt
keeps_same (Some xs) None e = let never : None ≡ Some xs = e in cc
keeps_same (Some xs) (Some ys) e = let same : Some ys ≡ Some xs = e in cc

pub kept_nothing : (a b : Option (List ℕ)) → Keeps a b → Appends a b []
kept_nothing None b h = tt
kept_nothing (Some xs) None h = h
kept_nothing (Some xs) (Some ys) h = h ∙ sym (append-nil xs)

pub same_more : (a b c : Option (List ℕ)) (t : List ℕ) → Appends a b t → Appends b c [] → Appends a c t
same_more a b c t h k = subst (λ (s : List ℕ). Appends a c s) (append-nil t) (appends_more a b c t [] h k)

-- where nothing is left, all is written
pub finished : (text rest : List ℕ) (n : ℕ) → n ≤ length text → rest ≡ drop n text → length rest ≡ 0 → take n text ≡ text
finished text rest n few is none = take_all n text (omega (arith, length-drop n text, ap length is))

-- one write more
pub more_front : (a b c : Option (List ℕ)) (text rest : List ℕ) (n m : ℕ) → rest ≡ drop n text → Appends a b (take n text) → Appends b c (take m rest) → Appends a c (take (n + m) text)
more_front a b c text rest n m is h k =
    subst (λ (s : List ℕ). Appends a c s) (ap (λ (s : List ℕ). take n text ++ take m s) is ∙ sym (take-add n m text)) (appends_more a b c (take n text) (take m rest) h k)

pub more_few : (text rest : List ℕ) (n m : ℕ) → n ≤ length text → rest ≡ drop n text → m ≤ length rest → n + m ≤ length text
more_few text rest n m few is less = omega (arith, length-drop n text, ap length is)

pub more_left : (text rest : List ℕ) (n m : ℕ) → rest ≡ drop n text → drop m rest ≡ drop (n + m) text
more_left text rest n m is = ap (drop m) is ∙ drop-drop m n text

pub front_of : (a b : Option (List ℕ)) (t u : List ℕ) → t ≡ u → AppendsFront a b t → AppendsFront a b u
front_of a b t u e h = subst (AppendsFront a b) e h

pub front_kept : (a b c : Option (List ℕ)) (t : List ℕ) → AppendsFront a b t → Keeps b c → AppendsFront a c t
front_kept a b c t h k = (h.0, appends_kept a b c (take h.0 t) h.1 k)
