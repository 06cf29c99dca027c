-- A table whose keys are lent names, against the finite map that it denotes, and the map that accounts make one after the other.
use Rattle.std.proofs.Common.{◌≡◌, ℕ, Bool, true, false, cond, List, [], ◌∷◌, ◌++◌, Option, Some, None, is_some, map, refl, sym, ap, ◌∙◌, ⊎_elim, Bor, append_assoc}
use Rattle.std.specs.Prelude.{All, ◌==◌}
use Rattle.std.specs.List.{slice_split}
use Rattle.std.specs.Option.{option_or, option_to_list}
use Rattle.std.specs.Ordering.{eq_by_cmp, nat_cmp}
use Rattle.std.specs.Cmp.{eq_by_cmp_equiv}
use Rattle.std.specs.Cmp.Lexicographic.{slice_cmp, nat_list_cmp_total}
use Rattle.std.specs.Map.{lookup, KeepsOthers}
use Rattle.std.specs.BTreeMap.{BTreeMap, UpdatesBy, is_at}
use Rattle.std.specs.FinMap as fin
use Rattle.std.proofs.lemmas.Bool.{cases_Bool}
use Rattle.std.proofs.lemmas.List.{append-nil}
use Rattle.std.proofs.lemmas.List.Splits.{slice_split_at, slice_split_none}
use Rattle.std.proofs.lemmas.Map.Lookups.{exact_bytes}
use Rattle.std.proofs.lemmas.Map.Views.{tells_apart}
use Rattle.sn_accounts.specs.Lines.{account_of, accounts_in, is_line_end}

abbrev pub Entries : Type 0
Entries = List (Bor (List ℕ) × ℕ)

abbrev pub Told : Type 0
Told = List (List ℕ × ℕ)

abbrev pub map_of : Entries → fin.FinMap (slice_cmp nat_cmp) ℕ
map_of es = fin.from_entries {R = slice_cmp nat_cmp} (map (λ e. (e.0.now, e.1)) es)

abbrev pub found : List ℕ → Entries → Option ℕ
found q es = lookup (is_at (λ (k : Bor (List ℕ)). slice_cmp nat_cmp q k.now)) es

find-seen : (es : Entries) (q : List ℕ) → fin.find (slice_cmp nat_cmp) q (map (λ e. (e.0.now, e.1)) es) ≡ found q es
find-seen [] q = refl
find-seen (e ∷ es) q = ap (cond (eq_by_cmp (slice_cmp nat_cmp) q e.0.now) (Some e.1)) (find-seen es q)

-- what the finite map has is what a look-up finds
pub get-map_of : (es : Entries) (q : List ℕ) → fin.get (map_of es) q ≡ found q es
get-map_of es q = fin.get-from_entries nat_list_cmp_total _ q ∙ find-seen es q

-- what a call of `insert` left at each name
updated : (m n : BTreeMap (Bor (List ℕ)) ℕ) (k : List ℕ) (w : Option ℕ) → UpdatesBy (λ x y. slice_cmp nat_cmp x.now y.now) (λ x. slice_cmp nat_cmp k x.now) m n w
    → (q : List ℕ) → found q n.entries ≡ cond (eq_by_cmp (slice_cmp nat_cmp) k q) w (found q m.entries)
unfolding KeepsOthers
updated m n k w h q = told (eq_by_cmp (slice_cmp nat_cmp) k q) refl
  where
    apart : eq_by_cmp (slice_cmp nat_cmp) k q ≡ false → (x : Bor (List ℕ)) → eq_by_cmp (slice_cmp nat_cmp) k x.now ≡ true → eq_by_cmp (slice_cmp nat_cmp) q x.now ≡ false
    apart e x y = ap (eq_by_cmp (slice_cmp nat_cmp) q) (sym (tells_apart exact_bytes k x.now y)) ∙ (eq_by_cmp_equiv nat_list_cmp_total).symm q k ∙ e

    told : (b : Bool) → eq_by_cmp (slice_cmp nat_cmp) k q ≡ b → found q n.entries ≡ cond b w (found q m.entries)
    told true e = ap (λ z. found z n.entries) (sym (tells_apart exact_bytes k q e)) ∙ h.1
    told false e = h.3 (λ x. eq_by_cmp (slice_cmp nat_cmp) q x.now) (λ x y. (eq_by_cmp_equiv nat_list_cmp_total).congr q x.now y.now) (apart e)

pub inserted : (m n : BTreeMap (Bor (List ℕ)) ℕ) (k : List ℕ) (v : ℕ) → UpdatesBy (λ x y. slice_cmp nat_cmp x.now y.now) (λ x. slice_cmp nat_cmp k x.now) m n (Some v)
    → map_of n.entries ≡ fin.insert (map_of m.entries) k v
inserted m n k v h = fin.same_map nat_list_cmp_total exact_bytes _ _ (λ q.
    get-map_of n.entries q ∙ updated m n k (Some v) h q
    ∙ ap (λ b. cond b (Some v) (found q m.entries)) ((eq_by_cmp_equiv nat_list_cmp_total).symm k q)
    ∙ sym (fin.get-insert nat_list_cmp_total (map_of m.entries) k v q ∙ ap (cond (eq_by_cmp (slice_cmp nat_cmp) q k) (Some v)) (get-map_of m.entries q)))

-- ---- accounts one after the other

abbrev pub told_map : Told → fin.FinMap (slice_cmp nat_cmp) ℕ
told_map told = fin.from_entries {R = slice_cmp nat_cmp} told

or_cond : (b : Bool) (x : ℕ) (o p : Option ℕ) → cond b (Some x) (option_or o p) ≡ option_or (cond b (Some x) o) p
or_cond true x o p = refl
or_cond false x o p = refl

or_none : (o : Option ℕ) → option_or o None ≡ o
or_none None = refl
or_none (Some x) = refl

or_some : (o p : Option ℕ) → is_some o ≡ true → option_or o p ≡ o
or_some None p e = cc
or_some (Some x) p e = refl

none_of : (o : Option ℕ) → is_some o ≡ false → o ≡ None
none_of None e = refl
none_of (Some x) e = cc

find-push : (told : Told) (k q : List ℕ) (v : ℕ) → fin.find (slice_cmp nat_cmp) q (told ++ (k, v) ∷ []) ≡ option_or (fin.find (slice_cmp nat_cmp) q told) (cond (eq_by_cmp (slice_cmp nat_cmp) q k) (Some v) None)
find-push [] k q v = refl
find-push (e ∷ told) k q v =
    ap (cond (eq_by_cmp (slice_cmp nat_cmp) q e.0) (Some e.1)) (find-push told k q v)
    ∙ or_cond (eq_by_cmp (slice_cmp nat_cmp) q e.0) e.1 (fin.find (slice_cmp nat_cmp) q told) _

find-known : (told : Told) (k q : List ℕ) (v : ℕ) → is_some (fin.find (slice_cmp nat_cmp) k told) ≡ true → fin.find (slice_cmp nat_cmp) q (told ++ (k, v) ∷ []) ≡ fin.find (slice_cmp nat_cmp) q told
find-known told k q v known =
    find-push told k q v
    ∙ ⊎_elim
    (λ same. or_some _ _ (ap (λ z. is_some (fin.find (slice_cmp nat_cmp) z told)) (tells_apart exact_bytes q k same) ∙ known))
    (λ other. ap (λ b. option_or (fin.find (slice_cmp nat_cmp) q told) (cond b (Some v) None)) other ∙ or_none _)
    (cases_Bool (eq_by_cmp (slice_cmp nat_cmp) q k))

-- a line with a name that an earlier one has, and one with a new name
pub told_again : (told : Told) (o : Option (List ℕ × ℕ)) (k : List ℕ) (v : ℕ) → Some (k, v) ≡ o → is_some (fin.get (told_map told) k) ≡ true → told_map told ≡ told_map (told ++ option_to_list o)
told_again told o k v e known =
    let there : is_some (fin.find (slice_cmp nat_cmp) k told) ≡ true = ap is_some (sym (fin.get-from_entries nat_list_cmp_total told k)) ∙ known in
    fin.same_map nat_list_cmp_total exact_bytes _ _ (λ q.
    fin.get-from_entries nat_list_cmp_total told q ∙ sym (find-known told k q v there) ∙ sym (fin.get-from_entries nat_list_cmp_total (told ++ (k, v) ∷ []) q))
    ∙ ap (λ p. told_map (told ++ option_to_list p)) e

pub told_first : (told : Told) (o : Option (List ℕ × ℕ)) (k : List ℕ) (v : ℕ) → Some (k, v) ≡ o → is_some (fin.get (told_map told) k) ≡ false → fin.insert (told_map told) k v ≡ told_map (told ++ option_to_list o)
told_first told o k v e new =
    let none : fin.find (slice_cmp nat_cmp) k told ≡ None = none_of _ (ap is_some (sym (fin.get-from_entries nat_list_cmp_total told k)) ∙ new) in
    sym (fin.from_entries_push nat_list_cmp_total exact_bytes told k v none) ∙ ap (λ p. told_map (told ++ option_to_list p)) e

-- ---- the lines of a text

pub next_line : (told all : Told) (line others rest : List ℕ) → rest ≡ line ++ 10 ∷ others → All (λ b. (b == 10) ≡ false) line → told ++ accounts_in (slice_split is_line_end rest) ≡ all
    → (told ++ option_to_list (account_of line)) ++ accounts_in (slice_split is_line_end others) ≡ all
next_line told all line others rest whole plain is =
    append_assoc told (option_to_list (account_of line)) (accounts_in (slice_split is_line_end others))
    ∙ ap (λ ls. told ++ accounts_in ls) (sym (ap (slice_split is_line_end) whole ∙ slice_split_at is_line_end line 10 others plain refl))
    ∙ is

pub last_line : (told all : Told) (rest : List ℕ) → All (λ b. (b == 10) ≡ false) rest → told ++ accounts_in (slice_split is_line_end rest) ≡ all → told ++ option_to_list (account_of rest) ≡ all
last_line told all rest plain is =
    ap (λ ls. told ++ ls) (sym (append-nil (option_to_list (account_of rest)))) ∙ ap (λ ls. told ++ accounts_in ls) (sym (slice_split_none is_line_end rest plain)) ∙ is
