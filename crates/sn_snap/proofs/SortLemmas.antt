-- Names that are put in order one by one are the keys of the map.
use Rattle.std.proofs.Common.{◌≡◌, ℕ, suc, ◌<◌, ◌+◌, Bool, true, false, cond, not, List, [], ◌∷◌, ◌++◌, map, length, get_or, take, Option, Some, None, refl, sym, ap, ap₂, ◌∙◌, arith, true≢false}
use Rattle.std.specs.Prelude.{insert, is_some, nat_lt, position, unwrap_or}
use Rattle.std.specs.List.{list_any, position_or_len}
use Rattle.std.specs.Option.{option_or}
use Rattle.std.specs.declared.cmp.Ordering.{Ordering}
use Rattle.std.specs.declared.cmp.Ordering.TheVariants.{Less, Equal, Greater}
use Rattle.std.specs.Ordering.{eq_by_cmp, is_eq, is_gt, ordering_reverse}
use Rattle.std.specs.FinMap as fin
use Rattle.std.specs.Cmp.Lexicographic.{texts_ties}
use Rattle.std.specs.FinMap.Entries.{by_order, find, put}
use Rattle.std.specs.Str.{bytes_eq}
use Rattle.std.proofs.lemmas.Bool.{ltb-false, or_parts}
use Rattle.std.proofs.lemmas.List.{map-append, take_more}
use Rattle.std.proofs.lemmas.List.Sums.{prefix_len-le-length}
use Rattle.sn_layout.specs.declared.snapshot.Snapshot.{Snapshot}
use Rattle.sn_snap.specs.Catalogue.{by_name}
use Rattle.sn_snap.proofs.NameLemmas.{by_bytes, get_is, has_name, named, names_total, same_bytes, same_names, told_by, unfound}

-- the first index, or else the end
pub place_or_end : (p : List ℕ → Bool) (names : List (List ℕ)) → unwrap_or (position p names) (length names) ≡ position_or_len p names
place_or_end p names = told (nat_lt (position_or_len p names) (length names)) refl
  where
    told : (b : Bool) → nat_lt (position_or_len p names) (length names) ≡ b → unwrap_or (cond b (Some (position_or_len p names)) None) (length names) ≡ position_or_len p names
    told true e = refl
    told false e = omega (arith, ltb-false (position_or_len p names) (length names) e, prefix_len-le-length (λ name. not (p name)) names)

-- where a name goes among others
abbrev pub index_among : List ℕ → List (List ℕ) → ℕ
index_among name names = position_or_len (λ other. is_gt (by_bytes other name)) names

turned : (a b : List ℕ) (r : Ordering) → by_bytes a b ≡ r → by_bytes b a ≡ ordering_reverse r
turned a b r e = names_total.antisymm b a ∙ ap ordering_reverse e

module _ {X : Type 0} where
  put_first : (k : List ℕ) (v : X) (e : List ℕ × X) (es : List (List ℕ × X)) (r : Ordering) → by_bytes k e.0 ≡ r → eq_by_cmp by_bytes k e.0 ≡ false
      → map (λ x. x.0) (put by_bytes k v es) ≡ insert (map (λ x. x.0) es) (index_among k (map (λ x. x.0) es)) k
      → map (λ x. x.0) (by_order r ((k, v) ∷ e ∷ es) ((e.0, v) ∷ es) (e ∷ put by_bytes k v es)) ≡ insert (map (λ x. x.0) (e ∷ es)) (index_among k (map (λ x. x.0) (e ∷ es))) k
  put_first k v e es Less is apart rest =
      sym (ap (λ r. insert (map (λ x. x.0) (e ∷ es)) (cond (not (is_gt r)) (1 + index_among k (map (λ x. x.0) es)) 0) k) (turned k e.0 Less is))
  put_first k v e es Equal is apart rest = absurd (true≢false (sym (ap is_eq is) ∙ apart))
  put_first k v e es Greater is apart rest =
      let index = index_among k (map (λ x. x.0) es) in
      let next : suc index ≡ 1 + index = omega arith in
      ap (λ l. e.0 ∷ l) rest
      ∙ ap (λ n. insert (map (λ x. x.0) (e ∷ es)) n k) next
      ∙ sym (ap (λ r. insert (map (λ x. x.0) (e ∷ es)) (cond (not (is_gt r)) (1 + index) 0) k) (turned k e.0 Greater is))

  pub names-put : (k : List ℕ) (v : X) (es : List (List ℕ × X)) → list_any (eq_by_cmp by_bytes k) (map (λ x. x.0) es) ≡ false
      → map (λ x. x.0) (put by_bytes k v es) ≡ insert (map (λ x. x.0) es) (index_among k (map (λ x. x.0) es)) k
  names-put k v [] new = refl
  names-put k v (e ∷ es) new =
      let apart = or_parts (eq_by_cmp by_bytes k e.0) (list_any (eq_by_cmp by_bytes k) (map (λ x. x.0) es)) new in
      put_first k v e es (by_bytes k e.0) refl apart.0 (names-put k v es apart.1)

-- ---- a name that comes before

module _ {X : Type 0} (f : Snapshot → X) where
  find-behind : (es : List (List ℕ × X)) (k : List ℕ) (v : X) (q : List ℕ) → find by_bytes q (es ++ (k, v) ∷ []) ≡ option_or (find by_bytes q es) (cond (eq_by_cmp by_bytes q k) (Some v) None)
  find-behind [] k v q = refl
  find-behind (e ∷ es) k v q = told (eq_by_cmp by_bytes q e.0) (find-behind es k v q)
    where
      told : (b : Bool) → find by_bytes q (es ++ (k, v) ∷ []) ≡ option_or (find by_bytes q es) (cond (eq_by_cmp by_bytes q k) (Some v) None)
          → cond b (Some e.1) (find by_bytes q (es ++ (k, v) ∷ [])) ≡ option_or (cond b (Some e.1) (find by_bytes q es)) (cond (eq_by_cmp by_bytes q k) (Some v) None)
      told true rest = refl
      told false rest = rest

  -- what comes after is not found by it
  found_before : (front : List Snapshot) (s : Snapshot) (q : List ℕ) → has_name s.name front ≡ true → option_or (find by_bytes q (told_by f front)) (cond (eq_by_cmp by_bytes q s.name) (Some (f s)) None) ≡ find by_bytes q (told_by f front)
  found_before front s q again = told (find by_bytes q (told_by f front)) refl (eq_by_cmp by_bytes q s.name) refl
    where
      told : (o : Option X) → find by_bytes q (told_by f front) ≡ o → (b : Bool) → eq_by_cmp by_bytes q s.name ≡ b → option_or o (cond b (Some (f s)) None) ≡ o
      told (Some x) found b e = refl
      told None found false e = refl
      told None found true e =
          let same : q ≡ s.name = same_bytes q s.name (texts_ties q s.name ∙ e) in
          absurd (true≢false (sym (ap (λ name. has_name name front) same ∙ again) ∙ named f front q ∙ ap is_some found))

  pub told_again : (front : List Snapshot) (s : Snapshot) → has_name s.name front ≡ true → by_name f (front ++ s ∷ []) ≡ by_name f front
  told_again front s again = fin.same_map names_total same_names _ _ (λ q.
      get_is f (front ++ s ∷ []) q
      ∙ ap (find by_bytes q) (map-append (λ (x : Snapshot). (x.name, f x)) front (s ∷ []))
      ∙ find-behind (told_by f front) s.name (f s) q
      ∙ found_before front s q again
      ∙ sym (get_is f front q))

  -- whether a snapshot's name comes before is determined by the keys
  among_keys : (front : List Snapshot) (name : List ℕ) → list_any (bytes_eq name) (fin.keys (by_name f front)) ≡ has_name name front
  among_keys front name =
      (λ i. list_any (λ other. texts_ties name other i) (fin.keys (by_name f front)))
      ∙ sym (fin.contains_key-keys (by_name f front) name)
      ∙ ap is_some (get_is f front name)
      ∙ sym (named f front name)

  pub told_among : (snapshots : List Snapshot) (i : ℕ) (s : Snapshot) (names : List (List ℕ)) (b : Bool) → s ≡ get_or snapshots i s → names ≡ fin.keys (by_name f (take i snapshots))
      → list_any (bytes_eq s.name) names ≡ b → has_name (get_or snapshots i s).name (take i snapshots) ≡ b
  told_among snapshots i s names b item keys is =
      ap (λ (x : Snapshot). has_name x.name (take i snapshots)) (sym item)
      ∙ sym (among_keys (take i snapshots) s.name)
      ∙ ap (list_any (bytes_eq s.name)) (sym keys)
      ∙ is

-- ---- one snapshot more

module _ {X : Type 0} (f : Snapshot → X) (snapshots : List Snapshot) (i : ℕ) (d : Snapshot) (within : i < length snapshots) where
  abbrev next : Snapshot
  next = get_or snapshots i d

  abbrev front : List Snapshot
  front = take i snapshots

  -- whose name is new goes to its index
  pub keys_more : has_name next.name front ≡ false
      → fin.keys (by_name f (take (i + 1) snapshots)) ≡ insert (fin.keys (by_name f front)) (index_among next.name (fin.keys (by_name f front))) next.name
  keys_more new =
      let none = unfound f front next.name new in
      let absent : fin.get (by_name f front) next.name ≡ None = get_is f front next.name ∙ none in
      ap (λ l. fin.keys (by_name f l)) (take_more snapshots i d within)
      ∙ ap (λ es. fin.keys (fin.from_entries {R = by_bytes} es)) (map-append (λ (x : Snapshot). (x.name, f x)) front (next ∷ []))
      ∙ ap fin.keys (fin.from_entries_push names_total same_names (told_by f front) next.name (f next) none)
      ∙ ap (map (λ e. e.0)) (fin.entries-insert names_total (by_name f front) next.name (f next))
      ∙ names-put next.name (f next) (fin.entries (by_name f front)) (sym (fin.contains_key-keys (by_name f front) next.name) ∙ ap is_some absent)

  -- and one whose name is not adds none
  pub keys_same : has_name next.name front ≡ true → fin.keys (by_name f (take (i + 1) snapshots)) ≡ fin.keys (by_name f front)
  keys_same again = ap (λ l. fin.keys (by_name f l)) (take_more snapshots i d within) ∙ ap fin.keys (told_again f front next again)

pub no_keys : (X : Type 0) → fin.keys (fin.empty {X = X} {R = by_bytes}) ≡ []
no_keys X = none (fin.entries (fin.empty {X = X} {R = by_bytes})) (sym (fin.len-entries _) ∙ fin.len-empty by_bytes X)
  where
    none : (es : List (List ℕ × X)) → length es ≡ 0 → map (λ e. e.0) es ≡ []
    none [] e = refl
    none (x ∷ es) e = absurd (omega arith)

-- the index that a search for the first greater name gives
pub goes_to : (name : List ℕ) (names seen : List (List ℕ)) (first : Option ℕ) (len : ℕ) → seen ≡ names → first ≡ position (λ other. is_gt (by_bytes other name)) seen → len ≡ length names
    → unwrap_or first len ≡ index_among name names
goes_to name names seen first len same found all =
    ap₂ unwrap_or (found ∙ ap (position (λ other. is_gt (by_bytes other name))) same) all ∙ place_or_end (λ other. is_gt (by_bytes other name)) names
