-- The directories that the path of names below a directory leads through.
use Rattle.std.proofs.Common.{◌≡◌, ℕ, Bool, true, cond, List, [], ◌∷◌, ◌++◌, length, sym, ap, ap₂, subst, ◌∙◌, append_assoc, append-nil, length-append}
use Rattle.std.specs.List.{AllByRecursion, list_all}
use Rattle.std.proofs.lemmas.Bool.{and_parts}
use Rattle.std.proofs.lemmas.List.{drop_at, flat_map_more, take_at}
use Rattle.sn_limits.specs.Names.{is_name, is_name_byte}
use Rattle.sn_import.specs.Calls.{through, through_from}
use Rattle.sn_import_entry.specs.Entries.{front, lead}
use Rattle.sn_archive_laws.specs.Objects.{AreNames, in_image, path_below}
use Rattle.sn_import_tree_laws.proofs.Paths.{name_is, no_slash}

through_name : (before name rest : List ℕ) → list_all is_name_byte name ≡ true → through before (name ++ rest) ≡ through (before ++ name) rest
through_name before [] rest are = ap (λ (b : List ℕ). through b rest) (sym (append-nil before))
through_name before (x ∷ name) rest are =
    let s = and_parts (is_name_byte x) (list_all is_name_byte name) are in
    let on = before ++ x ∷ [] in
    ap (λ (b : Bool). cond b (before ∷ through on (name ++ rest)) (through on (name ++ rest))) (no_slash x s.0)
    ∙ through_name on name rest s.1
    ∙ ap (λ (b : List ℕ). through b rest) (append_assoc before (x ∷ []) name)

-- a name further
slash_name : (before name rest : List ℕ) → is_name name ≡ true → through (before ++ 47 ∷ []) (name ++ rest) ≡ through (before ++ 47 ∷ name) rest
slash_name before name rest is =
    through_name (before ++ 47 ∷ []) name rest (name_is name is).bytes ∙ ap (λ (b : List ℕ). through b rest) (append_assoc before (47 ∷ []) name)

pub path_further : (into : List ℕ) (names : List (List ℕ)) (name : List ℕ) → path_below into names ++ 47 ∷ name ≡ path_below into (names ++ name ∷ [])
path_further into names name = flat_map_more (λ (n : List ℕ). 47 ∷ n) (front into) names name

module _ (P : List ℕ → Type 0) (into : List ℕ) where
  -- this is so of the path of some names, and of each path from there on, but for the last name
  abbrev pub AllFrom : List (List ℕ) → List (List ℕ) → Type 0
  AllFrom names [] = P (path_below into names)
  AllFrom names (name ∷ more) = P (path_below into names) × AllFrom (names ++ name ∷ []) more

  all_from : (names more : List (List ℕ)) (last : List ℕ) → AreNames more → is_name last ≡ true → AllFrom names more → AllByRecursion P (through (path_below into names) (in_image (more ++ last ∷ [])))
  all_from names [] last are is all =
      let end : through (path_below into names ++ 47 ∷ []) (last ++ []) ≡ [] = slash_name (path_below into names) last [] is in
      (all, subst (AllByRecursion P) (sym end) tt)
  all_from names (name ∷ more) last are is all =
      let on : through (path_below into names ++ 47 ∷ []) (name ++ in_image (more ++ last ∷ [])) ≡ through (path_below into (names ++ name ∷ [])) (in_image (more ++ last ∷ [])) =
      slash_name (path_below into names) name (in_image (more ++ last ∷ [])) are.0 ∙ ap (λ (b : List ℕ). through b (in_image (more ++ last ∷ []))) (path_further into names name) in
      (all.0, subst (AllByRecursion P) (sym on) (all_from (names ++ name ∷ []) more last are.1 is all.1))

  -- of the directories above a path, this is so
  abbrev pub AllAbove : List (List ℕ) → Type 0
  AllAbove [] = Unit {0}
  AllAbove (name ∷ more) = AllFrom (name ∷ []) more

  through_below : (name : List ℕ) (names : List (List ℕ)) → is_name name ≡ true → through_from (lead into) (path_below into (name ∷ names)) ≡ through (path_below into (name ∷ [])) (in_image names)
  through_below name names is =
      let f = front into in
      let more = name ++ in_image names in
      let whole : (f ++ 47 ∷ []) ++ more ≡ path_below into (name ∷ names) = append_assoc f (47 ∷ []) more in
      let long : length (f ++ 47 ∷ []) ≡ lead into = length-append f (47 ∷ []) in
      ap (through_from (lead into)) (sym whole)
      ∙ ap₂ through (take_at (f ++ 47 ∷ []) more (lead into) long) (drop_at (f ++ 47 ∷ []) more (lead into) long)
      ∙ slash_name f name (in_image names) is
      ∙ ap (λ (b : List ℕ). through b (in_image names)) (ap (λ (b : List ℕ). f ++ b) (sym (append-nil (47 ∷ name))))

  pub all_above : (names : List (List ℕ)) (last : List ℕ) → AreNames names → is_name last ≡ true → AllAbove names → AllByRecursion P (through_from (lead into) (path_below into (names ++ last ∷ [])))
  all_above [] last are is all = subst (AllByRecursion P) (sym (through_below last [] is)) tt
  all_above (name ∷ names) last are is all = subst (AllByRecursion P) (sym (through_below name (names ++ last ∷ []) are.0)) (all_from (name ∷ []) names last are.1 is all)
