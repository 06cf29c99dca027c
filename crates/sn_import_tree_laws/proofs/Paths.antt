-- The path of names below a directory: how it is spelled, and where it leads.
use Rattle.std.proofs.Common.{◌≡◌, ℕ, ◌≤◌, ◌==◌, ◌&&◌, not, Bool, true, false, cond, List, [], ◌∷◌, ◌++◌, length, Option, Some, None, Result, Ok, Err, nat_lt, codes, refl, sym, ap, ap₂, subst, ◌∙◌, true≢false, eqb-true, append-nil, le-ltb}
use Rattle.std.specs.List.{list_all, onto_first}
use Rattle.std.specs.Option.{option_and_then, option_map}
use Rattle.std.specs.Cmp.Lexicographic.{pointwise}
use Rattle.std.specs.FinMap as map
use Rattle.std.proofs.lemmas.Bool.{and_from, and_parts}
use Rattle.sn_limits.specs.Names.{has_name_length, is_dots, is_name, is_name_byte, is_name_spelled}
use Rattle.sn_limits.specs.declared.limits.Limits.{Limits}
use Rattle.sn_walk.specs.declared.fault.PathFault.{PathFault}
use Rattle.sn_walk.specs.declared.fault.PathFault.TheVariants.{Misspelt, TooLong}
use Rattle.sn_walk.specs.declared.object.Home.TheVariants.{Live}
use Rattle.sn_walk.specs.declared.object.Object.{Object}
use Rattle.sn_walk.specs.declared.object.Object.TheVariants as object
use Rattle.sn_walk.specs.Paths.{components, of_length, of_names, of_word, parsed, pieces}
use Rattle.sn_walk.specs.Views.{ViewedTrees, child_of, is_hidden_name}
use Rattle.sn_model.specs.Denials.{led_to}
use Rattle.sn_model.specs.NameTree.{HasNodes}
use Rattle.sn_model.specs.Tests.{path_argument, read_path}
use Rattle.sn_model.specs.Tree.{Tree, link_to}
use Rattle.sn_model.specs.World.{World}
use Rattle.sn_model.proofs.DecidedLemmas.{AreNames as AreSpelled, path_names}
use Rattle.sn_archive_laws.specs.Objects.{AreNames, in_image, path_below}
use Rattle.sn_archive_laws.specs.Trees.{Leads}
use Rattle.sn_import_laws.proofs.Opening.{trees_in}

-- ---- names between slashes

abbrev is_slash : ℕ → Bool
is_slash b = b == 47

split_some : (text : List ℕ) → (first : List ℕ) × (rest : List (List ℕ)) × (pieces text ≡ first ∷ rest)
split_some [] = ([], [], refl)
split_some (x ∷ text) =
    elim (is_slash x) as (λ b. (first : List ℕ) × (rest : List (List ℕ)) × (cond b ([] ∷ pieces text) (onto_first x (pieces text)) ≡ first ∷ rest)) [
      | true ↦ ([], pieces text, refl)
      | false ↦ (let s = split_some text in (x ∷ s.0, s.1, ap (onto_first x) s.2))
    ]

onto_more : (x : ℕ) (parts more : List (List ℕ)) (first : List ℕ) (rest : List (List ℕ)) → parts ≡ first ∷ rest → onto_first x (parts ++ more) ≡ onto_first x parts ++ more
onto_more x parts more first rest is = ap (λ (ps : List (List ℕ)). onto_first x (ps ++ more)) is ∙ ap (λ (ps : List (List ℕ)). onto_first x ps ++ more) (sym is)

split_more : (text more : List ℕ) → pieces (text ++ 47 ∷ more) ≡ pieces text ++ pieces more
split_more [] more = refl
split_more (x ∷ text) more =
    elim (is_slash x) as (λ b. cond b ([] ∷ pieces (text ++ 47 ∷ more)) (onto_first x (pieces (text ++ 47 ∷ more))) ≡ cond b ([] ∷ pieces text) (onto_first x (pieces text)) ++ pieces more) [
      | true ↦ ap (λ (ps : List (List ℕ)). [] ∷ ps) (split_more text more)
      | false ↦ (let s = split_some text in ap (onto_first x) (split_more text more) ∙ onto_more x (pieces text) (pieces more) s.0 s.1 s.2)
    ]

not_true : (b : Bool) → not b ≡ true → b ≡ false
not_true true e = cc
not_true false e = refl

pub no_slash : (b : ℕ) → is_name_byte b ≡ true → is_slash b ≡ false
no_slash b is = not_true (is_slash b) (and_parts (nat_lt 32 b && nat_lt b 127) (not (is_slash b)) is).1

one_piece : (name : List ℕ) → list_all is_name_byte name ≡ true → pieces name ≡ name ∷ []
one_piece [] are = refl
one_piece (x ∷ name) are =
    let s = and_parts (is_name_byte x) (list_all is_name_byte name) are in
    ap (λ b. cond b ([] ∷ pieces name) (onto_first x (pieces name))) (no_slash x s.0) ∙ ap (onto_first x) (one_piece name s.1)

-- what a name is
pub record IsNameOf (name : List ℕ) : Type 0 where
  pub bytes : list_all is_name_byte name ≡ true
  pub some : (length name == 0) ≡ false
  pub spelled : is_name_spelled name ≡ true
  pub short : has_name_length name ≡ true

pub name_is : (name : List ℕ) → is_name name ≡ true → IsNameOf name
name_is name is =
    let both = and_parts (is_name_spelled name) (has_name_length name) is in
    let parts = and_parts (not (length name == 0) && not (is_dots name)) (list_all is_name_byte name) both.0 in
    record { bytes = parts.1; some = not_true (length name == 0) (and_parts (not (length name == 0)) (not (is_dots name)) parts.0).0; spelled = both.0; short = both.1 }

pieces_of_names : (name : List ℕ) (names : List (List ℕ)) → AreNames (name ∷ names) → pieces (name ++ in_image names) ≡ name ∷ names
pieces_of_names name [] are = ap pieces (append-nil name) ∙ one_piece name (name_is name are.0).bytes
pieces_of_names name (next ∷ names) are =
    split_more name (next ++ in_image names) ∙ ap₂ (λ (a b : List (List ℕ)). a ++ b) (one_piece name (name_is name are.0).bytes) (pieces_of_names next names are.1)

-- ---- the path

all_spelled : (names : List (List ℕ)) → AreNames names → AreSpelled names
all_spelled [] are = record { spelled = refl; short = refl }
all_spelled (name ∷ names) are =
    let n = name_is name are.0 in
    let more = all_spelled names are.1 in
    record { spelled = and_from _ _ n.spelled more.spelled; short = and_from _ _ n.short more.short }

joined_spelled : (ns names : List (List ℕ)) → AreSpelled ns → AreNames names → AreSpelled (ns ++ names)
joined_spelled [] names first are = all_spelled names are
joined_spelled (n ∷ ns) names first are =
    let a = and_parts (is_name_spelled n) (list_all is_name_spelled ns) first.spelled in
    let b = and_parts (has_name_length n) (list_all has_name_length ns) first.short in
    let more = joined_spelled ns names (record { spelled = a.1; short = b.1 }) are in
    record { spelled = and_from _ _ a.0 more.spelled; short = and_from _ _ b.0 more.short }

abbrev path_ok : List (List ℕ) → Result (List (List ℕ)) PathFault
path_ok names = Ok names

abbrev path_fault : PathFault → Result (List (List ℕ)) PathFault
path_fault fault = Err fault

path_is : (rest : List ℕ) (names : List (List ℕ)) → components rest ≡ names → AreSpelled names → length (47 ∷ rest) ≤ 1023 → path_argument (47 ∷ rest) ≡ Ok names
path_is rest names are spelled short =
    ap (λ (b : Bool). read_path (cond b (path_fault TooLong) (of_names (components rest)))) (le-ltb 1023 (length (47 ∷ rest)) short)
    ∙ ap (λ (ns : List (List ℕ)). read_path (of_names ns)) are
    ∙ ap (λ (b : Bool). read_path (cond b (of_length names) (path_fault Misspelt))) spelled.spelled
    ∙ ap (λ (b : Bool). read_path (cond b (path_ok names) (path_fault TooLong))) spelled.short

record IsPath (word : List ℕ) (names : List (List ℕ)) : Type 0 where
  rest : List ℕ
  whole : word ≡ 47 ∷ rest
  names_are : components rest ≡ names

read_ok : (r : Result (List (List ℕ)) PathFault) (names : List (List ℕ)) → read_path r ≡ Ok names → r ≡ Ok names
read_ok (Ok all) names e = (let same : all ≡ names = cc in ap path_ok same)
read_ok (Err Misspelt) names e = cc
read_ok (Err TooLong) names e = cc

same_names : (a b : List (List ℕ)) → path_ok a ≡ path_ok b → a ≡ b
same_names a b e = cc

passes : (b : Bool) (r : Result (List (List ℕ)) PathFault) (fault : PathFault) (names : List (List ℕ)) → cond b r (path_fault fault) ≡ Ok names → r ≡ Ok names
passes true r fault names e = e
passes false r fault names e = cc

fails : (b : Bool) (r : Result (List (List ℕ)) PathFault) (fault : PathFault) (names : List (List ℕ)) → cond b (path_fault fault) r ≡ Ok names → r ≡ Ok names
fails true r fault names e = cc
fails false r fault names e = e

word_is : (word : List ℕ) (names : List (List ℕ)) → of_word word ≡ Ok names → IsPath word names
word_is [] names e = cc
word_is (b ∷ rest) names e = told (b == 47) refl e
  where
    told : (t : Bool) → (b == 47) ≡ t → cond t (of_names (components rest)) (path_fault Misspelt) ≡ Ok names → IsPath (b ∷ rest) names
    told true is f =
        let same : b ≡ 47 = eqb-true b 47 is in
        let long = passes (list_all is_name_spelled (components rest)) (of_length (components rest)) Misspelt names f in
        let all = passes (list_all has_name_length (components rest)) (path_ok (components rest)) TooLong names long in
        record { rest = rest; whole = ap (λ (c : ℕ). c ∷ rest) same; names_are = same_names (components rest) names all }
    told false is f = cc

path_parts : (word : List ℕ) (names : List (List ℕ)) → path_argument word ≡ Ok names → IsPath word names
path_parts word names e = word_is word names (fails (nat_lt 1023 (length word)) (of_word word) TooLong names (read_ok (parsed word) names e))

-- the path of names below a directory has its names and then these
pub path_spelled : (into : List ℕ) (ns : List (List ℕ)) (name : List ℕ) (names : List (List ℕ)) → path_argument into ≡ Ok ns → AreNames (name ∷ names) → length (path_below into (name ∷ names)) ≤ 1023
    → path_argument (path_below into (name ∷ names)) ≡ Ok (ns ++ name ∷ names)
path_spelled into ns name names spelled are short =
    let p = path_parts into ns spelled in
    let all = joined_spelled ns (name ∷ names) (path_names into ns spelled) are in
    let below = told name p.rest p.names_are (name_is name are.0).some (pieces_of_names name names are) in
    let same : path_below into (name ∷ names) ≡ 47 ∷ below.0 = ap (λ (w : List ℕ). path_below w (name ∷ names)) p.whole ∙ below.1 in
    ap path_argument same ∙ path_is below.0 (ns ++ name ∷ names) below.2 all (subst (λ (w : List ℕ). length w ≤ 1023) same short)
  where
    told : (n : List ℕ) (rest : List ℕ) → components rest ≡ ns → (length n == 0) ≡ false → pieces (n ++ in_image names) ≡ n ∷ names
        → (all : List ℕ) × (path_below (47 ∷ rest) (n ∷ names) ≡ 47 ∷ all) × (components all ≡ ns ++ n ∷ names)
    told [] rest is some pieces_are = absurd (true≢false some)
    told (x ∷ n) [] is some pieces_are = (x ∷ n ++ in_image names, refl, pieces_are ∙ ap (λ (l : List (List ℕ)). l ++ (x ∷ n) ∷ names) is)
    told (x ∷ n) (b ∷ bs) is some pieces_are =
        ((b ∷ bs) ++ 47 ∷ (x ∷ n ++ in_image names), refl, split_more (b ∷ bs) (x ∷ n ++ in_image names) ∙ ap₂ (λ (k l : List (List ℕ)). k ++ l) is pieces_are)

-- ---- where it leads

pub led_append : (trees : ViewedTrees) (o : Object) (first second : List (List ℕ)) → led_to trees o (first ++ second) ≡ option_and_then (λ x. led_to trees x second) (led_to trees o first)
unfolding led_to
led_append trees o [] second = refl
led_append trees o (name ∷ first) second = further (child_of trees o name) (λ x. led_append trees x first second)
  where
    further : (found : Option Object) → ((x : Object) → led_to trees x (first ++ second) ≡ option_and_then (λ y. led_to trees y second) (led_to trees x first))
        → option_and_then (λ x. led_to trees x (first ++ second)) found ≡ option_and_then (λ y. led_to trees y second) (option_and_then (λ x. led_to trees x first) found)
    further None same = refl
    further (Some x) same = same x

same_text : (a b : List ℕ) → pointwise ◌==◌ a b ≡ true → a ≡ b
same_text [] [] e = refl
same_text [] (y ∷ b) e = cc
same_text (x ∷ a) [] e = cc
same_text (x ∷ a) (y ∷ b) e =
    let s = and_parts (x == y) (pointwise ◌==◌ a b) e in
    ap₂ (λ (c : ℕ) (cs : List ℕ). c ∷ cs) (eqb-true x y s.0) (same_text a b s.1)

-- a name that is there isn't that of the snapshots
pub shown : (limits : Limits) (tree : Tree) (directory n : ℕ) (name : List ℕ) → HasNodes limits tree → map.get tree.links (link_to directory name) ≡ Some n → is_hidden_name directory name ≡ false
shown limits tree directory n name nodes e = told (is_hidden_name directory name) refl
  where
    told : (b : Bool) → is_hidden_name directory name ≡ b → is_hidden_name directory name ≡ false
    told false h = h
    told true h =
        let s = and_parts (directory == 2) (pointwise ◌==◌ name (codes ".snapshot")) h in
        let at : directory ≡ 2 = eqb-true directory 2 s.0 in
        let is : name ≡ codes ".snapshot" = same_text name (codes ".snapshot") s.1 in
        let never : Some n ≡ None = sym e ∙ ap₂ (λ (d : ℕ) (t : List ℕ). map.get tree.links (link_to d t)) at is ∙ nodes.hidden in
        absurd cc

pub child_is : (world : World) (directory : ℕ) (name : List ℕ) → is_hidden_name directory name ≡ false → child_of (trees_in world) (object.Node Live directory) name ≡ option_map (object.Node Live) (map.get world.live.links (link_to directory name))
child_is world directory name seen = ap (λ (b : Bool). cond b (Some object.Snapshots) (option_map (object.Node Live) (map.get world.live.links (link_to directory name)))) seen

pub led_along : (limits : Limits) (world : World) (from end : ℕ) (names : List (List ℕ)) → HasNodes limits world.live → Leads world.live from names end → led_to (trees_in world) (object.Node Live from) names ≡ Some (object.Node Live end)
unfolding led_to
led_along limits world from end [] nodes leads = ap (λ (n : ℕ). Some (object.Node Live n)) (sym leads)
led_along limits world from end (name ∷ names) nodes leads =
    ap (option_and_then (λ x. led_to (trees_in world) x names)) (child_is world from name (shown limits world.live from leads.0 name nodes leads.1) ∙ ap (option_map (object.Node Live)) leads.1)
    ∙ led_along limits world leads.0 end names nodes leads.2
