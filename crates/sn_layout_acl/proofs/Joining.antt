-- An ACL as the entries that mode bits show and the others.
use Rattle.std.proofs.Common.{◌≡◌, ℕ, ◌+◌, ◌-◌, ◌<◌, ◌≤◌, Bool, true, false, cond, get_or, ltb, eqb, List, [], ◌∷◌, ◌++◌, length, take, drop, refl, sym, ap, subst, ◌∙◌, append_assoc, length-append, arith, lt-ltb}
use Rattle.std.specs.Prelude.{◌&&◌, ◌||◌, filter}
use Rattle.std.specs.List.{AllByRecursion, list_all, prefix_len}
use Rattle.std.proofs.lemmas.Bool.Decides.{nat_tests}
use Rattle.std.proofs.lemmas.List.{take_at, take_all, drop_at, get_or_at}
use Rattle.std.proofs.lemmas.List.Folds.{length-prefix_len}
use Rattle.sn_acl.specs.declared.entries.Tag.{Tag}
use Rattle.sn_acl.specs.declared.entries.Tag.TheVariants.{UserObj, User, GroupObj, Group, Mask, Other}
use Rattle.sn_acl.specs.declared.entries.Entry.{Entry}
use Rattle.sn_acl.specs.declared.modes.Mode.{Mode}
use Rattle.sn_acl.specs.Entries.{is_user_obj, is_group_obj, is_mask, is_other, is_named, rank_of, qualifier_of, precedes}
use Rattle.sn_acl.specs.AccessList.{IsValid, count_of, is_canonical, is_entry}
use Rattle.sn_acl.proofs.ModeLemmas.{both}
use Rattle.sn_layout_acl.specs.Mode.{IsMode}
use Rattle.sn_layout_acl.specs.AclBlock.{is_user, users_in, joined, with_objects}

abbrev entry : Tag → ℕ → Entry
entry tag permissions = record { tag = tag; permissions = permissions }

-- ---- entries for the same, of which each grants what an entry may

abbrev AreLike : List Entry → List Entry → Type 0
AreLike [] [] = Unit {0}
AreLike [] (y ∷ ys) = ⊥
AreLike (x ∷ xs) [] = ⊥
AreLike (x ∷ xs) (y ∷ ys) = (x.tag ≡ y.tag) × (is_entry x ≡ true → is_entry y ≡ true) × AreLike xs ys

like_self : (xs : List Entry) → AreLike xs xs
like_self [] = tt
like_self (x ∷ xs) = (refl, λ h. h, like_self xs)

like_append : (xs ys a b : List Entry) → AreLike xs ys → AreLike a b → AreLike (xs ++ a) (ys ++ b)
like_append [] [] a b h k = k
like_append [] (y ∷ ys) a b h k = absurd h
like_append (x ∷ xs) [] a b h k = absurd h
like_append (x ∷ xs) (y ∷ ys) a b h k = (h.0, h.1, like_append xs ys a b h.2 k)

abbrev pub one_if : Bool → ℕ
one_if true = 1
one_if false = 0

pub count-step : (p : Tag → Bool) (e : Entry) (es : List Entry) → count_of p (e ∷ es) ≡ one_if (p e.tag) + count_of p es
count-step p e es =
    elim (p e.tag) as (λ b. length (cond b (e ∷ filter (λ x. p x.tag) es) (filter (λ x. p x.tag) es)) ≡ one_if b + length (filter (λ x. p x.tag) es)) [
      | true ↦ omega arith
      | false ↦ omega arith
    ]

count-like : (p : Tag → Bool) (xs ys : List Entry) → AreLike xs ys → count_of p xs ≡ count_of p ys
count-like p [] [] h = refl
count-like p [] (y ∷ ys) h = absurd h
count-like p (x ∷ xs) [] h = absurd h
count-like p (x ∷ xs) (y ∷ ys) h =
    let same = ap (λ (t : Tag). one_if (p t)) h.0 in
    omega (arith, count-step p x xs, count-step p y ys, same, count-like p xs ys h.2)

canonical-like : (xs ys : List Entry) → AreLike xs ys → is_canonical xs ≡ is_canonical ys
canonical-like [] [] h = refl
canonical-like [] (y ∷ ys) h = absurd h
canonical-like (x ∷ xs) [] h = absurd h
canonical-like (x ∷ []) (y ∷ []) h = refl
canonical-like (x ∷ []) (y ∷ b ∷ ys) h = absurd h.2
canonical-like (x ∷ a ∷ xs) (y ∷ []) h = absurd h.2
canonical-like (x ∷ a ∷ xs) (y ∷ b ∷ ys) h =
    ap (λ (t : Tag). precedes t a.tag && is_canonical (a ∷ xs)) h.0 ∙ ap (λ (t : Tag). precedes y.tag t && is_canonical (a ∷ xs)) h.2.0 ∙ ap (λ (c : Bool). precedes y.tag b.tag && c) (canonical-like (a ∷ xs) (b ∷ ys) h.2)

numbers-like : (xs ys : List Entry) → AreLike xs ys → list_all is_entry xs ≡ true → list_all is_entry ys ≡ true
numbers-like [] [] h all = refl
numbers-like [] (y ∷ ys) h all = absurd h
numbers-like (x ∷ xs) [] h all = absurd h
numbers-like (x ∷ xs) (y ∷ ys) h all =
    let parts = both (is_entry x) (list_all is_entry xs) all in
    let here = h.1 parts.0 in
    rw here (numbers-like xs ys h.2 parts.1)

valid_like : (xs ys : List Entry) → AreLike xs ys → IsValid xs → IsValid ys
valid_like xs ys like v =
    let count = λ (p : Tag → Bool). count-like p xs ys like in
    record {
      objects = record {
        user_obj = sym (count is_user_obj) ∙ v.objects.user_obj;
        group_obj = sym (count is_group_obj) ∙ v.objects.group_obj;
        other = sym (count is_other) ∙ v.objects.other;
      };
      mask = record {
        most = omega (arith, count is_mask, v.mask.most);
        beside_named = λ some. sym (count is_mask) ∙ v.mask.beside_named (omega (arith, count is_named));
        named = omega (arith, count is_named, v.mask.named);
      };
      canonical = sym (canonical-like xs ys like) ∙ v.canonical;
      numbers = numbers-like xs ys like v.numbers;
    }

object_fits : (tag : Tag) (permissions : ℕ) → qualifier_of tag ≡ 0 → permissions < 8 → is_entry (entry tag permissions) ≡ true
object_fits tag permissions none fits = rw (lt-ltb permissions 8 fits, none) refl

joined_like : (a b : Mode) (named : List Entry) → IsMode b → AreLike (joined a named) (joined b named)
joined_like a b named fits =
    let users = take (users_in named) named in
    let others = drop (users_in named) named in
    let first : AreLike (entry UserObj a.owner ∷ users) (entry UserObj b.owner ∷ users) = (refl, λ h. object_fits UserObj b.owner refl fits.owner, like_self users) in
    let second : AreLike (entry GroupObj a.group ∷ others) (entry GroupObj b.group ∷ others) = (refl, λ h. object_fits GroupObj b.group refl fits.group, like_self others) in
    let last : AreLike (entry Other a.other ∷ []) (entry Other b.other ∷ []) = (refl, λ h. object_fits Other b.other refl fits.other, tt) in
    like_append ((entry UserObj a.owner ∷ users) ++ (entry GroupObj a.group ∷ others)) ((entry UserObj b.owner ∷ users) ++ (entry GroupObj b.group ∷ others)) (entry Other a.other ∷ []) (entry Other b.other ∷ [])
    (like_append (entry UserObj a.owner ∷ users) (entry UserObj b.owner ∷ users) (entry GroupObj a.group ∷ others) (entry GroupObj b.group ∷ others) first second)
    last

pub joined_valid : (mode : Mode) (named : List Entry) → IsMode mode → IsValid (with_objects named) → IsValid (joined mode named)
joined_valid mode named fits v = valid_like (with_objects named) (joined mode named) (joined_like (record { owner = 0; group = 0; other = 0 }) mode named fits) v

pub named_valid : (mode : Mode) (named : List Entry) → IsValid (joined mode named) → IsValid (with_objects named)
named_valid mode named v =
    let none : Mode = record { owner = 0; group = 0; other = 0 } in
    valid_like (joined mode named) (with_objects named) (joined_like mode none named (record { owner = omega arith; group = omega arith; other = omega arith })) v

-- ---- the parts of a valid ACL

-- by numbers, as `precedes` has it
abbrev Before : ℕ → ℕ → ℕ → ℕ → Bool
Before p q p' q' = ltb p p' || (eqb p p' && ltb q q')

before_le : (p q p' q' : ℕ) → Before p q p' q' ≡ true → p ≤ p'
before_le p q p' q' h = grind (arith, nat_tests)

rises : (a b : Tag) → precedes a b ≡ true → rank_of a ≤ rank_of b
rises a b = before_le (rank_of a) (qualifier_of a) (rank_of b) (qualifier_of b)

abbrev AllFrom : ℕ → List Entry → Type 0
AllFrom k es = AllByRecursion (λ e. k ≤ rank_of e.tag) es

from_less : (j k : ℕ) (es : List Entry) → j ≤ k → AllFrom k es → AllFrom j es
from_less j k [] le h = tt
from_less j k (e ∷ es) le h = (let here = h.0 in omega arith, from_less j k es le h.1)

rest_canonical : (e : Entry) (es : List Entry) → is_canonical (e ∷ es) ≡ true → is_canonical es ≡ true
rest_canonical e [] h = refl
rest_canonical e (f ∷ es) h = (both (precedes e.tag f.tag) (is_canonical (f ∷ es)) h).1

-- no entry is before the first
from_first : (e : Entry) (es : List Entry) → is_canonical (e ∷ es) ≡ true → AllFrom (rank_of e.tag) es
from_first e [] h = tt
from_first e (f ∷ es) h =
    let parts = both (precedes e.tag f.tag) (is_canonical (f ∷ es)) h in
    let le = rises e.tag f.tag parts.0 in
    (le, from_less (rank_of e.tag) (rank_of f.tag) es le (from_first f es parts.1))

no_owner : (t : Tag) → 1 ≤ rank_of t → one_if (is_user_obj t) ≡ 0
no_owner UserObj h = absurd (omega arith)
no_owner (User n) h = refl
no_owner GroupObj h = refl
no_owner (Group n) h = refl
no_owner Mask h = refl
no_owner Other h = refl

no_group : (t : Tag) → 3 ≤ rank_of t → one_if (is_group_obj t) ≡ 0
no_group UserObj h = absurd (omega arith)
no_group (User n) h = absurd (omega arith)
no_group GroupObj h = absurd (omega arith)
no_group (Group n) h = refl
no_group Mask h = refl
no_group Other h = refl

no_owners : (es : List Entry) → AllFrom 1 es → count_of is_user_obj es ≡ 0
no_owners [] h = refl
no_owners (e ∷ es) h = omega (arith, count-step is_user_obj e es, no_owner e.tag h.0, no_owners es h.1)

no_groups : (es : List Entry) → AllFrom 3 es → count_of is_group_obj es ≡ 0
no_groups [] h = refl
no_groups (e ∷ es) h = omega (arith, count-step is_group_obj e es, no_group e.tag h.0, no_groups es h.1)

none_after : (t : Tag) → precedes Other t ≡ true → ⊥
none_after UserObj h = absurd cc
none_after (User n) h = absurd cc
none_after GroupObj h = absurd cc
none_after (Group n) h = absurd cc
none_after Mask h = absurd cc
none_after Other h = absurd cc

abbrev AreUsers : List Entry → Type 0
AreUsers es = AllByRecursion (λ e. is_user e.tag ≡ true) es

abbrev BeginsWithoutUser : List Entry → Type 0
BeginsWithoutUser [] = Unit {0}
BeginsWithoutUser (e ∷ es) = is_user e.tag ≡ false

-- the entries after GROUP_OBJ
record IsTail (es others : List Entry) (other : ℕ) : Type 0 where
  begins : BeginsWithoutUser others
  whole : es ≡ others ++ entry Other other ∷ []

abbrev HasTail : List Entry → Type 0
HasTail es = (others : List Entry) × (other : ℕ) × IsTail es others other

alone : (p : ℕ) (es : List Entry) → is_canonical (entry Other p ∷ es) ≡ true → es ≡ []
alone p [] h = refl
alone p (f ∷ es) h = absurd (none_after f.tag (both (precedes Other f.tag) (is_canonical (f ∷ es)) h).0)

tail_more : (e : Entry) (es : List Entry) → is_user e.tag ≡ false → HasTail es → HasTail (e ∷ es)
tail_more e es here (others, other, t) = (e ∷ others, other, record { begins = here; whole = ap (λ (r : List Entry). e ∷ r) t.whole })

tail_step : (tag : Tag) (p : ℕ) (es : List Entry) → is_canonical (entry tag p ∷ es) ≡ true → 2 ≤ rank_of tag → count_of is_group_obj (entry tag p ∷ es) ≡ 0
    → count_of is_other (entry tag p ∷ es) ≡ 1 → (count_of is_other es ≡ 1 → HasTail es) → HasTail (entry tag p ∷ es)
tail_step UserObj p es ordered le none one more = absurd (omega arith)
tail_step (User n) p es ordered le none one more = absurd (omega arith)
tail_step GroupObj p es ordered le none one more = absurd (omega (arith, none))
tail_step (Group n) p es ordered le none one more = tail_more (entry (Group n) p) es refl (more one)
tail_step Mask p es ordered le none one more = tail_more (entry Mask p) es refl (more one)
tail_step Other p es ordered le none one more = ([], p, record { begins = tt; whole = ap (λ (r : List Entry). entry Other p ∷ r) (alone p es ordered) })

tail_of : (es : List Entry) → is_canonical es ≡ true → AllFrom 2 es → count_of is_group_obj es ≡ 0 → count_of is_other es ≡ 1 → HasTail es
tail_of [] ordered from none one = absurd (omega arith)
tail_of (e ∷ es) ordered from none one =
    let fewer : count_of is_group_obj es ≡ 0 = omega (arith, count-step is_group_obj e es) in
    tail_step e.tag e.permissions es ordered from.0 none one (λ last. tail_of es (rest_canonical e es ordered) from.1 fewer last)

-- the entries after USER_OBJ
record IsBody (es users others : List Entry) (group other : ℕ) : Type 0 where
  each : AreUsers users
  begins : BeginsWithoutUser others
  whole : es ≡ users ++ (entry GroupObj group ∷ others ++ entry Other other ∷ [])

abbrev HasBody : List Entry → Type 0
HasBody es = (users others : List Entry) × (group other : ℕ) × IsBody es users others group other

body_more : (e : Entry) (es : List Entry) → is_user e.tag ≡ true → HasBody es → HasBody (e ∷ es)
body_more e es here (users, others, group, other, b) = (e ∷ users, others, group, other, record { each = (here, b.each); begins = b.begins; whole = ap (λ (r : List Entry). e ∷ r) b.whole })

body_ends : (p : ℕ) (es : List Entry) → HasTail es → HasBody (entry GroupObj p ∷ es)
body_ends p es (others, other, t) = ([], others, p, other, record { each = tt; begins = t.begins; whole = ap (λ (r : List Entry). entry GroupObj p ∷ r) t.whole })

body_step : (tag : Tag) (p : ℕ) (es : List Entry) → is_canonical (entry tag p ∷ es) ≡ true → count_of is_user_obj (entry tag p ∷ es) ≡ 0 → count_of is_group_obj (entry tag p ∷ es) ≡ 1
    → count_of is_other (entry tag p ∷ es) ≡ 1 → (count_of is_group_obj es ≡ 1 → count_of is_other es ≡ 1 → HasBody es) → HasBody (entry tag p ∷ es)
body_step UserObj p es ordered none one last more = absurd (omega (arith, none))
body_step (User n) p es ordered none one last more = body_more (entry (User n) p) es refl (more one last)
body_step GroupObj p es ordered none one last more =
    let others : count_of is_group_obj es ≡ 0 = omega (arith, one) in
    body_ends p es (tail_of es (rest_canonical (entry GroupObj p) es ordered) (from_first (entry GroupObj p) es ordered) others last)
body_step (Group n) p es ordered none one last more = absurd (omega (arith, one, no_groups es (from_less 3 3 es (omega arith) (from_first (entry (Group n) p) es ordered))))
body_step Mask p es ordered none one last more = absurd (omega (arith, one, no_groups es (from_less 3 4 es (omega arith) (from_first (entry Mask p) es ordered))))
body_step Other p es ordered none one last more = absurd (omega (arith, one, no_groups es (from_less 3 5 es (omega arith) (from_first (entry Other p) es ordered))))

body_of : (es : List Entry) → is_canonical es ≡ true → count_of is_user_obj es ≡ 0 → count_of is_group_obj es ≡ 1 → count_of is_other es ≡ 1 → HasBody es
body_of [] ordered none one last = absurd (omega arith)
body_of (e ∷ es) ordered none one last =
    let fewer : count_of is_user_obj es ≡ 0 = omega (arith, count-step is_user_obj e es) in
    body_step e.tag e.permissions es ordered none one last (λ some other. body_of es (rest_canonical e es ordered) fewer some other)

-- USER_OBJ, users, GROUP_OBJ, groups and the MASK, OTHER
pub record IsSplit (es users others : List Entry) (owner group other : ℕ) : Type 0 where
  pub each : AreUsers users
  pub begins : BeginsWithoutUser others
  pub whole : es ≡ entry UserObj owner ∷ users ++ (entry GroupObj group ∷ others ++ entry Other other ∷ [])

abbrev HasSplit : List Entry → Type 0
HasSplit es = (users others : List Entry) × (owner group other : ℕ) × IsSplit es users others owner group other

split_more : (p : ℕ) (es : List Entry) → HasBody es → HasSplit (entry UserObj p ∷ es)
split_more p es (users, others, group, other, b) = (users, others, p, group, other, record { each = b.each; begins = b.begins; whole = ap (λ (r : List Entry). entry UserObj p ∷ r) b.whole })

split_step : (tag : Tag) (p : ℕ) (es : List Entry) → IsValid (entry tag p ∷ es) → HasSplit (entry tag p ∷ es)
split_step UserObj p es v =
    let none : count_of is_user_obj es ≡ 0 = omega (arith, v.objects.user_obj) in
    split_more p es (body_of es (rest_canonical (entry UserObj p) es v.canonical) none v.objects.group_obj v.objects.other)
split_step (User n) p es v = absurd (omega (arith, v.objects.user_obj, no_owners es (from_first (entry (User n) p) es v.canonical)))
split_step GroupObj p es v = absurd (omega (arith, v.objects.user_obj, no_owners es (from_less 1 2 es (omega arith) (from_first (entry GroupObj p) es v.canonical))))
split_step (Group n) p es v = absurd (omega (arith, v.objects.user_obj, no_owners es (from_less 1 3 es (omega arith) (from_first (entry (Group n) p) es v.canonical))))
split_step Mask p es v = absurd (omega (arith, v.objects.user_obj, no_owners es (from_less 1 4 es (omega arith) (from_first (entry Mask p) es v.canonical))))
split_step Other p es v = absurd (omega (arith, v.objects.user_obj, no_owners es (from_less 1 5 es (omega arith) (from_first (entry Other p) es v.canonical))))

split_of : (es : List Entry) → IsValid es → HasSplit es
split_of [] v = absurd (omega (arith, v.objects.user_obj))
split_of (e ∷ es) v = split_step e.tag e.permissions es v

-- ---- where the parts are

prefix_front : (users rest : List Entry) → AreUsers users → BeginsWithoutUser rest → prefix_len (λ e. is_user e.tag) (users ++ rest) ≡ length users
prefix_front [] [] each begins = refl
prefix_front [] (e ∷ es) each begins = rw begins refl
prefix_front (e ∷ users) rest each begins = let here = each.0 in let others = prefix_front users rest each.1 begins in rw here (omega (arith, others))

users_front : (users rest : List Entry) → AreUsers users → BeginsWithoutUser rest → users_in (users ++ rest) ≡ length users
users_front users rest each begins = length-prefix_len (λ e. is_user e.tag) (users ++ rest) ∙ prefix_front users rest each begins

-- the parts by their places
pub record IsParted (es users others : List Entry) (owner group other count : ℕ) : Type 0 where
  pub long : length es ≡ length users + length others + 3
  pub counted : count ≡ length users
  pub front : take (1 + count - 1) (drop 1 es) ≡ users
  pub back : take (length es - 1 - (2 + count)) (drop (2 + count) es) ≡ others
  pub first : (d : Entry) → get_or es 0 d ≡ entry UserObj owner
  pub middle : (d : Entry) → get_or es (1 + count) d ≡ entry GroupObj group
  pub last : (d : Entry) → get_or es (length es - 1) d ≡ entry Other other

parted : (es users others : List Entry) (owner group other count : ℕ) → IsSplit es users others owner group other → count ≡ users_in (take (length es - 1) (drop 1 es)) → IsParted es users others owner group other count
parted es users others owner group other count s e =
    let first = entry UserObj owner in
    let middle = entry GroupObj group in
    let last = entry Other other in
    let behind : List Entry = users ++ (middle ∷ others ++ last ∷ []) in
    let size : length behind ≡ length users + length others + 2 = omega (arith, length-append users (middle ∷ others ++ last ∷ []), length-append others (last ∷ [])) in
    let long : length es ≡ length users + length others + 3 = omega (arith, ap length s.whole, size) in
    let rest : drop 1 es ≡ behind = ap (drop 1) s.whole in
    let all : take (length es - 1) (drop 1 es) ≡ behind = ap (take (length es - 1)) rest ∙ take_all (length es - 1) behind (omega arith) in
    let counted : count ≡ length users = e ∙ ap users_in all ∙ users_front users (middle ∷ others ++ last ∷ []) s.each refl in
    let from_third : es ≡ (first ∷ users ++ middle ∷ []) ++ (others ++ last ∷ []) = s.whole ∙ ap (λ (r : List Entry). first ∷ r) (sym (append_assoc users (middle ∷ []) (others ++ last ∷ []))) in
    let to_last : es ≡ (first ∷ users ++ (middle ∷ others)) ++ last ∷ [] = s.whole ∙ ap (λ (r : List Entry). first ∷ r) (sym (append_assoc users (middle ∷ others) (last ∷ []))) in
    let two : length (first ∷ users ++ middle ∷ []) ≡ 2 + count = omega (arith, length-append users (middle ∷ [])) in
    let most : length (first ∷ users ++ (middle ∷ others)) ≡ length es - 1 = omega (arith, length-append users (middle ∷ others)) in
    record {
      long = long;
      counted = counted;
      front = ap (take (1 + count - 1)) rest ∙ take_at users (middle ∷ others ++ last ∷ []) (1 + count - 1) (omega arith);
      back = ap (take (length es - 1 - (2 + count))) (ap (drop (2 + count)) from_third ∙ drop_at (first ∷ users ++ middle ∷ []) (others ++ last ∷ []) (2 + count) two) ∙ take_at others (last ∷ []) (length es - 1 - (2 + count)) (omega arith);
      first = λ d. ap (λ (r : List Entry). get_or r 0 d) s.whole;
      middle = λ d. ap (λ (r : List Entry). get_or r (1 + count) d) s.whole ∙ get_or_at (first ∷ users) middle (others ++ last ∷ []) d (1 + count) (omega arith);
      last = λ d. ap (λ (r : List Entry). get_or r (length es - 1) d) to_last ∙ get_or_at (first ∷ users ++ (middle ∷ others)) last [] d (length es - 1) most;
    }

pub parts_of : (es acl : List Entry) (count : ℕ) → es ≡ acl → IsValid acl → count ≡ users_in (take (length es - 1) (drop 1 es))
    → (users others : List Entry) × (owner group other : ℕ) × IsSplit es users others owner group other × IsParted es users others owner group other count
parts_of es acl count same valid e =
    let (users, others, owner, group, other, s) = split_of es (subst IsValid (sym same) valid) in
    (users, others, owner, group, other, s, parted es users others owner group other count s e)

pub joined_parts : (users others : List Entry) (owner group other : ℕ) → AreUsers users → BeginsWithoutUser others
    → joined (record { owner = owner; group = group; other = other }) (users ++ others) ≡ entry UserObj owner ∷ users ++ (entry GroupObj group ∷ others ++ entry Other other ∷ [])
joined_parts users others owner group other each begins =
    let first = entry UserObj owner in
    let middle = entry GroupObj group in
    let last = entry Other other in
    let named = users ++ others in
    ap (λ (k : ℕ). ((first ∷ take k named) ++ (middle ∷ drop k named)) ++ last ∷ []) (users_front users others each begins)
    ∙ ap (λ (r : List Entry). ((first ∷ r) ++ (middle ∷ drop (length users) named)) ++ last ∷ []) (take_at users others (length users) refl)
    ∙ ap (λ (r : List Entry). ((first ∷ users) ++ (middle ∷ r)) ++ last ∷ []) (drop_at users others (length users) refl)
    ∙ append_assoc (first ∷ users) (middle ∷ others) (last ∷ [])
