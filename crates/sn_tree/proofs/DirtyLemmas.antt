-- Dirty blocks whose indices rise, and what they make of the data blocks.
use Rattle.std.proofs.Common.{◌≡◌, ◌≢◌, ⊎_elim, ℕ, zero, suc, ◌+◌, ◌-◌, ◌*◌, ◌<◌, ◌≤◌, ◌&&◌, ◌==◌, Bool, true, false, List, [], ◌∷◌, ◌++◌, length, replicate, map, get_or, refl, sym, ap, subst, ◌∙◌, arith, if◌then◌else◌}
use Rattle.std.specs.Prelude.{nat_lt, Option, Some, None, IfSome, option_to_list}
use Rattle.std.specs.List.{flat_map, AllByRecursion}
use Rattle.std.proofs.Math.Nat.{mul-le-mul_left}
use Rattle.std.proofs.lemmas.Bool.{cases_lt, eq-eqb, ne_eqb, ltb-true, ltb-false, lt-ltb, le-ltb}
use Rattle.sn_layout.specs.Bytes.{zeros}
use Rattle.sn_ondisk.specs.Trees.{Store, named_by, below, pointers_at}
use Rattle.sn_tree.specs.Dirty.{IsFrom, after, block_wanted, blocks_wanted}
use Rattle.sn_tree.specs.Plans.{named_or, contents, straddles, most_added}
use Rattle.sn_tree.specs.Steps.{AreHoles}
use Rattle.sn_tree.specs.declared.new_block.DirtyBlock.{DirtyBlock}

-- ---- rising indices

pub IsFrom-weaker : (a b : ℕ) (ds : List DirtyBlock) → b ≤ a → IsFrom a ds → IsFrom b ds
IsFrom-weaker a b [] le is = tt
IsFrom-weaker a b (d ∷ ds) le is = (omega (arith, le, is.0), is.1)

pub after-none : (end : ℕ) (ds : List DirtyBlock) → IsFrom end ds → after end ds ≡ ds
unfolding after
after-none end [] is = refl
after-none end (d ∷ ds) is = ap (λ (b : Bool). if b then after end ds else d ∷ ds) (le-ltb d.index end is.0)

pub after-first : (end : ℕ) (d : DirtyBlock) (ds : List DirtyBlock) → d.index < end → after end (d ∷ ds) ≡ after end ds
unfolding after
after-first end d ds lt = ap (λ (b : Bool). if b then after end ds else d ∷ ds) (lt-ltb d.index end lt)

pub after-after : (m end : ℕ) (ds : List DirtyBlock) → m ≤ end → after end (after m ds) ≡ after end ds
unfolding after
after-after m end [] le = refl
after-after m end (d ∷ ds) le = either (after-after m end ds le) (nat_lt d.index m) refl
  where
    either : after end (after m ds) ≡ after end ds → (b : Bool) → nat_lt d.index m ≡ b → after end (if b then after m ds else d ∷ ds) ≡ after end (d ∷ ds)
    either later true is = later ∙ sym (after-first end d ds (omega (arith, ltb-true d.index m is, le)))
    either later false is = refl

pub IsFrom-after : (least end : ℕ) (ds : List DirtyBlock) → IsFrom least ds → IsFrom end (after end ds)
unfolding after
IsFrom-after least end [] is = tt
IsFrom-after least end (d ∷ ds) is = either (IsFrom-after (d.index + 1) end ds is.1) (nat_lt d.index end) refl
  where
    either : IsFrom end (after end ds) → (b : Bool) → nat_lt d.index end ≡ b → IsFrom end (if b then after end ds else d ∷ ds)
    either later true lt = later
    either later false not = (ltb-false d.index end not, is.1)

pub length-after : (end : ℕ) (ds : List DirtyBlock) → length (after end ds) ≤ length ds
unfolding after
length-after end [] = omega arith
length-after end (d ∷ ds) = either (length-after end ds) (nat_lt d.index end)
  where
    either : length (after end ds) ≤ length ds → (b : Bool) → length (if b then after end ds else d ∷ ds) ≤ length (d ∷ ds)
    either later true = omega (arith, later)
    either later false = omega arith

-- where none are left after an index, none are after another
pub after-nil : (end : ℕ) → after end [] ≡ []
unfolding after
after-nil end = refl

pub after-empty : (next end : ℕ) (ds : List DirtyBlock) → after end ds ≡ [] → after end (after next ds) ≡ []
after-empty next end ds none = ⊎_elim
    (λ (low : next < end). after-after next end ds (omega (arith, low)) ∙ none)
    (λ (high : end ≤ next). ap (after end) (sym (after-after end next ds high) ∙ ap (after next) none ∙ after-nil next) ∙ after-nil end)
    (cases_lt next end)

-- ---- what the data blocks are to be

pub block_wanted-after : (hole : List ℕ) (keep end i : ℕ) (ds : List DirtyBlock) (old : List ℕ) → end ≤ i → block_wanted hole keep (after end ds) i old ≡ block_wanted hole keep ds i old
unfolding after block_wanted
block_wanted-after hole keep end i [] old le = refl
block_wanted-after hole keep end i (d ∷ ds) old le = either (block_wanted-after hole keep end i ds old le) (nat_lt d.index end) refl
  where
    either : block_wanted hole keep (after end ds) i old ≡ block_wanted hole keep ds i old → (b : Bool) → nat_lt d.index end ≡ b → block_wanted hole keep (if b then after end ds else d ∷ ds) i old ≡ block_wanted hole keep (d ∷ ds) i old
    either later true is =
        let lt = ltb-true d.index end is in
        later ∙ sym (ap (λ (b : Bool). if b then d.bytes.value else block_wanted hole keep ds i old) (ne_eqb d.index i (λ same. omega (arith, lt, le, same))))
    either later false is = refl

pub blocks_wanted-after : (hole : List ℕ) (keep end i : ℕ) (ds : List DirtyBlock) (olds : List (List ℕ)) → end ≤ i → blocks_wanted hole keep (after end ds) i olds ≡ blocks_wanted hole keep ds i olds
unfolding blocks_wanted
blocks_wanted-after hole keep end i ds [] le = refl
blocks_wanted-after hole keep end i ds (old ∷ olds) le =
    ap (λ (x : List ℕ). x ∷ blocks_wanted hole keep (after end ds) (i + 1) olds) (block_wanted-after hole keep end i ds old le)
    ∙ ap (λ (xs : List (List ℕ)). block_wanted hole keep ds i old ∷ xs) (blocks_wanted-after hole keep end (i + 1) ds olds (omega (arith, le)))

pub blocks_wanted-append : (hole : List ℕ) (keep i : ℕ) (ds : List DirtyBlock) (xs ys : List (List ℕ)) → blocks_wanted hole keep ds i (xs ++ ys) ≡ blocks_wanted hole keep ds i xs ++ blocks_wanted hole keep ds (i + length xs) ys
unfolding blocks_wanted
blocks_wanted-append hole keep i ds [] ys = let here : i ≡ i + 0 = omega arith in ap (λ (n : ℕ). blocks_wanted hole keep ds n ys) here
blocks_wanted-append hole keep i ds (x ∷ xs) ys =
    let there : i + 1 + length xs ≡ i + length (x ∷ xs) = omega arith in
    ap (λ (zs : List (List ℕ)). block_wanted hole keep ds i x ∷ zs) (blocks_wanted-append hole keep (i + 1) ds xs ys ∙ ap (λ (n : ℕ). blocks_wanted hole keep ds (i + 1) xs ++ blocks_wanted hole keep ds n ys) there)

pub length-blocks_wanted : (hole : List ℕ) (keep base : ℕ) (ds : List DirtyBlock) (xs : List (List ℕ)) → length (blocks_wanted hole keep ds base xs) ≡ length xs
unfolding blocks_wanted
length-blocks_wanted hole keep base ds [] = refl
length-blocks_wanted hole keep base ds (x ∷ xs) = ap (λ n. suc n) (length-blocks_wanted hole keep (base + 1) ds xs)

-- the dirty block itself
pub block_wanted-dirty : (hole : List ℕ) (keep : ℕ) (d : DirtyBlock) (ds : List DirtyBlock) (old : List ℕ) → block_wanted hole keep (d ∷ ds) d.index old ≡ d.bytes.value
unfolding block_wanted
block_wanted-dirty hole keep d ds old = ap (λ (b : Bool). if b then d.bytes.value else block_wanted hole keep ds d.index old) (eq-eqb d.index d.index refl)

-- a block without a dirty one
pub block_wanted-clean : (hole : List ℕ) (keep i : ℕ) (ds : List DirtyBlock) (old : List ℕ) → IsFrom (i + 1) ds → block_wanted hole keep ds i old ≡ (if nat_lt i keep then old else hole)
unfolding block_wanted
block_wanted-clean hole keep i [] old is = refl
block_wanted-clean hole keep i (d ∷ ds) old is =
    ap (λ (b : Bool). if b then d.bytes.value else block_wanted hole keep ds i old) (ne_eqb d.index i (λ same. omega (arith, is.0, same)))
    ∙ block_wanted-clean hole keep i ds old (IsFrom-weaker (d.index + 1) (i + 1) ds (omega (arith, is.0)) is.1)

pub block_wanted-cut : (hole : List ℕ) (keep i : ℕ) (ds : List DirtyBlock) (old : List ℕ) → IsFrom (i + 1) ds → keep ≤ i → block_wanted hole keep ds i old ≡ hole
block_wanted-cut hole keep i ds old is cut = block_wanted-clean hole keep i ds old is ∙ ap (λ (b : Bool). if b then old else hole) (le-ltb i keep cut)

-- ---- blocks that stay

pub blocks_wanted-kept : (hole : List ℕ) (keep i : ℕ) (ds : List DirtyBlock) (xs : List (List ℕ)) → IsFrom (i + length xs) ds → i + length xs ≤ keep → blocks_wanted hole keep ds i xs ≡ xs
unfolding blocks_wanted
blocks_wanted-kept hole keep i ds [] is within = refl
blocks_wanted-kept hole keep i ds (x ∷ xs) is within =
    let here = block_wanted-clean hole keep i ds x (IsFrom-weaker (i + length (x ∷ xs)) (i + 1) ds (omega arith) is) ∙ ap (λ (b : Bool). if b then x else hole) (lt-ltb i keep (omega (arith, within))) in
    let rest = blocks_wanted-kept hole keep (i + 1) ds xs (IsFrom-weaker (i + length (x ∷ xs)) (i + 1 + length xs) ds (omega arith) is) (omega (arith, within)) in
    ap (λ (y : List ℕ). y ∷ blocks_wanted hole keep ds (i + 1) xs) here ∙ ap (λ (ys : List (List ℕ)). x ∷ ys) rest

pub blocks_wanted-holes : (hole : List ℕ) (keep i : ℕ) (ds : List DirtyBlock) (xs : List (List ℕ)) → IsFrom (i + length xs) ds → AllByRecursion (λ (x : List ℕ). x ≡ hole) xs → blocks_wanted hole keep ds i xs ≡ xs
unfolding blocks_wanted
blocks_wanted-holes hole keep i ds [] is holes = refl
blocks_wanted-holes hole keep i ds (x ∷ xs) is holes =
    let here = block_wanted-clean hole keep i ds x (IsFrom-weaker (i + length (x ∷ xs)) (i + 1) ds (omega arith) is) ∙ either (nat_lt i keep) in
    let rest = blocks_wanted-holes hole keep (i + 1) ds xs (IsFrom-weaker (i + length (x ∷ xs)) (i + 1 + length xs) ds (omega arith) is) holes.1 in
    ap (λ (y : List ℕ). y ∷ blocks_wanted hole keep ds (i + 1) xs) here ∙ ap (λ (ys : List (List ℕ)). x ∷ ys) rest
  where
    either : (b : Bool) → (if b then x else hole) ≡ x
    either true = refl
    either false = sym holes.0

-- where they were holes, it doesn't matter how many stay
pub block_wanted-any : (hole : List ℕ) (a b i : ℕ) (ds : List DirtyBlock) (old : List ℕ) → old ≡ hole → block_wanted hole a ds i old ≡ block_wanted hole b ds i old
unfolding block_wanted
block_wanted-any hole a b i [] old is = either (nat_lt i a) ∙ sym (either (nat_lt i b))
  where
    either : (c : Bool) → (if c then old else hole) ≡ hole
    either true = is
    either false = refl
block_wanted-any hole a b i (d ∷ ds) old is = ap (λ (x : List ℕ). if d.index == i then d.bytes.value else x) (block_wanted-any hole a b i ds old is)

pub blocks_wanted-any : (hole : List ℕ) (a b i : ℕ) (ds : List DirtyBlock) (xs : List (List ℕ)) → AllByRecursion (λ (x : List ℕ). x ≡ hole) xs → blocks_wanted hole a ds i xs ≡ blocks_wanted hole b ds i xs
unfolding blocks_wanted
blocks_wanted-any hole a b i ds [] all = refl
blocks_wanted-any hole a b i ds (x ∷ xs) all =
    ap (λ (y : List ℕ). y ∷ blocks_wanted hole a ds (i + 1) xs) (block_wanted-any hole a b i ds x all.0)
    ∙ ap (λ (ys : List (List ℕ)). block_wanted hole b ds i x ∷ ys) (blocks_wanted-any hole a b (i + 1) ds xs all.1)

-- ---- holes

pub AreHoles-append : (ps qs : List ℕ) → AreHoles ps → AreHoles qs → AreHoles (ps ++ qs)
AreHoles-append [] qs left right = right
AreHoles-append (p ∷ ps) qs left right = (left.0, AreHoles-append ps qs left.1 right)

pub AreHoles-replicate : (n : ℕ) → AreHoles (replicate n 0)
AreHoles-replicate zero = tt
AreHoles-replicate (suc n) = (refl, AreHoles-replicate n)

AreHoles-below : (s : Store) (p : ℕ) → p ≡ 0 → AreHoles (below s p)
unfolding below
AreHoles-below s p hole = subst (λ (q : ℕ). AreHoles (below s q)) (sym hole) (AreHoles-replicate 1024)

AreHoles-flat : (s : Store) (ps : List ℕ) → AreHoles ps → AreHoles (flat_map (below s) ps)
AreHoles-flat s [] holes = tt
AreHoles-flat s (p ∷ ps) holes = AreHoles-append (below s p) (flat_map (below s) ps) (AreHoles-below s p holes.0) (AreHoles-flat s ps holes.1)

pub AreHoles-at : (s : Store) (depth : ℕ) (ps : List ℕ) → AreHoles ps → AreHoles (pointers_at s depth ps)
unfolding pointers_at
AreHoles-at s zero ps holes = holes
AreHoles-at s (suc depth) ps holes = AreHoles-flat s (pointers_at s depth ps) (AreHoles-at s depth ps holes)

pub named-hole : (hole : List ℕ) (s : Store) (p : ℕ) → p ≡ 0 → named_or hole s p ≡ hole
unfolding named_or
named-hole hole s p none = ap (λ (b : Bool). if b then hole else s p) (eq-eqb p 0 none)

pub named-there : (hole : List ℕ) (s : Store) (p : ℕ) → p ≢ 0 → named_or hole s p ≡ s p
unfolding named_or
named-there hole s p some = ap (λ (b : Bool). if b then hole else s p) (ne_eqb p 0 some)

-- a hole reads as zeros
pub named-by : (s : Store) (p : ℕ) → named_or (zeros 4096) s p ≡ named_by s p
unfolding named_or named_by
named-by s p = refl

all-holes : (hole : List ℕ) (s : Store) (ps : List ℕ) → AreHoles ps → AllByRecursion (λ (x : List ℕ). x ≡ hole) (map (named_or hole s) ps)
all-holes hole s [] none = tt
all-holes hole s (p ∷ ps) none = (named-hole hole s p none.0, all-holes hole s ps none.1)

pub contents-holes : (hole : List ℕ) (s : Store) (depth : ℕ) (ps : List ℕ) → AreHoles ps → AllByRecursion (λ (x : List ℕ). x ≡ hole) (contents s depth ps hole)
contents-holes hole s depth ps none = all-holes hole s (pointers_at s depth ps) (AreHoles-at s depth ps none)

-- ---- how many blocks are added

straddles-joined : (b m e keep : ℕ) → b ≤ m → m ≤ e → straddles b m keep + straddles m e keep ≤ straddles b e keep
straddles-joined b m e keep first second = told (nat_lt b keep) (nat_lt keep m) (nat_lt m keep) (nat_lt keep e) refl refl refl refl
  where
    told : (bk km mk ke : Bool) → nat_lt b keep ≡ bk → nat_lt keep m ≡ km → nat_lt m keep ≡ mk → nat_lt keep e ≡ ke
        → (if bk && km then 1 else 0) + (if mk && ke then 1 else 0) ≤ (if bk && ke then 1 else 0)
    told true true true ke is0 is1 is2 is3 = absurd (omega (arith, ltb-true keep m is1, ltb-true m keep is2))
    told true true false true is0 is1 is2 is3 = omega arith
    told true true false false is0 is1 is2 is3 = absurd (omega (arith, ltb-true keep m is1, ltb-false keep e is3, second))
    told true false true true is0 is1 is2 is3 = omega arith
    told true false true false is0 is1 is2 is3 = omega arith
    told true false false ke is0 is1 is2 is3 = omega arith
    told false km true true is0 is1 is2 is3 = absurd (omega (arith, ltb-false b keep is0, ltb-true m keep is2, first))
    told false km true false is0 is1 is2 is3 = omega arith
    told false km false ke is0 is1 is2 is3 = omega arith

pub most_added-joined : (depth b m e keep : ℕ) (ds : List DirtyBlock) → b ≤ m → m ≤ e → most_added depth b m keep ds + most_added depth m e keep (after m ds) ≤ most_added depth b e keep ds
most_added-joined depth b m e keep ds first second =
    let x = length ds - length (after m ds) in
    let y = length (after m ds) - length (after e (after m ds)) in
    let z = length ds - length (after e ds) in
    let u = straddles b m keep in
    let v = straddles m e keep in
    let w = straddles b e keep in
    let same : length (after e (after m ds)) ≡ length (after e ds) = ap (λ (l : List DirtyBlock). length l) (after-after m e ds second) in
    let sums : x + y ≤ z = omega (arith, same, length-after m ds, length-after e (after m ds)) in
    let crossed : u + v ≤ w = straddles-joined b m e keep first second in
    let large : (depth + 1) * (x + y) ≤ (depth + 1) * z = mul-le-mul_left (depth + 1) sums in
    let small : depth * (u + v) ≤ depth * w = mul-le-mul_left depth crossed in
    summed depth x y z u v w large small
  where
    summed : (depth x y z u v w : ℕ) → (depth + 1) * (x + y) ≤ (depth + 1) * z → depth * (u + v) ≤ depth * w → ((depth + 1) * x + depth * u) + ((depth + 1) * y + depth * v) ≤ (depth + 1) * z + depth * w
    summed depth x y z u v w large small = omega (arith, large, small)

pub most_added-up : (depth b e keep : ℕ) (ds : List DirtyBlock) → most_added depth b e keep ds ≤ most_added (suc depth) b e keep ds
most_added-up depth b e keep ds = told depth (length ds - length (after e ds)) (straddles b e keep)
  where
    told : (depth x y : ℕ) → (depth + 1) * x + depth * y ≤ (suc depth + 1) * x + suc depth * y
    told depth x y = omega arith

pub most_added-one : (depth b e keep : ℕ) (ds : List DirtyBlock) → 1 ≤ (length ds - length (after e ds)) + straddles b e keep → most_added depth b e keep ds + 1 ≤ most_added (suc depth) b e keep ds
most_added-one depth b e keep ds some = told depth (length ds - length (after e ds)) (straddles b e keep) some
  where
    told : (depth x y : ℕ) → 1 ≤ x + y → (depth + 1) * x + depth * y + 1 ≤ (suc depth + 1) * x + suc depth * y
    told depth x y some = omega (arith, some)

pub straddled : (b e keep : ℕ) → b < keep → keep < e → straddles b e keep ≡ 1
straddled b e keep low high = ap (λ (c : Bool). if c && nat_lt keep e then 1 else 0) (lt-ltb b keep low) ∙ ap (λ (c : Bool). if c then 1 else 0) (lt-ltb keep e high)

pub straddles-once : (b e keep : ℕ) → straddles b e keep ≤ 1
straddles-once b e keep = told (nat_lt b keep && nat_lt keep e)
  where
    told : (c : Bool) → (if c then 1 else 0) ≤ 1
    told true = omega arith
    told false = omega arith

-- ---- the first of the dirty blocks

pub used_at : (ds : List DirtyBlock) (d : DirtyBlock) (end : ℕ) → 0 < length ds → d ≡ get_or ds 0 d → d.index < end → length (after end ds) < length ds
used_at [] d end some is low = absurd (omega (arith, some))
used_at (x ∷ xs) d end some is low =
    let first = after-first end x xs (subst (λ (y : DirtyBlock). y.index < end) is low) in
    omega (arith, ap (λ (l : List DirtyBlock). length l) first, length-after end xs)

pub used_first : (d : DirtyBlock) (ds : List DirtyBlock) (end : ℕ) → length (after end (d ∷ ds)) < length (d ∷ ds) → d.index < end
unfolding after
used_first d ds end used = either (nat_lt d.index end) refl used
  where
    either : (b : Bool) → nat_lt d.index end ≡ b → length (if b then after end ds else d ∷ ds) < length (d ∷ ds) → d.index < end
    either true is _ = ltb-true d.index end is
    either false is used = absurd (omega (arith, used))

pub first_before : (end : ℕ) (d : DirtyBlock) (ds : List DirtyBlock) → after end (d ∷ ds) ≡ [] → d.index < end
first_before end d ds none = let count : length (after end (d ∷ ds)) ≡ 0 = ap (λ (l : List DirtyBlock). length l) none in used_first d ds end (omega (arith, count))

pub taken_first : (first : Option DirtyBlock) (old new : List DirtyBlock) (end : ℕ) → old ≡ option_to_list first ++ new → length (after end old) < length old → IfSome first (λ (d : DirtyBlock). (old ≡ d ∷ new) × (d.index < end))
taken_first None old new end is used = tt
taken_first (Some d) old new end is used = (is, used_first d new end (subst (λ (ds : List DirtyBlock). length (after end ds) < length ds) is used))
