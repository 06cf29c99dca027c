-- Places of snapshots, and the numbers that they give.
use Rattle.std.proofs.Common.{◌≡◌, ◌+◌, ◌*◌, ◌/◌, ◌%◌, ◌<◌, ◌==◌, ℕ, suc, Bool, true, false, List, [], ◌∷◌, ◌++◌, length, refl, sym, ap, subst, ◌∙◌, true≢false, eqb-true, length-append, arith}
use Rattle.std.proofs.Math.Seq.{get_or-append_seam}
use Rattle.std.proofs.lemmas.List.{get_or_append_left, get_or-set_same, get_or-set_other, length-set}
use Rattle.std.proofs.lemmas.List.Folds.{position_or_len_push}
use Rattle.std.proofs.lemmas.List.Sums.{prefix_len-le-length, prefix_len_stops}
use Rattle.std.proofs.lemmas.Grind.{get_or-set_at}
use Rattle.std.proofs.lemmas.Bool.{ltb-false, ltb-true, ne_eqb, not-false}
use Rattle.std.proofs.lemmas.Nat.{div-mul-add, mod-mul-add}
use Rattle.std.proofs.lemmas.Bool.Decides.{Decides-eqb}
use Rattle.std.proofs.lemmas.Slice.Eq.{slice_eq-Decides}
use Rattle.std.specs.Bool.{Decides}
use Rattle.std.specs.Cmp.Lexicographic.{pointwise}
use Rattle.std.specs.Option.{option_map}
use Rattle.std.specs.Prelude.{Option, None, Some, cond, not, nat_lt, position, slice_index_or, slice_set, if◌then◌else◌}
use Rattle.sn_walk.specs.declared.object.Home.{Home}
use Rattle.sn_walk.specs.declared.object.Home.TheVariants.{Live, Frozen}
use Rattle.sn_walk.specs.declared.object.Object.{Object}
use Rattle.sn_walk.specs.declared.object.Object.TheVariants.{Node, Snapshots}
use Rattle.sn_homes.specs.Homes.{Places, has_name, home_at, met, met_with, object_at, place_of}
use Rattle.sn_homes.specs.Laws.{DeletedLeave, IsLeft, NumbersTellObjects, PlacesStayLeft}

-- ---- names

names_decide : (a b : List ℕ) → Decides (pointwise ◌==◌ a b) (a ≡ b)
names_decide a b = slice_eq-Decides Decides-eqb a b (pointwise ◌==◌ a b) refl

name_is : (name : List ℕ) (home : Option (List ℕ)) → has_name name home ≡ true → home ≡ Some name
name_is name None h = absurd (true≢false (sym h))
name_is name (Some other) h = ap (λ (n : List ℕ). Some n) ((names_decide other name).0 h)

has_own : (name : List ℕ) → has_name name (Some name) ≡ true
has_own name = (names_decide name name).1 refl

-- ---- places

-- a snapshot that has a place has its name there
found_there : (places : Places) (name : List ℕ) → place_of places name < length places → slice_index_or places (place_of places name) None ≡ Some name
found_there places name within = name_is name (slice_index_or places (place_of places name) None) (not-false _ (prefix_len_stops (λ (h : Option (List ℕ)). not (has_name name h)) places None within))

-- one that gets the next place has it
pushed_there : (places : Places) (name : List ℕ) → nat_lt (place_of places name) (length places) ≡ false → place_of (places ++ Some name ∷ []) name ≡ length places
pushed_there places name past =
    let k = place_of places name in
    let at_end : k ≡ length places = omega (arith, prefix_len-le-length (λ (h : Option (List ℕ)). not (has_name name h)) places, ltb-false k (length places) past) in
    position_or_len_push (has_name name) places (Some name)
    ∙ ap (λ (b : Bool). cond b (length places + cond (has_name name (Some name)) 0 1) k) ((Decides-eqb k (length places)).1 at_end)
    ∙ ap (λ (b : Bool). length places + cond b 0 1) (has_own name)
    ∙ omega arith

met_there : (places : Places) (name : List ℕ) → slice_index_or (met places name) (place_of (met places name) name) None ≡ Some name
met_there places name = at (nat_lt (place_of places name) (length places)) refl
  where
    at : (b : Bool) → nat_lt (place_of places name) (length places) ≡ b → slice_index_or (met places name) (place_of (met places name) name) None ≡ Some name
    at true is =
        subst (λ (ps : Places). slice_index_or ps (place_of ps name) None ≡ Some name) (sym (ap (λ (b : Bool). if b then places else places ++ Some name ∷ []) is))
        (found_there places name (ltb-true (place_of places name) (length places) is))
    at false is =
        subst (λ (ps : Places). slice_index_or ps (place_of ps name) None ≡ Some name) (sym (ap (λ (b : Bool). if b then places else places ++ Some name ∷ []) is))
        (ap (λ (k : ℕ). slice_index_or (places ++ Some name ∷ []) k None) (pushed_there places name is) ∙ get_or-append_seam places (Some name) [] None)

-- ---- numbers

-- a number of 16 bits in a home
in_home : (places : Places) (home number : ℕ) → number < 65536 → (home * 65536 + number == 65537) ≡ false → object_at places (home * 65536 + number) ≡ option_map (λ (h : Home). Node h number) (home_at places home)
in_home places home number small other =
    ap (λ (b : Bool). if b then Some Snapshots else option_map (λ (h : Home). Node h ((home * 65536 + number) % 65536)) (home_at places ((home * 65536 + number) / 65536))) other
    ∙ ap (λ (h : ℕ). option_map (λ (h : Home). Node h ((home * 65536 + number) % 65536)) (home_at places h)) (div-mul-add home 65536 number small)
    ∙ ap (λ (n : ℕ). option_map (λ (h : Home). Node h n) (home_at places home)) (mod-mul-add home 65536 number small)

pub numbers_tell : NumbersTellObjects
numbers_tell places (Node Live number) small = in_home places 0 number small (ne_eqb (0 * 65536 + number) 65537 (λ e. omega (arith, e, small)))
numbers_tell places (Node (Frozen name) number) small =
    let ps = met places name in
    let k = place_of ps name in
    in_home ps (2 + k) number small (ne_eqb ((2 + k) * 65536 + number) 65537 (λ e. omega (arith, e, small)))
    ∙ ap (λ (h : ℕ). option_map (λ (home : Home). Node home number) (home_at ps h)) {x = 2 + k} {y = suc (suc k)} (omega arith)
    ∙ ap (λ (h : Option (List ℕ)). option_map (λ (home : Home). Node home number) (option_map (λ (n : List ℕ). Frozen n) h)) (met_there places name)
numbers_tell places Snapshots small = refl

-- ---- places that are left

set_left : (places : Places) (place other : ℕ) → IsLeft places place → IsLeft (slice_set places other None) place
set_left places place other (within, left) = (
  subst (λ (n : ℕ). place < n) (sym (length-set places other None)) within,
  at (place == other) refl,
)
  where
    at : (b : Bool) → (place == other) ≡ b → slice_index_or (slice_set places other None) place None ≡ None
    at true is = get_or-set_at places other place None None (eqb-true place other is) (subst (λ (n : ℕ). n < length places) (eqb-true place other is) within)
    at false is = get_or-set_other places other place None None (λ same. true≢false (sym ((Decides-eqb place other).1 same) ∙ is)) ∙ left

met_left : (places : Places) (place : ℕ) (name : List ℕ) → IsLeft places place → IsLeft (met places name) place
met_left places place name (within, left) = at (nat_lt (place_of places name) (length places))
  where
    at : (b : Bool) → IsLeft (if b then places else places ++ Some name ∷ []) place
    at true = (within, left)
    at false = (
      omega (arith, within, length-append places (Some name ∷ [])),
      get_or_append_left places (Some name ∷ []) None place within ∙ left,
    )

pub stay_left : PlacesStayLeft
stay_left places place left = (meets, λ name. set_left places place (place_of places name) left)
  where
    meets : (object : Object) → IsLeft (met_with places object) place
    meets (Node Live number) = left
    meets (Node (Frozen name) number) = met_left places place name left
    meets Snapshots = left

pub deleted_leave : DeletedLeave
deleted_leave places name within = (
  subst (λ (n : ℕ). place_of places name < n) (sym (length-set places (place_of places name) None)) within,
  get_or-set_same places (place_of places name) None None within,
)

-- ---- places that are sought

position_within : (b : Bool) (k place : ℕ) → cond b (Some k) None ≡ Some place → b ≡ true
position_within true k place is = refl
position_within false k place is = cc

position_past : (b : Bool) (k : ℕ) → cond b (Some k) None ≡ None → b ≡ false
position_past true k is = cc
position_past false k is = refl

pub met_found : (places : Places) (name : List ℕ) (place : ℕ) → position (has_name name) places ≡ Some place → places ≡ met places name
met_found places name place is =
    sym (ap (λ (b : Bool). if b then places else places ++ Some name ∷ []) (position_within (nat_lt (place_of places name) (length places)) (place_of places name) place is))

pub met_pushed : (places : Places) (name : List ℕ) → position (has_name name) places ≡ None → places ++ Some name ∷ [] ≡ met places name
met_pushed places name is =
    sym (ap (λ (b : Bool). if b then places else places ++ Some name ∷ []) (position_past (nat_lt (place_of places name) (length places)) (place_of places name) is))

pub place_pushed : (places : Places) (name : List ℕ) → position (has_name name) places ≡ None → length places ≡ place_of (places ++ Some name ∷ []) name
place_pushed places name is = sym (pushed_there places name (position_past (nat_lt (place_of places name) (length places)) (place_of places name) is))
