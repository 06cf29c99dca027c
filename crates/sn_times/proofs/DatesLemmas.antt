-- The times of objects after each change of what is kept.
use Rattle.std.proofs.Common.{◌≡◌, ◌≢◌, ℕ, ◌==◌, ◌/◌, ◌%◌, Bool, true, false, cond, List, Option, None, Some, refl, sym, ap, ◌∙◌, arith}
use Rattle.std.specs.Cmp.{nat_cmp_total, eq_by_cmp_equiv, unsigned_ties}
use Rattle.std.specs.FinMap as map
use Rattle.std.specs.Prelude.{Result, Ok, Err, OnErr, nat_le}
use Rattle.std.specs.Option.{unwrap_or}
use Rattle.std.specs.BTreeMap.{is_at}
use Rattle.std.specs.Map.{lookup}
use Rattle.std.specs.Ordering.{nat_cmp, eq_by_cmp}
use Rattle.std.proofs.lemmas.Map.Lookups.{exact_unsigned}
use Rattle.std.proofs.lemmas.Map.Views.{tells_apart}
use Rattle.sn_maps.specs.Maps.{seen_by}
use Rattle.sn_maps.proofs.MapLemmas.{get-seen_plain, insert-seen_by, remove-seen_by}
use Rattle.sn_fuse.specs.declared.operation.Time.{Time}
use Rattle.sn_times.specs.declared.stamps.Mark.{Mark}
use Rattle.sn_times.specs.declared.stamps.Mark.TheVariants.{Frozen, Thawed, Met}
use Rattle.sn_times.specs.declared.stamps.Stamps.{Stamps}
use Rattle.sn_times.specs.Dates.{Dates, Homes, IsExact, KeepsNone, Tree, all_at, bare, frozen, frozen_as, gone, homes_after, is_met, marked, met, moved, put, put_in, stamps_at, stamps_in, taken_if, thawed, thawed_if, tree_of, with_name, with_tree, without}

-- what holds in any case holds after an error
pub on_err : {T E P : Type 0} (r : Result T E) → P → OnErr r P
on_err (Ok x) p = tt
on_err (Err e) p = p

unwrap_cond : {X : Type 0} (b : Bool) (x : X) (o : Option X) (d : X) → unwrap_or (cond b (Some x) o) d ≡ cond b x (unwrap_or o d)
unwrap_cond true x o d = refl
unwrap_cond false x o d = refl

unwrap_gone : {X : Type 0} (b : Bool) (o : Option X) (d : X) → unwrap_or (cond b None o) d ≡ cond b d (unwrap_or o d)
unwrap_gone true o d = refl
unwrap_gone false o d = refl

equal : (m n : ℕ) → (m == n) ≡ true → m ≡ n
equal m n e = tells_apart exact_unsigned m n (sym (unsigned_ties m n) ∙ e)

same : (m n : ℕ) → m ≡ n → (m == n) ≡ true
same m n e = unsigned_ties m n ∙ ap (eq_by_cmp nat_cmp m) (sym e) ∙ (eq_by_cmp_equiv nat_cmp_total).refl m

unequal : (m n : ℕ) → (m == n) ≡ false → m ≢ n
unequal m n e is = let t : (m == n) ≡ true = same m n is in cc

other : (m n : ℕ) → m ≢ n → (m == n) ≡ false
other m n apart = told (m == n) refl
  where
    told : (b : Bool) → (m == n) ≡ b → b ≡ false
    told true e = absurd (apart (equal m n e))
    told false e = refl

-- what a map of numbers has after a change of one
get-put : {X : Type 0} (m : map.FinMap nat_cmp X) (k : ℕ) (v d : X) (q : ℕ) → unwrap_or (map.get (map.insert m k v) q) d ≡ cond (q == k) v (unwrap_or (map.get m q) d)
get-put m k v d q = ap (λ o. unwrap_or o d) (map.get-insert nat_cmp_total m k v q ∙ ap (λ b. cond b (Some v) (map.get m q)) (sym (unsigned_ties q k))) ∙ unwrap_cond (q == k) v (map.get m q) d

get-gone : {X : Type 0} (m : map.FinMap nat_cmp X) (k : ℕ) (d : X) (q : ℕ) → unwrap_or (map.get (map.remove m k) q) d ≡ cond (q == k) d (unwrap_or (map.get m q) d)
get-gone m k d q = ap (λ o. unwrap_or o d) (map.get-remove nat_cmp_total m k q ∙ ap (λ b. cond b None (map.get m q)) (sym (unsigned_ties q k))) ∙ unwrap_gone (q == k) (map.get m q) d

-- the times of an object of a tree
seen_in : Tree → ℕ → Stamps
seen_in t m = stamps_in t (m % 65536)

-- an object that got times has them, and all others have theirs
pub stamps-put : (d : Dates) (n : ℕ) (s : Stamps) (m : ℕ) → stamps_at (put d n s) m ≡ cond (m == n) s (stamps_at d m)
unfolding seen_in
stamps-put d n s m = ap (λ t. seen_in t m) (get-put d.trees (n / 65536) tree (bare d.base) (m / 65536)) ∙ told (m / 65536 == n / 65536) refl
  where
    tree : Tree
    tree = put_in (tree_of d (n / 65536)) (n % 65536) s

    there : (b : Bool) → m / 65536 ≡ n / 65536 → (m % 65536 == n % 65536) ≡ b → cond b s (stamps_at d m) ≡ cond (m == n) s (stamps_at d m)
    there true e f = let is : m % 65536 ≡ n % 65536 = equal _ _ f in ap (λ b. cond b s (stamps_at d m)) (sym (same m n (omega arith)))
    there false e f = ap (λ b. cond b s (stamps_at d m)) (sym (other m n (λ is. unequal _ _ f (ap (λ k. k % 65536) is))))

    told : (b : Bool) → (m / 65536 == n / 65536) ≡ b → seen_in (cond b tree (tree_of d (m / 65536))) m ≡ cond (m == n) s (stamps_at d m)
    told true e =
        get-put (tree_of d (n / 65536)).own (n % 65536) s (all_at (tree_of d (n / 65536)).base) (m % 65536)
        ∙ ap (λ h. cond (m % 65536 == n % 65536) s (seen_in (tree_of d h) m)) (sym (equal _ _ e))
        ∙ there (m % 65536 == n % 65536) (equal _ _ e) refl
    told false e = ap (λ b. cond b s (stamps_at d m)) (sym (other m n (λ is. unequal _ _ e (ap (λ k. k / 65536) is))))

-- the objects of a home that got a tree have the times that it tells
pub stamps-with_tree : (d : Dates) (home : ℕ) (tree : Option Tree) (m : ℕ) → stamps_at (with_tree d home tree) m ≡ cond (m / 65536 == home) (stamps_in (unwrap_or tree (bare d.base)) (m % 65536)) (stamps_at d m)
unfolding seen_in
stamps-with_tree d home None m = ap (λ t. seen_in t m) (get-gone d.trees home (bare d.base) (m / 65536)) ∙ told (m / 65536 == home)
  where
    told : (b : Bool) → seen_in (cond b (bare d.base) (tree_of d (m / 65536))) m ≡ cond b (seen_in (bare d.base) m) (stamps_at d m)
    told true = refl
    told false = refl
stamps-with_tree d home (Some tree) m = ap (λ t. seen_in t m) (get-put d.trees home tree (bare d.base) (m / 65536)) ∙ told (m / 65536 == home)
  where
    told : (b : Bool) → seen_in (cond b tree (tree_of d (m / 65536))) m ≡ cond b (seen_in tree m) (stamps_at d m)
    told true = refl
    told false = refl

-- ---- what is kept, as entries

abbrev as_dates : Time → Homes → map.FinMap nat_cmp Tree → Dates
as_dates base homes trees = record { base = base; trees = trees; homes = homes }

-- the times that a base, entries and homes show
abbrev pub kept : Time → List (ℕ × Tree) → Homes → Dates
kept base es homes = record { base = base; trees = seen_by nat_cmp (λ (tree : Tree). tree) es; homes = homes }

pub found : (base : Time) (es : List (ℕ × Tree)) (homes : Homes) (home : ℕ) → lookup (is_at (nat_cmp home)) es ≡ map.get (kept base es homes).trees home
found base es homes home = sym (get-seen_plain nat_cmp nat_cmp_total es home)

pub kept-inserted : (base : Time) (es fs : List (ℕ × Tree)) (homes : Homes) (home : ℕ) (tree : Tree) → ((q : ℕ) → lookup (is_at (nat_cmp q)) fs ≡ cond (is_at (nat_cmp home) q) (Some tree) (lookup (is_at (nat_cmp q)) es)) → kept base fs homes ≡ with_tree (kept base es homes) home (Some tree)
kept-inserted base es fs homes home tree h = ap (λ (t : map.FinMap nat_cmp Tree). as_dates base homes t) (insert-seen_by nat_cmp (λ (tree : Tree). tree) nat_cmp_total exact_unsigned es fs home tree h)

pub kept-removed : (base : Time) (es fs : List (ℕ × Tree)) (homes : Homes) (home : ℕ) → ((q : ℕ) → lookup (is_at (nat_cmp q)) fs ≡ cond (is_at (nat_cmp home) q) None (lookup (is_at (nat_cmp q)) es)) → kept base fs homes ≡ with_tree (kept base es homes) home None
kept-removed base es fs homes home h = ap (λ (t : map.FinMap nat_cmp Tree). as_dates base homes t) (remove-seen_by nat_cmp (λ (tree : Tree). tree) nat_cmp_total exact_unsigned es fs home h)

-- a tree that is put where it was changes nothing
pub with_tree-same : (d : Dates) (home : ℕ) (tree : Tree) → Some tree ≡ map.get d.trees home → with_tree d home (Some tree) ≡ d
with_tree-same d home tree e = ap (λ (t : map.FinMap nat_cmp Tree). as_dates d.base d.homes t) (map.same_map nat_cmp_total exact_unsigned _ _ (λ q. map.get-insert nat_cmp_total d.trees home tree q ∙ told q (eq_by_cmp nat_cmp q home) refl))
  where
    told : (q : ℕ) (b : Bool) → eq_by_cmp nat_cmp q home ≡ b → cond b (Some tree) (map.get d.trees q) ≡ map.get d.trees q
    told q true t = e ∙ ap (map.get d.trees) (sym (tells_apart exact_unsigned q home t))
    told q false t = refl

-- the live tree is never gone
pub thawed-other : (d : Dates) (home : ℕ) → home ≢ 0 → with_tree d home None ≡ thawed d home
thawed-other d home apart = ap (λ b. cond b d (with_tree d home None)) (sym (other home 0 apart))

-- ---- marks

-- what a change of the trees leaves
pub record IsAsBefore (d new : Dates) : Type 0 where
  pub base : new.base ≡ d.base
  pub homes : new.homes ≡ d.homes

as_before : (d : Dates) (home : ℕ) (tree : Option Tree) → IsAsBefore d (with_tree d home tree)
as_before d home None = record { base = refl; homes = refl }
as_before d home (Some tree) = record { base = refl; homes = refl }

thawed_as_before : (d : Dates) (home : ℕ) (b : Bool) → IsAsBefore d (cond b d (with_tree d home None))
thawed_as_before d home true = record { base = refl; homes = refl }
thawed_as_before d home false = record { base = refl; homes = refl }

thawed_if_as_before : (d : Dates) (home : Option ℕ) → IsAsBefore d (thawed_if d home)
thawed_if_as_before d None = record { base = refl; homes = refl }
thawed_if_as_before d (Some home) = thawed_as_before d home (home == 0)

moved_as_before : (d : Dates) (home other : ℕ) → IsAsBefore d (moved d home other)
moved_as_before d home other = let second = as_before (with_tree d home None) other (map.get d.trees home) in record { base = second.base; homes = second.homes }

waiting_as_before : (d : Dates) (kept home : ℕ) (b : Bool) → IsAsBefore d (cond b (moved d kept home) d)
waiting_as_before d kept home true = moved_as_before d kept home
waiting_as_before d kept home false = record { base = refl; homes = refl }

taken_as_before : (d : Dates) (kept : Option ℕ) (home : ℕ) → IsAsBefore d (taken_if d kept home)
taken_as_before d None home = record { base = refl; homes = refl }
taken_as_before d (Some kept) home = waiting_as_before d kept home (nat_le 281474976710656 kept)

-- a mark of an object
pub record IsOfObject (mark : Mark) (now : Time) (d : Dates) (n : ℕ) (s : Stamps) : Type 0 where
  pub stamps : (m : ℕ) → cond (m == n) s (stamps_at d m) ≡ marked mark now d m
  pub homes : d.homes ≡ homes_after mark d

pub exact-put : (mark : Mark) (now : Time) (d new : Dates) (n : ℕ) (s : Stamps) → IsOfObject mark now d n s → new ≡ put d n s → IsExact mark now d new
exact-put mark now d new n s is e = record {
  stamps = λ m. ap (λ (x : Dates). stamps_at x m) e ∙ stamps-put d n s m ∙ is.stamps m;
  base = ap (λ (x : Dates). x.base) e;
  homes = ap (λ (x : Dates). x.homes) e ∙ is.homes;
}

-- the objects of a home that was frozen have the times of the live ones
stamps-frozen : (d : Dates) (home m : ℕ) → stamps_at (frozen d home) m ≡ cond (m / 65536 == home) (stamps_at d (m % 65536)) (stamps_at d m)
stamps-frozen d home m = stamps-with_tree d home (map.get d.trees 0) m ∙ ap (λ (s : Stamps). cond (m / 65536 == home) s (stamps_at d m)) live
  where
    live : stamps_in (tree_of d 0) (m % 65536) ≡ stamps_at d (m % 65536)
    live =
        let first : (m % 65536) / 65536 ≡ 0 = omega arith in
        let second : (m % 65536) % 65536 ≡ m % 65536 = omega arith in
        ap (λ h. stamps_in (tree_of d h) (m % 65536)) (sym first)
        ∙ ap (λ k. stamps_in (tree_of d ((m % 65536) / 65536)) k) (sym second)

pub exact-frozen : (now : Time) (d new : Dates) (home : ℕ) (name : List ℕ) → new ≡ frozen_as d home name → IsExact (Frozen home name) now d new
exact-frozen now d new home name e =
    let others = without d name in
    let first = thawed_if_as_before d (map.get d.homes name) in
    let second = as_before others home (map.get others.trees 0) in
    record {
      stamps = λ m. ap (λ (x : Dates). stamps_at x m) e ∙ stamps-frozen others home m;
      base = ap (λ (x : Dates). x.base) e ∙ second.base ∙ first.base;
      homes = ap (λ (x : Dates). x.homes) e ∙ ap (λ (h : Homes). map.insert h name home) (second.homes ∙ first.homes);
    }

pub exact-thawed : (now : Time) (d new : Dates) (name : List ℕ) → new ≡ gone d name → IsExact (Thawed name) now d new
exact-thawed now d new name e = record {
  stamps = λ m. ap (λ (x : Dates). stamps_at x m) e;
  base = ap (λ (x : Dates). x.base) e ∙ (thawed_if_as_before d (map.get d.homes name)).base;
  homes = ap (λ (x : Dates). x.homes) e;
}

pub exact-met : (now : Time) (d new : Dates) (home : ℕ) (name : List ℕ) → new ≡ met d home name → IsExact (Met home name) now d new
exact-met now d new home name e = record {
  stamps = λ m. ap (λ (x : Dates). stamps_at x m) e;
  base = ap (λ (x : Dates). x.base) e ∙ base_told (is_met d home name);
  homes = ap (λ (x : Dates). x.homes) e ∙ homes_told (is_met d home name);
}
  where
    led : Dates
    led = taken_if (with_name d name home) (map.get d.homes name) home

    same : IsAsBefore (with_name d name home) led
    same = taken_as_before (with_name d name home) (map.get d.homes name) home

    base_told : (b : Bool) → (cond b d led).base ≡ d.base
    base_told true = refl
    base_told false = same.base

    homes_told : (b : Bool) → (cond b d led).homes ≡ cond b d.homes (map.insert d.homes name home)
    homes_told true = refl
    homes_told false = same.homes

pub none-thawed : (d new : Dates) (name : List ℕ) → new ≡ gone d name → KeepsNone (Thawed name) d new
none-thawed d new name e home is apart =
    ap (λ (x : Dates). map.get x.trees home) (e ∙ ap (λ (o : Option ℕ). record (thawed_if d o) { homes = map.remove d.homes name }) is)
    ∙ ap (λ (x : Dates). map.get x.trees home) (sym (thawed-other d home apart))
    ∙ map.get-remove nat_cmp_total d.trees home home
    ∙ ap (λ b. cond b None (map.get d.trees home)) ((eq_by_cmp_equiv nat_cmp_total).refl home)
