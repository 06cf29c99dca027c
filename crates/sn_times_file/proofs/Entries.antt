-- Entries that are put into a map in the order of their numbers.
use Rattle.std.proofs.Common.{◌≡◌, ℕ, ◌+◌, ◌<◌, ◌≤◌, Bool, true, false, ◌&&◌, List, [], ◌∷◌, ◌++◌, length, refl, sym, ap, subst, ◌∙◌, append_assoc, arith}
use Rattle.std.specs.Prelude.{T}
use Rattle.std.specs.declared.cmp.Ordering.{Ordering}
use Rattle.std.specs.declared.cmp.Ordering.TheVariants.{Less, Equal, Greater}
use Rattle.std.specs.Cmp.{nat_cmp_total, nat_cmp_is, ranked}
use Rattle.std.specs.FinMap as map
use Rattle.std.specs.FinMap.Entries.{below_all, put}
use Rattle.std.specs.List.{AllByRecursion}
use Rattle.std.specs.Ordering.{is_lt, nat_cmp}
use Rattle.sn_times.specs.declared.stamps.Stamps.{Stamps}
use Rattle.sn_times_file.specs.Kept.{Own}

-- all numbers are below this one
abbrev pub AreBelow : ℕ → List (ℕ × Stamps) → Type 0
AreBelow number entries = AllByRecursion (λ entry. entry.0 < number) entries

-- the least number that may come after these entries
pub record IsLeast (least : ℕ) (entries : List (ℕ × Stamps)) : Type 0 where
  pub above : AreBelow least entries
  pub lowest : (number : ℕ) → AreBelow number entries → least ≤ number

first : (a b : Bool) → T (a && b) → T a
first true b p = tt
first false b p = p

second : (a b : Bool) → T (a && b) → T b
second true b p = p
second false b p = absurd p

less : (o : Ordering) → T (is_lt o) → o ≡ Less
less Less p = refl
less Equal p = absurd p
less Greater p = absurd p

below_at : (number : ℕ) (entries more : List (ℕ × Stamps)) (entry : ℕ × Stamps) → T (below_all nat_cmp number (entries ++ entry ∷ more)) → number < entry.0
below_at number [] more entry h = ranked number entry.0 Less (sym (less _ (first _ _ h)))
below_at number (e ∷ entries) more entry h = below_at number entries more entry (second _ _ h)

-- in a map, the numbers before an entry are below its own
pub sorted_below : (entries more : List (ℕ × Stamps)) (entry : ℕ × Stamps) → T (map.is_sorted nat_cmp (entries ++ entry ∷ more)) → AreBelow entry.0 entries
sorted_below [] more entry h = tt
sorted_below (e ∷ entries) more entry h = (below_at e.0 entries more entry (first _ _ h), sorted_below entries more entry (second _ _ h))

put_last : (number : ℕ) (stamps : Stamps) (entries : List (ℕ × Stamps)) → AreBelow number entries → put nat_cmp number stamps entries ≡ entries ++ (number, stamps) ∷ []
put_last number stamps [] h = refl
put_last number stamps (e ∷ entries) h = rw (sym (nat_cmp_is number e.0 Greater h.0)) (ap (λ (rest : List (ℕ × Stamps)). e ∷ rest) (put_last number stamps entries h.1))

raised : (low high : ℕ) (entries : List (ℕ × Stamps)) → low ≤ high → AreBelow low entries → AreBelow high entries
raised low high [] le h = tt
raised low high (e ∷ entries) le h = let first : e.0 < low = h.0 in (omega arith, raised low high entries le h.1)

-- an entry whose number may come next is put last
pub entries-insert_last : (own : Own) (least number : ℕ) (stamps : Stamps) → IsLeast least (map.entries own) → least ≤ number → map.entries (map.insert own number stamps) ≡ map.entries own ++ (number, stamps) ∷ []
entries-insert_last own least number stamps is le = map.entries-insert nat_cmp_total own number stamps ∙ put_last number stamps (map.entries own) (raised least number (map.entries own) le is.above)

below_more : (number : ℕ) (entries : List (ℕ × Stamps)) (entry : ℕ × Stamps) → AreBelow number entries → entry.0 < number → AreBelow number (entries ++ entry ∷ [])
below_more number [] entry h lt = (lt, tt)
below_more number (e ∷ entries) entry h lt = (h.0, below_more number entries entry h.1 lt)

last_below : (number : ℕ) (entries : List (ℕ × Stamps)) (entry : ℕ × Stamps) → AreBelow number (entries ++ entry ∷ []) → entry.0 < number
last_below number [] entry h = h.0
last_below number (e ∷ entries) entry h = last_below number entries entry h.1

pub least-none : IsLeast 0 []
least-none = record { above = tt; lowest = λ number h. omega arith }

pub least-more : (least : ℕ) (entries : List (ℕ × Stamps)) (entry : ℕ × Stamps) → IsLeast least entries → least ≤ entry.0 → IsLeast (entry.0 + 1) (entries ++ entry ∷ [])
least-more least entries entry is le = record {
  above = below_more (entry.0 + 1) entries entry (raised least (entry.0 + 1) entries (omega arith) is.above) (omega arith);
  lowest = λ number h. let lt : entry.0 < number = last_below number entries entry h in omega arith;
}

-- in a map, the number after these entries may come next
pub next_above : (own others : Own) (least : ℕ) (entry : ℕ × Stamps) (more : List (ℕ × Stamps)) → IsLeast least (map.entries own) → map.entries others ≡ (map.entries own ++ entry ∷ []) ++ more → least ≤ entry.0
next_above own others least entry more is e =
    is.lowest entry.0 (sorted_below (map.entries own) more entry (subst (λ (es : List (ℕ × Stamps)). T (map.is_sorted nat_cmp es)) (e ∙ append_assoc (map.entries own) (entry ∷ []) more) (map.entries_sorted others)))

no_entries : (es : List (ℕ × Stamps)) → length es ≡ 0 → es ≡ []
no_entries [] e = refl
no_entries (x ∷ es) e = absurd (omega arith)

pub entries-none : (own : Own) → own ≡ map.empty → map.entries own ≡ []
entries-none own e = no_entries (map.entries own) (sym (map.len-entries own) ∙ ap (λ (t : Own). map.len t) e ∙ map.len-empty nat_cmp Stamps)
