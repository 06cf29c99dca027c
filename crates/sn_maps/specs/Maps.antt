-- A list of entries as a finite map, each key and each value seen by a function.
use Rattle.std.specs.Prelude.{Bool, List, map, Option, None, Some, if◌then◌else◌}
use Rattle.std.specs.declared.cmp.Ordering.{Ordering}
use Rattle.std.specs.FinMap.{FinMap, from_entries, get, insert, remove}

abbrev pub seen_as : {K L X Y : Type 0} (R : L → L → Ordering) → (K → L) → (X → Y) → List (K × X) → FinMap R Y
seen_as R key f entries = from_entries {R = R} (map (λ e. (key e.0, f e.1)) entries)

-- the same with the keys as they are
abbrev pub seen_by : {K X Y : Type 0} (R : K → K → Ordering) → (X → Y) → List (K × X) → FinMap R Y
seen_by R f entries = seen_as R (λ k. k) f entries

-- a map with a function over the value of a key that it has
abbrev pub updated_at : {K X : Type 0} {R : K → K → Ordering} → FinMap R X → K → (X → X) → Option X → FinMap R X
updated_at m k f None = m
updated_at m k f (Some x) = insert m k (f x)

abbrev pub updated : {K X : Type 0} {R : K → K → Ordering} → FinMap R X → K → (X → X) → FinMap R X
updated m k f = updated_at m k f (get m k)

-- a map with the value that a key had, or without the key
abbrev pub restored : {K X : Type 0} {R : K → K → Ordering} → FinMap R X → K → Option X → FinMap R X
restored m k None = remove m k
restored m k (Some x) = updated m k (λ _. x)

-- a value that passes a test
abbrev pub filtered : {X : Type 0} → (X → Bool) → Option X → Option X
filtered p None = None
filtered p (Some x) = if p x then Some x else None
