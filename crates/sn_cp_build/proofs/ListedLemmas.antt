-- Lists of numbers: what is among them, and how often.
use Rattle.std.proofs.Common.{◌≡◌, ◌⊎◌, inl, inr, ⊎_elim, ℕ, ◌+◌, ◌<◌, ◌≤◌, Bool, true, false, cond, List, [], ◌∷◌, map, Some, refl, sym, subst, ◌∙◌, arith}
use Rattle.std.specs.Prelude.{All, Contains}
use Rattle.std.specs.List.{AllByRecursion, range_with_len}
use Rattle.std.specs.List.Sorted.{IsStrictlyIncreasing}
use Rattle.std.specs.FinMap as fin
use Rattle.std.specs.FinMap.Entries.{find}
use Rattle.std.specs.Ordering.{nat_cmp, eq_by_cmp}
use Rattle.std.proofs.lemmas.Bool.{cases_lt}
use Rattle.std.proofs.lemmas.List.Elements.{All-head, All-tail}
use Rattle.std.proofs.lemmas.List.FromFn.{length-range_with_len, get_or-range_with_len}
use Rattle.std.proofs.lemmas.Map.Lookups.{exact_unsigned}
use Rattle.std.proofs.lemmas.Map.Views.{tells_apart}
use Rattle.sn_device.proofs.SectorLemmas.{Contains-first, Contains-more, Contains-cases}
use Rattle.sn_image.proofs.ListLemmas.{none_in}
use Rattle.sn_inode.specs.Changes.{numbers_in}
use Rattle.sn_inode.specs.declared.changes.InodeChange.{InodeChange}
use Rattle.sn_ondisk.specs.Counts.{times}
use Rattle.sn_ondisk.proofs.CountLemmas.{among_times, times_among}
use Rattle.sn_overlay.specs.Layers.{Layer}
use Rattle.sn_overlay.specs.declared.node.NodeChange.{NodeChange}
use Rattle.sn_cp_nodes.proofs.RiseLemmas.{rising_once}
use Rattle.sn_cp_build.specs.Planned.{numbers_of}

pub among_or_not : (x : ℕ) (xs : List ℕ) → Contains xs x ⊎ (Contains xs x → ⊥)
among_or_not x xs = ⊎_elim
    (λ (some : 0 < times x xs). inl (times_among x xs some))
    (λ (none : times x xs ≤ 0). inr (λ among. omega (arith, none, among_times x xs among)))
    (cases_lt 0 (times x xs))

pub not_among : (x : ℕ) (xs : List ℕ) → times x xs ≡ 0 → Contains xs x → ⊥
not_among x xs none among = omega (arith, none, among_times x xs among)

-- ---- numbers that rise

range_rises : (a n : ℕ) → IsStrictlyIncreasing (range_with_len a n)
range_rises a n k within =
    let under : k + 1 < n = omega (arith, within, length-range_with_len a n) in
    omega (arith, get_or-range_with_len a n k 0 (omega (arith, under)), get_or-range_with_len a n (k + 1) 0 under)

pub range_once : (a n y : ℕ) → times y (range_with_len a n) ≤ 1
range_once a n y = rising_once (range_with_len a n) (range_rises a n) y

-- ---- what a layer has

has_key : (es : List (ℕ × NodeChange)) (number : ℕ) (change : NodeChange) → find nat_cmp number es ≡ Some change → Contains (map (λ (e : ℕ × NodeChange). e.0) es) number
has_key [] number change e = absurd cc
has_key (x ∷ es) number change e = told (eq_by_cmp nat_cmp number x.0) refl e (has_key es number change)
  where
    told : (b : Bool) → eq_by_cmp nat_cmp number x.0 ≡ b → cond b (Some x.1) (find nat_cmp number es) ≡ Some change
        → (find nat_cmp number es ≡ Some change → Contains (map (λ (e : ℕ × NodeChange). e.0) es) number) → Contains (map (λ (e : ℕ × NodeChange). e.0) (x ∷ es)) number
    told true is found later = subst (Contains (map (λ (e : ℕ × NodeChange). e.0) (x ∷ es))) (sym (tells_apart exact_unsigned number x.0 is)) (Contains-first x.0 (map (λ (e : ℕ × NodeChange). e.0) es))
    told false is found later = Contains-more x.0 (map (λ (e : ℕ × NodeChange). e.0) es) number (later found)

pub has_node : (layer : Layer) (number : ℕ) (change : NodeChange) → fin.get layer.nodes number ≡ Some change → Contains (numbers_of layer) number
has_node layer number change e = has_key (fin.entries layer.nodes) number change (sym (fin.get-entries layer.nodes number) ∙ e)

-- ---- changes

-- what is so of a change, at its number
pub changed_at : (P Q : InodeChange → Type 0) (R : ℕ → Type 0) → ((c : InodeChange) → P c → Q c → R c.number)
    → (changes : List InodeChange) (number : ℕ) → All P changes → AllByRecursion Q changes → Contains (numbers_in changes) number → R number
changed_at P Q R step [] number ps qs among = none_in number among
changed_at P Q R step (c ∷ cs) number ps qs among = ⊎_elim
    (λ (same : number ≡ c.number). subst R (sym same) (step c (All-head P c cs ps) qs.0))
    (λ (more : Contains (numbers_in cs) number). changed_at P Q R step cs number (All-tail P c cs ps) qs.1 more)
    (Contains-cases c.number (numbers_in cs) number among)
