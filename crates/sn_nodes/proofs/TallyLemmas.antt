-- How many files of a map have no name, as nodes come, change and go.
use Rattle.std.proofs.Common.{◌≡◌, ◌≢◌, ℕ, ◌+◌, ◌-◌, ◌<◌, ◌≤◌, ◌^◌, Bool, true, false, cond, not, T, ◌&&◌, List, [], ◌∷◌, Option, Some, None, is_some, refl, sym, ap, subst, ◌∙◌, ◌⊎◌, inl, inr, arith}
use Rattle.std.specs.declared.cmp.Ordering.{Ordering}
use Rattle.std.specs.declared.cmp.Ordering.TheVariants.{Less, Equal, Greater}
use Rattle.std.specs.Ordering.{nat_cmp, is_lt, eq_by_cmp}
use Rattle.std.specs.Cmp.{nat_cmp_total, eq_by_cmp_equiv}
use Rattle.std.specs.FinMap as map
use Rattle.std.specs.FinMap.Entries.{below_all, is_sorted, is_some-find}
use Rattle.std.specs.List.{All, AllByRecursion}
use Rattle.std.specs.List.Sorted.{IsStrictlySortedBy}
use Rattle.std.specs.BTreeMap.{is_at}
use Rattle.std.specs.Map.{keys_of, lookup}
use Rattle.std.proofs.lemmas.Bool.{true≢false}
use Rattle.std.proofs.lemmas.List.Sums.{count_by-le-length}
use Rattle.std.proofs.lemmas.Map.Entries.{length-keys_of}
use Rattle.std.proofs.lemmas.Map.Lookups.{exact_unsigned}
use Rattle.std.proofs.lemmas.Map.Made.{is_some-lookup}
use Rattle.std.proofs.lemmas.Map.Views.{All-keys_from_lookup, length-le_from_below}
use Rattle.sn_model.proofs.ChainLemmas.{some_same}
use Rattle.sn_model.proofs.CountLemmas.{once, count_none}
use Rattle.sn_model.proofs.EntryLemmas.{share, total-insert, total-remove}
use Rattle.sn_model.proofs.MapLemmas.{same_or_apart, get_other, get_was}
use Rattle.sn_nodes.specs.declared.nodes.StoredNode.{StoredNode}
use Rattle.sn_maps.specs.Maps.{filtered, updated, updated_at}
use Rattle.sn_nodes.specs.Tally.{IsTallied, IsTalliedIn, bare_at, bare_in, bare_once, is_kept}
use Rattle.sn_maps.proofs.MapLemmas.{get-seen_plain, updated-seen_by}

abbrev Stored : Type 0
Stored = map.FinMap nat_cmp StoredNode

abbrev bare : ℕ × StoredNode → Bool
bare e = not (is_kept e.1)

same_share : (k : ℕ) (o : Option StoredNode) → share (once bare) k o ≡ bare_at o
same_share k None = refl
same_share k (Some s) = refl

-- what a number had stops to count, and what it gets counts
bare_inserted : (m : Stored) (k : ℕ) (v : StoredNode) → bare_in (map.insert m k v) + bare_at (map.get m k) ≡ bare_in m + bare_once v
unfolding bare_in
bare_inserted m k v = omega (arith, total-insert nat_cmp_total exact_unsigned (once bare) m k v, same_share k (map.get m k))

bare_removed : (m : Stored) (k : ℕ) → bare_in (map.remove m k) + bare_at (map.get m k) ≡ bare_in m
unfolding bare_in
bare_removed m k = omega (arith, total-remove nat_cmp_total exact_unsigned (once bare) m k, same_share k (map.get m k))

-- ---- there are at most as many as numbers of 16 bits

both : (a b : Bool) → T (a && b) → T a × T b
both true b h = (tt, h)
both false b h = absurd h

less : (r : Ordering) → T (is_lt r) → r ≡ Less
less Less h = refl
less Equal h = absurd h
less Greater h = absurd h

below_keys : (x : ℕ) (es : List (ℕ × StoredNode)) → T (below_all nat_cmp x es) → AllByRecursion (λ y. nat_cmp x y ≡ Less) (keys_of es)
below_keys x [] h = tt
below_keys x (e ∷ es) h = let s = both _ _ h in (less _ s.0, below_keys x es s.1)

sorted_keys : (es : List (ℕ × StoredNode)) → T (is_sorted nat_cmp es) → IsStrictlySortedBy nat_cmp (keys_of es)
unfolding IsStrictlySortedBy
sorted_keys [] h = tt
sorted_keys (e ∷ es) h = let s = both _ _ h in (below_keys e.0 es s.0, sorted_keys es s.1)

pub few : (m : Stored) (n : ℕ) → IsTallied m n → n ≤ 65536
unfolding bare_in
few m n t =
    let es = map.entries m in
    let keys = length-le_from_below 65536 (keys_of es) (sorted_keys es (map.entries_sorted m)) low in
    omega (arith, t.count, count_by-le-length bare es, length-keys_of es, keys)
  where
    low : All (λ x. x < 65536) (keys_of (map.entries m))
    low = All-keys_from_lookup (eq_by_cmp_equiv nat_cmp_total) (λ x. x < 65536) (map.entries m) (λ q h. t.low q (
        ap is_some (map.get-entries m q) ∙ is_some-find nat_cmp q (map.entries m) ∙ sym (is_some-lookup (eq_by_cmp nat_cmp q) (map.entries m)) ∙ h))

-- what a number has is counted
pub counted_at : (m : Stored) (n k : ℕ) → IsTallied m n → bare_at (map.get m k) ≤ n
counted_at m n k t = omega (arith, bare_removed m k, t.count)

pub once_at_most : (s : StoredNode) → bare_once s ≤ 1
once_at_most s = told (is_kept s)
  where
    told : (b : Bool) → cond (not b) 1 0 ≤ 1
    told true = omega arith
    told false = omega arith

-- ---- the count, kept

pub tallied_none : (m : Stored) → m ≡ map.empty → IsTallied m 0
unfolding bare_in
tallied_none m e = record {
  count = sym (count_none nat_cmp_total exact_unsigned bare m (λ k v g. absurd (true≢false (ap is_some (sym g ∙ ap (λ (x : Stored). map.get x k) e ∙ map.get-empty nat_cmp k)))));
  low = λ q h. absurd (true≢false (sym h ∙ ap (λ (x : Stored). is_some (map.get x q)) e ∙ ap is_some (map.get-empty nat_cmp q)));
}

pub tallied_inserted : (m m' : Stored) (n n' k : ℕ) (v : StoredNode) → m' ≡ map.insert m k v → k < 2 ^ 16 → IsTallied m n → n' ≡ n + bare_once v - bare_at (map.get m k) → IsTallied m' n'
tallied_inserted m m' n n' k v e small t is = record {
  count = omega (arith, is, ap bare_in e, bare_inserted m k v, t.count);
  low = λ q h. told q (same_or_apart nat_cmp_total exact_unsigned q k) (sym (ap (λ (x : Stored). is_some (map.get x q)) e) ∙ h);
}
  where
    told : (q : ℕ) → (q ≡ k) ⊎ (q ≢ k) → is_some (map.get (map.insert m k v) q) ≡ true → q < 2 ^ 16
    told q (inl same) h = subst (λ x. x < 2 ^ 16) (sym same) small
    told q (inr apart) h = t.low q (sym (ap is_some (get_other nat_cmp_total exact_unsigned m k v q apart)) ∙ h)

pub tallied_removed : (m m' : Stored) (n n' k : ℕ) → m' ≡ map.remove m k → IsTallied m n → n' ≡ n - bare_at (map.get m k) → IsTallied m' n'
tallied_removed m m' n n' k e t is = record {
  count = omega (arith, is, ap bare_in e, bare_removed m k, t.count);
  low = λ q h. told q (map.get (map.remove m k) q) refl (sym (ap (λ (x : Stored). is_some (map.get x q)) e) ∙ h);
}
  where
    told : (q : ℕ) (o : Option StoredNode) → map.get (map.remove m k) q ≡ o → is_some (map.get (map.remove m k) q) ≡ true → q < 2 ^ 16
    told q None g h = absurd (true≢false (sym h ∙ ap is_some g))
    told q (Some s) g h = t.low q (ap is_some (get_was nat_cmp_total exact_unsigned m k q s g).1)

-- a node that a number has is written anew
pub tallied_updated : (m m' : Stored) (n n' k : ℕ) (g : StoredNode → StoredNode) (x : StoredNode) → m' ≡ updated m k g → map.get m k ≡ Some x → IsTallied m n → n' ≡ n + bare_once (g x) - bare_once x → IsTallied m' n'
tallied_updated m m' n n' k g x e there t is =
    tallied_inserted m m' n n' k (g x) (e ∙ ap (updated_at m k g) there) (t.low k (ap is_some there)) t (is ∙ ap (λ (o : Option StoredNode). n + bare_once (g x) - bare_at o) (sym there))

-- the same over what a program has: a value that it writes at a key that has one
pub tallied_written : (es fs : List (ℕ × StoredNode)) (n n' k : ℕ) (x w : StoredNode) → Some x ≡ lookup (is_at (nat_cmp k)) es → ((q : ℕ) → lookup (is_at (nat_cmp q)) fs ≡ cond (is_at (nat_cmp k) q) (Some w) (lookup (is_at (nat_cmp q)) es)) → IsTalliedIn es n → n' ≡ n + bare_once w - bare_once x → IsTalliedIn fs n'
tallied_written es fs n n' k x w there h t is =
    tallied_updated _ _ n n' k (λ _. w) x (updated-seen_by nat_cmp (λ (s : StoredNode). s) nat_cmp_total exact_unsigned es fs k x w (λ _. w) (sym there) refl h) (get-seen_plain nat_cmp nat_cmp_total es k ∙ sym there) t is

-- the same, where it counts as before
pub tallied_alike : (es fs : List (ℕ × StoredNode)) (n k : ℕ) (x w : StoredNode) → Some x ≡ lookup (is_at (nat_cmp k)) es → ((q : ℕ) → lookup (is_at (nat_cmp q)) fs ≡ cond (is_at (nat_cmp k) q) (Some w) (lookup (is_at (nat_cmp q)) es)) → bare_once w ≡ bare_once x → IsTalliedIn es n → IsTalliedIn fs n
tallied_alike es fs n k x w there h same t = tallied_written es fs n n k x w there h t (omega (arith, same))

-- what a number has is counted
pub counted_found : (es : List (ℕ × StoredNode)) (n k : ℕ) (x : StoredNode) → Some x ≡ lookup (is_at (nat_cmp k)) es → IsTalliedIn es n → bare_once x ≤ n
counted_found es n k x there t = omega (arith, counted_at _ n k t, ap bare_at (get-seen_plain nat_cmp nat_cmp_total es k ∙ sym there))

-- the files without a name go
pub tallied_settled : (m m' : Stored) (n : ℕ) → ((k : ℕ) → map.get m' k ≡ filtered is_kept (map.get m k)) → IsTallied m n → IsTallied m' 0
unfolding bare_in
tallied_settled m m' n kept t = record {
  count = sym (count_none nat_cmp_total exact_unsigned bare m' (λ k v g. ap not (left v (map.get m k) (sym (kept k) ∙ g))));
  low = λ q h. t.low q (was (map.get m q) (sym (ap is_some (kept q)) ∙ h));
}
  where
    left : (v : StoredNode) (o : Option StoredNode) → filtered is_kept o ≡ Some v → is_kept v ≡ true
    left v None e = cc
    left v (Some s) e = told (is_kept s) refl e
      where
        told : (b : Bool) → is_kept s ≡ b → cond b (Some s) None ≡ Some v → is_kept v ≡ true
        told true f h = ap is_kept (sym (some_same _ _ h)) ∙ f
        told false f h = cc

    was : (o : Option StoredNode) → is_some (filtered is_kept o) ≡ true → is_some o ≡ true
    was None h = h
    was (Some s) h = refl
