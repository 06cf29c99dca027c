-- Counts that are set at two numbers.
use Rattle.std.proofs.Common.{◌≡◌, ℕ, ◌+◌, ◌-◌, Bool, true, false, cond, ◌==◌, Option, Some, None, refl, sym, ap, ◌∙◌, arith}
use Rattle.std.specs.Option.{option_map}
use Rattle.std.specs.Ordering.{nat_cmp}
use Rattle.std.specs.Cmp.{nat_cmp_total, unsigned_tied}
use Rattle.std.specs.FinMap as fin
use Rattle.std.proofs.lemmas.Bool.{eqb-true, eqb-false}
use Rattle.std.proofs.lemmas.Map.Lookups.{exact_unsigned}
use Rattle.sn_maps.specs.Maps.{updated}
use Rattle.sn_nodes.specs.declared.nodes.Counts.{Counts}
use Rattle.sn_nodes.specs.declared.nodes.StoredNode.{StoredNode}
use Rattle.sn_nodes.specs.Stored.{counts_of, with_counts, recount, Recounts, more_at, fewer_at}
use Rattle.sn_maps.proofs.MapLemmas.{get-updated}

abbrev Stored : Type 0
Stored = fin.FinMap nat_cmp StoredNode

pub turned : (a b : ℕ) → (a == b) ≡ (b == a)
turned a b = told (a == b) refl (b == a) refl
  where
    told : (t : Bool) → (a == b) ≡ t → (u : Bool) → (b == a) ≡ u → (a == b) ≡ (b == a)
    told true e true f = e ∙ sym f
    told false e false f = e ∙ sym f
    told true e false f = absurd (eqb-false b a f (sym (eqb-true a b e)))
    told false e true f = absurd (eqb-false a b e (sym (eqb-true b a f)))

-- what is there after counts are set
pub get-counted : (m : Stored) (place : ℕ) (counts : Counts) (q : ℕ) → fin.get (updated m place (with_counts counts)) q ≡ cond (place == q) (option_map (with_counts counts) (fin.get m q)) (fin.get m q)
get-counted m place counts q = get-updated nat_cmp_total exact_unsigned m place (with_counts counts) q ∙ ap (λ b. cond b (option_map (with_counts counts) (fin.get m q)) (fin.get m q)) (unsigned_tied q place ∙ turned q place)

-- the counts of one number and then those of another, each by what it was
module _ (f : Bool → ℕ → ℕ) (same : (n : ℕ) → f false n ≡ n) (m : Stored) (directory number : ℕ) where
  abbrev first_counts : Counts
  first_counts = let c = counts_of (fin.get m directory) in record c { names = f true c.names }

  abbrev pub once_set : Stored
  once_set = updated m directory (with_counts first_counts)

  abbrev second_counts : Counts
  second_counts = let c = counts_of (fin.get once_set number) in record c { links = f true c.links }

  abbrev pub twice_set : Stored
  twice_set = updated once_set number (with_counts second_counts)

  names_set : (q : ℕ) → fin.get once_set q ≡ option_map (recount (f (directory == q)) (λ n. n)) (fin.get m q)
  names_set q = get-counted m directory first_counts q ∙ told (directory == q) refl (fin.get m q) refl
    where
      told : (b : Bool) → (directory == q) ≡ b → (o : Option StoredNode) → fin.get m q ≡ o → cond b (option_map (with_counts first_counts) o) o ≡ option_map (recount (f b) (λ n. n)) o
      told b e None g = elim b as (λ b. cond b (option_map (with_counts first_counts) None) None ≡ None) [ true ↦ refl | false ↦ refl ]
      told false e (Some s) g = ap (λ (n : ℕ). Some (record s { counts = record s.counts { names = n } })) (sym (same s.counts.names))
      told true e (Some s) g = ap (λ (o : Option StoredNode). Some (with_counts (let c = counts_of o in record c { names = f true c.names }) s)) (ap (fin.get m) (eqb-true directory q e) ∙ g)

  pub both_set : (q : ℕ) → fin.get twice_set q ≡ option_map (recount (f (directory == q)) (f (number == q))) (fin.get m q)
  both_set q = get-counted once_set number second_counts q ∙ told (number == q) refl (fin.get m q) (fin.get once_set q) refl (names_set q)
    where
      told : (b : Bool) → (number == q) ≡ b → (o p : Option StoredNode) → fin.get once_set q ≡ p → p ≡ option_map (recount (f (directory == q)) (λ n. n)) o → cond b (option_map (with_counts second_counts) p) p ≡ option_map (recount (f (directory == q)) (f b)) o
      told true e None p g h = ap (option_map (with_counts second_counts)) h
      told false e None p g h = h
      told false e (Some s) p g h = h ∙ ap (λ (n : ℕ). Some (record s { counts = record { names = f (directory == q) s.counts.names; links = n; parent = s.counts.parent } })) (sym (same s.counts.links))
      told true e (Some s) p g h =
          ap (option_map (with_counts second_counts)) h
          ∙ ap (λ (o : Option StoredNode). Some (with_counts (let c = counts_of o in record c { links = f true c.links }) s)) (ap (fin.get once_set) (eqb-true number q e) ∙ g ∙ h)

abbrev pub more : Bool → ℕ → ℕ
more b n = n + cond b 1 0

abbrev pub fewer : Bool → ℕ → ℕ
fewer b n = n - cond b 1 0

pub counts_more : (m : Stored) (directory number : ℕ) → Recounts (more_at directory) (more_at number) m (twice_set more (λ n. omega arith) m directory number)
counts_more m directory number q = both_set more (λ n. omega arith) m directory number q

pub counts_fewer : (m : Stored) (directory number : ℕ) → Recounts (fewer_at directory) (fewer_at number) m (twice_set fewer (λ n. omega arith) m directory number)
counts_fewer m directory number q = both_set fewer (λ n. omega arith) m directory number q

-- the same, over what a program set
module _ (m m1 m2 : Stored) (d n : ℕ) (c1 c2 : Counts) (e1 : c1 ≡ counts_of (fin.get m d)) (e3 : c2 ≡ counts_of (fin.get m1 n)) where
  pub set_more : m1 ≡ updated m d (with_counts (record c1 { names = c1.names + 1 })) → m2 ≡ updated m1 n (with_counts (record c2 { links = c2.links + 1 })) → Recounts (more_at d) (more_at n) m m2
  set_more e2 e4 q =
      let p1 : m1 ≡ once_set more (λ n. omega arith) m d n = e2 ∙ ap (λ (c : Counts). updated m d (with_counts (record c { names = c.names + 1 }))) e1 in
      let p2 : c2 ≡ counts_of (fin.get (once_set more (λ n. omega arith) m d n) n) = e3 ∙ ap (λ (x : Stored). counts_of (fin.get x n)) p1 in
      let p3 : m2 ≡ twice_set more (λ n. omega arith) m d n = e4 ∙ (λ i. updated (p1 i) n (with_counts (record (p2 i) { links = (p2 i).links + 1 }))) in
      ap (λ (x : Stored). fin.get x q) p3 ∙ counts_more m d n q

  pub set_fewer : m1 ≡ updated m d (with_counts (record c1 { names = c1.names - 1 })) → m2 ≡ updated m1 n (with_counts (record c2 { links = c2.links - 1 })) → Recounts (fewer_at d) (fewer_at n) m m2
  set_fewer e2 e4 q =
      let p1 : m1 ≡ once_set fewer (λ n. omega arith) m d n = e2 ∙ ap (λ (c : Counts). updated m d (with_counts (record c { names = c.names - 1 }))) e1 in
      let p2 : c2 ≡ counts_of (fin.get (once_set fewer (λ n. omega arith) m d n) n) = e3 ∙ ap (λ (x : Stored). counts_of (fin.get x n)) p1 in
      let p3 : m2 ≡ twice_set fewer (λ n. omega arith) m d n = e4 ∙ (λ i. updated (p1 i) n (with_counts (record (p2 i) { links = (p2 i).links - 1 }))) in
      ap (λ (x : Stored). fin.get x q) p3 ∙ counts_fewer m d n q

-- names that are set leave the number's links
pub links_left : (m m1 : Stored) (d n names : ℕ) (c1 : Counts) → c1 ≡ counts_of (fin.get m d) → m1 ≡ updated m d (with_counts (record c1 { names = names })) → (counts_of (fin.get m1 n)).links ≡ (counts_of (fin.get m n)).links
links_left m m1 d n names c1 e1 e2 = ap (λ (x : Stored). (counts_of (fin.get x n)).links) e2 ∙ ap (λ (o : Option StoredNode). (counts_of o).links) (get-counted m d (record c1 { names = names }) n) ∙ told (d == n) refl (fin.get m n) refl
  where
    told : (b : Bool) → (d == n) ≡ b → (o : Option StoredNode) → fin.get m n ≡ o → (counts_of (cond b (option_map (with_counts (record c1 { names = names })) o) o)).links ≡ (counts_of o).links
    told false e o g = refl
    told true e None g = refl
    told true e (Some s) g = ap (λ (c : Counts). c.links) e1 ∙ ap (λ (o : Option StoredNode). (counts_of o).links) (ap (fin.get m) (eqb-true d n e) ∙ g)
