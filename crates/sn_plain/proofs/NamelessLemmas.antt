-- The files that no name is counted for are those without names in the tree.
use Rattle.std.proofs.Common.{◌≡◌, ℕ, Bool, true, false, cond, not, ◌==◌, List, [], ◌∷◌, Some, map, sum_by, refl, ap, arith}
use Rattle.std.specs.Option.{option_map}
use Rattle.std.specs.Ordering.{nat_cmp}
use Rattle.std.specs.Cmp.{nat_cmp_total}
use Rattle.std.specs.FinMap as fin
use Rattle.std.proofs.lemmas.List.Sums.{sum_by-cons}
use Rattle.std.proofs.lemmas.Map.Lookups.{exact_unsigned}
use Rattle.sn_limits.specs.declared.kind.Kind.{Kind}
use Rattle.sn_limits.specs.declared.kind.Kind.TheVariants as kind
use Rattle.sn_model.specs.Settling.{is_nameless, nameless_in}
use Rattle.sn_model.specs.Tree.{Node, Tree, names_for}
use Rattle.sn_model.proofs.CountLemmas.{once}
use Rattle.sn_model.proofs.EntryLemmas.{total-le}
use Rattle.sn_nodes.specs.declared.nodes.StoredNode.{StoredNode}
use Rattle.sn_nodes.specs.Stored.{node_of}
use Rattle.sn_nodes.specs.Tally.{bare_in, is_kept}
use Rattle.sn_nodes.proofs.EntryLemmas.{entries_seen}
use Rattle.sn_plain.specs.Stored.{IsCounted}
use Rattle.sn_plain.proofs.CountedLemmas.{Stored}

-- a sum over entries that are seen by a function
sum_seen : {A B : Type 0} (f : B → ℕ) (g : A → B) (xs : List A) → sum_by f (map g xs) ≡ sum_by (λ x. f (g x)) xs
sum_seen f g [] = refl
sum_seen f g (x ∷ xs) = omega (arith, sum_by-cons f (g x) (map g xs), sum_by-cons (λ y. f (g y)) x xs, sum_seen f g xs)

module _ (stored : Stored) (tree : Tree) (first : ℕ) (see : (k : ℕ) → fin.get tree.nodes k ≡ option_map node_of (fin.get stored k)) (h : IsCounted stored tree first) where
  abbrev bare : ℕ × StoredNode → Bool
  bare e = not (is_kept e.1)

  abbrev nameless : ℕ × Node → Bool
  nameless e = is_nameless tree e.0 (Some e.1)

  abbrev seen_nameless : ℕ × StoredNode → Bool
  seen_nameless e = nameless (e.0, node_of e.1)

  same_test : (k : ℕ) (s : StoredNode) → fin.get stored k ≡ Some s → bare (k, s) ≡ seen_nameless (k, s)
  same_test k s e = told s.kind refl
    where
      twice : (b : Bool) → not (not b) ≡ b
      twice true = refl
      twice false = refl

      told : (c : Kind) → s.kind ≡ c → bare (k, s) ≡ seen_nameless (k, s)
      told kind.Directory q = rw q refl
      told kind.File q = rw (q, h.links k s e) (twice (names_for tree k == 0))

  same_once : (k : ℕ) (s : StoredNode) → fin.get stored k ≡ Some s → once bare (k, s) ≡ once seen_nameless (k, s)
  same_once k s e = ap {B = ℕ} (λ (b : Bool). cond b 1 0) (same_test k s e)

  pub nameless_is : bare_in stored ≡ nameless_in tree
  unfolding bare_in nameless_in
  nameless_is =
      omega (
        arith,
        total-le nat_cmp_total (once bare) (once seen_nameless) stored (λ k s e. omega (arith, same_once k s e)),
        total-le nat_cmp_total (once seen_nameless) (once bare) stored (λ k s e. omega (arith, same_once k s e)),
        sum_seen (once nameless) (λ (e : ℕ × StoredNode). (e.0, node_of e.1)) (fin.entries stored),
        ap (sum_by (once nameless)) (entries_seen nat_cmp node_of nat_cmp_total exact_unsigned stored tree.nodes see),
      )
