-- What a settling leaves.
use Rattle.std.proofs.Common.{◌≡◌, ℕ, ◌<◌, ◌≤◌, Bool, true, false, cond, not, ◌||◌, ◌==◌, Option, Some, None, is_some, refl, sym, ap, ◌∙◌, arith, lit≤, nat_lt}
use Rattle.std.specs.Option.{option_map}
use Rattle.std.specs.Ordering.{nat_cmp}
use Rattle.std.specs.Cmp.{nat_cmp_total}
use Rattle.std.specs.FinMap as map
use Rattle.std.proofs.lemmas.Bool.{true≢false, eqb-true, ltb-true, ltb-false}
use Rattle.std.proofs.lemmas.Map.Lookups.{exact_unsigned}
use Rattle.sn_limits.specs.declared.kind.Kind.{Kind}
use Rattle.sn_limits.specs.declared.kind.Kind.TheVariants as kind
use Rattle.sn_walk.specs.Views.{is_directory}
use Rattle.sn_model.specs.Tree.{Node, Tree, names_in, names_for}
use Rattle.sn_model.specs.Settling.{is_nameless, settled}
use Rattle.sn_model.proofs.SettlingLemmas.{get_without}
use Rattle.sn_maps.specs.Maps.{filtered}
use Rattle.sn_nodes.specs.declared.nodes.StoredNode.{StoredNode}
use Rattle.sn_nodes.specs.Stored.{node_of}
use Rattle.sn_nodes.specs.Tally.{is_kept}
use Rattle.sn_plain.specs.Stored.{IsCounted}
use Rattle.sn_plain.proofs.CountedLemmas.{Stored}

filtered_some : {X : Type 0} (p : X → Bool) (o : Option X) (x : X) → filtered p o ≡ Some x → o ≡ Some x
filtered_some p None x e = cc
filtered_some p (Some y) x e = told (p y) e
  where
    told : (b : Bool) → cond b (Some y) None ≡ Some x → Some y ≡ Some x
    told true f = f
    told false f = cc

unkept : (s : StoredNode) → is_kept s ≡ false → (s.kind ≡ kind.File) × (s.counts.links ≡ 0)
unkept s e = told s.kind refl e
  where
    told : (k : Kind) → s.kind ≡ k → (is_directory k || not (s.counts.links == 0)) ≡ false → (s.kind ≡ kind.File) × (s.counts.links ≡ 0)
    told kind.Directory q f = absurd (true≢false f)
    told kind.File q f = (q, zero_of (s.counts.links == 0) refl f)
      where
        zero_of : (b : Bool) → (s.counts.links == 0) ≡ b → not b ≡ false → s.counts.links ≡ 0
        zero_of true g h = eqb-true s.counts.links 0 g
        zero_of false g h = absurd (true≢false h)

module _ (stored stored' : Stored) (tree : Tree) (first : ℕ) (kept : (k : ℕ) → map.get stored' k ≡ filtered is_kept (map.get stored k)) (h : IsCounted stored tree first) where
  was : (k : ℕ) (s : StoredNode) → map.get stored' k ≡ Some s → map.get stored k ≡ Some s
  was k s e = filtered_some is_kept (map.get stored k) s (sym (kept k) ∙ e)

  gone : (k : ℕ) → map.get stored' k ≡ None → (names_in tree k ≡ 0) × (names_for tree k ≡ 0)
  gone k e = told (map.get stored k) refl
    where
      told : (o : Option StoredNode) → map.get stored k ≡ o → (names_in tree k ≡ 0) × (names_for tree k ≡ 0)
      told None g = (h.no_names k g, h.no_links k g)
      told (Some s) g = tested (is_kept s) refl
        where
          tested : (b : Bool) → is_kept s ≡ b → (names_in tree k ≡ 0) × (names_for tree k ≡ 0)
          tested true t = let never : Some s ≡ None = sym (ap (λ (c : Bool). cond c (Some s) None) t) ∙ sym (ap (filtered is_kept) g) ∙ sym (kept k) ∙ e in absurd cc
          tested false t = let u = unkept s t in (h.files k s g u.0, sym (h.links k s g) ∙ u.1)

  pub counted_settled : IsCounted stored' tree 2
  counted_settled = record {
    names = λ k s e. h.names k s (was k s e);
    links = λ k s e. h.links k s (was k s e);
    parents = λ l k s g e d. h.parents l k s g (was k s e) d;
    files = λ k s e f. h.files k s (was k s e) f;
    no_names = λ k e. (gone k e).0;
    no_links = λ k e. (gone k e).1;
    used = λ k low high. absurd (omega (arith, low, high));
    low = lit≤ tt;
  }

  -- the test of a node that is stored is that of the model
  same_test : (k : ℕ) (s : StoredNode) → map.get stored k ≡ Some s → is_kept s ≡ (not (is_nameless tree k (Some (node_of s))) || false)
  same_test k s e = told s.kind refl
    where
      told : (c : Kind) → s.kind ≡ c → is_kept s ≡ (not (is_nameless tree k (Some (node_of s))) || false)
      told kind.Directory q = rw q refl
      told kind.File q = rw (q, h.links k s e) (turned (names_for tree k == 0))
        where
          turned : (b : Bool) → not b ≡ (not b || false)
          turned true = refl
          turned false = refl

  pub settled_nodes : (nodes' : map.FinMap nat_cmp Node) → ((k : ℕ) → map.get tree.nodes k ≡ option_map node_of (map.get stored k)) → ((k : ℕ) → map.get nodes' k ≡ option_map node_of (map.get stored' k)) → nodes' ≡ (settled tree).nodes
  settled_nodes nodes' see see' = map.same_map nat_cmp_total exact_unsigned _ _ (λ k. see' k ∙ ap (option_map node_of) (kept k) ∙ told k (map.get stored k) refl ∙ sym (get_without (λ _. false) tree k))
    where
      told : (k : ℕ) (o : Option StoredNode) → map.get stored k ≡ o → option_map node_of (filtered is_kept (map.get stored k)) ≡ cond (not (is_nameless tree k (map.get tree.nodes k)) || false) (map.get tree.nodes k) None
      told k None e = let g : map.get tree.nodes k ≡ None = see k ∙ ap (option_map node_of) e in rw (e, g) refl
      told k (Some s) e =
          let g : map.get tree.nodes k ≡ Some (node_of s) = see k ∙ ap (option_map node_of) e in
          rw (e, g) (tested (is_kept s) (not (is_nameless tree k (Some (node_of s))) || false) (same_test k s e))
        where
          tested : (a b : Bool) → a ≡ b → option_map node_of (cond a (Some s) None) ≡ cond b (Some (node_of s)) None
          tested true b q = ap (λ (c : Bool). cond c (Some (node_of s)) None) q
          tested false b q = ap (λ (c : Bool). cond c (Some (node_of s)) None) q

-- more numbers that are used
pub counted_first : (stored : Stored) (tree : Tree) (first first' : ℕ) → first ≤ first' → ((k : ℕ) → first ≤ k → k < first' → is_some (map.get stored k) ≡ true) → IsCounted stored tree first → IsCounted stored tree first'
counted_first stored tree first first' more used h = record {
  names = h.names;
  links = h.links;
  parents = h.parents;
  files = h.files;
  no_names = h.no_names;
  no_links = h.no_links;
  used = λ k low high. told k low high (nat_lt k first) refl;
  low = omega (arith, h.low, more);
}
  where
    told : (k : ℕ) → 2 ≤ k → k < first' → (b : Bool) → nat_lt k first ≡ b → is_some (map.get stored k) ≡ true
    told k low high true e = h.used k low (ltb-true k first e)
    told k low high false e = used k (ltb-false k first e) high
