-- What is kept beside the nodes, as names and nodes come and go.
use Rattle.std.proofs.Common.{◌≡◌, ◌≢◌, ℕ, ◌+◌, ◌<◌, ◌≤◌, Bool, true, false, cond, ◌==◌, Option, Some, None, is_some, refl, sym, ap, subst, ◌∙◌, ◌⊎◌, inl, inr, arith, lit≤, nat_lt, if◌then◌else◌}
use Rattle.std.specs.Option.{option_map}
use Rattle.std.specs.Ordering.{nat_cmp, eq_by_cmp}
use Rattle.std.specs.Cmp.{nat_cmp_total}
use Rattle.std.specs.FinMap as map
use Rattle.std.proofs.lemmas.Bool.{eqb-true, ltb-true, ltb-false, false_from_ne_true}
use Rattle.std.proofs.lemmas.Map.Lookups.{exact_unsigned}
use Rattle.sn_limits.specs.declared.kind.Kind.TheVariants as kind
use Rattle.sn_model.specs.declared.link.Link.{Link}
use Rattle.sn_model.specs.Tree.{Tree, link_cmp, names_in, names_for}
use Rattle.sn_model.specs.Changes.{put_link, take_link}
use Rattle.sn_model.proofs.LinkLemmas.{exact_links, links_total}
use Rattle.sn_model.proofs.MapLemmas.{same_or_apart, get_inserted, get_other, get_left, get_was}
use Rattle.sn_model.proofs.CountLemmas.{count_inserted, count_removed, count_none}
use Rattle.sn_model.proofs.NameLemmas.{is_unnamed}
use Rattle.sn_maps.specs.Maps.{updated}
use Rattle.sn_nodes.specs.declared.nodes.Counts.{Counts}
use Rattle.sn_nodes.specs.declared.nodes.StoredNode.{StoredNode}
use Rattle.sn_nodes.specs.Stored.{Recounts, recount, more_at, fewer_at, under}
use Rattle.sn_plain.specs.Stored.{IsCounted}
use Rattle.sn_maps.proofs.MapLemmas.{get-updated_each, get-updated_other}

abbrev pub Stored : Type 0
Stored = map.FinMap nat_cmp StoredNode

pub nothing : {A : Type 0} (x : A) → None ≢ Some x
nothing x e = cc

-- a node after a recount, and the node that it was
pub was_counted : (f : StoredNode → StoredNode) (o : Option StoredNode) (s : StoredNode) → option_map f o ≡ Some s → (x : StoredNode) × (o ≡ Some x) × (f x ≡ s)
was_counted f None s e = cc
was_counted f (Some x) s e = (x, refl, cc)

pub none_counted : (f : StoredNode → StoredNode) (o : Option StoredNode) → option_map f o ≡ None → o ≡ None
none_counted f None e = refl
none_counted f (Some x) e = cc

pub some_counted : (f : StoredNode → StoredNode) (o : Option StoredNode) → is_some o ≡ true → is_some (option_map f o) ≡ true
some_counted f None e = e
some_counted f (Some x) e = refl

-- a recount, where names and counts change alike
module _ (stored stored' : Stored) (tree tree' : Tree) (first : ℕ) (N L : ℕ → ℕ → ℕ) (r : Recounts N L stored stored') (h : IsCounted stored tree first) where
  before : (k : ℕ) (s : StoredNode) → map.get stored' k ≡ Some s → (x : StoredNode) × (map.get stored k ≡ Some x) × (recount (N k) (L k) x ≡ s)
  before k s e = was_counted (recount (N k) (L k)) (map.get stored k) s (sym (r k) ∙ e)

  absent_before : (k : ℕ) → map.get stored' k ≡ None → map.get stored k ≡ None
  absent_before k e = none_counted (recount (N k) (L k)) (map.get stored k) (sym (r k) ∙ e)

  pub recounted : ((k : ℕ) → N k (names_in tree k) ≡ names_in tree' k) → ((k : ℕ) → L k (names_for tree k) ≡ names_for tree' k)
      → ((link : Link) (k : ℕ) (s : StoredNode) → map.get tree'.links link ≡ Some k → map.get stored k ≡ Some s → s.kind ≡ kind.Directory → s.counts.parent ≡ link.directory)
      → ((k : ℕ) → names_in tree k ≡ 0 → (map.get stored k ≡ None) ⊎ ((s : StoredNode) × (map.get stored k ≡ Some s) × (s.kind ≡ kind.File)) → names_in tree' k ≡ 0)
      → ((k : ℕ) → map.get stored k ≡ None → names_for tree k ≡ 0 → names_for tree' k ≡ 0)
      → IsCounted stored' tree' first
  recounted names links parents files none = record {
    names = λ k s e. let b = before k s e in ap (λ (x : StoredNode). x.counts.names) (sym b.2) ∙ ap (N k) (h.names k b.0 b.1) ∙ names k;
    links = λ k s e. let b = before k s e in ap (λ (x : StoredNode). x.counts.links) (sym b.2) ∙ ap (L k) (h.links k b.0 b.1) ∙ links k;
    parents = λ link k s g e d. let b = before k s e in ap (λ (x : StoredNode). x.counts.parent) (sym b.2) ∙ parents link k b.0 g b.1 (ap (λ (x : StoredNode). x.kind) b.2 ∙ d);
    files = λ k s e f. let b = before k s e in let is : b.0.kind ≡ kind.File = ap (λ (x : StoredNode). x.kind) b.2 ∙ f in files k (h.files k b.0 b.1 is) (inr (b.0, b.1, is));
    no_names = λ k e. let a = absent_before k e in files k (h.no_names k a) (inl a);
    no_links = λ k e. let a = absent_before k e in none k a (h.no_links k a);
    used = λ k low high. ap is_some (r k) ∙ some_counted (recount (N k) (L k)) (map.get stored k) (h.used k low high);
    low = h.low;
  }

-- what is added where two numbers differ
no_more : (place k n : ℕ) → place ≢ k → more_at place k n ≡ n
no_more place k n apart = omega (arith, ap {B = ℕ} (λ (b : Bool). cond b 1 0) (false_from_ne_true (place == k) (λ e. apart (eqb-true place k e))))

is_directory_there : (stored : Stored) (k : ℕ) (d : StoredNode) → map.get stored k ≡ Some d → d.kind ≡ kind.Directory → (map.get stored k ≡ None) ⊎ ((s : StoredNode) × (map.get stored k ≡ Some s) × (s.kind ≡ kind.File)) → ⊥
is_directory_there stored k d e is (inl none) = nothing d (sym none ∙ e)
is_directory_there stored k d e is (inr f) = let same : Some f.0 ≡ Some d = sym f.1 ∙ e in let q : f.0 ≡ d = cc in let never : kind.File ≡ kind.Directory = sym f.2 ∙ ap (λ (x : StoredNode). x.kind) q ∙ is in cc

-- one more name
pub counted_link : (stored stored' : Stored) (tree : Tree) (first : ℕ) (link : Link) (number : ℕ) (d s : StoredNode) → Recounts (more_at link.directory) (more_at number) stored stored' → map.get tree.links link ≡ None → map.get stored link.directory ≡ Some d → d.kind ≡ kind.Directory → map.get stored number ≡ Some s → (s.kind ≡ kind.Directory → s.counts.parent ≡ link.directory)
    → IsCounted stored tree first → IsCounted stored' (put_link tree link number) first
counted_link stored stored' tree first link number d s r absent there is node parent h =
    recounted stored stored' tree (put_link tree link number) first (more_at link.directory) (more_at number) r h
    (λ k. sym (count_inserted links_total exact_links (λ e. e.0.directory == k) tree.links link number absent))
    (λ k. sym (count_inserted links_total exact_links (λ e. e.1 == k) tree.links link number absent))
    parents
    (λ k z who. count_inserted links_total exact_links (λ e. e.0.directory == k) tree.links link number absent ∙ no_more link.directory k (names_in tree k) (apart_directory k who) ∙ z)
    (λ k none z. count_inserted links_total exact_links (λ e. e.1 == k) tree.links link number absent ∙ no_more number k (names_for tree k) (λ same. nothing s (sym none ∙ ap (map.get stored) (sym same) ∙ node)) ∙ z)
  where
    apart_directory : (k : ℕ) → (map.get stored k ≡ None) ⊎ ((s : StoredNode) × (map.get stored k ≡ Some s) × (s.kind ≡ kind.File)) → link.directory ≢ k
    apart_directory k who same = is_directory_there stored k d (ap (map.get stored) (sym same) ∙ there) is who

    parents : (l : Link) (k : ℕ) (x : StoredNode) → map.get (map.insert tree.links link number) l ≡ Some k → map.get stored k ≡ Some x → x.kind ≡ kind.Directory → x.counts.parent ≡ l.directory
    parents l k x e f g = told (same_or_apart links_total exact_links l link)
      where
        told : (l ≡ link) ⊎ (l ≢ link) → x.counts.parent ≡ l.directory
        told (inl same) =
            let both : Some k ≡ Some number = sym e ∙ ap (map.get (map.insert tree.links link number)) same ∙ get_inserted links_total tree.links link number in
            let q : k ≡ number = cc in
            let nodes : Some x ≡ Some s = sym f ∙ ap (map.get stored) q ∙ node in
            let t : x ≡ s = cc in
            ap (λ (y : StoredNode). y.counts.parent) t ∙ parent (ap (λ (y : StoredNode). y.kind) (sym t) ∙ g) ∙ ap (λ (y : Link). y.directory) (sym same)
        told (inr apart) = h.parents l k x (sym (get_other links_total exact_links tree.links link number l apart) ∙ e) f g

-- one name less
pub counted_unlink : (stored stored' : Stored) (tree : Tree) (first : ℕ) (link : Link) (number : ℕ) → Recounts (fewer_at link.directory) (fewer_at number) stored stored' → map.get tree.links link ≡ Some number
    → IsCounted stored tree first → IsCounted stored' (take_link tree link) first
counted_unlink stored stored' tree first link number r there h =
    recounted stored stored' tree (take_link tree link) first (fewer_at link.directory) (fewer_at number) r h
    (λ k. omega (arith, count_removed links_total exact_links (λ e. e.0.directory == k) tree.links link number there))
    (λ k. omega (arith, count_removed links_total exact_links (λ e. e.1 == k) tree.links link number there))
    (λ l k x e f g. h.parents l k x (get_was links_total exact_links tree.links link l k e).1 f g)
    (λ k z who. omega (arith, z, count_removed links_total exact_links (λ e. e.0.directory == k) tree.links link number there))
    (λ k none z. omega (arith, z, count_removed links_total exact_links (λ e. e.1 == k) tree.links link number there))

-- a new node, in no link and with no names
pub counted_node : (stored : Stored) (tree : Tree) (first number : ℕ) (s : StoredNode) → names_in tree number ≡ 0 → names_for tree number ≡ 0 → s.counts.names ≡ 0 → s.counts.links ≡ 0 → IsCounted stored tree first → IsCounted (map.insert stored number s) tree first
counted_node stored tree first number s names links no_names no_links h = record {
  names = λ k x e. told k x e (x.counts.names ≡ names_in tree k) (λ n same q. ap (λ (y : StoredNode). y.counts.names) q ∙ no_names ∙ sym names ∙ ap (names_in tree) (sym same)) (λ f. h.names k x f);
  links = λ k x e. told k x e (x.counts.links ≡ names_for tree k) (λ n same q. ap (λ (y : StoredNode). y.counts.links) q ∙ no_links ∙ sym links ∙ ap (names_for tree) (sym same)) (λ f. h.links k x f);
  parents = λ l k x g e d. told k x e (x.counts.parent ≡ l.directory) (λ n same q. absurd (is_unnamed tree number links l (g ∙ ap (λ (m : ℕ). Some m) same))) (λ f. h.parents l k x g f d);
  files = λ k x e f. told k x e (names_in tree k ≡ 0) (λ n same q. ap (names_in tree) same ∙ names) (λ g. h.files k x g f);
  no_names = λ k e. was_none k e (names_in tree k ≡ 0) (λ f. h.no_names k f);
  no_links = λ k e. was_none k e (names_for tree k ≡ 0) (λ f. h.no_links k f);
  used = λ k low high. stays k (h.used k low high);
  low = h.low;
}
  where
    told : (k : ℕ) (x : StoredNode) → map.get (map.insert stored number s) k ≡ Some x → (P : Type 0) → (Unit {0} → k ≡ number → x ≡ s → P) → (map.get stored k ≡ Some x → P) → P
    told k x e P a b = split (same_or_apart nat_cmp_total exact_unsigned k number)
      where
        split : (k ≡ number) ⊎ (k ≢ number) → P
        split (inl same) = let both : Some x ≡ Some s = sym e ∙ ap (map.get (map.insert stored number s)) same ∙ get_inserted nat_cmp_total stored number s in let q : x ≡ s = cc in a tt same q
        split (inr apart) = b (sym (get_other nat_cmp_total exact_unsigned stored number s k apart) ∙ e)

    was_none : (k : ℕ) → map.get (map.insert stored number s) k ≡ None → (P : Type 0) → (map.get stored k ≡ None → P) → P
    was_none k e P b = split (same_or_apart nat_cmp_total exact_unsigned k number)
      where
        split : (k ≡ number) ⊎ (k ≢ number) → P
        split (inl same) = absurd (nothing s (sym e ∙ ap (map.get (map.insert stored number s)) same ∙ get_inserted nat_cmp_total stored number s))
        split (inr apart) = b (sym (get_other nat_cmp_total exact_unsigned stored number s k apart) ∙ e)

    stays : (k : ℕ) → is_some (map.get stored k) ≡ true → is_some (map.get (map.insert stored number s) k) ≡ true
    stays k e = split (same_or_apart nat_cmp_total exact_unsigned k number)
      where
        split : (k ≡ number) ⊎ (k ≢ number) → is_some (map.get (map.insert stored number s) k) ≡ true
        split (inl same) = ap is_some (ap (map.get (map.insert stored number s)) same ∙ get_inserted nat_cmp_total stored number s)
        split (inr apart) = ap is_some (get_other nat_cmp_total exact_unsigned stored number s k apart) ∙ e

-- a node without names and links goes
pub counted_gone : (stored : Stored) (tree : Tree) (first number first' : ℕ) → names_in tree number ≡ 0 → names_for tree number ≡ 0 → first' ≤ first → first' ≤ number → 2 ≤ first' → IsCounted stored tree first → IsCounted (map.remove stored number) tree first'
counted_gone stored tree first number first' names links less below low h = record {
  names = λ k x e. h.names k x (was k x e);
  links = λ k x e. h.links k x (was k x e);
  parents = λ l k x g e d. h.parents l k x g (was k x e) d;
  files = λ k x e f. h.files k x (was k x e) f;
  no_names = λ k e. split k (names_in tree k ≡ 0) (λ same. ap (names_in tree) same ∙ names) (λ apart. h.no_names k (sym (get_left nat_cmp_total exact_unsigned stored number k apart) ∙ e));
  no_links = λ k e. split k (names_for tree k ≡ 0) (λ same. ap (names_for tree) same ∙ links) (λ apart. h.no_links k (sym (get_left nat_cmp_total exact_unsigned stored number k apart) ∙ e));
  used = λ k l high. ap is_some (get_left nat_cmp_total exact_unsigned stored number k (λ same. absurd (omega (arith, same, high, below)))) ∙ h.used k l (omega (arith, high, less));
  low = low;
}
  where
    was : (k : ℕ) (x : StoredNode) → map.get (map.remove stored number) k ≡ Some x → map.get stored k ≡ Some x
    was k x e = (get_was nat_cmp_total exact_unsigned stored number k x e).1

    split : (k : ℕ) (P : Type 0) → (k ≡ number → P) → (k ≢ number → P) → P
    split k P a b = told (same_or_apart nat_cmp_total exact_unsigned k number)
      where
        told : (k ≡ number) ⊎ (k ≢ number) → P
        told (inl same) = a same
        told (inr apart) = b apart

-- nothing at all
pub counted_none : (tree : Tree) → tree.links ≡ map.empty → IsCounted map.empty tree 2
counted_none tree links = record {
  names = λ k s e. absurd (nothing s (sym (map.get-empty nat_cmp k) ∙ e));
  links = λ k s e. absurd (nothing s (sym (map.get-empty nat_cmp k) ∙ e));
  parents = λ l k s g e d. absurd (nothing s (sym (map.get-empty nat_cmp k) ∙ e));
  files = λ k s e f. absurd (nothing s (sym (map.get-empty nat_cmp k) ∙ e));
  no_names = λ k e. count_none links_total exact_links (λ e. e.0.directory == k) tree.links (λ l n e. absurd (nothing n (sym (none l) ∙ e)));
  no_links = λ k e. count_none links_total exact_links (λ e. e.1 == k) tree.links (λ l n e. absurd (nothing n (sym (none l) ∙ e)));
  used = λ k low high. absurd (omega (arith, low, high));
  low = lit≤ tt;
}
  where
    none : (l : Link) → map.get tree.links l ≡ None
    none l = ap (λ (m : map.FinMap link_cmp ℕ). map.get m l) links ∙ map.get-empty link_cmp l

-- the first number that isn't known to be used gets a node
abbrev pub after_use : ℕ → ℕ → ℕ
after_use first number = if first == number then first + 1 else first

pub counted_use : (stored : Stored) (tree : Tree) (first number : ℕ) → is_some (map.get stored number) ≡ true → IsCounted stored tree first → IsCounted stored tree (after_use first number)
counted_use stored tree first number there h = told (first == number) refl
  where
    used : first ≡ number → (k : ℕ) → 2 ≤ k → k < first + 1 → is_some (map.get stored k) ≡ true
    used same k low high = split (same_or_apart nat_cmp_total exact_unsigned k first)
      where
        split : (k ≡ first) ⊎ (k ≢ first) → is_some (map.get stored k) ≡ true
        split (inl q) = ap (λ (n : ℕ). is_some (map.get stored n)) (q ∙ same) ∙ there
        split (inr q) = h.used k low (omega (arith, high, q))

    told : (b : Bool) → (first == number) ≡ b → IsCounted stored tree (cond b (first + 1) first)
    told false e = h
    told true e = record {
      names = h.names;
      links = h.links;
      parents = h.parents;
      files = h.files;
      no_names = h.no_names;
      no_links = h.no_links;
      used = used (eqb-true first number e);
      low = omega (arith, h.low);
    }

-- the nodes that the model has don't matter
pub counted_tree : (stored : Stored) (tree tree' : Tree) (first : ℕ) → tree'.links ≡ tree.links → IsCounted stored tree first → IsCounted stored tree' first
counted_tree stored tree tree' first e h = subst (λ (ls : map.FinMap link_cmp ℕ). IsCounted stored (record tree' { links = ls }) first) (sym e) (record { names = h.names; links = h.links; parents = h.parents; files = h.files; no_names = h.no_names; no_links = h.no_links; used = h.used; low = h.low })

-- a node that keeps its kind and its counts
pub counted_alike : (stored : Stored) (tree : Tree) (first number : ℕ) (f : StoredNode → StoredNode) → ((s : StoredNode) → ((f s).kind ≡ s.kind) × ((f s).counts ≡ s.counts)) → IsCounted stored tree first → IsCounted (updated stored number f) tree first
counted_alike stored tree first number f same h = record {
  names = λ k s e. let b = before k s e in ap (λ (c : Counts). c.names) b.3 ∙ h.names k b.0 b.1;
  links = λ k s e. let b = before k s e in ap (λ (c : Counts). c.links) b.3 ∙ h.links k b.0 b.1;
  parents = λ l k s g e d. let b = before k s e in ap (λ (c : Counts). c.parent) b.3 ∙ h.parents l k b.0 g b.1 (sym b.2 ∙ d);
  files = λ k s e g. let b = before k s e in h.files k b.0 b.1 (sym b.2 ∙ g);
  no_names = λ k e. h.no_names k (none k e);
  no_links = λ k e. h.no_links k (none k e);
  used = λ k low high. stays k (h.used k low high);
  low = h.low;
}
  where
    is_change : (k : ℕ) → map.get (updated stored number f) k ≡ option_map (λ s. cond (eq_by_cmp nat_cmp k number) (f s) s) (map.get stored k)
    is_change k = get-updated_each nat_cmp_total exact_unsigned stored number f k

    kept : (b : Bool) (x : StoredNode) → ((cond b (f x) x).kind ≡ x.kind) × ((cond b (f x) x).counts ≡ x.counts)
    kept true x = same x
    kept false x = (refl, refl)

    before : (k : ℕ) (s : StoredNode) → map.get (updated stored number f) k ≡ Some s → (x : StoredNode) × (map.get stored k ≡ Some x) × (s.kind ≡ x.kind) × (s.counts ≡ x.counts)
    before k s e =
        let b = was_counted (λ x. cond (eq_by_cmp nat_cmp k number) (f x) x) (map.get stored k) s (sym (is_change k) ∙ e) in
        let q = kept (eq_by_cmp nat_cmp k number) b.0 in
        (b.0, b.1, ap (λ (x : StoredNode). x.kind) (sym b.2) ∙ q.0, ap (λ (x : StoredNode). x.counts) (sym b.2) ∙ q.1)

    none : (k : ℕ) → map.get (updated stored number f) k ≡ None → map.get stored k ≡ None
    none k e = none_counted (λ x. cond (eq_by_cmp nat_cmp k number) (f x) x) (map.get stored k) (sym (is_change k) ∙ e)

    stays : (k : ℕ) → is_some (map.get stored k) ≡ true → is_some (map.get (updated stored number f) k) ≡ true
    stays k e = ap is_some (is_change k) ∙ some_counted (λ x. cond (eq_by_cmp nat_cmp k number) (f x) x) (map.get stored k) e

-- a node in another directory, where no name leads to it if it is one
pub counted_under : (stored : Stored) (tree : Tree) (first number directory : ℕ) → ((s : StoredNode) → map.get stored number ≡ Some s → s.kind ≡ kind.Directory → names_for tree number ≡ 0) → IsCounted stored tree first → IsCounted (updated stored number (under directory)) tree first
counted_under stored tree first number directory alone h = record {
  names = λ k s e. let b = before k s e in b.3 ∙ h.names k b.0 b.1;
  links = λ k s e. let b = before k s e in b.4 ∙ h.links k b.0 b.1;
  parents = λ l k s g e d. parents l k s g e d (same_or_apart nat_cmp_total exact_unsigned k number);
  files = λ k s e g. let b = before k s e in h.files k b.0 b.1 (sym b.2 ∙ g);
  no_names = λ k e. h.no_names k (none k e);
  no_links = λ k e. h.no_links k (none k e);
  used = λ k low high. ap is_some (is_change k) ∙ some_counted (at k) (map.get stored k) (h.used k low high);
  low = h.low;
}
  where
    at : ℕ → StoredNode → StoredNode
    at k x = cond (eq_by_cmp nat_cmp k number) (under directory x) x

    is_change : (k : ℕ) → map.get (updated stored number (under directory)) k ≡ option_map (at k) (map.get stored k)
    is_change k = get-updated_each nat_cmp_total exact_unsigned stored number (under directory) k

    kept : (b : Bool) (x : StoredNode) → ((cond b (under directory x) x).kind ≡ x.kind) × ((cond b (under directory x) x).counts.names ≡ x.counts.names) × ((cond b (under directory x) x).counts.links ≡ x.counts.links)
    kept true x = (refl, refl, refl)
    kept false x = (refl, refl, refl)

    before : (k : ℕ) (s : StoredNode) → map.get (updated stored number (under directory)) k ≡ Some s → (x : StoredNode) × (map.get stored k ≡ Some x) × (s.kind ≡ x.kind) × (s.counts.names ≡ x.counts.names) × (s.counts.links ≡ x.counts.links)
    before k s e =
        let b = was_counted (at k) (map.get stored k) s (sym (is_change k) ∙ e) in
        let q = kept (eq_by_cmp nat_cmp k number) b.0 in
        (b.0, b.1, ap (λ (x : StoredNode). x.kind) (sym b.2) ∙ q.0, ap (λ (x : StoredNode). x.counts.names) (sym b.2) ∙ q.1, ap (λ (x : StoredNode). x.counts.links) (sym b.2) ∙ q.2)

    none : (k : ℕ) → map.get (updated stored number (under directory)) k ≡ None → map.get stored k ≡ None
    none k e = none_counted (at k) (map.get stored k) (sym (is_change k) ∙ e)

    parents : (l : Link) (k : ℕ) (s : StoredNode) → map.get tree.links l ≡ Some k → map.get (updated stored number (under directory)) k ≡ Some s → s.kind ≡ kind.Directory → (k ≡ number) ⊎ (k ≢ number) → s.counts.parent ≡ l.directory
    parents l k s g e d (inl same) =
        let b = before k s e in
        absurd (is_unnamed tree number (alone b.0 (ap (map.get stored) (sym same) ∙ b.1) (sym b.2 ∙ d)) l (g ∙ ap (λ (n : ℕ). Some n) same))
    parents l k s g e d (inr apart) = h.parents l k s g (sym (get-updated_other nat_cmp_total exact_unsigned stored number (under directory) k apart) ∙ e) d

-- the first number that may be unused, once one is
abbrev pub after_loss : ℕ → ℕ → ℕ
after_loss first number = if nat_lt number first then number else first

pub counted_loss : (stored : Stored) (tree : Tree) (first number : ℕ) → 2 ≤ number → names_in tree number ≡ 0 → names_for tree number ≡ 0 → IsCounted stored tree first → IsCounted (map.remove stored number) tree (after_loss first number)
counted_loss stored tree first number low names links h = told (nat_lt number first) refl
  where
    told : (b : Bool) → nat_lt number first ≡ b → IsCounted (map.remove stored number) tree (cond b number first)
    told true e = counted_gone stored tree first number number names links (omega (arith, ltb-true number first e)) (omega arith) low h
    told false e = counted_gone stored tree first number first names links (omega arith) (omega (arith, ltb-false number first e)) h.low h
