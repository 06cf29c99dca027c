-- Each part of a change keeps the tree of directories.
use Rattle.std.proofs.Common.{◌≡◌, ◌≢◌, ℕ, true, Option, Some, None, is_some, refl, sym, ap, subst, ◌∙◌, ◌⊎◌, inl, inr}
use Rattle.std.specs.Prelude.{IsSomeAnd}
use Rattle.std.specs.FinMap as map
use Rattle.std.specs.Cmp.{nat_cmp_total}
use Rattle.std.proofs.lemmas.Bool.{true≢false}
use Rattle.std.proofs.lemmas.Map.Lookups.{exact_unsigned}
use Rattle.sn_limits.specs.declared.kind.Kind.{Kind}
use Rattle.sn_limits.specs.declared.kind.Kind.TheVariants.{File, Directory}
use Rattle.sn_model.specs.declared.link.Link.{Link}
use Rattle.sn_model.specs.Tree.{Node, Tree, link_to, names_in}
use Rattle.sn_model.specs.Changes.{put_node, put_link, take_link, take_node}
use Rattle.sn_model.specs.Covers.{IsUnnamed}
use Rattle.sn_model.specs.NameTree.{HasKind, IsHierarchy, Reaches, root, below}
use Rattle.sn_model.specs.ChangeLaws.{IsBelow, here, under}
use Rattle.sn_model.proofs.LinkLemmas.{exact_links, links_total}
use Rattle.sn_model.proofs.MapLemmas.{same_or_apart, get_inserted, get_other, get_left, get_was}
use Rattle.sn_model.proofs.ChainLemmas.{some_same, some_none}
use Rattle.sn_model.proofs.NameLemmas.{not_in}

pub kind_at : (a b : Option Node) (k : Kind) → a ≡ b → IsSomeAnd b (λ x. x.kind ≡ k) → IsSomeAnd a (λ x. x.kind ≡ k)
kind_at a b k e h = subst (λ (o : Option Node). IsSomeAnd o (λ x. x.kind ≡ k)) (sym e) h

pub some_node : (o : Option Node) (k : Kind) → IsSomeAnd o (λ x. x.kind ≡ k) → (x : Node) × (o ≡ Some x) × (x.kind ≡ k)
some_node None k h = absurd h
some_node (Some x) k h = (x, refl, h)

pub is_kind : (tree : Tree) (n : ℕ) (x : Node) (k : Kind) → map.get tree.nodes n ≡ Some x → x.kind ≡ k → HasKind tree n k
is_kind tree n x k e h = kind_at (map.get tree.nodes n) (Some x) k e h

no_file : (a : Kind) → a ≡ File → a ≡ Directory → ⊥
no_file a e f = let never : File ≡ Directory = sym e ∙ f in cc

pub not_directory : (tree : Tree) (n : ℕ) (x : Node) → map.get tree.nodes n ≡ Some x → x.kind ≡ File → HasKind tree n Directory → ⊥
not_directory tree n x e k h = let s = some_node _ Directory h in let both : Some x ≡ Some s.0 = sym e ∙ s.1 in no_file x.kind k (ap (λ (y : Node). y.kind) (some_same _ _ both) ∙ s.2)

pub is_there : (o : Option Node) (k : Kind) → IsSomeAnd o (λ x. x.kind ≡ k) → o ≢ None
is_there None k h = absurd h
is_there (Some x) k h = λ e. cc

some_there : (o : Option Node) → is_some o ≡ true → o ≢ None
some_there None e f = true≢false (sym e)
some_there (Some x) e f = cc

-- a node is put where one of its kind was
module _ (tree : Tree) (n : ℕ) (x y : Node) (h : IsHierarchy tree) (there : map.get tree.nodes n ≡ Some x) (same : y.kind ≡ x.kind) where
  abbrev put : Tree
  put = put_node tree n y

  put_kind : (m : ℕ) (k : Kind) → HasKind tree m k → HasKind put m k
  put_kind m k e = told (same_or_apart nat_cmp_total exact_unsigned m n)
    where
      told : (m ≡ n) ⊎ (m ≢ n) → HasKind put m k
      told (inl q) =
          let s = some_node _ k e in
          let both : Some s.0 ≡ Some x = sym s.1 ∙ ap (map.get tree.nodes) q ∙ there in
          kind_at _ (Some y) k (ap (map.get put.nodes) q ∙ get_inserted nat_cmp_total tree.nodes n y) (same ∙ ap (λ (z : Node). z.kind) (sym (some_same _ _ both)) ∙ s.2)
      told (inr q) = kind_at _ _ k (get_other nat_cmp_total exact_unsigned tree.nodes n y m q) e

  put_was : (m : ℕ) (k : Kind) → HasKind put m k → HasKind tree m k
  put_was m k e = told (same_or_apart nat_cmp_total exact_unsigned m n)
    where
      told : (m ≡ n) ⊎ (m ≢ n) → HasKind tree m k
      told (inl q) =
          let s = some_node _ k e in
          let both : Some s.0 ≡ Some y = sym s.1 ∙ ap (map.get put.nodes) q ∙ get_inserted nat_cmp_total tree.nodes n y in
          kind_at _ (Some x) k (ap (map.get tree.nodes) q ∙ there) (sym same ∙ ap (λ (z : Node). z.kind) (sym (some_same _ _ both)) ∙ s.2)
      told (inr q) = kind_at _ _ k (sym (get_other nat_cmp_total exact_unsigned tree.nodes n y m q)) e

  put_there : (m : ℕ) → is_some (map.get tree.nodes m) ≡ true → is_some (map.get put.nodes m) ≡ true
  put_there m e = told (same_or_apart nat_cmp_total exact_unsigned m n)
    where
      told : (m ≡ n) ⊎ (m ≢ n) → is_some (map.get put.nodes m) ≡ true
      told (inl q) = ap is_some (ap (map.get put.nodes) q ∙ get_inserted nat_cmp_total tree.nodes n y)
      told (inr q) = ap is_some (get_other nat_cmp_total exact_unsigned tree.nodes n y m q) ∙ e

  put_reach : (m : ℕ) → Reaches tree m → Reaches put m
  put_reach m root = root
  put_reach m (below d name m' r e) = below d name _ (put_reach d r) e

  pub hierarchy_put : IsHierarchy (put_node tree n y)
  hierarchy_put = record {
    root = put_kind 2 Directory h.root;
    unnamed = h.unnamed;
    held = λ l m e. put_kind l.directory Directory (h.held l m e);
    leads = λ l m e. put_there m (h.leads l m e);
    once = λ a b m k e f. h.once a b m (put_was m Directory k) e f;
    reached = λ m k. put_reach m (h.reached m (put_was m Directory k));
  }

-- a number that isn't a directory's, in no link, goes
module _ (tree : Tree) (n : ℕ) (h : IsHierarchy tree) (file : HasKind tree n Directory → ⊥) (lone : IsUnnamed tree n) where
  abbrev gone : Tree
  gone = take_node tree n

  gone_kind : (m : ℕ) → HasKind tree m Directory → HasKind gone m Directory
  gone_kind m e = kind_at _ _ Directory (get_left nat_cmp_total exact_unsigned tree.nodes n m (λ q. file (subst (λ (j : ℕ). HasKind tree j Directory) q e))) e

  gone_was : (m : ℕ) → HasKind gone m Directory → HasKind tree m Directory
  gone_was m e = let s = some_node _ Directory e in kind_at _ (Some s.0) Directory (get_was nat_cmp_total exact_unsigned tree.nodes n m s.0 s.1).1 s.2

  gone_reach : (m : ℕ) → Reaches tree m → Reaches gone m
  gone_reach m root = root
  gone_reach m (below d name m' r e) = below d name _ (gone_reach d r) e

  pub hierarchy_gone : IsHierarchy (take_node tree n)
  hierarchy_gone = record {
    root = gone_kind 2 h.root;
    unnamed = h.unnamed;
    held = λ l m e. gone_kind l.directory (h.held l m e);
    leads = λ l m e. ap is_some (get_left nat_cmp_total exact_unsigned tree.nodes n m (λ q. lone l (e ∙ ap (λ (j : ℕ). Some j) q))) ∙ h.leads l m e;
    once = λ a b m k e f. h.once a b m (gone_was m k) e f;
    reached = λ m k. gone_reach m (h.reached m (gone_was m k));
  }

-- a file gets one more name
module _ (tree : Tree) (link : Link) (n : ℕ) (x : Node) (h : IsHierarchy tree) (absent : map.get tree.links link ≡ None) (parent : HasKind tree link.directory Directory) (there : map.get tree.nodes n ≡ Some x) (file : x.kind ≡ File) where
  abbrev more : Tree
  more = put_link tree link n

  more_named : (l : Link) (m : ℕ) → map.get more.links l ≡ Some m → ((l ≡ link) × (m ≡ n)) ⊎ (map.get tree.links l ≡ Some m)
  more_named l m e = told (same_or_apart links_total exact_links l link)
    where
      told : (l ≡ link) ⊎ (l ≢ link) → ((l ≡ link) × (m ≡ n)) ⊎ (map.get tree.links l ≡ Some m)
      told (inl q) = let both : Some m ≡ Some n = sym e ∙ ap (map.get more.links) q ∙ get_inserted links_total tree.links link n in inl (q, some_same _ _ both)
      told (inr q) = inr (sym (get_other links_total exact_links tree.links link n l q) ∙ e)

  is_old : (l : Link) (m : ℕ) → HasKind tree m Directory → map.get more.links l ≡ Some m → map.get tree.links l ≡ Some m
  is_old l m k e = told (more_named l m e)
    where
      told : ((l ≡ link) × (m ≡ n)) ⊎ (map.get tree.links l ≡ Some m) → map.get tree.links l ≡ Some m
      told (inl q) = absurd (not_directory tree n x there file (subst (λ (j : ℕ). HasKind tree j Directory) q.1 k))
      told (inr q) = q

  more_reach : (m : ℕ) → Reaches tree m → Reaches more m
  more_reach m root = root
  more_reach m (below d name m' r e) = below d name _ (more_reach d r) (get_other links_total exact_links tree.links link n (link_to d name) (λ q. some_none _ _ e (ap (map.get tree.links) q ∙ absent)) ∙ e)

  more_held : (l : Link) (m : ℕ) → ((l ≡ link) × (m ≡ n)) ⊎ (map.get tree.links l ≡ Some m) → HasKind tree l.directory Directory × (is_some (map.get tree.nodes m) ≡ true)
  more_held l m (inl q) = (subst (λ (j : Link). HasKind tree j.directory Directory) (sym q.0) parent, ap is_some (ap (map.get tree.nodes) q.1 ∙ there))
  more_held l m (inr q) = (h.held l m q, h.leads l m q)

  pub hierarchy_more : IsHierarchy (put_link tree link n)
  hierarchy_more = record {
    root = h.root;
    unnamed = λ l e. h.unnamed l (is_old l 2 h.root e);
    held = λ l m e. (more_held l m (more_named l m e)).0;
    leads = λ l m e. (more_held l m (more_named l m e)).1;
    once = λ a b m k e f. h.once a b m k (is_old a m k e) (is_old b m k f);
    reached = λ m k. more_reach m (h.reached m k);
  }

-- a file loses a name
module _ (tree : Tree) (link : Link) (n : ℕ) (x : Node) (h : IsHierarchy tree) (named : map.get tree.links link ≡ Some n) (there : map.get tree.nodes n ≡ Some x) (file : x.kind ≡ File) where
  fewer_was : (l : Link) (m : ℕ) → map.get (take_link tree link).links l ≡ Some m → map.get tree.links l ≡ Some m
  fewer_was l m e = (get_was links_total exact_links tree.links link l m e).1

  fewer_reach : (m : ℕ) → Reaches tree m → HasKind tree m Directory → Reaches (take_link tree link) m
  fewer_reach m root k = root
  fewer_reach m (below d name m' r e) k = below d name _ (fewer_reach d r (h.held (link_to d name) m e)) (get_left links_total exact_links tree.links link (link_to d name) apart ∙ e)
    where
      apart : link_to d name ≢ link
      apart q =
          let both : Some m ≡ Some n = sym e ∙ ap (map.get tree.links) q ∙ named in
          not_directory tree n x there file (subst (λ (j : ℕ). HasKind tree j Directory) (some_same _ _ both) k)

  pub hierarchy_fewer : IsHierarchy (take_link tree link)
  hierarchy_fewer = record {
    root = h.root;
    unnamed = λ l e. h.unnamed l (fewer_was l 2 e);
    held = λ l m e. h.held l m (fewer_was l m e);
    leads = λ l m e. h.leads l m (fewer_was l m e);
    once = λ a b m k e f. h.once a b m k (fewer_was a m e) (fewer_was b m f);
    reached = λ m k. fewer_reach m (h.reached m k) k;
  }

-- an empty directory goes
module _ (tree : Tree) (link : Link) (n : ℕ) (h : IsHierarchy tree) (named : map.get tree.links link ≡ Some n) (kind : HasKind tree n Directory) (empty : names_in tree n ≡ 0) where
  abbrev rest : Tree
  rest = take_node (take_link tree link) n

  was_link : (l : Link) (m : ℕ) → map.get rest.links l ≡ Some m → (l ≢ link) × (map.get tree.links l ≡ Some m)
  was_link l m e = get_was links_total exact_links tree.links link l m e

  stays_kind : (m : ℕ) → m ≢ n → HasKind tree m Directory → HasKind rest m Directory
  stays_kind m q e = kind_at _ _ Directory (get_left nat_cmp_total exact_unsigned tree.nodes n m q) e

  was_kind : (m : ℕ) → HasKind rest m Directory → (m ≢ n) × HasKind tree m Directory
  was_kind m e = let s = some_node _ Directory e in let w = get_was nat_cmp_total exact_unsigned tree.nodes n m s.0 s.1 in (w.0, kind_at _ (Some s.0) Directory w.1 s.2)

  rest_reach : (m : ℕ) → Reaches tree m → m ≢ n → Reaches rest m
  rest_reach m root q = root
  rest_reach m (below d name m' r e) q = below d name _ (rest_reach d r (not_in tree n empty (link_to d name) m e)) (get_left links_total exact_links tree.links link (link_to d name) apart ∙ e)
    where
      apart : link_to d name ≢ link
      apart p = let both : Some m ≡ Some n = sym e ∙ ap (map.get tree.links) p ∙ named in q (some_same _ _ both)

  leads_rest : (l : Link) (m : ℕ) → map.get rest.links l ≡ Some m → is_some (map.get rest.nodes m) ≡ true
  leads_rest l m e =
      let w = was_link l m e in
      ap is_some (get_left nat_cmp_total exact_unsigned tree.nodes n m (λ q. w.0 (h.once l link n kind (w.1 ∙ ap (λ (j : ℕ). Some j) q) named))) ∙ h.leads l m w.1

  pub hierarchy_rest : IsHierarchy (take_node (take_link tree link) n)
  hierarchy_rest = record {
    root = stays_kind 2 (λ q. h.unnamed link (named ∙ ap (λ (j : ℕ). Some j) (sym q))) h.root;
    unnamed = λ l e. h.unnamed l (was_link l 2 e).1;
    held = λ l m e. stays_kind l.directory (not_in tree n empty l m (was_link l m e).1) (h.held l m (was_link l m e).1);
    leads = leads_rest;
    once = λ a b m k e f. h.once a b m (was_kind m k).1 (was_link a m e).1 (was_link b m f).1;
    reached = λ m k. rest_reach m (h.reached m (was_kind m k).1) (was_kind m k).0;
  }

-- a name is moved to a directory that isn't below what it names
module _ (tree : Tree) (old new : Link) (n : ℕ) (h : IsHierarchy tree) (named : map.get tree.links old ≡ Some n) (absent : map.get tree.links new ≡ None) (parent : HasKind tree new.directory Directory) (apart : IsBelow tree n new.directory → ⊥) where
  abbrev moved : Tree
  moved = put_link (take_link tree old) new n

  at_new : map.get moved.links new ≡ Some n
  at_new = get_inserted links_total (map.remove tree.links old) new n

  stays_named : (l : Link) (m : ℕ) → l ≢ old → map.get tree.links l ≡ Some m → map.get moved.links l ≡ Some m
  stays_named l m q e =
      get_other links_total exact_links (map.remove tree.links old) new n l (λ p. some_none _ _ e (ap (map.get tree.links) p ∙ absent))
      ∙ get_left links_total exact_links tree.links old l q ∙ e

  moved_named : (l : Link) (m : ℕ) → map.get moved.links l ≡ Some m → ((l ≡ new) × (m ≡ n)) ⊎ ((l ≢ old) × (map.get tree.links l ≡ Some m))
  moved_named l m e = told (same_or_apart links_total exact_links l new)
    where
      told : (l ≡ new) ⊎ (l ≢ new) → ((l ≡ new) × (m ≡ n)) ⊎ ((l ≢ old) × (map.get tree.links l ≡ Some m))
      told (inl q) = let both : Some m ≡ Some n = sym e ∙ ap (map.get moved.links) q ∙ at_new in inl (q, some_same _ _ both)
      told (inr q) = inr (get_was links_total exact_links tree.links old l m (sym (get_other links_total exact_links (map.remove tree.links old) new n l q) ∙ e))

  -- what isn't below the moved name is reached as before
  reach_beside : (m : ℕ) → Reaches tree m → (IsBelow tree n m → ⊥) → Reaches moved m
  reach_beside m root q = root
  reach_beside m (below d name m' r e) q = below d name _ (reach_beside d r (λ b. q (under (link_to d name) _ b e))) (stays_named (link_to d name) m away e)
    where
      away : link_to d name ≢ old
      away p = let both : Some m ≡ Some n = sym e ∙ ap (map.get tree.links) p ∙ named in q (subst (λ (j : ℕ). IsBelow tree n j) (sym (some_same _ _ both)) here)

  moved_reached : Reaches moved n
  moved_reached = below new.directory new.name n (reach_beside new.directory (h.reached new.directory parent) apart) at_new

  -- and the rest with it
  reach_moved : (m : ℕ) → Reaches tree m → Reaches moved m
  reach_moved m root = root
  reach_moved m (below d name m' r e) = told (reach_moved d r) (same_or_apart links_total exact_links (link_to d name) old)
    where
      told : Reaches moved d → (link_to d name ≡ old) ⊎ (link_to d name ≢ old) → Reaches moved m
      told s (inl p) = let both : Some m ≡ Some n = sym e ∙ ap (map.get tree.links) p ∙ named in subst (λ (j : ℕ). Reaches moved j) (sym (some_same _ _ both)) moved_reached
      told s (inr p) = below d name _ s (stays_named (link_to d name) m p e)

  moved_held : (l : Link) (m : ℕ) → ((l ≡ new) × (m ≡ n)) ⊎ ((l ≢ old) × (map.get tree.links l ≡ Some m)) → HasKind tree l.directory Directory × (is_some (map.get tree.nodes m) ≡ true)
  moved_held l m (inl q) = (subst (λ (j : Link). HasKind tree j.directory Directory) (sym q.0) parent, ap is_some (ap (map.get tree.nodes) q.1) ∙ h.leads old n named)
  moved_held l m (inr q) = (h.held l m q.1, h.leads l m q.1)

  unnamed_moved : (l : Link) → ((l ≡ new) × (2 ≡ n)) ⊎ ((l ≢ old) × (map.get tree.links l ≡ Some 2)) → ⊥
  unnamed_moved l (inl q) = h.unnamed old (named ∙ ap (λ (j : ℕ). Some j) (sym q.1))
  unnamed_moved l (inr q) = h.unnamed l q.1

  once_moved : (a b : Link) (m : ℕ) → HasKind tree m Directory → ((a ≡ new) × (m ≡ n)) ⊎ ((a ≢ old) × (map.get tree.links a ≡ Some m)) → ((b ≡ new) × (m ≡ n)) ⊎ ((b ≢ old) × (map.get tree.links b ≡ Some m)) → a ≡ b
  once_moved a b m k (inl q) (inl p) = q.0 ∙ sym p.0
  once_moved a b m k (inl q) (inr p) = absurd (p.0 (h.once b old m k p.1 (named ∙ ap (λ (j : ℕ). Some j) (sym q.1))))
  once_moved a b m k (inr q) (inl p) = absurd (q.0 (h.once a old m k q.1 (named ∙ ap (λ (j : ℕ). Some j) (sym p.1))))
  once_moved a b m k (inr q) (inr p) = h.once a b m k q.1 p.1

  pub hierarchy_moved : IsHierarchy (put_link (take_link tree old) new n)
  hierarchy_moved = record {
    root = h.root;
    unnamed = λ l e. unnamed_moved l (moved_named l 2 e);
    held = λ l m e. (moved_held l m (moved_named l m e)).0;
    leads = λ l m e. (moved_held l m (moved_named l m e)).1;
    once = λ a b m k e f. once_moved a b m k (moved_named a m e) (moved_named b m f);
    reached = λ m k. reach_moved m (h.reached m k);
  }
