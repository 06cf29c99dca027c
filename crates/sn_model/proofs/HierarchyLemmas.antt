-- A new directory keeps the tree of directories.
use Rattle.std.proofs.Common.{◌≡◌, ◌≢◌, ℕ, ◌-◌, true, false, Option, Some, None, refl, sym, ap, subst, ◌∙◌, ◌⊎◌, inl, inr, ◌≤◌, arith}
use Rattle.std.specs.Prelude.{IsSomeAnd}
use Rattle.std.specs.Option.{is_some}
use Rattle.std.specs.Cmp.{nat_cmp_total}
use Rattle.std.proofs.lemmas.Bool.{true≢false}
use Rattle.std.specs.FinMap as map
use Rattle.std.proofs.lemmas.Map.Lookups.{exact_unsigned}
use Rattle.sn_limits.specs.declared.kind.Kind.{Kind}
use Rattle.sn_limits.specs.declared.kind.Kind.TheVariants.{Directory}
use Rattle.sn_model.specs.declared.link.Link.{Link}
use Rattle.sn_model.specs.Tree.{Tree, Node, link_to, least_unused, with_node}
use Rattle.sn_limits.specs.declared.limits.Limits.{Limits}
use Rattle.sn_model.specs.Steps.{IsNumber}
use Rattle.sn_model.specs.NameTree.{Reaches, root, below, HasKind, IsHierarchy}
use Rattle.sn_model.proofs.LinkLemmas.{exact_links, links_total}
use Rattle.sn_model.proofs.MapLemmas.{same_or_apart, get_inserted, get_other}
use Rattle.sn_model.proofs.SearchLemmas.{is_found}

-- what is there is found
no_node : (o : Option Node) → is_some o ≡ false → o ≡ None
no_node None e = refl
no_node (Some n) e = absurd (true≢false e)

-- what is there isn't what isn't
has_not_none : (o : Option Node) (P : Node → Type 0) → IsSomeAnd o P → o ≢ None
has_not_none None P h e = h
has_not_none (Some n) P h e = cc

pub least_is_number : (limits : Limits) (tree : Tree) (number : ℕ) → HasKind tree 2 Directory → 1 ≤ limits.largest_number → least_unused limits tree ≡ Some number → IsNumber limits tree number
unfolding least_unused
least_is_number limits tree number kind some e =
    let found = is_found (λ k. is_some (map.get tree.nodes k)) 2 (limits.largest_number - 1) number e in
    let unused = no_node (map.get tree.nodes number) found.0 in
    let apart : number ≢ 2 = (λ same. has_not_none _ _ kind (ap (map.get tree.nodes) (sym same) ∙ unused)) in
    record { first = omega (arith, found.1, apart); within = omega (arith, found.2, some); unused = unused }

some_not_none : {A : Type 0} (o : Option A) (x : A) → o ≡ Some x → o ≢ None
some_not_none o x e f = let never : Some x ≡ None = sym e ∙ f in cc

is_some_not_none : {A : Type 0} (o : Option A) → is_some o ≡ true → o ≢ None
is_some_not_none None e f = true≢false (sym e)
is_some_not_none (Some x) e f = cc

module _ (tree : Tree) (number : ℕ) (link : Link) (node : Node) (whole : IsHierarchy tree) (unused : map.get tree.nodes number ≡ None) (absent : map.get tree.links link ≡ None) (parent : HasKind tree link.directory Directory) where
  abbrev made : Tree
  made = with_node tree number link node

  -- a node that is there isn't the new one
  apart_node : (n : ℕ) → map.get tree.nodes n ≢ None → n ≢ number
  apart_node n h same = h (ap (map.get tree.nodes) same ∙ unused)

  node_stays : (n : ℕ) → n ≢ number → map.get made.nodes n ≡ map.get tree.nodes n
  node_stays n apart = get_other nat_cmp_total exact_unsigned tree.nodes number node n apart

  kind_stays : (n : ℕ) (kind : Kind) → HasKind tree n kind → HasKind made n kind
  kind_stays n kind h = subst (λ (o : Option Node). IsSomeAnd o (λ x. x.kind ≡ kind)) (sym (node_stays n (apart_node n (has_not_none _ _ h)))) h

  kind_was : (n : ℕ) (kind : Kind) → n ≢ number → HasKind made n kind → HasKind tree n kind
  kind_was n kind apart h = subst (λ (o : Option Node). IsSomeAnd o (λ x. x.kind ≡ kind)) (node_stays n apart) h

  link_stays : (l : Link) → l ≢ link → map.get made.links l ≡ map.get tree.links l
  link_stays l apart = get_other links_total exact_links tree.links link number l apart

  -- a name of the new tree is the new one, or one of the old
  named : (l : Link) (n : ℕ) → map.get made.links l ≡ Some n → ((l ≡ link) × (n ≡ number)) ⊎ (map.get tree.links l ≡ Some n)
  named l n e = told (same_or_apart links_total exact_links l link)
    where
      told : (l ≡ link) ⊎ (l ≢ link) → ((l ≡ link) × (n ≡ number)) ⊎ (map.get tree.links l ≡ Some n)
      told (inl same) =
          let both : Some n ≡ Some number = sym e ∙ ap (map.get made.links) same ∙ get_inserted links_total tree.links link number in
          inl (same, cc)
      told (inr apart) = inr (sym (link_stays l apart) ∙ e)

  -- an old name leads to an old node
  leads_apart : (l : Link) (n : ℕ) → map.get tree.links l ≡ Some n → n ≢ number
  leads_apart l n e = apart_node n (is_some_not_none _ (whole.leads l n e))

  reach_stays : (n : ℕ) → Reaches tree n → Reaches made n
  reach_stays n root = root
  reach_stays n (below d name n' r e) = below d name _ (reach_stays d r) (link_stays (link_to d name) (λ same. some_not_none _ _ e (ap (map.get tree.links) same ∙ absent)) ∙ e)

  unnamed_made : (l : Link) → map.get made.links l ≢ Some 2
  unnamed_made l e = told (named l 2 e)
    where
      told : ((l ≡ link) × (2 ≡ number)) ⊎ (map.get tree.links l ≡ Some 2) → ⊥
      told (inl h) = has_not_none _ _ whole.root (ap (map.get tree.nodes) h.1 ∙ unused)
      told (inr h) = whole.unnamed l h

  held_made : (l : Link) (n : ℕ) → map.get made.links l ≡ Some n → HasKind made l.directory Directory
  held_made l n e = told (named l n e)
    where
      told : ((l ≡ link) × (n ≡ number)) ⊎ (map.get tree.links l ≡ Some n) → HasKind made l.directory Directory
      told (inl h) = subst (λ (m : Link). HasKind made m.directory Directory) (sym h.0) (kind_stays link.directory Directory parent)
      told (inr h) = kind_stays l.directory Directory (whole.held l n h)

  leads_made : (l : Link) (n : ℕ) → map.get made.links l ≡ Some n → is_some (map.get made.nodes n) ≡ true
  leads_made l n e = told (named l n e)
    where
      told : ((l ≡ link) × (n ≡ number)) ⊎ (map.get tree.links l ≡ Some n) → is_some (map.get made.nodes n) ≡ true
      told (inl h) = ap is_some (ap (map.get made.nodes) h.1 ∙ get_inserted nat_cmp_total tree.nodes number node)
      told (inr h) = ap is_some (node_stays n (leads_apart l n h)) ∙ whole.leads l n h

  once_made : (a b : Link) (n : ℕ) → HasKind made n Directory → map.get made.links a ≡ Some n → map.get made.links b ≡ Some n → a ≡ b
  once_made a b n kind ea eb = told (named a n ea) (named b n eb)
    where
      told : ((a ≡ link) × (n ≡ number)) ⊎ (map.get tree.links a ≡ Some n) → ((b ≡ link) × (n ≡ number)) ⊎ (map.get tree.links b ≡ Some n) → a ≡ b
      told (inl h) (inl k) = h.0 ∙ sym k.0
      told (inl h) (inr k) = absurd (leads_apart b n k h.1)
      told (inr h) (inl k) = absurd (leads_apart a n h k.1)
      told (inr h) (inr k) = whole.once a b n (kind_was n Directory (leads_apart a n h) kind) h k

  reached_made : (n : ℕ) → HasKind made n Directory → Reaches made n
  reached_made n kind = told (same_or_apart nat_cmp_total exact_unsigned n number)
    where
      told : (n ≡ number) ⊎ (n ≢ number) → Reaches made n
      told (inl same) = subst (λ (m : ℕ). Reaches made m) (sym same) (below link.directory link.name number (reach_stays link.directory (whole.reached link.directory parent)) (get_inserted links_total tree.links link number))
      told (inr apart) = reach_stays n (whole.reached n (kind_was n Directory apart kind))

  pub hierarchy_made : IsHierarchy (with_node tree number link node)
  hierarchy_made = record {
    root = kind_stays 2 Directory whole.root;
    unnamed = unnamed_made;
    held = held_made;
    leads = leads_made;
    once = once_made;
    reached = reached_made;
  }
