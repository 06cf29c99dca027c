-- The way up from a directory, over what is stored: each step goes to the directory that is kept beside it, and the root is the end.
use Rattle.std.proofs.Common.{◌≡◌, ◌≢◌, ℕ, zero, suc, ◌<◌, ◌≤◌, Bool, true, false, cond, ◌==◌, List, [], ◌∷◌, length, Option, None, Some, refl, sym, ap, subst, ◌∙◌, arith, eqb-true}
use Rattle.std.specs.Option.{option_map}
use Rattle.std.specs.Prelude.{IsSomeAnd}
use Rattle.std.specs.FinMap as map
use Rattle.std.proofs.lemmas.Bool.{false_from_ne_true}
use Rattle.sn_limits.specs.declared.kind.Kind.TheVariants.{Directory}
use Rattle.sn_walk.specs.Views.{is_directory}
use Rattle.sn_model.specs.declared.link.Link.{Link}
use Rattle.sn_model.specs.Tree.{Node, Tree, names_for}
use Rattle.sn_model.specs.Changes.{is_at_or_below}
use Rattle.sn_model.specs.ChangeLaws.{IsBelow, here, under}
use Rattle.sn_model.specs.NameTree.{HasKind, IsHierarchy}
use Rattle.sn_model.proofs.ClimbLemmas.{Climbs, climb_fits, climb_root, climbed, test_is_below}
use Rattle.sn_model.proofs.CountLemmas.{count_found}
use Rattle.sn_model.proofs.KeepLemmas.{directory_kind}
use Rattle.sn_model.proofs.LinkLemmas.{exact_links, links_total}
use Rattle.sn_model.proofs.MoveLemmas.{some_node}
use Rattle.sn_model.proofs.NameLemmas.{is_unnamed, no_names_for}
use Rattle.sn_nodes.specs.declared.nodes.StoredNode.{StoredNode}
use Rattle.sn_nodes.specs.Stored.{counts_of, node_of}
use Rattle.sn_plain.specs.Stored.{IsCounted}
use Rattle.sn_plain.proofs.CountedLemmas.{Stored}
use Rattle.sn_plain.proofs.MakingLemmas.{links_kept, stored_there}

-- how many steps the way has, of so many at most
pub steps_up : Stored → ℕ → ℕ → ℕ
steps_up stored zero d = 0
steps_up stored (suc more) d = cond ((counts_of (map.get stored d)).links == 0) 0 (suc (steps_up stored more (counts_of (map.get stored d)).parent))

-- whether there is a directory, as a test
abbrev pub is_listed : Option Node → Bool
is_listed None = false
is_listed (Some node) = is_directory node.kind

pub passes_test : (o : Option Node) → IsSomeAnd o (λ node. node.kind ≡ Directory) → is_listed o ≡ true
passes_test None is = absurd is
passes_test (Some node) is = ap is_directory is

pub by_test : (o : Option Node) → is_listed o ≡ true → IsSomeAnd o (λ node. node.kind ≡ Directory)
by_test None e = cc
by_test (Some node) e = directory_kind node.kind e

same_bool : (a b : Bool) → (a ≡ true → b ≡ true) → (b ≡ true → a ≡ true) → a ≡ b
same_bool true b f g = sym (f refl)
same_bool false true f g = g refl
same_bool false false f g = refl

module _ (stored : Stored) (tree : Tree) (first : ℕ) (see : (k : ℕ) → map.get tree.nodes k ≡ option_map node_of (map.get stored k)) (h : IsCounted stored tree first) (whole : IsHierarchy tree) where
  abbrev parent_of : ℕ → ℕ
  parent_of d = (counts_of (map.get stored d)).parent

  up_parent : (d : ℕ) → HasKind tree d Directory → (link : Link) → map.get tree.links link ≡ Some d → link.directory ≡ parent_of d
  up_parent d is link e =
      let n = some_node _ Directory is in
      let s = stored_there (map.get stored d) n.0 (sym (see d) ∙ n.1) in
      sym (ap (λ (o : Option StoredNode). (counts_of o).parent) s.1 ∙ h.parents link d s.0 e s.1 (ap (λ (x : Node). x.kind) s.2 ∙ n.2))

  -- a name of a directory that isn't the root
  name_of : (d : ℕ) → names_for tree d ≢ 0 → (link : Link) × (map.get tree.links link ≡ Some d)
  name_of d some =
      let w = count_found links_total exact_links (λ x. x.1 == d) tree.links (omega (arith, some)) in
      (w.0, w.2 ∙ ap (λ (j : ℕ). Some j) (eqb-true w.1 d w.3))

  pub parent_is : (d : ℕ) → HasKind tree d Directory → names_for tree d ≢ 0 → HasKind tree (parent_of d) Directory
  parent_is d is some = let w = name_of d some in subst (λ (j : ℕ). HasKind tree j Directory) (up_parent d is w.0 w.1) (whole.held w.0 d w.1)

  -- a directory is at or below a top where the one that it is in is
  from_parent : (top d : ℕ) → HasKind tree d Directory → names_for tree d ≢ 0 → IsBelow tree top (parent_of d) → IsBelow tree top d
  from_parent top d is some b = let w = name_of d some in under w.0 d (subst (λ (j : ℕ). IsBelow tree top j) (sym (up_parent d is w.0 w.1)) b) w.1

  to_parent : (top d : ℕ) → HasKind tree d Directory → d ≢ top → IsBelow tree top d → IsBelow tree top (parent_of d)
  to_parent top d is apart here = absurd (apart refl)
  to_parent top d is apart (under link n b e) = subst (λ (j : ℕ). IsBelow tree top j) (up_parent d is link e) b

  pub below_parent : (top d : ℕ) → HasKind tree d Directory → d ≢ top → names_for tree d ≢ 0 → is_at_or_below tree top (parent_of d) ≡ is_at_or_below tree top d
  below_parent top d is apart some =
      let above = test_is_below tree whole top (parent_of d) (parent_is d is some) in
      let itself = test_is_below tree whole top d is in
      same_bool _ _ (λ e. itself.1 (from_parent top d is some (above.0 e))) (λ e. above.1 (to_parent top d is apart (itself.0 e)))

  pub below_itself : (top d : ℕ) → HasKind tree d Directory → d ≡ top → is_at_or_below tree top d ≡ true
  below_itself top d is e = (test_is_below tree whole top d is).1 (subst (λ (j : ℕ). IsBelow tree top j) (sym e) here)

  -- a directory without a name is the end
  ended : (top d : ℕ) → names_for tree d ≡ 0 → d ≢ top → IsBelow tree top d → ⊥
  ended top d none apart here = apart refl
  ended top d none apart (under link n b e) = is_unnamed tree d none link e

  pub below_none : (top d : ℕ) → HasKind tree d Directory → names_for tree d ≡ 0 → d ≢ top → is_at_or_below tree top d ≡ false
  below_none top d is none apart = false_from_ne_true _ (λ e. ended top d none apart ((test_is_below tree whole top d is).0 e))

  no_root_names : (d : ℕ) → d ≡ 2 → names_for tree d ≡ 0
  no_root_names d e = ap (names_for tree) e ∙ no_names_for tree 2 whole.unnamed

  ends_at : (d more : ℕ) → names_for tree d ≡ 0 → steps_up stored more d ≡ 0
  unfolding steps_up
  ends_at d zero e = refl
  ends_at d (suc more) e = ap (λ n. cond (n == 0) 0 (suc (steps_up stored more (parent_of d)))) (links_kept stored tree first h d ∙ e)

  goes_on : (d more : ℕ) → names_for tree d ≢ 0 → steps_up stored (suc more) d ≡ suc (steps_up stored more (parent_of d))
  unfolding steps_up
  goes_on d more some = ap (λ b. cond b 0 (suc (steps_up stored more (parent_of d)))) (false_from_ne_true _ (λ e. some (sym (links_kept stored tree first h d) ∙ eqb-true _ 0 e)))

  -- the way is that of the names up to the root
  steps_are : (ks : List Link) (d more : ℕ) → HasKind tree d Directory → Climbs tree 2 ks d → length ks ≤ more → steps_up stored more d ≡ length ks
  steps_are [] d more is c few = ends_at d more (no_root_names d c)
  steps_are (k ∷ ks) d zero is c few = absurd (let over : suc (length ks) ≤ 0 = few in omega arith)
  steps_are (k ∷ ks) d (suc more) is c few =
      let short : length ks ≤ more = (let less : suc (length ks) ≤ suc more = few in omega arith) in
      goes_on d more (λ z. is_unnamed tree d z k c.0)
      ∙ ap (λ (p : ℕ). suc (steps_up stored more p)) (sym (up_parent d is k c.0))
      ∙ ap suc (steps_are ks k.directory more (whole.held k d c.0) c.1 short)

  pub fewer_steps : (d : ℕ) → HasKind tree d Directory → names_for tree d ≢ 0 → steps_up stored (map.len tree.links) (parent_of d) < steps_up stored (map.len tree.links) d
  fewer_steps d is some = let c = climb_root tree d (whole.reached d is) in told c.0 c.1
    where
      told : (ks : List Link) → Climbs tree 2 ks d → steps_up stored (map.len tree.links) (parent_of d) < steps_up stored (map.len tree.links) d
      told [] c = absurd (some (no_root_names d c))
      told (k ∷ ks) c =
          let fits : suc (length ks) ≤ map.len tree.links = climb_fits tree (climbed tree whole) (k ∷ ks) d is c in
          let all : steps_up stored (map.len tree.links) d ≡ suc (length ks) = steps_are (k ∷ ks) d (map.len tree.links) is c fits in
          let rest : steps_up stored (map.len tree.links) (parent_of d) ≡ length ks = ap (steps_up stored (map.len tree.links)) (sym (up_parent d is k c.0)) ∙ steps_are ks k.directory (map.len tree.links) (whole.held k d c.0) c.1 (omega arith) in
          omega arith
