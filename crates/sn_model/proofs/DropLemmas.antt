-- Files without names that go leave a name tree.
use Rattle.std.proofs.Common.{◌≡◌, ℕ, Bool, true, false, not, cond, ◌||◌, Option, Some, None, is_some, refl, sym, ap, ◌∙◌}
use Rattle.std.specs.FinMap as map
use Rattle.std.proofs.lemmas.Bool.{true≢false, false_from_ne_true}
use Rattle.sn_limits.specs.declared.kind.Kind.TheVariants.{File, Directory}
use Rattle.sn_model.specs.declared.link.Link.{Link}
use Rattle.sn_limits.specs.declared.limits.Limits.{Limits}
use Rattle.sn_model.specs.Tree.{Node, Tree, link_to, names_for}
use Rattle.sn_model.specs.Settling.{is_nameless, settled, without_nameless}
use Rattle.sn_model.specs.NameTree.{HasKind, IsHierarchy, IsTree, Reaches, root, below}
use Rattle.sn_model.proofs.NameLemmas.{is_unnamed}
use Rattle.sn_model.proofs.SettlingLemmas.{nameless_file, nameless_is, get_without}
use Rattle.sn_model.proofs.MoveLemmas.{kind_at, some_node, is_kind, not_directory}
use Rattle.sn_model.proofs.NodeLemmas.{nodes_part}
use Rattle.sn_model.proofs.FewLemmas.{few_same}

-- the same names, the same directories, and no name that leads nowhere
module _ (a b : Tree) (links : b.links ≡ a.links) (kept : (n : ℕ) → HasKind a n Directory → HasKind b n Directory) (was : (n : ℕ) → HasKind b n Directory → HasKind a n Directory) (leads : (l : Link) (n : ℕ) → map.get a.links l ≡ Some n → is_some (map.get b.nodes n) ≡ true) (h : IsHierarchy a) where
  in_a : (l : Link) (n : ℕ) → map.get b.links l ≡ Some n → map.get a.links l ≡ Some n
  in_a l n e = ap (λ ls. map.get ls l) (sym links) ∙ e

  reach_b : (n : ℕ) → Reaches a n → Reaches b n
  reach_b n root = root
  reach_b n (below d name n' r e) = below d name _ (reach_b d r) (ap (λ ls. map.get ls (link_to d name)) links ∙ e)

  hierarchy_alike : IsHierarchy b
  hierarchy_alike = record {
    root = kept 2 h.root;
    unnamed = λ l e. h.unnamed l (in_a l 2 e);
    held = λ l n e. kept l.directory (h.held l n (in_a l n e));
    leads = λ l n e. leads l n (in_a l n e);
    once = λ k l n d e f. h.once k l n (was n d) (in_a k n e) (in_a l n f);
    reached = λ n d. reach_b n (h.reached n (was n d));
  }

left_was : (b : Bool) (o : Option Node) (x : Node) → cond b o None ≡ Some x → o ≡ Some x
left_was true o x e = e
left_was false o x e = cc

pub without_was : (held : ℕ → Bool) (tree : Tree) (n : ℕ) (x : Node) → map.get (without_nameless held tree).nodes n ≡ Some x → map.get tree.nodes n ≡ Some x
without_was held tree n x e = left_was (not (is_nameless tree n (map.get tree.nodes n)) || held n) (map.get tree.nodes n) x (sym (get_without held tree n) ∙ e)

stays : (held : ℕ → Bool) (tree : Tree) (n : ℕ) → is_nameless tree n (map.get tree.nodes n) ≡ false → map.get (without_nameless held tree).nodes n ≡ map.get tree.nodes n
stays held tree n e = get_without held tree n ∙ ap (λ b. cond (not b || held n) (map.get tree.nodes n) None) e

named_stays : (held : ℕ → Bool) (tree : Tree) (l : Link) (n : ℕ) → map.get tree.links l ≡ Some n → map.get (without_nameless held tree).nodes n ≡ map.get tree.nodes n
named_stays held tree l n e = stays held tree n (false_from_ne_true _ (λ t. told (map.get tree.nodes n) t))
  where
    told : (o : Option Node) → is_nameless tree n o ≡ true → ⊥
    told None t = true≢false (sym t)
    told (Some x) t = is_unnamed tree n (nameless_is tree n x t).1 l e

directory_stays : (held : ℕ → Bool) (tree : Tree) (n : ℕ) → HasKind tree n Directory → HasKind (without_nameless held tree) n Directory
directory_stays held tree n k =
    let s = some_node _ Directory k in
    kind_at _ _ Directory (stays held tree n (false_from_ne_true _ (λ t. not_directory tree n s.0 s.1 (nameless_is tree n s.0 (ap (is_nameless tree n) (sym s.1) ∙ t)).0 k))) k

dropping_hierarchy : (tree : Tree) (held : ℕ → Bool) → IsHierarchy tree → IsHierarchy (without_nameless held tree)
dropping_hierarchy tree held h = hierarchy_alike tree (without_nameless held tree) refl (directory_stays held tree)
    (λ n k. let s = some_node _ Directory k in is_kind tree n s.0 Directory (without_was held tree n s.0 s.1) s.2)
    (λ l n e. ap is_some (named_stays held tree l n e) ∙ h.leads l n e) h

pub dropping_tree : (limits : Limits) (tree : Tree) (held : ℕ → Bool) → IsTree limits tree → IsTree limits (without_nameless held tree)
dropping_tree limits tree held h = record {
  hierarchy = dropping_hierarchy tree held h.hierarchy;
  nodes = nodes_part limits tree h.nodes (without_nameless held tree) (λ n x e. without_was held tree n x e) (λ l n e. e);
  few = few_same limits tree (without_nameless held tree) h.few refl (λ n k. let s = some_node _ File k in is_kind tree n s.0 File (without_was held tree n s.0 s.1) s.2);
}

-- a settled tree has no file without a name
pub all_named : (tree : Tree) (n : ℕ) → HasKind (settled tree) n File → names_for tree n ≡ 0 → ⊥
all_named tree n k z =
    let s = some_node _ File k in
    let was = without_was (λ _. false) tree n s.0 s.1 in
    let gone = get_without (λ _. false) tree n ∙ ap (λ (o : Option Node). cond (not (is_nameless tree n o) || false) o None) was ∙ ap (λ b. cond (not b || false) (Some s.0) None) (nameless_file tree n s.0 s.2 z) in
    let never : Some s.0 ≡ None = sym s.1 ∙ gone in cc
