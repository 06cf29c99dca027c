-- Dropped and settled trees that cover one another.
use Rattle.std.proofs.Common.{◌≡◌, ℕ, Bool, true, false, not, cond, ◌||◌, ◌==◌, Option, Some, None, refl, sym, ap, ◌∙◌, eqb-true, eq-eqb}
use Rattle.std.specs.Cmp.{nat_cmp_total}
use Rattle.std.specs.FinMap as map
use Rattle.std.proofs.lemmas.Map.Lookups.{exact_unsigned}
use Rattle.sn_limits.specs.declared.kind.Kind.{Kind}
use Rattle.sn_limits.specs.declared.kind.Kind.TheVariants.{File, Directory}
use Rattle.sn_model.specs.Tree.{Node, Tree, names_for}
use Rattle.sn_model.specs.Settling.{is_nameless, without_nameless, settled}
use Rattle.sn_model.specs.Covers.{Covers, IsUnnamed}
use Rattle.sn_model.proofs.CoversLemmas.{names_for_same}
use Rattle.sn_model.proofs.NameLemmas.{no_names_for, is_unnamed}

pub nameless_file : (tree : Tree) (number : ℕ) (node : Node) → node.kind ≡ File → names_for tree number ≡ 0 → is_nameless tree number (Some node) ≡ true
nameless_file tree number node k z = ap (λ kind. is_nameless tree number (Some (record node { kind = kind }))) k ∙ eq-eqb (names_for tree number) 0 z

pub nameless_is : (tree : Tree) (number : ℕ) (node : Node) → is_nameless tree number (Some node) ≡ true → (node.kind ≡ File) × (names_for tree number ≡ 0)
nameless_is tree number node e = told node.kind refl e
  where
    told : (k : Kind) → node.kind ≡ k → is_nameless tree number (Some (record node { kind = k })) ≡ true → (node.kind ≡ File) × (names_for tree number ≡ 0)
    told File s f = (s, eqb-true (names_for tree number) 0 f)
    told Directory s f = cc

pub nameless_same : (a b : Tree) (number : ℕ) → names_for a number ≡ names_for b number → (o : Option Node) → is_nameless a number o ≡ is_nameless b number o
nameless_same a b number e None = refl
nameless_same a b number e (Some node) = told node.kind
  where
    told : (k : Kind) → is_nameless a number (Some (record node { kind = k })) ≡ is_nameless b number (Some (record node { kind = k }))
    told File = ap (λ n. n == 0) e
    told Directory = refl

-- what is left of a number
pub get_without : (held : ℕ → Bool) (tree : Tree) (n : ℕ) → map.get (without_nameless held tree).nodes n ≡ cond (not (is_nameless tree n (map.get tree.nodes n)) || held n) (map.get tree.nodes n) None
get_without held tree n = map.get-retain_keys tree.nodes (λ m. not (is_nameless tree m (map.get tree.nodes m)) || held m) n (λ m e. ap (λ k. not (is_nameless tree k (map.get tree.nodes k)) || held k) (sym (exact_unsigned n m e)))

pub dropping_kept : (replayed live : Tree) (held : ℕ → Bool) → Covers replayed live → Covers replayed (without_nameless held live)
dropping_kept r l held c = record {
  links = c.links;
  kept = λ n node e. c.kept n node (was n (not (is_nameless l n (map.get l.nodes n)) || held n) node (sym (get_without held l n) ∙ e));
  beside = λ n node e f. beside n node e (map.get l.nodes n) refl (sym (get_without held l n) ∙ f);
}
  where
    was : (n : ℕ) (b : Bool) (node : Node) → cond b (map.get l.nodes n) None ≡ Some node → map.get l.nodes n ≡ Some node
    was n true node e = e
    was n false node e = cc

    nameless : (n : ℕ) (x : Node) (b : Bool) → is_nameless l n (Some x) ≡ b → cond (not b || held n) (Some x) None ≡ None → is_nameless l n (Some x) ≡ true
    nameless n x true t h = t
    nameless n x false t h = cc

    beside : (n : ℕ) (node : Node) → map.get r.nodes n ≡ Some node → (o : Option Node) → map.get l.nodes n ≡ o → cond (not (is_nameless l n (map.get l.nodes n)) || held n) (map.get l.nodes n) None ≡ None → (node.kind ≡ File) × IsUnnamed r n
    beside n node e None g f = c.beside n node e g
    beside n node e (Some x) g f =
        let here : cond (not (is_nameless l n (Some x)) || held n) (Some x) None ≡ None = ap (λ o. cond (not (is_nameless l n o) || held n) o None) (sym g) ∙ f in
        let is = nameless_is l n x (nameless n x (is_nameless l n (Some x)) refl here) in
        let both : Some node ≡ Some x = sym e ∙ c.kept n x g in
        let same : node ≡ x = cc in
        (ap (λ (y : Node). y.kind) same ∙ is.0, is_unnamed r n (names_for_same r l c n ∙ is.1))

pub settle_alike : (replayed live : Tree) → Covers replayed live → settled replayed ≡ settled live
settle_alike r l c = λ i. record { nodes = nodes i; links = c.links i }
  where
    left : Tree → ℕ → Option Node → Option Node
    left tree n o = cond (not (is_nameless tree n o) || false) o None

    told : (n : ℕ) (o : Option Node) → map.get l.nodes n ≡ o → (p : Option Node) → map.get r.nodes n ≡ p → cond (not (is_nameless r n (map.get r.nodes n)) || false) (map.get r.nodes n) None ≡ cond (not (is_nameless l n (map.get l.nodes n)) || false) (map.get l.nodes n) None
    told n (Some x) f p g =
        ap (λ o. cond (not (is_nameless r n o) || false) o None) (c.kept n x f)
        ∙ ap (λ b. cond (not b || false) (Some x) None) (nameless_same r l n (names_for_same r l c n) (Some x))
        ∙ ap (λ o. cond (not (is_nameless l n o) || false) o None) (sym f)
    told n None f None g =
        ap (λ o. cond (not (is_nameless r n o) || false) o None) g ∙ ap (λ o. cond (not (is_nameless l n o) || false) o None) (sym f)
    told n None f (Some x) g =
        let b = c.beside n x g f in
        ap (λ o. cond (not (is_nameless r n o) || false) o None) g
        ∙ ap (λ t. cond (not t || false) (Some x) None) (nameless_file r n x b.0 (no_names_for r n b.1))
        ∙ ap (λ o. cond (not (is_nameless l n o) || false) o None) (sym f)

    nodes : (settled r).nodes ≡ (settled l).nodes
    nodes = map.same_map nat_cmp_total exact_unsigned _ _ (λ n. get_without (λ _. false) r n ∙ told n (map.get l.nodes n) refl (map.get r.nodes n) refl ∙ sym (get_without (λ _. false) l n))
