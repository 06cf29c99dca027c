-- Changes one after the other.
use Rattle.std.proofs.Common.{◌≡◌, ℕ, List, [], ◌∷◌, ◌++◌, Option, Some, None, refl, sym, ap, subst, ◌∙◌}
use Rattle.std.specs.FinMap as map
use Rattle.sn_limits.specs.declared.kind.Kind.TheVariants.{File}
use Rattle.sn_limits.specs.declared.limits.Limits.{Limits}
use Rattle.sn_model.specs.Tree.{Node, Tree}
use Rattle.sn_model.specs.declared.change.Change.{Change}
use Rattle.sn_model.specs.Chains.{◌>>=◌}
use Rattle.sn_model.specs.Changes.{apply, apply_all}
use Rattle.sn_model.specs.Covers.{Covers, IsUnnamed}
use Rattle.sn_model.specs.NameTree.{IsTree}
use Rattle.sn_model.specs.ChangeLaws.{GivesCover}
use Rattle.sn_model.proofs.ChainLemmas.{bind_some, some_bind, some_same, some_none}
use Rattle.sn_model.proofs.CoversLemmas.{change_kept}
use Rattle.sn_model.proofs.TreeLemmas.{tree_kept}

pub lists_join : (limits : Limits) (older newer : List Change) (tree : Tree) → apply_all limits (older ++ newer) tree ≡ (apply_all limits older tree >>= apply_all limits newer)
unfolding apply_all
lists_join limits [] newer tree = refl
lists_join limits (c ∷ cs) newer tree = told (apply limits c tree) (lists_join limits cs newer)
  where
    told : (o : Option Tree) → ((t : Tree) → apply_all limits (cs ++ newer) t ≡ (apply_all limits cs t >>= apply_all limits newer)) → (o >>= apply_all limits (cs ++ newer)) ≡ ((o >>= apply_all limits cs) >>= apply_all limits newer)
    told None again = refl
    told (Some t) again = again t

pub lists_kept : (limits : Limits) (cs : List Change) (replayed live after : Tree) → Covers replayed live → apply_all limits cs live ≡ Some after → GivesCover (apply_all limits cs replayed) after
unfolding apply_all
lists_kept limits [] r l after c e = (r, refl, subst (Covers r) (some_same _ _ e) c)
lists_kept limits (x ∷ xs) r l after c e =
    let a = bind_some (apply limits x l) (apply_all limits xs) after e in
    let k = change_kept limits x r l a.0 c a.1 in
    let u = lists_kept limits xs k.0 a.0 after k.2 a.2 in
    (u.0, some_bind (apply limits x r) (apply_all limits xs) k.0 _ k.1 u.1, u.2)

pub lists_keep : (limits : Limits) (cs : List Change) (tree after : Tree) → IsTree limits tree → apply_all limits cs tree ≡ Some after → IsTree limits after
unfolding apply_all
lists_keep limits [] tree after h e = subst (IsTree limits) (some_same _ _ e) h
lists_keep limits (x ∷ xs) tree after h e =
    let a = bind_some (apply limits x tree) (apply_all limits xs) after e in
    lists_keep limits xs a.0 after (tree_kept limits x tree a.0 h a.1) a.2

pub covers_itself : (tree : Tree) → Covers tree tree
covers_itself tree = record {
  links = refl;
  kept = λ n node e. e;
  beside = λ n node e f. absurd (some_none _ _ e f);
}

pub covers_join : (a b c : Tree) → Covers a b → Covers b c → Covers a c
covers_join a b c p q = record {
  links = p.links ∙ q.links;
  kept = λ n node e. p.kept n node (q.kept n node e);
  beside = λ n node e f. told n node e f (map.get b.nodes n) refl;
}
  where
    told : (n : ℕ) (node : Node) → map.get a.nodes n ≡ Some node → map.get c.nodes n ≡ None → (o : Option Node) → map.get b.nodes n ≡ o → (node.kind ≡ File) × IsUnnamed a n
    told n node e f None g = p.beside n node e g
    told n node e f (Some x) g =
        let s = q.beside n x g f in
        let both : Some node ≡ Some x = sym e ∙ p.kept n x g in
        (ap (λ (y : Node). y.kind) (some_same _ _ both) ∙ s.0, λ link h. s.1 link (sym (ap (λ links. map.get links link) p.links) ∙ h))
