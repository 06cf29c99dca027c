-- No names lead from a directory to itself.
use Rattle.std.proofs.Common.{◌≡◌, ℕ, suc, ◌≤◌, List, [], ◌∷◌, ◌++◌, length, Some, refl, sym, ap, subst, ◌∙◌, arith, length-append}
use Rattle.std.specs.FinMap as map
use Rattle.sn_limits.specs.declared.kind.Kind.TheVariants.{Directory}
use Rattle.sn_model.specs.declared.link.Link.{Link}
use Rattle.sn_model.specs.NameTree.{HasKind, IsHierarchy}
use Rattle.sn_model.specs.Tree.{Tree, link_to}
use Rattle.sn_model.proofs.ClimbLemmas.{Climbs, climb_root}
use Rattle.sn_archive_laws.specs.Trees.{Leads}

climbs_on : (tree : Tree) (top x d : ℕ) (ls : List Link) (l : Link) → map.get tree.links l ≡ Some x → l.directory ≡ top → Climbs tree x ls d → Climbs tree top (ls ++ l ∷ []) d
climbs_on tree top x d [] l named from c = (named ∙ ap (λ (n : ℕ). Some n) (sym c), from)
climbs_on tree top x d (k ∷ ls) l named from c = (c.0, climbs_on tree top x k.directory ls l named from c.1)

climb_of : (tree : Tree) (top d : ℕ) (names : List (List ℕ)) → Leads tree top names d → (ls : List Link) × Climbs tree top ls d
climb_of tree top d [] leads = ([], leads)
climb_of tree top d (name ∷ names) leads =
    let c = climb_of tree leads.0 d names leads.2 in
    (c.0 ++ link_to top name ∷ [], climbs_on tree top leads.0 d c.0 (link_to top name) leads.1 refl c.1)

climbs_join : (tree : Tree) (top middle d : ℕ) (ls ks : List Link) → Climbs tree middle ls d → Climbs tree top ks middle → Climbs tree top (ls ++ ks) d
climbs_join tree top middle d [] ks first second = subst (Climbs tree top ks) (sym first) second
climbs_join tree top middle d (l ∷ ls) ks first second = (first.0, climbs_join tree top middle l.directory ls ks first.1 second)

-- every way up to the root has the same length
no_longer : (tree : Tree) → IsHierarchy tree → (d : ℕ) (ls ks : List Link) → HasKind tree d Directory → Climbs tree 2 ls d → Climbs tree 2 ks d → length ls ≤ length ks
no_longer tree h d [] ks kind c e = omega arith
no_longer tree h d (l ∷ ls) [] kind c e = absurd (h.unnamed l (c.0 ∙ ap (λ (n : ℕ). Some n) e))
no_longer tree h d (l ∷ ls) (k ∷ ks) kind c e =
    let same : k ≡ l = h.once k l d kind e.0 c.0 in
    let rest = no_longer tree h l.directory ls ks (h.held l d c.0) c.1 (subst (λ (x : Link). Climbs tree 2 ks x.directory) same e.1) in
    let counted : length ls ≤ length ks = rest in
    omega arith

pub no_cycle : (tree : Tree) (top p : ℕ) (names : List (List ℕ)) (name : List ℕ) → IsHierarchy tree → HasKind tree top Directory → Leads tree top names p → map.get tree.links (link_to p name) ≡ Some top → ⊥
no_cycle tree top p names name h kind leads named =
    let up = climb_root tree top (h.reached top kind) in
    let c = climb_of tree top p names leads in
    let round : Climbs tree 2 (link_to p name ∷ (c.0 ++ up.0)) top = (named, climbs_join tree 2 top p c.0 up.0 c.1 up.1) in
    let few : suc (length (c.0 ++ up.0)) ≤ length up.0 = no_longer tree h top (link_to p name ∷ (c.0 ++ up.0)) up.0 kind round up.1 in
    absurd (omega (arith, few, length-append c.0 up.0))
