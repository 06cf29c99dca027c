-- Which ids were never given, after each change of the nodes.
use Rattle.std.proofs.Common.{◌≡◌, ◌≢◌, ℕ, ◌+◌, ◌≤◌, Bool, true, false, cond, List, [], ◌∷◌, Option, Some, None, is_some, refl, subst, sym, ap, ◌∙◌, arith}
use Rattle.std.specs.Ordering.{nat_cmp, eq_by_cmp}
use Rattle.std.specs.Cmp.{eq_by_cmp_equiv, nat_cmp_total}
use Rattle.std.specs.Option.{option_map}
use Rattle.std.specs.FinMap as map
use Rattle.std.proofs.lemmas.Map.Lookups.{exact_unsigned}
use Rattle.std.proofs.lemmas.Map.Views.{tells_apart}
use Rattle.sn_maps.specs.Maps.{updated}
use Rattle.sn_maps.proofs.MapLemmas.{get-updated}
use Rattle.sn_node_table.specs.declared.links.Link.{Link}
use Rattle.sn_node_table.specs.Nodes.{Node, without_name}
use Rattle.sn_node_table.specs.Tables.{IsFresh, Nodes, unhooked}

same_there : (b : Bool) (o : Option Node) (f : Node → Node) → is_some (cond b (option_map f o) o) ≡ is_some o
same_there true None f = refl
same_there true (Some x) f = refl
same_there false o f = refl

pub there-updated : (nodes : Nodes) (id : ℕ) (f : Node → Node) (other : ℕ) → is_some (map.get (updated nodes id f) other) ≡ is_some (map.get nodes other)
there-updated nodes id f other = ap is_some (get-updated nat_cmp_total exact_unsigned nodes id f other) ∙ same_there (eq_by_cmp nat_cmp other id) (map.get nodes other) f

pub fresh-updated : (nodes : Nodes) (next id : ℕ) (f : Node → Node) → IsFresh nodes next → IsFresh (updated nodes id f) next
fresh-updated nodes next id f fresh other h = there-updated nodes id f other ∙ fresh other h

none_there : (b : Bool) (o : Option Node) → is_some o ≡ false → is_some (cond b None o) ≡ false
none_there true o e = refl
none_there false o e = e

pub fresh-removed : (nodes : Nodes) (next id : ℕ) → IsFresh nodes next → IsFresh (map.remove nodes id) next
fresh-removed nodes next id fresh other h = ap is_some (map.get-remove nat_cmp_total nodes id other) ∙ none_there (eq_by_cmp nat_cmp other id) (map.get nodes other) (fresh other h)

pub fresh-unhooked : (next : ℕ) (links : List Link) (nodes : Nodes) → IsFresh nodes next → IsFresh (unhooked nodes links) next
fresh-unhooked next [] nodes fresh = fresh
fresh-unhooked next (link ∷ links) nodes fresh = fresh-unhooked next links (updated nodes link.parent (without_name link.name)) (fresh-updated nodes next link.parent (without_name link.name) fresh)

pub fresh-inserted : (nodes : Nodes) (next id : ℕ) (node : Node) → id + 1 ≤ next → IsFresh nodes id → IsFresh (map.insert nodes id node) next
fresh-inserted nodes next id node above fresh other h = ap is_some (map.get-insert nat_cmp_total nodes id node other) ∙ told (eq_by_cmp nat_cmp other id) refl
  where
    told : (b : Bool) → eq_by_cmp nat_cmp other id ≡ b → is_some (cond b (Some node) (map.get nodes other)) ≡ false
    told true e = absurd (omega (arith, tells_apart exact_unsigned other id e, above, h))
    told false e = fresh other (omega (arith, above, h))

pub none-unless : (o : Option Node) → is_some o ≡ false → o ≡ None
none-unless None e = refl
none-unless (Some x) e = absurd (grind (arith, e))

pub fresh-is : (m n : Nodes) (next : ℕ) → m ≡ n → IsFresh n next → IsFresh m next
fresh-is m n next e fresh = subst (λ (k : Nodes). IsFresh k next) (sym e) fresh

pub fresh-none : (next : ℕ) → IsFresh map.empty next
fresh-none next id h = ap is_some (map.get-empty nat_cmp id)

-- the last id that was given can be given again once its node is gone
pub fresh-taken_back : (nodes : Nodes) (id : ℕ) → IsFresh nodes (id + 1) → IsFresh (map.remove nodes id) id
fresh-taken_back nodes id fresh other h = ap is_some (map.get-remove nat_cmp_total nodes id other) ∙ told (eq_by_cmp nat_cmp other id) refl
  where
    told : (b : Bool) → eq_by_cmp nat_cmp other id ≡ b → is_some (cond b None (map.get nodes other)) ≡ false
    told true e = refl
    told false e = fresh other (omega (arith, h, apart))
      where
        apart : other ≢ id
        apart same = absurd (grind (arith, e, same, (eq_by_cmp_equiv nat_cmp_total).refl id))
