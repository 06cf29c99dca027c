-- What becomes of a table whose idle ids go.
use Rattle.std.proofs.Common.{◌≡◌, ◌≢◌, ℕ, ◌+◌, ◌-◌, ◌<◌, Bool, true, false, cond, zero, suc, inl, inr, List, [], ◌∷◌, ◌++◌, Option, Some, None, is_some, refl, subst, sym, ap, ◌∙◌, arith}
use Rattle.std.specs.Prelude.{◌⊎◌}
use Rattle.std.specs.Ordering.{nat_cmp, eq_by_cmp}
use Rattle.std.specs.Cmp.{eq_by_cmp_equiv, nat_cmp_total}
use Rattle.std.specs.Option.{option_map}
use Rattle.std.specs.FinMap as map
use Rattle.std.proofs.lemmas.Map.Lookups.{exact_unsigned}
use Rattle.std.proofs.lemmas.Map.Views.{tells_apart}
use Rattle.sn_maps.specs.Maps.{updated, updated_at}
use Rattle.sn_maps.proofs.MapLemmas.{get-updated, remove-absent}
use Rattle.sn_node_table.specs.declared.links.Link.{Link}
use Rattle.sn_node_table.specs.Nodes.{Node, without_name}
use Rattle.sn_node_table.specs.Tables.{GoInTurn, Goes, IsIdleAt, IsIdleNode, IsParentIn, Nodes, Table, links_of, taken_out, unhooked, without}

-- HOW MANY NODES THERE ARE

len_at : (nodes : Nodes) (id : ℕ) (f : Node → Node) (o : Option Node) → map.get nodes id ≡ o → map.len (updated_at nodes id f o) ≡ map.len nodes
len_at nodes id f None e = refl
len_at nodes id f (Some node) e = map.len-insert nat_cmp_total nodes id (f node) ∙ ap (λ (o : Option Node). cond (is_some o) (map.len nodes) (map.len nodes + 1)) e

pub len-updated : (nodes : Nodes) (id : ℕ) (f : Node → Node) → map.len (updated nodes id f) ≡ map.len nodes
len-updated nodes id f = len_at nodes id f (map.get nodes id) refl

pub len-unhooked : (links : List Link) (nodes : Nodes) → map.len (unhooked nodes links) ≡ map.len nodes
len-unhooked [] nodes = refl
len-unhooked (link ∷ links) nodes = len-unhooked links (updated nodes link.parent (without_name link.name)) ∙ len-updated nodes link.parent (without_name link.name)

len_out : (t : Table) (id : ℕ) (o : Option Node) → map.get t.nodes id ≡ o → IsIdleNode o → map.len (taken_out o t id).nodes ≡ map.len t.nodes - 1
len_out t id None e idle = absurd idle
len_out t id (Some node) e idle = len-unhooked node.links (map.remove t.nodes id) ∙ map.len-remove nat_cmp_total t.nodes id ∙ ap (λ (o : Option Node). cond (is_some o) (map.len t.nodes - 1) (map.len t.nodes)) e

some_there : (nodes : Nodes) (id : ℕ) (o : Option Node) → map.get nodes id ≡ o → IsIdleNode o → 0 < map.len nodes
some_there nodes id None e idle = absurd idle
some_there nodes id (Some node) e idle = told (map.len nodes) refl
  where
    told : (n : ℕ) → map.len nodes ≡ n → 0 < map.len nodes
    told zero none = absurd (grind (arith, e, map.get-empty {X = Node} nat_cmp id, ap (λ (m : Nodes). map.get m id) (map.empty_of_len nodes none)))
    told (suc n) some = omega (arith, some)

-- one fewer once an idle id is gone
pub fewer : (t : Table) (id : ℕ) → IsIdleAt t id → map.len (without t id).nodes < map.len t.nodes
fewer t id idle = omega (arith, len_out t id (map.get t.nodes id) refl idle.node, some_there t.nodes id (map.get t.nodes id) refl idle.node)

-- WHICH IDS ARE IDLE

idle_at : (nodes : Nodes) (link : Link) (other : ℕ) (b : Bool) → eq_by_cmp nat_cmp other link.parent ≡ b
    → IsIdleNode (cond b (option_map (without_name link.name) (map.get nodes other)) (map.get nodes other)) → (link.parent ≡ other) ⊎ IsIdleNode (map.get nodes other)
idle_at nodes link other true e idle = inl (sym (tells_apart exact_unsigned other link.parent e))
idle_at nodes link other false e idle = inr idle

either : (nodes : Nodes) (link : Link) (links : List Link) (other : ℕ) → IsIdleNode (map.get (updated nodes link.parent (without_name link.name)) other) ⊎ IsParentIn other links
    → IsIdleNode (map.get nodes other) ⊎ ((link.parent ≡ other) ⊎ IsParentIn other links)
either nodes link links other (inl idle) =
    elim (idle_at nodes link other (eq_by_cmp nat_cmp other link.parent) refl (subst IsIdleNode (get-updated nat_cmp_total exact_unsigned nodes link.parent (without_name link.name) other) idle)) [
      | inl is ↦ inr (inl is)
      | inr still ↦ inl still
    ]
either nodes link links other (inr in_links) = inr (inr in_links)

pub idle_unhooked : (links : List Link) (nodes : Nodes) (other : ℕ) → IsIdleNode (map.get (unhooked nodes links) other) → IsIdleNode (map.get nodes other) ⊎ IsParentIn other links
idle_unhooked [] nodes other idle = inl idle
idle_unhooked (link ∷ links) nodes other idle = either nodes link links other (idle_unhooked links (updated nodes link.parent (without_name link.name)) other idle)

idle_removed : (nodes : Nodes) (id other : ℕ) (b : Bool) → eq_by_cmp nat_cmp other id ≡ b → IsIdleNode (cond b None (map.get nodes other)) → IsIdleNode (map.get nodes other) × (other ≢ id)
idle_removed nodes id other true e idle = absurd idle
idle_removed nodes id other false e idle = (idle, apart)
  where
    apart : other ≢ id
    apart same = absurd (grind (arith, e, same, (eq_by_cmp_equiv nat_cmp_total).refl id))

idle_out : (t : Table) (id other : ℕ) (o : Option Node) → map.get t.nodes id ≡ o → IsIdleNode o → other ≢ 1 → IsIdleNode (map.get (taken_out o t id).nodes other)
    → (IsIdleAt t other × (other ≢ id)) ⊎ IsParentIn other (links_of o)
idle_out t id other None e here lower idle = absurd here
idle_out t id other (Some node) e here lower idle =
    elim (idle_unhooked node.links (map.remove t.nodes id) other idle) [
      | inl still ↦
          let gone = idle_removed t.nodes id other (eq_by_cmp nat_cmp other id) refl (subst IsIdleNode (map.get-remove nat_cmp_total t.nodes id other) still) in
          inl (record { node = gone.0; lower = lower }, gone.1)
      | inr in_links ↦ inr in_links
    ]

-- what an id was the last to hold is idle once it is gone, and nothing else that wasn't
pub idle_without : (t : Table) (id other : ℕ) → IsIdleAt t id → IsIdleAt (without t id) other → (IsIdleAt t other × (other ≢ id)) ⊎ IsParentIn other (links_of (map.get t.nodes id))
idle_without t id other here idle = idle_out t id other (map.get t.nodes id) refl here.node idle.lower idle.node

-- the last of links, or one of those before it
pub parent_or_last : (links : List Link) (last : Link) (other : ℕ) → IsParentIn other (links ++ last ∷ []) → IsParentIn other links ⊎ (last.parent ≡ other)
parent_or_last [] last other (inl is) = inr is
parent_or_last [] last other (inr none) = absurd none
parent_or_last (link ∷ links) last other (inl is) = inl (inl is)
parent_or_last (link ∷ links) last other (inr more) =
    elim (parent_or_last links last other more) [
      | inl before ↦ inl (inr before)
      | inr is ↦ inr is
    ]

-- IDS THAT GO IN TURN

pub goes_none : (t : Table) → Goes t t
goes_none t = ([], refl)

pub goes_first : (t u : Table) (id : ℕ) → IsIdleAt t id → Goes (without t id) u → Goes t u
goes_first t u id idle more = (id ∷ more.0, (idle, more.1))

turns : (ids : List ℕ) (t u v : Table) → GoInTurn ids t u → Goes u v → Goes t v
turns [] t u v is more = subst (λ (w : Table). Goes w v) is more
turns (id ∷ ids) t u v first more = goes_first t v id first.0 (turns ids (without t id) u v first.1 more)

pub goes_on : (t u v : Table) → Goes t u → Goes u v → Goes t v
goes_on t u v first more = turns first.0 t u v first.1 more

-- a table from which nothing was taken
pub none_taken : (t : Table) (id : ℕ) → map.get t.nodes id ≡ None → record t { nodes = map.remove t.nodes id } ≡ without t id
none_taken t id none = ap (λ (m : Nodes). record t { nodes = m }) (remove-absent nat_cmp_total exact_unsigned t.nodes id none) ∙ sym (ap (λ (o : Option Node). taken_out o t id) none)

-- A TABLE FROM WHICH AN IDLE ID WAS TAKEN

pub out_goes : (t u : Table) (id : ℕ) → IsIdleAt t id → u ≡ without t id → Goes t u
out_goes t u id idle is = goes_first t u id idle (subst (λ (w : Table). Goes (without t id) w) (sym is) (goes_none (without t id)))

pub out_idle : (t u : Table) (id other : ℕ) → IsIdleAt t id → u ≡ without t id → IsIdleAt u other → (IsIdleAt t other × (other ≢ id)) ⊎ IsParentIn other (links_of (map.get t.nodes id))
out_idle t u id other here is idle = idle_without t id other here (subst (λ (w : Table). IsIdleAt w other) is idle)

pub out_fewer : (t u : Table) (id : ℕ) → IsIdleAt t id → u ≡ without t id → map.len u.nodes < map.len t.nodes
out_fewer t u id here is = subst (λ (w : Table). map.len w.nodes < map.len t.nodes) (sym is) (fewer t id here)

-- where it had no name
pub idle_alone : {A : Type 0} (links items : List Link) (result : Option ℕ) (other : ℕ) → items ≡ links → items ≡ [] → A ⊎ IsParentIn other links → A ⊎ (result ≡ Some other)
idle_alone links items result other is none (inl a) = inl a
idle_alone links items result other is none (inr among) = absurd (subst (IsParentIn other) (sym is ∙ none) among)

-- where it had some
pub idle_last : {A : Type 0} (links items before : List Link) (last : Link) (other : ℕ) → items ≡ links → items ≡ before ++ last ∷ [] → A ⊎ IsParentIn other links → A ⊎ (IsParentIn other before ⊎ (last.parent ≡ other))
idle_last links items before last other is split (inl a) = inl a
idle_last links items before last other is split (inr among) = inr (parent_or_last before last other (subst (IsParentIn other) (sym is ∙ split) among))

before_it : {A B C : Type 0} (link : Link) (other : ℕ) → other ≢ link.parent → C ⊎ (link.parent ≡ other) → A ⊎ (C ⊎ B)
before_it link other apart (inl c) = inr (inl c)
before_it link other apart (inr is) = absurd (apart (sym is))

-- once the last of the parents was looked at
pub after_sweep : {A B : Type 0} (links before : List Link) (link : Link) (other : ℕ) → links ≡ before ++ link ∷ [] → other ≢ link.parent → A ⊎ (IsParentIn other links ⊎ B) → A ⊎ (IsParentIn other before ⊎ B)
after_sweep links before link other split apart (inl a) = inl a
after_sweep links before link other split apart (inr (inr b)) = inr (inr b)
after_sweep links before link other split apart (inr (inl among)) = before_it link other apart (parent_or_last before link other (subst (IsParentIn other) split among))

not_it : {A C : Type 0} (next : Option ℕ) (at other : ℕ) → next ≡ Some at → other ≢ at → A ⊎ (next ≡ Some other) → A ⊎ C
not_it next at other is apart (inl a) = inl a
not_it next at other is apart (inr e) = absurd (apart (grind (arith, e, is)))

-- once the next one was looked at
pub after_next : {A B : Type 0} (next result : Option ℕ) (at other : ℕ) → next ≡ Some at → (B → A ⊎ (next ≡ Some other)) → (B × (other ≢ at)) ⊎ (result ≡ Some other) → A ⊎ (result ≡ Some other)
after_next next result at other is first (inr e) = inr e
after_next next result at other is first (inl still) = not_it next at other is still.1 (first still.0)
