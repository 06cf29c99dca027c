-- Paths as chains of first names, and the next id.
use Rattle.std.proofs.Common.{◌≡◌, ℕ, ◌+◌, ◌==◌, Bool, true, false, cond, zero, suc, List, [], ◌∷◌, ◌++◌, length, Option, Some, None, refl, sym, ap, ◌∙◌, arith}
use Rattle.std.specs.Prelude.{nat_le, Result, Ok, Err}
use Rattle.std.specs.Option.{option_and_then}
use Rattle.sn_maps.specs.Maps.{updated}
use Rattle.sn_node_table.specs.declared.links.Link.{Link}
use Rattle.sn_node_table.specs.declared.path.NoPath.{NoPath}
use Rattle.sn_node_table.specs.declared.path.NoPath.TheVariants.{Stale, TooLong}
use Rattle.sn_node_table.specs.Nodes.{first_link, without_link}
use Rattle.sn_node_table.specs.Paths.{IsChain, by_link, climbed, extended, path_of, path_up, spelled, text_up}
use Rattle.sn_node_table.specs.Tables.{Table, added, linked_over, made, named, node_at, put}

-- a chain whose text this is
abbrev Chained : Table → ℕ → List ℕ → Type 0
Chained t id text = (names : List (List ℕ)) × IsChain names t id × (text ≡ text_up names)

ok_is : (x y : List ℕ) → ◌≡◌ {A = Result (List ℕ) NoPath} (Ok x) (Ok y) → x ≡ y
ok_is x y e = grind (arith, e)

not_ok : (fault : NoPath) (text : List ℕ) → ◌≡◌ {A = Result (List ℕ) NoPath} (Err fault) (Ok text) → ⊥
not_ok fault text e = cc

root_chain : (t : Table) (id : ℕ) (text : List ℕ) → id ≡ 1 → ◌≡◌ {A = Result (List ℕ) NoPath} (Ok []) (Ok text) → Chained t id text
root_chain t id text is e = ([], is, sym (ok_is [] text e))

in_room : (b : Bool) (whole text : List ℕ) → ◌≡◌ {A = Result (List ℕ) NoPath} (cond b (Ok whole) (Err TooLong)) (Ok text) → text ≡ whole
in_room true whole text e = sym (ok_is whole text e)
in_room false whole text e = absurd (not_ok TooLong text e)

above_chain : (t : Table) (id : ℕ) (link : Link) (text : List ℕ) → option_and_then first_link (node_at t id) ≡ Some link → (above : Result (List ℕ) NoPath)
    → ((front : List ℕ) → above ≡ Ok front → Chained t link.parent front) → extended link.name above ≡ Ok text → Chained t id text
above_chain t id link text there (Err fault) chain e = absurd (not_ok fault text e)
above_chain t id link text there (Ok front) chain e =
    let more = chain front refl in
    (link.name ∷ more.0, (link, there, refl, more.1), in_room (nat_le (length front + 1 + length link.name) 1023) (front ++ 47 ∷ link.name) text e ∙ ap (λ (xs : List ℕ). xs ++ 47 ∷ link.name) more.2)

link_chain : (t : Table) (id : ℕ) (text : List ℕ) (o : Option Link) → option_and_then first_link (node_at t id) ≡ o → (above : ℕ → Result (List ℕ) NoPath)
    → ((parent : ℕ) (front : List ℕ) → above parent ≡ Ok front → Chained t parent front) → by_link above o ≡ Ok text → Chained t id text
link_chain t id text None there above chain e = absurd (not_ok Stale text e)
link_chain t id text (Some link) there above chain e = above_chain t id link text there (above link.parent) (chain link.parent) e

eq_one : (id : ℕ) → (id == 1) ≡ true → id ≡ 1
eq_one id e = grind (arith, e)

chain_at : (t : Table) (id : ℕ) (text : List ℕ) (b : Bool) (other : Result (List ℕ) NoPath) → (id == 1) ≡ b → (other ≡ Ok text → Chained t id text)
    → ◌≡◌ {A = Result (List ℕ) NoPath} (cond b (Ok []) other) (Ok text) → Chained t id text
chain_at t id text true other is chain e = root_chain t id text (eq_one id is) e
chain_at t id text false other is chain e = chain e

chained : (t : Table) (hops id : ℕ) (text : List ℕ) → climbed t hops id ≡ Ok text → Chained t id text
chained t zero id text e = chain_at t id text (id == 1) (Err TooLong) refl (λ none. absurd (not_ok TooLong text none)) e
chained t (suc hops) id text e =
    chain_at t id text (id == 1) (by_link (climbed t hops) (option_and_then first_link (node_at t id))) refl
    (λ up. link_chain t id text (option_and_then first_link (node_at t id)) refl (climbed t hops) (λ parent front is. chained t hops parent front is) up) e

no_bytes : (byte : ℕ) (bytes : List ℕ) → byte ∷ bytes ≡ [] → ⊥
no_bytes byte bytes e = cc

spelled_chain : (t : Table) (id : ℕ) (text : List ℕ) (r : Result (List ℕ) NoPath) → ((front : List ℕ) → r ≡ Ok front → Chained t id front) → spelled r ≡ Ok text
    → (names : List (List ℕ)) × IsChain names t id × (text ≡ path_up names)
spelled_chain t id text (Err fault) chain e = absurd (not_ok fault text e)
spelled_chain t id text (Ok []) chain e = root (chain [] refl)
  where
    root : Chained t id [] → (names : List (List ℕ)) × IsChain names t id × (text ≡ path_up names)
    root ([], chain_is, text_is) = ([], chain_is, sym (ok_is (47 ∷ []) text e))
    root (name ∷ above, chain_is, text_is) = absurd (no_text (text_up above) name text_is)
      where
        no_text : (front name : List ℕ) → [] ≡ front ++ 47 ∷ name → ⊥
        no_text [] name e = cc
        no_text (x ∷ front) name e = cc
spelled_chain t id text (Ok (byte ∷ bytes)) chain e = some (chain (byte ∷ bytes) refl)
  where
    some : Chained t id (byte ∷ bytes) → (names : List (List ℕ)) × IsChain names t id × (text ≡ path_up names)
    some ([], chain_is, text_is) = absurd (no_bytes byte bytes text_is)
    some (name ∷ above, chain_is, text_is) = (name ∷ above, chain_is, sym (ok_is (byte ∷ bytes) text e) ∙ text_is)

pub path_chain : (t : Table) (id : ℕ) (text : List ℕ) → path_of t id ≡ Ok text → (names : List (List ℕ)) × IsChain names t id × (text ≡ path_up names)
path_chain t id text e = spelled_chain t id text (climbed t 512 id) (λ front is. chained t 512 id front is) e

-- THE NEXT ID

of_two : (b : Bool) (t u : Table) → u.next ≡ t.next → (cond b t u).next ≡ t.next
of_two true t u e = refl
of_two false t u e = e

next_over : (o : Option ℕ) (t : Table) (parent : ℕ) (name : List ℕ) (id : ℕ) → (linked_over o t parent name id).next ≡ t.next
next_over None t parent name id = refl
next_over (Some old) t parent name id = of_two (old == id) t (record t { nodes = updated (put t parent name id).nodes old (without_link parent name) }) refl

pub next_made : (t : Table) (parent : ℕ) (name : List ℕ) (inode : ℕ) → (made t parent name inode).next ≡ t.next + 1
next_made t parent name inode = next_over (named (added t inode) parent name) (added t inode) parent name t.next
