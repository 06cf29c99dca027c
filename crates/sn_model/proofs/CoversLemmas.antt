-- A change keeps one tree covering another.
use Rattle.std.proofs.Common.{◌≡◌, ◌≢◌, ℕ, zero, suc, Bool, true, false, not, ◌&&◌, ◌||◌, ◌==◌, nat_lt, nat_le, List, [], ◌∷◌, filter, flat_map, Option, Some, None, is_none, is_some, refl, sym, ap, subst, ◌∙◌, ◌⊎◌, inl, inr, eq-eqb}
use Rattle.std.specs.List.{list_any}
use Rattle.std.specs.Cmp.{nat_cmp_total}
use Rattle.std.specs.FinMap as map
use Rattle.std.proofs.lemmas.Bool.{true≢false}
use Rattle.std.proofs.lemmas.Map.Lookups.{exact_unsigned}
use Rattle.sn_limits.specs.declared.kind.Kind.{Kind}
use Rattle.sn_limits.specs.declared.kind.Kind.TheVariants.{File}
use Rattle.sn_limits.specs.Names.{is_name}
use Rattle.sn_walk.specs.Views.{is_directory, is_hidden_name}
use Rattle.sn_limits.specs.declared.limits.Limits.{Limits}
use Rattle.sn_model.specs.declared.change.Change.{Change}
use Rattle.sn_model.specs.declared.change.Change.TheVariants.{Make, AddLink, Remove, Rename, Write, SetSize, SetAttributes}
use Rattle.sn_model.specs.declared.change.Ownership.{Ownership}
use Rattle.sn_model.specs.declared.link.Link.{Link}
use Rattle.sn_model.specs.Chains.{◌>>=◌, only_if}
use Rattle.sn_model.specs.Tree.{Node, Tree, link_to, names_in, names_for}
use Rattle.sn_model.specs.Changes.{is_file, directory_at, file_at, is_vacant, is_free_number, node_with, put_node, put_link, take_link, take_node, made, linked, unlinked, removed, replaced, chain_up, is_at_or_below, is_new_name, same_number, renamed, resized, overwritten, with_bytes, written, cut, owned, apply}
use Rattle.sn_model.specs.Covers.{Covers, IsUnnamed}
use Rattle.sn_model.specs.ChangeLaws.{GivesCover}
use Rattle.sn_model.proofs.LinkLemmas.{exact_links, links_total}
use Rattle.sn_model.proofs.MapLemmas.{same_or_apart, get_inserted, get_other, get_left, get_was}
use Rattle.sn_model.proofs.ChainLemmas.{and_right, some_same, some_none}
use Rattle.sn_model.proofs.NameLemmas.{no_names_for}
use Rattle.sn_model.proofs.PartLemmas.{file_is, is_file_at, directory_is, is_directory_at, HasRoomFor, made_is, made_of, linked_is, linked_of, unlinked_is, unlinked_of, Unlinked, removed_is, removed_of, replaced_is, replaced_of, Renamed, IsRenamed, renamed_is, renamed_of, written_is, written_of, cut_is, cut_of, owned_is, owned_of}

abbrev free_by : Option Node → ℕ → Bool
free_by o names = is_none o || (is_some (o >>= (λ node. only_if (is_file node.kind) >>= (λ _. Some node))) && names == 0)

free_file : (node : Node) → node.kind ≡ File → free_by (Some node) 0 ≡ true
free_file node e = ap (λ k. is_some (only_if (is_file k) >>= (λ _. Some node)) && true) e

chain_same : (a b : Tree) → a.links ≡ b.links → (more directory : ℕ) → chain_up a more directory ≡ chain_up b more directory
unfolding chain_up
chain_same a b e zero directory = refl
chain_same a b e (suc more) directory = λ i. directory ∷ flat_map (λ x. chain_same a b e more x.0.directory i) (filter (λ x. x.1 == directory) (map.entries (e i)))

module _ (r l : Tree) (c : Covers r l) where
  names_in_same : (directory : ℕ) → names_in r directory ≡ names_in l directory
  names_in_same directory = ap (λ links. names_in (record r { links = links }) directory) c.links

  pub names_for_same : (number : ℕ) → names_for r number ≡ names_for l number
  names_for_same number = ap (λ links. names_for (record r { links = links }) number) c.links

  link_same : (link : Link) → map.get r.links link ≡ map.get l.links link
  link_same link = ap (λ links. map.get links link) c.links

  vacant_same : (link : Link) → is_vacant r link ≡ is_vacant l link
  vacant_same link = ap (λ o. is_name link.name && not (is_hidden_name link.directory link.name) && is_none o) (link_same link)

  below_same : (top directory : ℕ) → is_at_or_below r top directory ≡ is_at_or_below l top directory
  below_same top directory =
      ap (λ links. list_any (λ d. d == top) (chain_up r (map.len links) directory)) c.links
      ∙ ap (list_any (λ d. d == top)) (chain_same r l c.links (map.len l.links) directory)

  file_kept : (number : ℕ) (node : Node) → file_at l number ≡ Some node → file_at r number ≡ Some node
  file_kept number node e = let f = file_is l number node e in is_file_at r number node (c.kept number node f.0) f.1

  directory_kept : (number : ℕ) (node : Node) → directory_at l number ≡ Some node → directory_at r number ≡ Some node
  directory_kept number node e = let f = directory_is l number node e in is_directory_at r number node (c.kept number node f.0) f.1

  room_kept : (limits : Limits) (link : Link) (number : ℕ) → HasRoomFor limits l link number → HasRoomFor limits r link number
  room_kept limits link number p = record {
    directory = p.directory;
    parent = directory_kept link.directory p.directory p.parent;
    names = ap (λ n. nat_lt n limits.names) (names_in_same link.directory) ∙ p.names;
    links = ap (λ n. nat_lt n limits.links) (names_for_same number) ∙ p.links;
  }

  free_kept : (limits : Limits) (number : ℕ) → is_free_number limits l number ≡ true → is_free_number limits r number ≡ true
  free_kept limits number e =
      let x = and_right (nat_lt 2 number && nat_le number limits.largest_number) (free_by (map.get l.nodes number) (names_for l number)) e in
      let y : free_by (map.get r.nodes number) (names_for r number) ≡ true = told (map.get l.nodes number) refl (map.get r.nodes number) refl x in
      ap (λ t. nat_lt 2 number && nat_le number limits.largest_number && t) (y ∙ sym x) ∙ e
    where
      told : (o : Option Node) → map.get l.nodes number ≡ o → (p : Option Node) → map.get r.nodes number ≡ p → free_by o (names_for l number) ≡ true → free_by p (names_for r number) ≡ true
      told None f None g h = refl
      told None f (Some node) g h =
          let b = c.beside number node g f in
          ap (free_by (Some node)) (no_names_for r number b.1) ∙ free_file node b.0
      told (Some node) f p g h =
          ap (λ q. free_by q (names_for r number)) (sym g ∙ c.kept number node f) ∙ ap (free_by (Some node)) (names_for_same number) ∙ h

  pub covers_put_node : (n : ℕ) (x : Node) → Covers (put_node r n x) (put_node l n x)
  covers_put_node n x = record {
    links = c.links;
    kept = λ m y e. kept m y e (same_or_apart nat_cmp_total exact_unsigned m n);
    beside = λ m y e f. beside m y e f (same_or_apart nat_cmp_total exact_unsigned m n);
  }
    where
      kept : (m : ℕ) (y : Node) → map.get (put_node l n x).nodes m ≡ Some y → (m ≡ n) ⊎ (m ≢ n) → map.get (put_node r n x).nodes m ≡ Some y
      kept m y e (inl same) = ap (map.get (put_node r n x).nodes) same ∙ get_inserted nat_cmp_total r.nodes n x ∙ sym (get_inserted nat_cmp_total l.nodes n x) ∙ ap (map.get (put_node l n x).nodes) (sym same) ∙ e
      kept m y e (inr apart) = get_other nat_cmp_total exact_unsigned r.nodes n x m apart ∙ c.kept m y (sym (get_other nat_cmp_total exact_unsigned l.nodes n x m apart) ∙ e)

      beside : (m : ℕ) (y : Node) → map.get (put_node r n x).nodes m ≡ Some y → map.get (put_node l n x).nodes m ≡ None → (m ≡ n) ⊎ (m ≢ n) → (y.kind ≡ File) × IsUnnamed (put_node r n x) m
      beside m y e f (inl same) = absurd (some_none _ _ (get_inserted nat_cmp_total l.nodes n x) (ap (map.get (put_node l n x).nodes) (sym same) ∙ f))
      beside m y e f (inr apart) = c.beside m y (sym (get_other nat_cmp_total exact_unsigned r.nodes n x m apart) ∙ e) (sym (get_other nat_cmp_total exact_unsigned l.nodes n x m apart) ∙ f)

  pub covers_put_link : (link : Link) (n : ℕ) (x : Node) → map.get l.nodes n ≡ Some x → Covers (put_link r link n) (put_link l link n)
  covers_put_link link n x there = record {
    links = ap (λ links. map.insert links link n) c.links;
    kept = c.kept;
    beside = λ m y e f. ((c.beside m y e f).0, λ k g. other m y e f k g (same_or_apart links_total exact_links k link));
  }
    where
      other : (m : ℕ) (y : Node) → map.get r.nodes m ≡ Some y → map.get l.nodes m ≡ None → (k : Link) → map.get (put_link r link n).links k ≡ Some m → (k ≡ link) ⊎ (k ≢ link) → ⊥
      other m y e f k g (inl same) =
          let both : Some n ≡ Some m = sym (get_inserted links_total r.links link n) ∙ ap (map.get (put_link r link n).links) (sym same) ∙ g in
          some_none _ _ there (ap (map.get l.nodes) (some_same _ _ both) ∙ f)
      other m y e f k g (inr apart) = (c.beside m y e f).1 k (sym (get_other links_total exact_links r.links link n k apart) ∙ g)

  pub covers_take_link : (link : Link) → Covers (take_link r link) (take_link l link)
  covers_take_link link = record {
    links = ap (λ links. map.remove links link) c.links;
    kept = c.kept;
    beside = λ m y e f. ((c.beside m y e f).0, λ k g. (c.beside m y e f).1 k (get_was links_total exact_links r.links link k m g).1);
  }

  pub covers_take_node : (n : ℕ) → Covers (take_node r n) (take_node l n)
  covers_take_node n = record {
    links = c.links;
    kept = λ m y e. let w = get_was nat_cmp_total exact_unsigned l.nodes n m y e in get_left nat_cmp_total exact_unsigned r.nodes n m w.0 ∙ c.kept m y w.1;
    beside = λ m y e f. let w = get_was nat_cmp_total exact_unsigned r.nodes n m y e in c.beside m y w.1 (sym (get_left nat_cmp_total exact_unsigned l.nodes n m w.0) ∙ f);
  }

-- a cover of what a change gives, where what it gives is known by an equation
covers_of : (r l after : Tree) → l ≡ after → Covers r l → Covers r after
covers_of r l after e c = subst (Covers r) e c

module _ (r l : Tree) (c : Covers r l) where
  made_kept : (limits : Limits) (link : Link) (number : ℕ) (kind : Kind) (o : Ownership) (after : Tree) → made limits l link number kind o ≡ Some after → GivesCover (made limits r link number kind o) after
  made_kept limits link number kind o after e =
      let p = made_is limits l link number kind o after e in
      let x = node_with kind o [] in (
        put_link (put_node r number x) link number,
        made_of limits r link number kind o _ (record { free = free_kept r l c limits number p.free; vacant = vacant_same r l c link ∙ p.vacant; owned = p.owned; room = room_kept r l c limits link number p.room; gives = refl }),
        covers_of _ _ after p.gives (covers_put_link (put_node r number x) (put_node l number x) (covers_put_node r l c number x) link number x (get_inserted nat_cmp_total l.nodes number x)),
      )

  linked_kept : (limits : Limits) (link : Link) (number : ℕ) (after : Tree) → linked limits l link number ≡ Some after → GivesCover (linked limits r link number) after
  linked_kept limits link number after e =
      let p = linked_is limits l link number after e in (
        put_link r link number,
        linked_of limits r link number _ (record { node = p.node; file = file_kept r l c number p.node p.file; vacant = vacant_same r l c link ∙ p.vacant; room = room_kept r l c limits link number p.room; gives = refl }),
        covers_of _ _ after p.gives (covers_put_link r l c link number p.node (file_is l number p.node p.file).0),
      )

  -- what has a name that goes loses it in both
  unlinked_kept : (link : Link) (number : ℕ) (node : Node) (after : Tree) → unlinked l link number node ≡ Some after → GivesCover (unlinked r link number node) after
  unlinked_kept link number node after e = told (unlinked_is l link number node after e)
    where
      told : Unlinked l link number node after → GivesCover (unlinked r link number node) after
      told (inl p) = (
        take_node (take_link r link) number,
        unlinked_of r link number node _ (inl (record { kind = p.kind; empty = ap (λ n. n == 0) (names_in_same r l c number) ∙ p.empty; gives = refl })),
        covers_of _ _ after p.gives (covers_take_node (take_link r link) (take_link l link) (covers_take_link r l c link) number),
      )
      told (inr p) = (take_link r link, unlinked_of r link number node _ (inr (record { kind = p.kind; gives = refl })), covers_of _ _ after p.gives (covers_take_link r l c link))

  removed_kept : (link : Link) (after : Tree) → removed l link ≡ Some after → GivesCover (removed r link) after
  removed_kept link after e =
      let p = removed_is l link after e in
      let u = unlinked_kept link p.number p.node after p.gone in
      (u.0, removed_of r link _ (record { number = p.number; node = p.node; named = link_same r l c link ∙ p.named; there = c.kept p.number p.node p.there; gone = u.1 }), u.2)

  written_kept : (limits : Limits) (number offset : ℕ) (bytes : List ℕ) (after : Tree) → written limits l number offset bytes ≡ Some after → GivesCover (written limits r number offset bytes) after
  written_kept limits number offset bytes after e =
      let p = written_is limits l number offset bytes after e in (
        with_bytes r number p.node (overwritten p.node.bytes offset bytes),
        written_of limits r number offset bytes _ (record { node = p.node; file = file_kept r l c number p.node p.file; fits = p.fits; gives = refl }),
        covers_of _ _ after p.gives (covers_put_node r l c number (record p.node { bytes = overwritten p.node.bytes offset bytes })),
      )

  cut_kept : (limits : Limits) (number size : ℕ) (after : Tree) → cut limits l number size ≡ Some after → GivesCover (cut limits r number size) after
  cut_kept limits number size after e =
      let p = cut_is limits l number size after e in (
        with_bytes r number p.node (resized p.node.bytes size),
        cut_of limits r number size _ (record { node = p.node; file = file_kept r l c number p.node p.file; fits = p.fits; gives = refl }),
        covers_of _ _ after p.gives (covers_put_node r l c number (record p.node { bytes = resized p.node.bytes size })),
      )

  owned_kept : (number : ℕ) (o : Ownership) (after : Tree) → owned l number o ≡ Some after → GivesCover (owned r number o) after
  owned_kept number o after e =
      let p = owned_is l number o after e in (
        put_node r number (node_with p.node.kind o p.node.bytes),
        owned_of r number o _ (record { node = p.node; there = c.kept number p.node p.there; fits = p.fits; gives = refl }),
        covers_of _ _ after p.gives (covers_put_node r l c number (node_with p.node.kind o p.node.bytes)),
      )

  replaced_kept : (new : Link) (moved : Node) (o : Option ℕ) (after : Tree) → replaced l new moved o ≡ Some after → GivesCover (replaced r new moved o) after
  replaced_kept new moved None after e = (r, refl, subst (Covers r) (some_same _ _ e) c)
  replaced_kept new moved (Some number) after e =
      let p = replaced_is l new moved number after e in
      let u = unlinked_kept new number p.node after p.gone in
      (u.0, replaced_of r new moved number _ (record { node = p.node; there = c.kept number p.node p.there; alike = p.alike; gone = u.1 }), u.2)

-- what is replaced isn't what is moved, which stays
unlinked_stays : (tree : Tree) (link : Link) (number : ℕ) (node : Node) (after : Tree) → Unlinked tree link number node after → (m : ℕ) → m ≢ number → map.get after.nodes m ≡ map.get tree.nodes m
unlinked_stays tree link number node after (inl p) m apart = ap (λ (t : Tree). map.get t.nodes m) (sym p.gives) ∙ get_left nat_cmp_total exact_unsigned tree.nodes number m apart
unlinked_stays tree link number node after (inr p) m apart = ap (λ (t : Tree). map.get t.nodes m) (sym p.gives)

pub replaced_stays : (tree : Tree) (new : Link) (moved : Node) (o : Option ℕ) (after : Tree) → replaced tree new moved o ≡ Some after → (m : ℕ) → same_number m o ≡ false → map.get after.nodes m ≡ map.get tree.nodes m
replaced_stays tree new moved None after e m apart = ap (λ (t : Tree). map.get t.nodes m) (sym (some_same _ _ e))
replaced_stays tree new moved (Some number) after e m apart =
    let p = replaced_is tree new moved number after e in
    unlinked_stays tree new number p.node after (unlinked_is tree new number p.node after p.gone) m (λ same. true≢false (sym (eq-eqb m number same) ∙ apart))

module _ (r l : Tree) (c : Covers r l) where
  new_name_same : (new : Link) (number : ℕ) (node : Node) → is_new_name r new number node ≡ is_new_name l new number node
  new_name_same new number node = ap (λ b. is_name new.name && not (is_hidden_name new.directory new.name) && not (is_directory node.kind && b)) (below_same r l c number new.directory)

  renamed_kept : (limits : Limits) (old new : Link) (after : Tree) → renamed limits l old new ≡ Some after → GivesCover (renamed limits r old new) after
  renamed_kept limits old new after e = told (renamed_is limits l old new after e)
    where
      of : (p : Renamed limits l old new after) (tree : Tree) → IsRenamed limits r old new p.number p.node tree → renamed limits r old new ≡ Some tree
      of p tree done = renamed_of limits r old new tree (record { number = p.number; node = p.node; named = link_same r l c old ∙ p.named; there = c.kept p.number p.node p.there; done = done })

      same : (number : ℕ) → same_number number (map.get r.links new) ≡ same_number number (map.get l.links new)
      same number = ap (same_number number) (link_same r l c new)

      by : (p : Renamed limits l old new after) → IsRenamed limits l old new p.number p.node after → GivesCover (renamed limits r old new) after
      by p (inl q) = (r, of p r (inl (same p.number ∙ q.0, refl)), covers_of _ _ after q.1 c)
      by p (inr q) =
          let m = q.1 in
          let u = replaced_kept r l c new p.node (map.get l.links new) m.cleared m.cleared_is in
          let cover = covers_take_link u.0 m.cleared u.2 old in
          let stays = replaced_stays l new p.node (map.get l.links new) m.cleared m.cleared_is p.number q.0 ∙ p.there in (
            put_link (take_link u.0 old) new p.number,
            of p _ (inr (
              same p.number ∙ q.0,
              record {
                directory = m.directory;
                parent = directory_kept r l c new.directory m.directory m.parent;
                name = new_name_same new p.number p.node ∙ m.name;
                cleared = u.0;
                cleared_is = ap (replaced r new p.node) (link_same r l c new) ∙ u.1;
                room = room_kept (take_link u.0 old) (take_link m.cleared old) cover limits new p.number m.room;
                gives = refl;
              },
            )),
            covers_of _ _ after m.gives (covers_put_link (take_link u.0 old) (take_link m.cleared old) cover new p.number p.node stays),
          )

      told : Renamed limits l old new after → GivesCover (renamed limits r old new) after
      told p = by p p.done

pub change_kept : (limits : Limits) (change : Change) (replayed live after : Tree) → Covers replayed live → apply limits change live ≡ Some after → GivesCover (apply limits change replayed) after
change_kept limits (Make directory name number kind o) r l after c e = made_kept r l c limits (link_to directory name) number kind o after e
change_kept limits (AddLink directory name number) r l after c e = linked_kept r l c limits (link_to directory name) number after e
change_kept limits (Remove directory name) r l after c e = removed_kept r l c (link_to directory name) after e
change_kept limits (Rename old_directory old_name new_directory new_name) r l after c e = renamed_kept r l c limits (link_to old_directory old_name) (link_to new_directory new_name) after e
change_kept limits (Write number offset bytes) r l after c e = written_kept r l c limits number offset bytes after e
change_kept limits (SetSize number size) r l after c e = cut_kept r l c limits number size after e
change_kept limits (SetAttributes number o) r l after c e = owned_kept r l c number o after e
