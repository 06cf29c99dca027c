-- Each change keeps nodes within the limits, and names names.
use Rattle.std.proofs.Common.{◌≡◌, ◌≢◌, ℕ, zero, suc, ◌+◌, ◌-◌, ◌<◌, ◌≤◌, ◌^◌, true, false, not, ◌&&◌, nat_lt, nat_le, List, [], ◌∷◌, ◌++◌, length, take, drop, replicate, Option, Some, None, refl, sym, ap, subst, ◌∙◌, ◌⊎◌, inl, inr, arith, codes, ltb-true, leb-true, length-append, length-drop, length-take-le}
use Rattle.std.specs.Prelude.{IfSome}
use Rattle.std.specs.List.{list_all, AllByRecursion}
use Rattle.std.specs.FinMap as map
use Rattle.std.specs.Cmp.{nat_cmp_total}
use Rattle.std.proofs.lemmas.Bool.{true≢false}
use Rattle.std.proofs.lemmas.List.{length-replicate}
use Rattle.std.proofs.lemmas.Map.Lookups.{exact_unsigned}
use Rattle.sn_acl.specs.declared.entries.Entry.{Entry}
use Rattle.sn_acl.specs.AccessList.{IsValid, is_acl}
use Rattle.sn_acl.proofs.Validity.{valid-from_test}
use Rattle.sn_limits.specs.declared.kind.Kind.{Kind}
use Rattle.sn_limits.specs.declared.kind.Kind.TheVariants.{File, Directory}
use Rattle.sn_limits.specs.Names.{is_name}
use Rattle.sn_walk.specs.Views.{is_directory, is_hidden_name}
use Rattle.sn_limits.specs.declared.limits.Limits.{Limits}
use Rattle.sn_model.specs.declared.change.Change.{Change}
use Rattle.sn_model.specs.declared.change.Change.TheVariants.{Make, AddLink, Remove, Rename, Write, SetSize, SetAttributes}
use Rattle.sn_model.specs.declared.change.Ownership.{Ownership}
use Rattle.sn_model.specs.declared.link.Link.{Link}
use Rattle.sn_model.specs.Tree.{Node, Tree, link_to}
use Rattle.sn_model.specs.Changes.{file_at, is_default_acl, is_ownership, is_at_or_below, is_free_number, node_with, put_node, put_link, take_link, take_node, replaced, resized, overwritten, with_bytes, apply}
use Rattle.sn_model.specs.NameTree.{IsNode, HasNodes}
use Rattle.sn_model.proofs.LinkLemmas.{exact_links, links_total}
use Rattle.sn_model.proofs.MapLemmas.{same_or_apart, get_inserted, get_other, get_was}
use Rattle.sn_model.proofs.ChainLemmas.{and_left, and_right, not_true, some_same, some_none}
use Rattle.sn_model.proofs.PartLemmas.{file_is, made_is, linked_is, Unlinked, unlinked_is, removed_is, replaced_is, Renamed, IsRenamed, renamed_is, written_is, cut_is, owned_is}
use Rattle.sn_model.proofs.KeepLemmas.{file_kind, vacant_name, vacant_seen}

abbrev Bytes : List ℕ → Type 0
Bytes bytes = AllByRecursion (λ b. b < 256) bytes

all_append : (xs ys : List ℕ) → Bytes xs → Bytes ys → Bytes (xs ++ ys)
all_append [] ys h k = k
all_append (x ∷ xs) ys h k = (h.0, all_append xs ys h.1 k)

all_take : (n : ℕ) (xs : List ℕ) → Bytes xs → Bytes (take n xs)
all_take zero xs h = tt
all_take (suc n) [] h = tt
all_take (suc n) (x ∷ xs) h = (h.0, all_take n xs h.1)

all_drop : (n : ℕ) (xs : List ℕ) → Bytes xs → Bytes (drop n xs)
all_drop zero xs h = h
all_drop (suc n) [] h = tt
all_drop (suc n) (x ∷ xs) h = all_drop n xs h.1

all_zeros : (n : ℕ) → Bytes (replicate n 0)
all_zeros zero = tt
all_zeros (suc n) = (omega arith, all_zeros n)

all_tested : (xs : List ℕ) → list_all (λ b. nat_lt b 256) xs ≡ true → Bytes xs
all_tested [] e = tt
all_tested (x ∷ xs) e = (ltb-true x 256 (and_left (nat_lt x 256) (list_all (λ b. nat_lt b 256) xs) e), all_tested xs (and_right (nat_lt x 256) _ e))

all_resized : (xs : List ℕ) (n : ℕ) → Bytes xs → Bytes (resized xs n)
all_resized xs n h = all_take n (xs ++ replicate (n - length xs) 0) (all_append xs _ h (all_zeros (n - length xs)))

pub length_resized : (xs : List ℕ) (n : ℕ) → length (resized xs n) ≡ n
length_resized xs n =
    length-take-le n (xs ++ replicate (n - length xs) 0)
    (let a = length-append xs (replicate (n - length xs) 0) in
    let b : length (replicate (n - length xs) 0) ≡ n - length xs = length-replicate (n - length xs) 0 in
    enough (length xs) (length (replicate (n - length xs) 0)) (length (xs ++ replicate (n - length xs) 0)) b a)
  where
    enough : (k r t : ℕ) → r ≡ n - k → t ≡ k + r → n ≤ t
    enough k r t e f = omega arith

length_overwritten : (xs : List ℕ) (at : ℕ) (new : List ℕ) (most : ℕ) → length xs ≤ most → at + length new ≤ most → length (overwritten xs at new) ≤ most
length_overwritten xs at new most h k =
    fits (length (overwritten xs at new)) (length (resized xs at)) (length (new ++ drop (at + length new) xs)) (length (drop (at + length new) xs))
    (length-append (resized xs at) (new ++ drop (at + length new) xs)) (length_resized xs at) (length-append new (drop (at + length new) xs)) (length-drop (at + length new) xs)
  where
    fits : (all a b c : ℕ) → all ≡ a + b → a ≡ at → b ≡ length new + c → c ≡ length xs - (at + length new) → all ≤ most
    fits all a b c e f g i = omega arith

default_is : (kind : Kind) (o : Option (List Entry)) → is_default_acl kind o ≡ true → IfSome o IsValid
default_is kind None e = tt
default_is kind (Some es) e = valid-from_test es (and_right (is_directory kind) (is_acl es) e)

no_default : (kind : Kind) (o : Option (List Entry)) → is_default_acl kind o ≡ true → kind ≡ File → o ≡ None
no_default kind None e k = refl
no_default kind (Some es) e k = absurd (true≢false (sym (and_left (is_directory kind) (is_acl es) e) ∙ ap is_directory k))

-- what a test of an ownership says
record Owns (kind : Kind) (o : Ownership) : Type 0 where
  owner : o.owner < 2 ^ 32
  group : o.group < 2 ^ 32
  acl : IsValid o.acl
  default_acl : IfSome o.default_acl IsValid
  of_file : kind ≡ File → o.default_acl ≡ None

owns : (kind : Kind) (o : Ownership) → is_ownership kind o ≡ true → Owns kind o
owns kind o e =
    let e3 = and_left (nat_lt o.owner (2 ^ 32) && nat_lt o.group (2 ^ 32) && is_acl o.acl) (is_default_acl kind o.default_acl) e in
    let e2 = and_left (nat_lt o.owner (2 ^ 32) && nat_lt o.group (2 ^ 32)) (is_acl o.acl) e3 in
    let last = and_right (nat_lt o.owner (2 ^ 32) && nat_lt o.group (2 ^ 32) && is_acl o.acl) (is_default_acl kind o.default_acl) e in
    record {
      owner = ltb-true o.owner (2 ^ 32) (and_left (nat_lt o.owner (2 ^ 32)) _ e2);
      group = ltb-true o.group (2 ^ 32) (and_right (nat_lt o.owner (2 ^ 32)) _ e2);
      acl = valid-from_test o.acl (and_right (nat_lt o.owner (2 ^ 32) && nat_lt o.group (2 ^ 32)) (is_acl o.acl) e3);
      default_acl = default_is kind o.default_acl last;
      of_file = no_default kind o.default_acl last;
    }

file_not_directory : (kind : Kind) → kind ≡ File → kind ≡ Directory → ⊥
file_not_directory kind e f = let never : File ≡ Directory = sym e ∙ f in cc

module _ (limits : Limits) (tree : Tree) (h : HasNodes limits tree) where
  nodes_put : (n : ℕ) (y : Node) → IsNode limits n y → HasNodes limits (put_node tree n y)
  nodes_put n y k = record {
    nodes = λ m x e. told m x e (same_or_apart nat_cmp_total exact_unsigned m n);
    names = h.names;
    hidden = h.hidden;
  }
    where
      told : (m : ℕ) (x : Node) → map.get (put_node tree n y).nodes m ≡ Some x → (m ≡ n) ⊎ (m ≢ n) → IsNode limits m x
      told m x e (inl q) =
          let both : Some y ≡ Some x = sym (get_inserted nat_cmp_total tree.nodes n y) ∙ ap (map.get (put_node tree n y).nodes) (sym q) ∙ e in
          subst (λ (z : Node). IsNode limits m z) (some_same _ _ both) (subst (λ (j : ℕ). IsNode limits j y) (sym q) k)
      told m x e (inr q) = h.nodes m x (sym (get_other nat_cmp_total exact_unsigned tree.nodes n y m q) ∙ e)

  nodes_name : (link : Link) (n : ℕ) → is_name link.name ≡ true → is_hidden_name link.directory link.name ≡ false → HasNodes limits (put_link tree link n)
  nodes_name link n name seen = record {
    nodes = h.nodes;
    names = λ l m e. told l m e (same_or_apart links_total exact_links l link);
    hidden = get_other links_total exact_links tree.links link n (link_to 2 (codes ".snapshot")) apart ∙ h.hidden;
  }
    where
      told : (l : Link) (m : ℕ) → map.get (put_link tree link n).links l ≡ Some m → (l ≡ link) ⊎ (l ≢ link) → is_name l.name ≡ true
      told l m e (inl q) = ap (λ (j : Link). is_name j.name) q ∙ name
      told l m e (inr q) = h.names l m (sym (get_other links_total exact_links tree.links link n l q) ∙ e)

      apart : link_to 2 (codes ".snapshot") ≢ link
      apart q = true≢false (ap (λ (j : Link). is_hidden_name j.directory j.name) q ∙ seen)

  pub nodes_part : (after : Tree) → ((n : ℕ) (x : Node) → map.get after.nodes n ≡ Some x → map.get tree.nodes n ≡ Some x) → ((l : Link) (n : ℕ) → map.get after.links l ≡ Some n → map.get tree.links l ≡ Some n) → HasNodes limits after
  nodes_part after nodes links = record {
    nodes = λ n x e. h.nodes n x (nodes n x e);
    names = λ l n e. h.names l n (links l n e);
    hidden = told (map.get after.links (link_to 2 (codes ".snapshot"))) refl;
  }
    where
      told : (o : Option ℕ) → map.get after.links (link_to 2 (codes ".snapshot")) ≡ o → map.get after.links (link_to 2 (codes ".snapshot")) ≡ None
      told None e = e
      told (Some n) e = absurd (some_none _ _ (links _ n e) h.hidden)

module _ (limits : Limits) (tree : Tree) (h : HasNodes limits tree) where
  nodes_less : (link : Link) → HasNodes limits (take_link tree link)
  nodes_less link = nodes_part limits tree h (take_link tree link) (λ n x e. e) (λ l n e. (get_was links_total exact_links tree.links link l n e).1)

  nodes_unlinked : (link : Link) (number : ℕ) (node : Node) (after : Tree) → Unlinked tree link number node after → HasNodes limits after
  nodes_unlinked link number node after (inl p) = subst (HasNodes limits) p.gives
      (nodes_part limits tree h (take_node (take_link tree link) number) (λ n x g. (get_was nat_cmp_total exact_unsigned tree.nodes number n x g).1) (λ l n g. (get_was links_total exact_links tree.links link l n g).1))
  nodes_unlinked link number node after (inr p) = subst (HasNodes limits) p.gives (nodes_less link)

  nodes_replaced : (new : Link) (moved : Node) (o : Option ℕ) (after : Tree) → replaced tree new moved o ≡ Some after → HasNodes limits after
  nodes_replaced new moved None after e = subst (HasNodes limits) (some_same _ _ e) h
  nodes_replaced new moved (Some number) after e =
      let p = replaced_is tree new moved number after e in
      nodes_unlinked new number p.node after (unlinked_is tree new number p.node after p.gone)

  -- a new node within the limits
  new_node : (number : ℕ) (kind : Kind) (o : Ownership) → is_free_number limits tree number ≡ true → is_ownership kind o ≡ true → IsNode limits number (node_with kind o [])
  new_node number kind o free fits =
      let bounds = and_left (nat_lt 2 number && nat_le number limits.largest_number) _ free in
      let low : 2 < number = ltb-true 2 number (and_left (nat_lt 2 number) (nat_le number limits.largest_number) bounds) in
      let k = owns kind o fits in
      record {
        first = omega arith;
        within = leb-true number limits.largest_number (and_right (nat_lt 2 number) _ bounds);
        owner = k.owner;
        group = k.group;
        acl = k.acl;
        default_acl = k.default_acl;
        of_file = k.of_file;
        of_directory = λ k. refl;
        bytes = tt;
        size = omega arith;
      }

  -- a file with other bytes
  nodes_bytes : (number : ℕ) (node : Node) (bytes : List ℕ) → file_at tree number ≡ Some node → Bytes bytes → length bytes ≤ limits.largest_file → HasNodes limits (with_bytes tree number node bytes)
  nodes_bytes number node bytes e all few =
      let f = file_is tree number node e in
      let k = h.nodes number node f.0 in
      nodes_put limits tree h number (record node { bytes = bytes }) (record {
        first = k.first;
        within = k.within;
        owner = k.owner;
        group = k.group;
        acl = k.acl;
        default_acl = k.default_acl;
        of_file = k.of_file;
        of_directory = λ d. absurd (file_not_directory node.kind (file_kind node.kind f.1) d);
        bytes = all;
        size = few;
      })

  nodes_owned : (number : ℕ) (o : Ownership) (node : Node) → map.get tree.nodes number ≡ Some node → is_ownership node.kind o ≡ true → HasNodes limits (put_node tree number (node_with node.kind o node.bytes))
  nodes_owned number o node there fits =
      let k = h.nodes number node there in
      let q = owns node.kind o fits in
      nodes_put limits tree h number (node_with node.kind o node.bytes) (record {
        first = k.first;
        within = k.within;
        owner = q.owner;
        group = q.group;
        acl = q.acl;
        default_acl = q.default_acl;
        of_file = q.of_file;
        of_directory = k.of_directory;
        bytes = k.bytes;
        size = k.size;
      })

  nodes_renamed : (old new : Link) (after : Tree) (p : Renamed limits tree old new after) → IsRenamed limits tree old new p.number p.node after → HasNodes limits after
  nodes_renamed old new after p (inl q) = subst (HasNodes limits) q.1 h
  nodes_renamed old new after p (inr q) =
      let m = q.1 in
      let cleared = nodes_replaced new p.node (map.get tree.links new) m.cleared m.cleared_is in
      let left = nodes_part limits m.cleared cleared (take_link m.cleared old) (λ n x e. e) (λ l n e. (get_was links_total exact_links m.cleared.links old l n e).1) in
      let name = and_left (is_name new.name && not (is_hidden_name new.directory new.name)) (not (is_directory p.node.kind && is_at_or_below tree p.number new.directory)) m.name in
      subst (HasNodes limits) m.gives (nodes_name limits (take_link m.cleared old) left new p.number (and_left (is_name new.name) _ name) (not_true _ (and_right (is_name new.name) _ name)))

pub change_nodes : (limits : Limits) (change : Change) (tree after : Tree) → HasNodes limits tree → apply limits change tree ≡ Some after → HasNodes limits after
change_nodes limits (Make directory name number kind o) tree after h e =
    let link = link_to directory name in
    let p = made_is limits tree link number kind o after e in
    let x = node_with kind o [] in
    subst (HasNodes limits) p.gives (nodes_name limits (put_node tree number x) (nodes_put limits tree h number x (new_node limits tree h number kind o p.free p.owned)) link number (vacant_name tree link p.vacant) (vacant_seen tree link p.vacant))
change_nodes limits (AddLink directory name number) tree after h e =
    let link = link_to directory name in
    let p = linked_is limits tree link number after e in
    subst (HasNodes limits) p.gives (nodes_name limits tree h link number (vacant_name tree link p.vacant) (vacant_seen tree link p.vacant))
change_nodes limits (Remove directory name) tree after h e =
    let link = link_to directory name in
    let p = removed_is tree link after e in
    nodes_unlinked limits tree h link p.number p.node after (unlinked_is tree link p.number p.node after p.gone)
change_nodes limits (Rename old_directory old_name new_directory new_name) tree after h e =
    let p = renamed_is limits tree (link_to old_directory old_name) (link_to new_directory new_name) after e in
    nodes_renamed limits tree h (link_to old_directory old_name) (link_to new_directory new_name) after p p.done
change_nodes limits (Write number offset bytes) tree after h e =
    let p = written_is limits tree number offset bytes after e in
    let f = file_is tree number p.node p.file in
    let k = h.nodes number p.node f.0 in
    let two = and_left (nat_lt 0 (length bytes) && nat_le (offset + length bytes) limits.largest_file) (list_all (λ b. nat_lt b 256) bytes) p.fits in
    let end : offset + length bytes ≤ limits.largest_file = leb-true _ _ (and_right (nat_lt 0 (length bytes)) _ two) in
    let new = all_tested bytes (and_right (nat_lt 0 (length bytes) && nat_le (offset + length bytes) limits.largest_file) _ p.fits) in
    subst (HasNodes limits) p.gives (nodes_bytes limits tree h number p.node (overwritten p.node.bytes offset bytes) p.file
    (all_append (resized p.node.bytes offset) _ (all_resized p.node.bytes offset k.bytes) (all_append bytes _ new (all_drop (offset + length bytes) p.node.bytes k.bytes)))
    (length_overwritten p.node.bytes offset bytes limits.largest_file k.size end))
change_nodes limits (SetSize number size) tree after h e =
    let p = cut_is limits tree number size after e in
    let f = file_is tree number p.node p.file in
    let k = h.nodes number p.node f.0 in
    let fits : size ≤ limits.largest_file = leb-true _ _ p.fits in
    subst (HasNodes limits) p.gives (nodes_bytes limits tree h number p.node (resized p.node.bytes size) p.file (all_resized p.node.bytes size k.bytes)
    (omega (arith, fits, length_resized p.node.bytes size)))
change_nodes limits (SetAttributes number o) tree after h e =
    let p = owned_is tree number o after e in
    subst (HasNodes limits) p.gives (nodes_owned limits tree h number o p.node p.there p.fits)
