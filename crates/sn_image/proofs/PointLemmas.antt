-- The tree that a root denotes, point by point.
use Rattle.std.proofs.Common.{◌≡◌, ◌≢◌, ℕ, ◌-◌, ◌/◌, ◌<◌, ◌≤◌, ◌&&◌, Bool, true, false, cond, if◌then◌else◌, List, [], ◌∷◌, map, flat_map, Option, Some, None, Contains, suc, refl, sym, ap, ◌∙◌, arith}
use Rattle.std.specs.Prelude.{nat_lt, nat_le}
use Rattle.std.specs.Option.{option_map}
use Rattle.std.specs.Ordering.{nat_cmp, eq_by_cmp}
use Rattle.std.specs.Cmp.{nat_cmp_total, eq_by_cmp_equiv}
use Rattle.std.specs.Str.{bytes_eq}
use Rattle.std.specs.FinMap as fin
use Rattle.std.specs.FinMap.Entries.{find}
use Rattle.std.proofs.lemmas.Bool.{true≢false, leb-true, ltb-true}
use Rattle.std.proofs.lemmas.Slice.Eq.{bytes_eq-Decides}
use Rattle.std.proofs.lemmas.Map.Lookups.{exact_unsigned}
use Rattle.std.proofs.lemmas.Map.Views.{tells_apart}
use Rattle.sn_layout.specs.declared.tree.BlockTree.{BlockTree}
use Rattle.sn_layout_node.specs.Directory.{Link, number_of}
use Rattle.sn_layout_node.specs.declared.inode.Inode.{Inode}
use Rattle.sn_model.specs.declared.link.Link.{Link as TreeLink}
use Rattle.sn_model.specs.Tree.{Node, link_to, link_cmp}
use Rattle.sn_model.proofs.LinkLemmas.{exact_links, links_total}
use Rattle.sn_model.proofs.MapLemmas.{same_or_apart}
use Rattle.sn_ondisk.specs.Trees.{Store}
use Rattle.sn_image.specs.Inodes.{is_number, inode_of, record_at, inode_at}
use Rattle.sn_image.specs.Image.{node_of, node_at, nodes_at, under_number, links_at, image}
use Rattle.sn_image.specs.Names.{names_at, names_under}
use Rattle.sn_image.specs.Reach.{numbers}
use Rattle.sn_image.proofs.ListLemmas.{missed, found_in, range-has, range-from}

-- ---- the numbers that nodes can have

both : (a b : Bool) → (a && b) ≡ true → (a ≡ true) × (b ≡ true)
both true b e = (refl, e)
both false b e = absurd cc

pub number_in : (inodes : BlockTree) (number : ℕ) → is_number inodes number ≡ true → Contains (numbers inodes) number
unfolding numbers
number_in inodes number is =
    let parts = both (nat_le 2 number) (nat_lt number (inodes.size / 128)) is in
    let least = leb-true 2 number parts.0 in
    let most = ltb-true number (inodes.size / 128) parts.1 in
    range-has 2 (inodes.size / 128 - 2) number least (omega (arith, least, most))

pub in_numbers : (inodes : BlockTree) (number : ℕ) → Contains (numbers inodes) number → (2 ≤ number) × (number < inodes.size / 128)
unfolding numbers
in_numbers inodes number among =
    let w = range-from 2 (inodes.size / 128 - 2) number among in
    (w.0, omega (arith, w.0, w.1))

-- what has an inode is one of them
pub used_number : (s : Store) (inodes : BlockTree) (number : ℕ) (inode : Inode) → inode_at s inodes number ≡ Some inode → is_number inodes number ≡ true
unfolding inode_at
used_number s inodes number inode e = told (is_number inodes number) e
  where
    told : (b : Bool) → (if b then inode_of (record_at s inodes number) else None) ≡ Some inode → b ≡ true
    told true is = refl
    told false is = absurd cc

pub used_in : (s : Store) (inodes : BlockTree) (number : ℕ) (inode : Inode) → inode_at s inodes number ≡ Some inode → Contains (numbers inodes) number
used_in s inodes number inode e = number_in inodes number (used_number s inodes number inode e)

-- what an inode gives has one
pub mapped_from : {A B : Type 0} (f : A → B) (o : Option A) (y : B) → option_map f o ≡ Some y → (x : A) × (o ≡ Some x) × (f x ≡ y)
mapped_from f None y e = absurd cc
mapped_from f (Some x) y e = (x, refl, cc)

-- ---- nodes

module _ (s : Store) (inodes : BlockTree) (number : ℕ) where
  self : (v : Option Node) → find nat_cmp number (under_number number v) ≡ v
  self None = refl
  self (Some node) = ap (λ (b : Bool). cond b (Some node) None) ((eq_by_cmp_equiv nat_cmp_total).refl number)

  apart : (n : ℕ) (v : Option Node) → n ≢ number → find nat_cmp number (under_number n v) ≡ None
  apart n None other = refl
  apart n (Some node) other = told (eq_by_cmp nat_cmp number n) refl
    where
      told : (b : Bool) → eq_by_cmp nat_cmp number n ≡ b → cond b (Some node) None ≡ None
      told true e = absurd (other (sym (tells_apart exact_unsigned number n e)))
      told false e = refl

  others : (n : ℕ) → n ≢ number → find nat_cmp number (nodes_at s inodes n) ≡ None
  unfolding nodes_at
  others n other = apart n (node_at s inodes n) other

  here : find nat_cmp number (nodes_at s inodes number) ≡ node_at s inodes number
  unfolding nodes_at
  here = self (node_at s inodes number)

  node_number : (node : Node) → node_at s inodes number ≡ Some node → Contains (numbers inodes) number
  unfolding node_at
  node_number node e = let w = mapped_from (node_of s) (inode_at s inodes number) node e in used_in s inodes number w.0 w.1

  pub node_found : fin.get (image s inodes).nodes number ≡ node_at s inodes number
  unfolding image
  node_found = fin.get-from_entries nat_cmp_total _ number ∙ told (node_at s inodes number) refl
    where
      told : (v : Option Node) → node_at s inodes number ≡ v → find nat_cmp number (flat_map (nodes_at s inodes) (numbers inodes)) ≡ node_at s inodes number
      told None e = missed nat_cmp number (nodes_at s inodes) number others (λ n. same_or_apart nat_cmp_total exact_unsigned n number) (numbers inodes) (here ∙ e) ∙ sym e
      told (Some node) e = found_in nat_cmp number (nodes_at s inodes) number others (λ n. same_or_apart nat_cmp_total exact_unsigned n number) (numbers inodes) node (node_number node e) (here ∙ e) ∙ sym e

-- ---- names

-- two names of one directory are one link where they are the same bytes
same_test : (d : ℕ) (a b : List ℕ) → eq_by_cmp link_cmp (link_to d a) (link_to d b) ≡ bytes_eq b a
same_test d a b = told (eq_by_cmp link_cmp (link_to d a) (link_to d b)) refl (bytes_eq b a) refl
  where
    told : (x : Bool) → eq_by_cmp link_cmp (link_to d a) (link_to d b) ≡ x → (y : Bool) → bytes_eq b a ≡ y → x ≡ y
    told true e true f = refl
    told false e false f = refl
    told true e false f =
        let same : b ≡ a = sym (ap (λ (l : TreeLink). l.name) (tells_apart exact_links (link_to d a) (link_to d b) e)) in
        absurd (true≢false (sym ((bytes_eq-Decides b a).1 same) ∙ f))
    told false e true f =
        let same : b ≡ a = (bytes_eq-Decides b a).0 f in
        absurd (true≢false (sym ((eq_by_cmp_equiv links_total).refl (link_to d a)) ∙ ap (λ (n : List ℕ). eq_by_cmp link_cmp (link_to d a) (link_to d n)) (sym same) ∙ e))

abbrev pub as_links : ℕ → List Link → List (TreeLink × ℕ)
as_links d names = map (λ name. (link_to d name.name, name.number)) names

pub own_names : (d : ℕ) (name : List ℕ) (names : List Link) → find link_cmp (link_to d name) (as_links d names) ≡ number_of name names
own_names d name [] = refl
own_names d name (l ∷ ls) =
    ap (λ (b : Bool). cond b (Some l.number) (find link_cmp (link_to d name) (as_links d ls))) (same_test d name l.name)
    ∙ ap (cond (bytes_eq l.name name) (Some l.number)) (own_names d name ls)

other_names : (d e : ℕ) (name : List ℕ) (names : List Link) → e ≢ d → find link_cmp (link_to d name) (as_links e names) ≡ None
other_names d e name [] other = refl
other_names d e name (l ∷ ls) other = told (eq_by_cmp link_cmp (link_to d name) (link_to e l.name)) refl (other_names d e name ls other)
  where
    told : (b : Bool) → eq_by_cmp link_cmp (link_to d name) (link_to e l.name) ≡ b → find link_cmp (link_to d name) (as_links e ls) ≡ None → cond b (Some l.number) (find link_cmp (link_to d name) (as_links e ls)) ≡ None
    told true is rest = absurd (other (sym (ap (λ (k : TreeLink). k.directory) (tells_apart exact_links (link_to d name) (link_to e l.name) is))))
    told false is rest = rest

-- the number under a name is listed with it
pub number_among : (name : List ℕ) (names : List Link) (number : ℕ) → number_of name names ≡ Some number → Contains names (record { number = number; name = name })
number_among name [] number e = absurd cc
number_among name (l ∷ ls) number e = told (number_among name ls number) (bytes_eq l.name name) refl e
  where
    told : (number_of name ls ≡ Some number → Contains ls (record { number = number; name = name })) → (b : Bool) → bytes_eq l.name name ≡ b → (if b then Some l.number else number_of name ls) ≡ Some number → Contains (l ∷ ls) (record { number = number; name = name })
    told later true is f =
        let one : l.number ≡ number = cc in
        let two : l.name ≡ name = (bytes_eq-Decides l.name name).0 is in
        (0, omega arith, λ i. record { number = one i; name = two i })
    told later false is f = let w = later f in (suc w.0, omega (arith, w.1), w.2)

module _ (s : Store) (inodes : BlockTree) (directory : ℕ) where
  -- a directory that has a name is one of the numbers
  pub named_inode : (name : Link) → Contains (names_at s inodes directory) name → (inode : Inode) × (inode_at s inodes directory ≡ Some inode)
  unfolding names_at
  named_inode name among = told (inode_at s inodes directory) refl among
    where
      told : (o : Option Inode) → inode_at s inodes directory ≡ o → Contains (names_under s o) name → (inode : Inode) × (inode_at s inodes directory ≡ Some inode)
      told None e (k, within, is) = absurd (omega (arith, within))
      told (Some inode) e a = (inode, e)

  module _ (name : List ℕ) where
    own : find link_cmp (link_to directory name) (links_at s inodes directory) ≡ number_of name (names_at s inodes directory)
    unfolding links_at
    own = own_names directory name (names_at s inodes directory)

    pub elsewhere : (n : ℕ) → n ≢ directory → find link_cmp (link_to directory name) (links_at s inodes n) ≡ None
    unfolding links_at
    elsewhere n other = other_names directory n name (names_at s inodes n) other

    pub name_found : fin.get (image s inodes).links (link_to directory name) ≡ number_of name (names_at s inodes directory)
    unfolding image
    name_found = fin.get-from_entries links_total _ (link_to directory name) ∙ told (number_of name (names_at s inodes directory)) refl
      where
        told : (v : Option ℕ) → number_of name (names_at s inodes directory) ≡ v → find link_cmp (link_to directory name) (flat_map (links_at s inodes) (numbers inodes)) ≡ number_of name (names_at s inodes directory)
        told None e = missed link_cmp (link_to directory name) (links_at s inodes) directory elsewhere (λ n. same_or_apart nat_cmp_total exact_unsigned n directory) (numbers inodes) (own ∙ e) ∙ sym e
        told (Some number) e =
            let w = named_inode (record { number = number; name = name }) (number_among name (names_at s inodes directory) number e) in
            found_in link_cmp (link_to directory name) (links_at s inodes) directory elsewhere (λ n. same_or_apart nat_cmp_total exact_unsigned n directory) (numbers inodes) number (used_in s inodes directory w.0 w.1) (own ∙ e) ∙ sym e
