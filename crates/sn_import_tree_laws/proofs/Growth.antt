-- A tree gets below a number what another has, a name at a time.
use Rattle.std.proofs.Common.{◌≡◌, ◌≢◌, ◌⊎◌, ℕ, true, List, Option, Some, None, is_some, inl, inr, refl, sym, ap, ap₂, subst, ◌∙◌}
use Rattle.std.specs.Prelude.{IsSomeAnd}
use Rattle.std.specs.FinMap as map
use Rattle.sn_limits.specs.declared.kind.Kind.TheVariants.{File, Directory}
use Rattle.sn_model.specs.declared.link.Link.{Link}
use Rattle.sn_model.specs.NameTree.{IsHierarchy}
use Rattle.sn_model.specs.Tree.{Node, Tree, link_to}
use Rattle.sn_model.proofs.LinkLemmas.{exact_links, links_total}
use Rattle.sn_model.proofs.MapLemmas.{same_or_apart}

-- ---- options

pub some_none : {A : Type 0} (o : Option A) (x : A) → o ≡ Some x → o ≡ None → ⊥
some_none None x e f = cc
some_none (Some y) x e f = cc

pub one_value : {A : Type 0} (o : Option A) (x y : A) → o ≡ Some x → o ≡ Some y → x ≡ y
one_value o x y e f = let same : Some x ≡ Some y = sym e ∙ f in cc

pub is_there : {A : Type 0} (o : Option A) (x : A) → o ≡ Some x → is_some o ≡ true
is_there o x e = ap is_some e

-- ---- what was made so far

abbrev pub Numbers : Type 0
Numbers = ℕ → Option ℕ

-- all that a node has but for the rights of a directory, which come last
pub record IsHalf (x y : Node) : Type 0 where
  pub kind : y.kind ≡ x.kind
  pub owner : y.owner ≡ x.owner
  pub group : y.group ≡ x.group
  pub bytes : y.bytes ≡ x.bytes
  pub file : x.kind ≡ File → y ≡ x

pub record HasHalf (one now : Tree) (a b : ℕ) : Type 0 where
  pub x : Node
  pub y : Node
  pub in_one : map.get one.nodes a ≡ Some x
  pub in_now : map.get now.nodes b ≡ Some y
  pub half : IsHalf x y

-- the name that led to a number, in both trees
pub record IsNamed (one now : Tree) (to : Numbers) (m c : ℕ) : Type 0 where
  pub a : ℕ
  pub b : ℕ
  pub name : List ℕ
  pub parent : to a ≡ Some b
  pub was : map.get one.links (link_to a name) ≡ Some m
  pub is : map.get now.links (link_to b name) ≡ Some c

-- what is beside it stays
pub record IsBeside (place : ℕ) (old now : Tree) : Type 0 where
  pub nodes : (n : ℕ) → n ≢ place → is_some (map.get old.nodes n) ≡ true → map.get now.nodes n ≡ map.get old.nodes n
  pub links : (link : Link) → link.directory ≢ place → is_some (map.get old.nodes link.directory) ≡ true → map.get now.links link ≡ map.get old.links link

pub record IsPartial (one : Tree) (top place : ℕ) (old now : Tree) (to : Numbers) : Type 0 where
  pub first : to top ≡ Some place
  pub apart : (a b c : ℕ) → to a ≡ Some c → to b ≡ Some c → a ≡ b
  pub fresh : (a b : ℕ) → to a ≡ Some b → (b ≡ place) ⊎ (map.get old.nodes b ≡ None)
  pub half : (a b : ℕ) → to a ≡ Some b → HasHalf one now a b
  pub back : (a b c : ℕ) (name : List ℕ) → to a ≡ Some b → map.get now.links (link_to b name) ≡ Some c → (m : ℕ) × (map.get one.links (link_to a name) ≡ Some m) × (to m ≡ Some c)
  pub came : (m c : ℕ) → to m ≡ Some c → (m ≡ top) ⊎ IsNamed one now to m c
  pub beside : IsBeside place old now

-- ---- a further name

pub record Grows (now new : Tree) (link : Link) (number : ℕ) : Type 0 where
  pub named : map.get new.links link ≡ Some number
  pub absent : map.get now.links link ≡ None
  pub links : (other : Link) → other ≢ link → map.get new.links other ≡ map.get now.links other
  pub nodes : (n : ℕ) → is_some (map.get now.nodes n) ≡ true → map.get new.nodes n ≡ map.get now.nodes n

-- the number that it leads to is known, or new
pub record Learns (now : Tree) (to new : Numbers) (m number : ℕ) : Type 0 where
  pub still : (a b : ℕ) → to a ≡ Some b → new a ≡ Some b
  pub is : (a b : ℕ) → new a ≡ Some b → ((a ≡ m) × (b ≡ number) × (map.get now.nodes number ≡ None)) ⊎ (to a ≡ Some b)
  pub here : new m ≡ Some number

-- what was there is there
pub link_still : (now new : Tree) (link other : Link) (number n : ℕ) → Grows now new link number → map.get now.links other ≡ Some n → map.get new.links other ≡ Some n
link_still now new link other number n g e =
    g.links other (λ same. some_none (map.get now.links other) n e (ap (map.get now.links) same ∙ g.absent)) ∙ e

-- what is there was there, or is the new name
pub link_was : (now new : Tree) (link other : Link) (number n : ℕ) → Grows now new link number → map.get new.links other ≡ Some n → ((other ≡ link) × (n ≡ number)) ⊎ (map.get now.links other ≡ Some n)
link_was now new link other number n g e = told (same_or_apart links_total exact_links other link)
  where
    told : (other ≡ link) ⊎ (other ≢ link) → ((other ≡ link) × (n ≡ number)) ⊎ (map.get now.links other ≡ Some n)
    told (inl same) = inl (same, one_value (map.get new.links other) n number e (ap (map.get new.links) same ∙ g.named))
    told (inr apart) = inr (sym (g.links other apart) ∙ e)

-- a number without a node is the directory of no name
pub no_directory : (now : Tree) (number n : ℕ) (name : List ℕ) → IsHierarchy now → map.get now.nodes number ≡ None → map.get now.links (link_to number name) ≡ Some n → ⊥
no_directory now number n name whole unused e = subst (λ (o : Option Node). IsSomeAnd o (λ node. node.kind ≡ Directory)) unused (whole.held (link_to number name) n e)

module _ (one : Tree) (top place : ℕ) (old now new : Tree) (to learnt : Numbers) (p b m number : ℕ) (name : List ℕ) (whole : IsHierarchy now) (was : IsPartial one top place old now to) (parent : to p ≡ Some b)
    (in_one : map.get one.links (link_to p name) ≡ Some m) (g : Grows now new (link_to b name) number) (l : Learns now to learnt m number) (made : HasHalf one new m number) where
  -- what is known has a node
  has_node : (a c : ℕ) → to a ≡ Some c → is_some (map.get now.nodes c) ≡ true
  has_node a c e = let h = was.half a c e in is_there (map.get now.nodes c) h.y h.in_now

  not_new : (a : ℕ) → to a ≡ Some number → map.get now.nodes number ≡ None → ⊥
  not_new a e unused = let h = was.half a number e in some_none (map.get now.nodes number) h.y h.in_now unused

  grown_apart : (x y c : ℕ) → learnt x ≡ Some c → learnt y ≡ Some c → x ≡ y
  grown_apart x y c e f = told (l.is x c e) (l.is y c f)
    where
      told : ((x ≡ m) × (c ≡ number) × (map.get now.nodes number ≡ None)) ⊎ (to x ≡ Some c) → ((y ≡ m) × (c ≡ number) × (map.get now.nodes number ≡ None)) ⊎ (to y ≡ Some c) → x ≡ y
      told (inl h) (inl k) = h.0 ∙ sym k.0
      told (inl h) (inr k) = absurd (not_new y (k ∙ ap (λ (n : ℕ). Some n) h.1) h.2)
      told (inr h) (inl k) = absurd (not_new x (h ∙ ap (λ (n : ℕ). Some n) k.1) k.2)
      told (inr h) (inr k) = was.apart x y c h k

  -- a new number wasn't there
  was_unused : map.get now.nodes number ≡ None → map.get old.nodes number ≡ None
  was_unused unused = told (map.get old.nodes number) refl
    where
      other : number ≢ place
      other same = not_new top (was.first ∙ ap (λ (n : ℕ). Some n) (sym same)) unused

      told : (o : Option Node) → map.get old.nodes number ≡ o → map.get old.nodes number ≡ None
      told None e = e
      told (Some x) e = absurd (some_none (map.get old.nodes number) x e (sym (was.beside.nodes number other (is_there (map.get old.nodes number) x e)) ∙ unused))

  grown_fresh : (a c : ℕ) → learnt a ≡ Some c → (c ≡ place) ⊎ (map.get old.nodes c ≡ None)
  grown_fresh a c e = told (l.is a c e)
    where
      told : ((a ≡ m) × (c ≡ number) × (map.get now.nodes number ≡ None)) ⊎ (to a ≡ Some c) → (c ≡ place) ⊎ (map.get old.nodes c ≡ None)
      told (inl h) = inr (ap (map.get old.nodes) h.1 ∙ was_unused h.2)
      told (inr h) = was.fresh a c h

  grown_half : (a c : ℕ) → learnt a ≡ Some c → HasHalf one new a c
  grown_half a c e = told (l.is a c e)
    where
      told : ((a ≡ m) × (c ≡ number) × (map.get now.nodes number ≡ None)) ⊎ (to a ≡ Some c) → HasHalf one new a c
      told (inl h) = record { x = made.x; y = made.y; in_one = ap (map.get one.nodes) h.0 ∙ made.in_one; in_now = ap (map.get new.nodes) h.1 ∙ made.in_now; half = made.half }
      told (inr h) = let k = was.half a c h in record { x = k.x; y = k.y; in_one = k.in_one; in_now = g.nodes c (has_node a c h) ∙ k.in_now; half = k.half }

  grown_back : (a d c : ℕ) (other : List ℕ) → learnt a ≡ Some d → map.get new.links (link_to d other) ≡ Some c → (n : ℕ) × (map.get one.links (link_to a other) ≡ Some n) × (learnt n ≡ Some c)
  grown_back a d c other e f = told (l.is a d e) (link_was now new (link_to b name) (link_to d other) number c g f)
    where
      Found : Type 0
      Found = (n : ℕ) × (map.get one.links (link_to a other) ≡ Some n) × (learnt n ≡ Some c)

      told : ((a ≡ m) × (d ≡ number) × (map.get now.nodes number ≡ None)) ⊎ (to a ≡ Some d) → ((link_to d other ≡ link_to b name) × (c ≡ number)) ⊎ (map.get now.links (link_to d other) ≡ Some c)
          → (n : ℕ) × (map.get one.links (link_to a other) ≡ Some n) × (learnt n ≡ Some c)
      told (inl h) (inl k) = let same : d ≡ b = ap (λ (x : Link). x.directory) k.0 in absurd (not_new p (parent ∙ ap (λ (n : ℕ). Some n) (sym same ∙ h.1)) h.2)
      told (inl h) (inr k) = absurd (no_directory now number c other whole h.2 (ap (λ (n : ℕ). map.get now.links (link_to n other)) (sym h.1) ∙ k))
      told (inr h) (inl k) =
          let same : d ≡ b = ap (λ (x : Link). x.directory) k.0 in
          let text : other ≡ name = ap (λ (x : Link). x.name) k.0 in
          let from : a ≡ p = was.apart a p d h (parent ∙ ap (λ (n : ℕ). Some n) (sym same)) in
          (m, ap₂ (λ (n : ℕ) (t : List ℕ). map.get one.links (link_to n t)) from text ∙ in_one, l.here ∙ ap (λ (n : ℕ). Some n) (sym k.1))
      told (inr h) (inr k) = let q = was.back a d c other h k in (q.0, q.1, l.still q.0 c q.2)

  grown_came : (n c : ℕ) → learnt n ≡ Some c → (n ≡ top) ⊎ IsNamed one new learnt n c
  grown_came n c e = told (l.is n c e)
    where
      known : (n ≡ top) ⊎ IsNamed one now to n c → (n ≡ top) ⊎ IsNamed one new learnt n c
      known (inl h) = inl h
      known (inr h) = inr (record { a = h.a; b = h.b; name = h.name; parent = l.still h.a h.b h.parent; was = h.was; is = link_still now new (link_to b name) (link_to h.b h.name) number c g h.is })

      told : ((n ≡ m) × (c ≡ number) × (map.get now.nodes number ≡ None)) ⊎ (to n ≡ Some c) → (n ≡ top) ⊎ IsNamed one new learnt n c
      told (inl h) = inr (record { a = p; b = b; name = name; parent = l.still p b parent; was = in_one ∙ ap (λ (x : ℕ). Some x) (sym h.0); is = g.named ∙ ap (λ (x : ℕ). Some x) (sym h.1) })
      told (inr h) = known (was.came n c h)

  -- the new name is in a directory that is below
  other_link : (link : Link) → link.directory ≢ place → is_some (map.get old.nodes link.directory) ≡ true → link ≢ link_to b name
  other_link link apart there same = told (was.fresh p b parent)
    where
      here : link.directory ≡ b
      here = ap (λ (x : Link). x.directory) same

      no_some : (o : Option Node) → is_some o ≡ true → o ≡ None → ⊥
      no_some None e f = cc e
      no_some (Some x) e f = cc f

      told : (b ≡ place) ⊎ (map.get old.nodes b ≡ None) → ⊥
      told (inl h) = apart (here ∙ h)
      told (inr h) = no_some (map.get old.nodes link.directory) there (ap (map.get old.nodes) here ∙ h)

  grown_beside : IsBeside place old new
  grown_beside = record {
    nodes = λ n apart there. (let same = was.beside.nodes n apart there in g.nodes n (ap is_some same ∙ there) ∙ same);
    links = λ link apart there. g.links link (other_link link apart there) ∙ was.beside.links link apart there;
  }

  pub grown : IsPartial one top place old new learnt
  grown = record {
    first = l.still top place was.first;
    apart = grown_apart;
    fresh = grown_fresh;
    half = grown_half;
    back = grown_back;
    came = grown_came;
    beside = grown_beside;
  }
