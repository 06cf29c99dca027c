-- Where a name can be moved.
use Rattle.std.proofs.Common.{◌≡◌, ◌≢◌, ℕ, ◌+◌, ◌-◌, Bool, true, false, cond, not, ◌&&◌, ◌==◌, nat_lt, List, Option, Some, None, is_some, IfOk, refl, sym, ap, subst, ◌∙◌, inl, inr, arith, eqb-true, eq-eqb}
use Rattle.std.specs.Prelude.{Result}
use Rattle.std.specs.Option.{option_eq}
use Rattle.std.specs.Cmp.{nat_cmp_total}
use Rattle.std.specs.FinMap as map
use Rattle.std.proofs.lemmas.Bool.{false_from_ne_true, true≢false}
use Rattle.std.proofs.lemmas.Map.Lookups.{exact_unsigned}
use Rattle.sn_limits.specs.declared.kind.Kind.{Kind}
use Rattle.sn_limits.specs.declared.kind.Kind.TheVariants.{File, Directory}
use Rattle.sn_limits.specs.declared.limits.Limits.{Limits}
use Rattle.sn_walk.specs.Views.{is_directory}
use Rattle.sn_model.specs.declared.link.Link.{Link}
use Rattle.sn_model.specs.Chains.{◌>>=◌, only_if}
use Rattle.sn_model.specs.Changes.{directory_at, exchanged, has_room_for, is_at_or_below, is_new_name, moved, put_link, renamed, replaced, same_number, take_link}
use Rattle.sn_model.specs.NameTree.{HasKind, IsHierarchy}
use Rattle.sn_model.specs.Tree.{Node, Tree, link_cmp, link_count, link_to, names_in, names_for}
use Rattle.sn_model.proofs.ChainLemmas.{some_same}
use Rattle.sn_model.proofs.CountLemmas.{count_removed}
use Rattle.sn_model.proofs.LinkLemmas.{exact_links, links_total}
use Rattle.sn_model.proofs.MapLemmas.{get_left, get_was}
use Rattle.sn_model.proofs.MoveLemmas.{is_kind}
use Rattle.sn_model.proofs.NameLemmas.{no_names_for, not_in}
use Rattle.sn_model.proofs.PartLemmas.{replaced_is, Unlinked, unlinked_is}
use Rattle.sn_applies.specs.declared.reads.Standing.{Standing}
use Rattle.sn_applies.specs.Tests.{can_move, gives_way, has_room, is_name_in, leaving, standing_of}
use Rattle.sn_applies.proofs.ReadLemmas.{node_seen, nothing_seen}
use Rattle.sn_applies.proofs.TestLemmas.{replaced_tested, some_only, some_then}

-- the names without one that what is replaced had
abbrev left_by : Tree → Link → Option ℕ → map.FinMap link_cmp ℕ
left_by tree new None = tree.links
left_by tree new (Some number) = map.remove tree.links new

-- what is left when what had the new name has gone
record Cleared (tree : Tree) (new : Link) (target : Option ℕ) (cleared : Tree) : Type 0 where
  pub links : cleared.links ≡ left_by tree new target
  pub place : map.get cleared.nodes new.directory ≡ map.get tree.nodes new.directory

cleared_is : (tree : Tree) (new : Link) (node : Node) (target : Option ℕ) (cleared : Tree) → map.get tree.links new ≡ target → replaced tree new node target ≡ Some cleared → Cleared tree new target cleared
cleared_is tree new node None cleared named e = record { links = ap (λ (t : Tree). t.links) (sym (some_same _ _ e)); place = ap (λ (t : Tree). map.get t.nodes new.directory) (sym (some_same _ _ e)) }
cleared_is tree new node (Some number) cleared named e = let p = replaced_is tree new node number cleared e in told p.node (unlinked_is tree new number p.node cleared p.gone)
  where
    told : (other : Node) → Unlinked tree new number other cleared → Cleared tree new (Some number) cleared
    told other (inl d) = record {
      links = ap (λ (t : Tree). t.links) (sym d.gives);
      place = ap (λ (t : Tree). map.get t.nodes new.directory) (sym d.gives) ∙ get_left nat_cmp_total exact_unsigned tree.nodes number new.directory (not_in tree number (eqb-true (names_in tree number) 0 d.empty) new number named);
    }
    told other (inr n) = record { links = ap (λ (t : Tree). t.links) (sym n.gives); place = ap (λ (t : Tree). map.get t.nodes new.directory) (sym n.gives) }

-- how many names are left where one is taken
names_in_left : (tree : Tree) (link : Link) (number directory : ℕ) → map.get tree.links link ≡ Some number → names_in (take_link tree link) directory + cond (link.directory == directory) 1 0 ≡ names_in tree directory
names_in_left tree link number directory e = count_removed links_total exact_links (λ x. x.0.directory == directory) tree.links link number e

names_for_left : (tree : Tree) (link : Link) (number other : ℕ) → map.get tree.links link ≡ Some number → names_for (take_link tree link) other + cond (number == other) 1 0 ≡ names_for tree other
names_for_left tree link number other e = count_removed links_total exact_links (λ x. x.1 == other) tree.links link number e

itself : (n : ℕ) → ◌≡◌ {A = ℕ} (cond (n == n) 1 0) 1
itself n = ap {B = ℕ} (λ (b : Bool). cond b 1 0) (eq-eqb n n refl)

-- a directory has one name
one_name : (tree : Tree) (link : Link) (number : ℕ) → IsHierarchy tree → HasKind tree number Directory → map.get tree.links link ≡ Some number → names_for tree number ≡ 1
one_name tree link number h k e =
    let none : names_for (take_link tree link) number ≡ 0 = no_names_for (take_link tree link) number (λ l f. let w = get_was links_total exact_links tree.links link l number f in w.0 (h.once l link number k w.1 e)) in
    omega (arith, none, itself number, names_for_left tree link number number e)

-- what is known of a name that is moved, of another object than has the new one
module _ (limits : Limits) (tree : Tree) (old new : Link) (number : ℕ) (target : Option ℕ) (named : map.get tree.links old ≡ Some number) (there : map.get tree.links new ≡ target) (apart : same_number number target ≡ false) where
  names_apart : old ≢ new
  names_apart same =
      let both : target ≡ Some number = sym there ∙ ap (map.get tree.links) (sym same) ∙ named in
      true≢false (sym (ap (same_number number) both ∙ eq-eqb number number refl) ∙ apart)

  -- the names when both are gone
  abbrev left : Tree
  left = record tree { links = map.remove (left_by tree new target) old }

  names_left : names_in left new.directory ≡ names_in tree new.directory - leaving old.directory new.directory target
  names_left = told target there
    where
      told : (t : Option ℕ) → map.get tree.links new ≡ t → names_in (record tree { links = map.remove (left_by tree new t) old }) new.directory ≡ names_in tree new.directory - leaving old.directory new.directory t
      told None e = omega (arith, names_in_left tree old number new.directory named)
      told (Some other) e =
          let still : map.get (take_link tree new).links old ≡ Some number = get_left links_total exact_links tree.links new old names_apart ∙ named in
          omega (arith, itself new.directory, names_in_left tree new other new.directory e, names_in_left (take_link tree new) old number new.directory still)

  links_left : names_for left number ≡ names_for tree number - 1
  links_left = told target there apart
    where
      told : (t : Option ℕ) → map.get tree.links new ≡ t → same_number number t ≡ false → names_for (record tree { links = map.remove (left_by tree new t) old }) number ≡ names_for tree number - 1
      told None e f = omega (arith, itself number, names_for_left tree old number number named)
      told (Some other) e f =
          let still : map.get (take_link tree new).links old ≡ Some number = get_left links_total exact_links tree.links new old names_apart ∙ named in
          let stays : ◌≡◌ {A = ℕ} (cond (other == number) 1 0) 0 = ap {B = ℕ} (λ (b : Bool). cond b 1 0) (turned number other f) in
          omega (arith, itself number, stays, names_for_left tree new other number e, names_for_left (take_link tree new) old number number still)
        where
          turned : (a b : ℕ) → (a == b) ≡ false → (b == a) ≡ false
          turned a b g = false_from_ne_true (b == a) (λ e. true≢false (sym (eq-eqb a b (sym (eqb-true b a e))) ∙ g))

  room_left : (node : Node) (cleared : Tree) → replaced tree new node target ≡ Some cleared → is_some (exchanged limits cleared old new number) ≡ has_room limits tree new.directory (leaving old.directory new.directory target) (names_for tree number - 1)
  room_left node cleared e =
      let c = cleared_is tree new node target cleared there e in
      let in_left : names_in (take_link cleared old) new.directory ≡ names_in tree new.directory - leaving old.directory new.directory target = ap (λ (m : map.FinMap link_cmp ℕ). names_in (record tree { links = map.remove m old }) new.directory) c.links ∙ names_left in
      let for_left : names_for (take_link cleared old) number ≡ names_for tree number - 1 = ap (λ (m : map.FinMap link_cmp ℕ). names_for (record tree { links = map.remove m old }) number) c.links ∙ links_left in
      let same : directory_at (take_link cleared old) new.directory ≡ directory_at tree new.directory = ap (λ (o : Option Node). o >>= (λ x. only_if (is_directory x.kind) >>= (λ _. Some x))) c.place in
      some_then (has_room_for limits (take_link cleared old) new number) (put_link (take_link cleared old) new number)
      ∙ told (directory_at (take_link cleared old) new.directory) (directory_at tree new.directory) same
      ∙ (λ i. is_some (directory_at tree new.directory) && (nat_lt (in_left i) limits.names && nat_lt (for_left i) limits.links))
    where
      told : (a b : Option Node) → a ≡ b → is_some (a >>= (λ _. only_if (nat_lt (names_in (take_link cleared old) new.directory) limits.names && nat_lt (names_for (take_link cleared old) number) limits.links)))
          ≡ (is_some b && (nat_lt (names_in (take_link cleared old) new.directory) limits.names && nat_lt (names_for (take_link cleared old) number) limits.links))
      told None b e = ap (λ o. is_some o && (nat_lt (names_in (take_link cleared old) new.directory) limits.names && nat_lt (names_for (take_link cleared old) number) limits.links)) e
      told (Some x) b e = some_only _ ∙ ap (λ o. is_some o && (nat_lt (names_in (take_link cleared old) new.directory) limits.names && nat_lt (names_for (take_link cleared old) number) limits.links)) e

  -- the tests in the order of the definition
  in_order : (node : Node) → is_some (moved limits tree old new number node)
      ≡ (is_some (directory_at tree new.directory) && (is_new_name tree new number node && (is_some (replaced tree new node target) && has_room limits tree new.directory (leaving old.directory new.directory target) (names_for tree number - 1))))
  in_order node =
      ap (λ (t : Option ℕ). is_some (directory_at tree new.directory >>= (λ _. only_if (is_new_name tree new number node) >>= (λ _. replaced tree new node t >>= (λ cleared. exchanged limits cleared old new number))))) there
      ∙ told (directory_at tree new.directory) (is_new_name tree new number node) (replaced tree new node target) refl
    where
      told : (d : Option Node) (b : Bool) (c : Option Tree) → replaced tree new node target ≡ c → is_some (d >>= (λ _. only_if b >>= (λ _. c >>= (λ cleared. exchanged limits cleared old new number))))
          ≡ (is_some d && (b && (is_some c && has_room limits tree new.directory (leaving old.directory new.directory target) (names_for tree number - 1))))
      told None b c e = refl
      told (Some d) false c e = refl
      told (Some d) true None e = refl
      told (Some d) true (Some cleared) e = room_left node cleared e

  links_of : (node : Node) → IsHierarchy tree → map.get tree.nodes number ≡ Some node → names_for tree number - 1 ≡ link_count node.kind (names_for tree number) - 1
  links_of node h here = told node.kind refl
    where
      told : (kind : Kind) → node.kind ≡ kind → names_for tree number - 1 ≡ link_count kind (names_for tree number) - 1
      told File k = refl
      told Directory k = let one = one_name tree old number h (is_kind tree number node Directory here k) named in omega (arith, one)

  -- the order in which they are made
  reorder : (d n k a g r : Bool) → (d && ((n && not (k && a)) && (g && (d && r)))) ≡ (n && (g && (not (k && (d && a)) && (d && r))))
  reorder true true k a true r = refl
  reorder true true k a false r = told (not (k && a))
    where
      told : (x : Bool) → (x && false) ≡ false
      told true = refl
      told false = refl
  reorder true false k a g r = refl
  reorder false n k a g r = sym (never n g (not (k && false)))
    where
      never : (x y z : Bool) → (x && (y && (z && false))) ≡ false
      never true true true = refl
      never true true false = refl
      never true false z = refl
      never false y z = refl

  pub moved_tested : (node : Node) → IsHierarchy tree → map.get tree.nodes number ≡ Some node
      → is_some (moved limits tree old new number node) ≡ can_move limits tree old.directory new number (record { kind = node.kind; links = link_count node.kind (names_for tree number) }) target
  moved_tested node h here =
      in_order node
      ∙ (λ i. is_some (directory_at tree new.directory) && (is_new_name tree new number node && (replaced_tested tree new node target i && has_room limits tree new.directory (leaving old.directory new.directory target) (links_of node h here i))))
      ∙ reorder (is_some (directory_at tree new.directory)) (is_name_in new) (is_directory node.kind) (is_at_or_below tree number new.directory) (gives_way tree node.kind target)
      (nat_lt (names_in tree new.directory - leaving old.directory new.directory target) limits.names && nat_lt (link_count node.kind (names_for tree number) - 1) limits.links)

-- a name that isn't there can't be moved
pub renamed_none : (limits : Limits) (tree : Tree) (old new : Link) → map.get tree.links old ≡ None → false ≡ is_some (renamed limits tree old new)
unfolding renamed
renamed_none limits tree old new e = sym (ap (λ (o : Option ℕ). is_some (o >>= (λ number. map.get tree.nodes number >>= (λ node. cond (same_number number (map.get tree.links new)) (Some tree) (moved limits tree old new number node))))) e)

-- two numbers are one or two, whichever is first
either : (s t : Bool) → (s ≡ true → t ≡ true) → (t ≡ true → s ≡ true) → s ≡ t
either true t f g = sym (f refl)
either false true f g = g refl
either false false f g = refl

same_option : (number : ℕ) (o : Option ℕ) → option_eq ◌==◌ o (Some number) ≡ same_number number o
same_option number None = refl
same_option number (Some other) = either (other == number) (number == other) (λ e. eq-eqb number other (sym (eqb-true other number e))) (λ e. eq-eqb other number (sym (eqb-true number other e)))

module _ (limits : Limits) (tree : Tree) (old new : Link) (number : ℕ) (named : map.get tree.links old ≡ Some number) where
  -- nor one of nothing
  pub renamed_nothing : standing_of tree number ≡ None → false ≡ is_some (renamed limits tree old new)
  unfolding renamed
  renamed_nothing e =
      sym (ap (λ (o : Option ℕ). is_some (o >>= (λ number. map.get tree.nodes number >>= (λ node. cond (same_number number (map.get tree.links new)) (Some tree) (moved limits tree old new number node))))) named
      ∙ ap (λ (o : Option Node). is_some (o >>= (λ node. cond (same_number number (map.get tree.links new)) (Some tree) (moved limits tree old new number node)))) (nothing_seen tree number e))

  renamed_by : (node : Node) (b : Bool) → map.get tree.nodes number ≡ Some node → same_number number (map.get tree.links new) ≡ b → is_some (renamed limits tree old new) ≡ cond b true (is_some (moved limits tree old new number node))
  unfolding renamed
  renamed_by node b there same =
      ap (λ (o : Option ℕ). is_some (o >>= (λ number. map.get tree.nodes number >>= (λ node. cond (same_number number (map.get tree.links new)) (Some tree) (moved limits tree old new number node))))) named
      ∙ ap (λ (o : Option Node). is_some (o >>= (λ node. cond (same_number number (map.get tree.links new)) (Some tree) (moved limits tree old new number node)))) there
      ∙ ap (λ b. is_some (cond b (Some tree) (moved limits tree old new number node))) same
      ∙ told b
    where
      told : (b : Bool) → is_some (cond b (Some tree) (moved limits tree old new number node)) ≡ cond b true (is_some (moved limits tree old new number node))
      told true = refl
      told false = refl

  module _ (s : Standing) (target : Option ℕ) (seen : standing_of tree number ≡ Some s) (there : map.get tree.links new ≡ target) where
    same_is : (b : Bool) → option_eq ◌==◌ target (Some number) ≡ b → same_number number (map.get tree.links new) ≡ b
    same_is b e = ap (same_number number) there ∙ sym (same_option number target) ∙ e

    -- both names are of one object
    pub renamed_same : option_eq ◌==◌ target (Some number) ≡ true → true ≡ is_some (renamed limits tree old new)
    renamed_same e = let w = node_seen tree number s seen in sym (renamed_by w.0 true w.1 (same_is true e))

    -- the name is moved
    pub renamed_other : IsHierarchy tree → option_eq ◌==◌ target (Some number) ≡ false → can_move limits tree old.directory new number s target ≡ is_some (renamed limits tree old new)
    renamed_other h e =
        let w = node_seen tree number s seen in
        let apart : same_number number target ≡ false = sym (same_option number target) ∙ e in
        sym (renamed_by w.0 false w.1 (same_is false e)
        ∙ moved_tested limits tree old new number target named there apart w.0 h w.1
        ∙ ap (λ (x : Standing). can_move limits tree old.directory new number x target) w.2)

-- what a later tree answers, which shows the same
pub renamed_later : {E : Type 0} (limits : Limits) (tree later : Tree) (from number : ℕ) (old_name : List ℕ) (new : Link) (r : Result Bool E) → later ≡ tree → IsHierarchy tree → map.get tree.links (link_to from old_name) ≡ Some number
    → (IsHierarchy later → (name : List ℕ) → map.get later.links (link_to from name) ≡ Some number → IfOk r (λ b. b ≡ is_some (renamed limits later (link_to from name) new))) → IfOk r (λ b. b ≡ is_some (renamed limits tree (link_to from old_name) new))
renamed_later limits tree later from number old_name new r same h named f =
    subst (λ (t : Tree). IfOk r (λ b. b ≡ is_some (renamed limits t (link_to from old_name) new))) same
    (f (subst IsHierarchy (sym same) h) old_name (subst (λ (t : Tree). map.get t.links (link_to from old_name) ≡ Some number) (sym same) named))
