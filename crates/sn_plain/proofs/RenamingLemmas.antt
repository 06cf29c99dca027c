-- A name that is moved, over what is stored.
use Rattle.std.proofs.Common.{◌≡◌, ◌≢◌, ℕ, ◌+◌, ◌-◌, ◌<◌, ◌^◌, Bool, true, false, cond, ◌&&◌, ◌==◌, nat_lt, Option, Some, None, is_some, refl, sym, ap, subst, ◌∙◌, ◌⊎◌, inl, inr, arith, eqb-true, eq-eqb}
use Rattle.std.specs.Option.{option_eq, option_map}
use Rattle.std.specs.Ordering.{nat_cmp, eq_by_cmp}
use Rattle.std.specs.Cmp.{nat_cmp_total, eq_by_cmp_equiv}
use Rattle.std.specs.FinMap as map
use Rattle.std.proofs.lemmas.Bool.{true≢false}
use Rattle.std.proofs.lemmas.Map.Lookups.{exact_unsigned}
use Rattle.sn_limits.specs.declared.kind.Kind.TheVariants as kind
use Rattle.sn_walk.specs.Views.{is_directory}
use Rattle.sn_limits.specs.declared.limits.Limits.{Limits}
use Rattle.sn_model.specs.declared.link.Link.{Link}
use Rattle.sn_model.specs.Tree.{Node, Tree, link_cmp, names_in, names_for}
use Rattle.sn_model.specs.Changes.{directory_at, exchanged, file_at, has_room_for, is_new_name, moved, put_link, removed, renamed, replaced, same_number, take_link, take_node}
use Rattle.sn_model.specs.Chains.{◌>>=◌, only_if}
use Rattle.sn_model.specs.NameTree.{HasKind, IsTree}
use Rattle.sn_model.proofs.ChainLemmas.{some_bind, some_same}
use Rattle.sn_model.proofs.CountLemmas.{count_removed}
use Rattle.sn_model.proofs.LinkLemmas.{exact_links, links_total}
use Rattle.sn_model.proofs.MapLemmas.{same_or_apart, get_inserted, get_other, get_left, get_removed}
use Rattle.sn_model.proofs.NameLemmas.{not_in}
use Rattle.sn_model.proofs.MoveLemmas.{is_kind}
use Rattle.sn_model.proofs.PartLemmas.{directory_is, replaced_is, Replaced, removed_of, unlinked_is, Unlinked}
use Rattle.sn_nodes.specs.declared.nodes.Nodes.{Nodes}
use Rattle.sn_nodes.specs.declared.nodes.StoredNode.{StoredNode}
use Rattle.sn_maps.specs.Maps.{updated}
use Rattle.sn_plain.specs.Moves.{has_room_left, names_left}
use Rattle.sn_nodes.specs.Stored.{counts_of, nodes_of, stored_of, node_of, fewer_at, more_at, recount, under, Recounts}
use Rattle.sn_plain.specs.Stored.{Clears, HasDirectory, IsCounted, IsMovable, Moves}
use Rattle.sn_plain.proofs.CountedLemmas.{Stored, after_loss, was_counted, counted_link, counted_loss, counted_tree, counted_under, counted_unlink}
use Rattle.sn_plain.proofs.MakingLemmas.{directory_removed, file_removed, is_directory_kind, links_kept, names_kept, no_links_left, no_names_left, number_low, only_name, stored_there}
use Rattle.sn_maps.proofs.MapLemmas.{get-updated_each}
use Rattle.sn_nodes.proofs.SeenLemmas.{seen}
use Rattle.sn_nodes.proofs.RecountLemmas.{turned}

-- one name after another directory, over what is stored
module _ (from to number : ℕ) (s0 s1 s2 : Stored) (r : Recounts (fewer_at from) (fewer_at number) s0 s1) (e : s2 ≡ updated s1 number (under to)) where
  abbrev once : ℕ → StoredNode → StoredNode
  once k x = recount (fewer_at from k) (fewer_at number k) x

  abbrev twice : ℕ → StoredNode → StoredNode
  twice k x = cond (eq_by_cmp nat_cmp k number) (under to (once k x)) (once k x)

  at_two : (k : ℕ) (x : StoredNode) → map.get s0 k ≡ Some x → map.get s2 k ≡ Some (twice k x)
  at_two k x g =
      let one : map.get s1 k ≡ Some (once k x) = r k ∙ ap (option_map (once k)) g in
      ap (λ (m : Stored). map.get m k) e ∙ get-updated_each nat_cmp_total exact_unsigned s1 number (under to) k ∙ ap (option_map (λ y. cond (eq_by_cmp nat_cmp k number) (under to y) y)) one

  same_kind : (k : ℕ) (x : StoredNode) → (twice k x).kind ≡ x.kind
  same_kind k x = told (eq_by_cmp nat_cmp k number)
    where
      told : (b : Bool) → (cond b (under to (once k x)) (once k x)).kind ≡ x.kind
      told true = refl
      told false = refl

  below : (x : StoredNode) → (twice number x).counts.parent ≡ to
  below x = ap (λ b. (cond b (under to (once number x)) (once number x)).counts.parent) ((eq_by_cmp_equiv nat_cmp_total).refl number)

  none_two : (k : ℕ) → map.get s0 k ≡ None → map.get s2 k ≡ None
  none_two k g =
      let one : map.get s1 k ≡ None = r k ∙ ap (option_map (once k)) g in
      ap (λ (m : Stored). map.get m k) e ∙ get-updated_each nat_cmp_total exact_unsigned s1 number (under to) k ∙ ap (option_map (λ y. cond (eq_by_cmp nat_cmp k number) (under to y) y)) one

  same_counts : (k : ℕ) (x : StoredNode) → ((twice k x).counts.names ≡ fewer_at from k x.counts.names) × ((twice k x).counts.links ≡ fewer_at number k x.counts.links)
  same_counts k x = told (eq_by_cmp nat_cmp k number)
    where
      told : (b : Bool) → ((cond b (under to (once k x)) (once k x)).counts.names ≡ fewer_at from k x.counts.names) × ((cond b (under to (once k x)) (once k x)).counts.links ≡ fewer_at number k x.counts.links)
      told true = (refl, refl)
      told false = (refl, refl)

  pub names_two : (k : ℕ) → (counts_of (map.get s2 k)).names ≡ fewer_at from k (counts_of (map.get s0 k)).names
  names_two k = told (map.get s0 k) refl
    where
      told : (o : Option StoredNode) → map.get s0 k ≡ o → (counts_of (map.get s2 k)).names ≡ fewer_at from k (counts_of o).names
      told None g = ap (λ (o : Option StoredNode). (counts_of o).names) (none_two k g) ∙ omega arith
      told (Some x) g = ap (λ (o : Option StoredNode). (counts_of o).names) (at_two k x g) ∙ (same_counts k x).0

  pub links_two : (counts_of (map.get s2 number)).links ≡ (counts_of (map.get s0 number)).links - 1
  links_two = told (map.get s0 number) refl
    where
      one : ◌≡◌ {A = ℕ} (cond (number == number) 1 0) 1
      one = ap {B = ℕ} (λ (b : Bool). cond b 1 0) (eq-eqb number number refl)

      told : (o : Option StoredNode) → map.get s0 number ≡ o → (counts_of (map.get s2 number)).links ≡ (counts_of o).links - 1
      told None g = ap (λ (o : Option StoredNode). (counts_of o).links) (none_two number g) ∙ omega arith
      told (Some x) g = ap (λ (o : Option StoredNode). (counts_of o).links) (at_two number x g) ∙ (same_counts number x).1 ∙ ap (λ (n : ℕ). x.counts.links - n) one

  pub moved_counted : (s3 : Stored) → Recounts (more_at to) (more_at number) s2 s3 → Moves from to number s0 s3
  moved_counted s3 q tree first a b h fa fb named absent dir mov =
      let r' : Recounts (fewer_at a.directory) (fewer_at number) s0 s1 = subst (λ (n : ℕ). Recounts (fewer_at n) (fewer_at number) s0 s1) (sym fa) r in
      let q' : Recounts (more_at b.directory) (more_at number) s2 s3 = subst (λ (n : ℕ). Recounts (more_at n) (more_at number) s2 s3) (sym fb) q in
      let h1 = counted_unlink s0 s1 tree first a number r' named h in
      let h2 = counted_under s1 (take_link tree a) first number to alone h1 in
      counted_link s2 s3 (take_link tree a) first b number (twice to dir.0) (twice number mov.0) q' absent
      (ap (map.get s2) fb ∙ at_two to dir.0 dir.1) (same_kind to dir.0 ∙ dir.2) (at_two number mov.0 mov.1) (λ _. below mov.0 ∙ sym fb)
      (subst (λ (m : Stored). IsCounted m (take_link tree a) first) (sym e) h2)
    where
      alone : (s : StoredNode) → map.get s1 number ≡ Some s → s.kind ≡ kind.Directory → names_for (take_link tree a) number ≡ 0
      alone s g d =
          let w = was_counted (once number) (map.get s0 number) s (sym (r number) ∙ g) in
          let both : Some w.0 ≡ Some mov.0 = sym w.1 ∙ mov.1 in
          mov.2 (ap (λ (x : StoredNode). x.kind) (sym (some_same _ _ both)) ∙ ap (λ (x : StoredNode). x.kind) w.2 ∙ d)

-- what is left when what had the new name has gone
pub record Cleared (tree : Tree) (new : Link) (target : Option ℕ) (cleared : Tree) : Type 0 where
  pub absent : map.get cleared.links new ≡ None
  pub links : (link : Link) → link ≢ new → map.get cleared.links link ≡ map.get tree.links link
  pub place : map.get cleared.nodes new.directory ≡ map.get tree.nodes new.directory
  pub nodes : (number : ℕ) → same_number number target ≡ false → map.get cleared.nodes number ≡ map.get tree.nodes number
  pub names_in : names_in cleared new.directory + cond (is_some target) 1 0 ≡ names_in tree new.directory
  pub names_for : (number : ℕ) → same_number number target ≡ false → names_for cleared number ≡ names_for tree number

module _ (tree : Tree) (new : Link) (node : Node) (cleared : Tree) where
  none_cleared : map.get tree.links new ≡ None → replaced tree new node None ≡ Some cleared → Cleared tree new None cleared
  none_cleared named e = subst (Cleared tree new None) (some_same _ _ e) (record {
    absent = named;
    links = λ l q. refl;
    place = refl;
    nodes = λ k q. refl;
    names_in = omega arith;
    names_for = λ k q. refl;
  })

  taken : (number : ℕ) → map.get tree.links new ≡ Some number → cleared.links ≡ map.remove tree.links new → map.get cleared.nodes new.directory ≡ map.get tree.nodes new.directory → ((k : ℕ) → same_number k (Some number) ≡ false → map.get cleared.nodes k ≡ map.get tree.nodes k) → Cleared tree new (Some number) cleared
  taken number named links place nodes = record {
    absent = ap (λ (m : map.FinMap link_cmp ℕ). map.get m new) links ∙ get_removed links_total tree.links new;
    links = λ l q. ap (λ (m : map.FinMap link_cmp ℕ). map.get m l) links ∙ get_left links_total exact_links tree.links new l q;
    place = place;
    nodes = nodes;
    names_in =
        let fewer = count_removed links_total exact_links (λ e. e.0.directory == new.directory) tree.links new number named in
        let one : cond (new.directory == new.directory) 1 0 ≡ 1 = ap {B = ℕ} (λ (b : Bool). cond b 1 0) (eq-eqb new.directory new.directory refl) in
        let same : names_in cleared new.directory ≡ names_in (take_link tree new) new.directory = ap (λ (m : map.FinMap link_cmp ℕ). names_in (record tree { links = m }) new.directory) links in
        omega (arith, fewer, one, same);
    names_for = λ k q.
        let fewer = count_removed links_total exact_links (λ e. e.1 == k) tree.links new number named in
        let other : cond (number == k) 1 0 ≡ 0 = ap {B = ℕ} (λ (b : Bool). cond b 1 0) (sym (turned k number) ∙ q) in
        let same : names_for cleared k ≡ names_for (take_link tree new) k = ap (λ (m : map.FinMap link_cmp ℕ). names_for (record tree { links = m }) k) links in
        omega (arith, fewer, other, same);
  }

  some_cleared : (number : ℕ) → map.get tree.links new ≡ Some number → replaced tree new node (Some number) ≡ Some cleared → Cleared tree new (Some number) cleared
  some_cleared number named e = told (unlinked_is tree new number p.node cleared p.gone)
    where
      p : Replaced tree new node number cleared
      p = replaced_is tree new node number cleared e

      told : Unlinked tree new number p.node cleared → Cleared tree new (Some number) cleared
      told (inl d) =
          let left = λ (k : ℕ) (q : k ≢ number). ap (λ (t : Tree). map.get t.nodes k) (sym d.gives) ∙ get_left nat_cmp_total exact_unsigned tree.nodes number k q in
          taken number named (ap (λ (t : Tree). t.links) (sym d.gives))
          (left new.directory (not_in tree number (eqb-true (names_in tree number) 0 d.empty) new number named))
          (λ k q. left k (λ same. true≢false (sym (eq-eqb k number same) ∙ q)))
      told (inr n) =
          taken number named (ap (λ (t : Tree). t.links) (sym n.gives)) (ap (λ (t : Tree). map.get t.nodes new.directory) (sym n.gives)) (λ k q. ap (λ (t : Tree). map.get t.nodes k) (sym n.gives))

  pub cleared_is : (target : Option ℕ) → map.get tree.links new ≡ target → replaced tree new node target ≡ Some cleared → Cleared tree new target cleared
  cleared_is None named e = none_cleared named e
  cleared_is (Some number) named e = some_cleared number named e

-- a name that is moved is another one
pub names_apart : (tree : Tree) (old new : Link) (number : ℕ) (target : Option ℕ) → map.get tree.links old ≡ Some number → map.get tree.links new ≡ target → same_number number target ≡ false → old ≢ new
names_apart tree old new number target named there apart same =
    let both : target ≡ Some number = sym there ∙ ap (map.get tree.links) (sym same) ∙ named in
    true≢false (sym (ap (same_number number) both ∙ eq-eqb number number refl) ∙ apart)

-- the names that are left when the old one is gone too
module _ (tree : Tree) (old new : Link) (number : ℕ) (target : Option ℕ) (cleared : Tree) (named : map.get tree.links old ≡ Some number) (there : map.get tree.links new ≡ target) (apart : same_number number target ≡ false) (c : Cleared tree new target cleared) where
  still : map.get cleared.links old ≡ Some number
  still = c.links old (names_apart tree old new number target named there apart) ∙ named

  pub names_are_left : names_in (take_link cleared old) new.directory ≡ names_left tree old new target
  names_are_left = omega (arith, c.names_in, count_removed links_total exact_links (λ e. e.0.directory == new.directory) cleared.links old number still)

  pub links_left : names_for (take_link cleared old) number ≡ names_for tree number - 1
  links_left =
      let one : cond (number == number) 1 0 ≡ 1 = ap {B = ℕ} (λ (b : Bool). cond b 1 0) (eq-eqb number number refl) in
      omega (arith, one, c.names_for number apart, count_removed links_total exact_links (λ e. e.1 == number) cleared.links old number still)

  -- the names after the move, in whichever order
  pub links_moved : map.remove (map.insert tree.links new number) old ≡ map.insert (map.remove cleared.links old) new number
  links_moved = map.same_map links_total exact_links _ _ (λ q. told q (same_or_apart links_total exact_links q new) (same_or_apart links_total exact_links q old))
    where
      told : (q : Link) → (q ≡ new) ⊎ (q ≢ new) → (q ≡ old) ⊎ (q ≢ old) → map.get (map.remove (map.insert tree.links new number) old) q ≡ map.get (map.insert (map.remove cleared.links old) new number) q
      told q (inl e) w =
          let away : new ≢ old = λ f. names_apart tree old new number target named there apart (sym f) in
          ap (map.get (map.remove (map.insert tree.links new number) old)) e ∙ get_left links_total exact_links (map.insert tree.links new number) old new away ∙ get_inserted links_total tree.links new number
          ∙ sym (ap (map.get (map.insert (map.remove cleared.links old) new number)) e ∙ get_inserted links_total (map.remove cleared.links old) new number)
      told q (inr e) (inl f) =
          ap (map.get (map.remove (map.insert tree.links new number) old)) f ∙ get_removed links_total (map.insert tree.links new number) old
          ∙ sym (get_other links_total exact_links (map.remove cleared.links old) new number q e ∙ ap (map.get (map.remove cleared.links old)) f ∙ get_removed links_total cleared.links old)
      told q (inr e) (inr f) =
          get_left links_total exact_links (map.insert tree.links new number) old q f ∙ get_other links_total exact_links tree.links new number q e
          ∙ sym (get_other links_total exact_links (map.remove cleared.links old) new number q e ∙ get_left links_total exact_links cleared.links old q f ∙ c.links q e)

-- four tests, one after the other
first_false : (a b c d : Bool) → a ≡ false → (a && (b && (c && d))) ≡ false
first_false a b c d e = ap (λ x. x && (b && (c && d))) e

second_false : (a b c d : Bool) → b ≡ false → (a && (b && (c && d))) ≡ false
second_false true b c d e = ap (λ x. x && (c && d)) e
second_false false b c d e = refl

third_false : (a b c d : Bool) → c ≡ false → (a && (b && (c && d))) ≡ false
third_false true true c d e = ap (λ x. x && d) e
third_false true false c d e = refl
third_false false b c d e = refl

all_true : (a b c d : Bool) → a ≡ true → b ≡ true → c ≡ true → (a && (b && (c && d))) ≡ d
all_true a b c d e f g = λ i. e i && (f i && (g i && d))

-- whether a name can be moved, test by test
module _ (limits : Limits) (tree : Tree) (old new : Link) (number : ℕ) (node : Node) (target : Option ℕ) (named : map.get tree.links old ≡ Some number) (there : map.get tree.links new ≡ target) (apart : same_number number target ≡ false) where
  some_then : {A B : Type 0} (o : Option A) (x : B) → is_some (o >>= (λ _. Some x)) ≡ is_some o
  some_then None x = refl
  some_then (Some y) x = refl

  some_only : (b : Bool) → is_some (only_if b) ≡ b
  some_only true = refl
  some_only false = refl

  room_left : (d : Node) (cleared : Tree) → directory_at tree new.directory ≡ Some d → replaced tree new node target ≡ Some cleared → is_some (exchanged limits cleared old new number) ≡ has_room_left limits tree old new number target
  room_left d cleared g e =
      let c = cleared_is tree new node cleared target there e in
      let same : directory_at (take_link cleared old) new.directory ≡ Some d = ap (λ (o : Option Node). o >>= (λ x. only_if (is_directory x.kind) >>= (λ _. Some x))) c.place ∙ g in
      let test = λ (o : Option Node). is_some (o >>= (λ _. only_if (nat_lt (names_in (take_link cleared old) new.directory) limits.names && nat_lt (names_for (take_link cleared old) number) limits.links))) in
      some_then (has_room_for limits (take_link cleared old) new number) (put_link (take_link cleared old) new number)
      ∙ ap test same
      ∙ some_only _
      ∙ (λ i. nat_lt (names_are_left tree old new number target cleared named there apart c i) limits.names && nat_lt (links_left tree old new number target cleared named there apart c i) limits.links)

  pub moved_tested : is_some (moved limits tree old new number node) ≡ (is_some (directory_at tree new.directory) && (is_new_name tree new number node && (is_some (replaced tree new node target) && has_room_left limits tree old new number target)))
  moved_tested =
      ap (λ (t : Option ℕ). is_some (directory_at tree new.directory >>= (λ _. only_if (is_new_name tree new number node) >>= (λ _. replaced tree new node t >>= (λ cleared. exchanged limits cleared old new number))))) there
      ∙ told (directory_at tree new.directory) refl (is_new_name tree new number node) (replaced tree new node target) refl
    where
      told : (d : Option Node) → directory_at tree new.directory ≡ d → (b : Bool) (c : Option Tree) → replaced tree new node target ≡ c → is_some (d >>= (λ _. only_if b >>= (λ _. c >>= (λ cleared. exchanged limits cleared old new number)))) ≡ (is_some d && (b && (is_some c && has_room_left limits tree old new number target)))
      told None g b c e = refl
      told (Some d) g false c e = refl
      told (Some d) g true None e = refl
      told (Some d) g true (Some cleared) e = room_left d cleared g e

  pub no_directory : is_some (directory_at tree new.directory) ≡ false → false ≡ is_some (moved limits tree old new number node)
  no_directory e = sym (moved_tested ∙ first_false (is_some (directory_at tree new.directory)) (is_new_name tree new number node) (is_some (replaced tree new node target)) (has_room_left limits tree old new number target) e)

  pub no_name : is_new_name tree new number node ≡ false → false ≡ is_some (moved limits tree old new number node)
  no_name e = sym (moved_tested ∙ second_false (is_some (directory_at tree new.directory)) (is_new_name tree new number node) (is_some (replaced tree new node target)) (has_room_left limits tree old new number target) e)

  pub not_replaced : is_some (replaced tree new node target) ≡ false → false ≡ is_some (moved limits tree old new number node)
  not_replaced e = sym (moved_tested ∙ third_false (is_some (directory_at tree new.directory)) (is_new_name tree new number node) (is_some (replaced tree new node target)) (has_room_left limits tree old new number target) e)

  pub room_decides : is_some (directory_at tree new.directory) ≡ true → is_new_name tree new number node ≡ true → is_some (replaced tree new node target) ≡ true → has_room_left limits tree old new number target ≡ is_some (moved limits tree old new number node)
  room_decides e f g = sym (moved_tested ∙ all_true (is_some (directory_at tree new.directory)) (is_new_name tree new number node) (is_some (replaced tree new node target)) (has_room_left limits tree old new number target) e f g)

-- a name that isn't there can't be moved
pub renamed_none : (limits : Limits) (tree : Tree) (old new : Link) → map.get tree.links old ≡ None → renamed limits tree old new ≡ None
unfolding renamed
renamed_none limits tree old new e = ap (λ (o : Option ℕ). o >>= (λ number. map.get tree.nodes number >>= (λ node. cond (same_number number (map.get tree.links new)) (Some tree) (moved limits tree old new number node)))) e

module _ (limits : Limits) (tree : Tree) (old new : Link) (number : ℕ) (node : Node) (named : map.get tree.links old ≡ Some number) (here : map.get tree.nodes number ≡ Some node) where
  pub renamed_by : renamed limits tree old new ≡ cond (same_number number (map.get tree.links new)) (Some tree) (moved limits tree old new number node)
  unfolding renamed
  renamed_by =
      some_bind (map.get tree.links old) (λ number. map.get tree.nodes number >>= (λ node. cond (same_number number (map.get tree.links new)) (Some tree) (moved limits tree old new number node))) number _ named
      (some_bind (map.get tree.nodes number) (λ node. cond (same_number number (map.get tree.links new)) (Some tree) (moved limits tree old new number node)) node _ here refl)

  same_option : (o : Option ℕ) → option_eq ◌==◌ o (Some number) ≡ same_number number o
  same_option None = refl
  same_option (Some other) = turned other number

  pub renamed_if : (b : Bool) → option_eq ◌==◌ (map.get tree.links new) (Some number) ≡ b → same_number number (map.get tree.links new) ≡ b
  renamed_if b e = sym (same_option (map.get tree.links new)) ∙ e

  pub renamed_same : same_number number (map.get tree.links new) ≡ true → renamed limits tree old new ≡ Some tree
  renamed_same e = renamed_by ∙ ap (λ b. cond b (Some tree) (moved limits tree old new number node)) e

  pub renamed_other : same_number number (map.get tree.links new) ≡ false → renamed limits tree old new ≡ moved limits tree old new number node
  renamed_other e = renamed_by ∙ ap (λ b. cond b (Some tree) (moved limits tree old new number node)) e

-- what has the new name goes, over what is stored
module _ (directory number : ℕ) (old one : Nodes) (first : ℕ) (same : nodes_of one ≡ nodes_of old) (r : Recounts (fewer_at directory) (fewer_at number) (stored_of old) (stored_of one)) where
  module _ (l : Limits) (tree cleared : Tree) (link : Link) (node : Node) (whole : IsTree l tree) (here : tree.nodes ≡ nodes_of old) (h : IsCounted (stored_of old) tree first) (place : link.directory ≡ directory) (named : map.get tree.links link ≡ Some number) (e : replaced tree link node (Some number) ≡ Some cleared) where
    p : Replaced tree link node number cleared
    p = replaced_is tree link node number cleared e

    gone : removed tree link ≡ Some cleared
    gone = removed_of tree link cleared (record { number = number; node = p.node; named = named; there = p.there; gone = p.gone })

    can : is_some (removed tree link) ≡ true
    can = ap is_some gone

    counted_one : IsCounted (stored_of one) (take_link tree link) first
    counted_one = counted_unlink (stored_of old) (stored_of one) tree first link number (subst (λ (n : ℕ). Recounts (fewer_at n) (fewer_at number) (stored_of old) (stored_of one)) (sym place) r) named h

    file_is_at : (b : Bool) → ((links : map.FinMap link_cmp ℕ) → is_some (file_at (record { nodes = nodes_of one; links = links }) number) ≡ b) → is_some (file_at tree number) ≡ b
    file_is_at b f = ap (λ (m : map.FinMap nat_cmp Node). is_some (file_at (record { nodes = m; links = tree.links }) number)) (here ∙ sym same) ∙ f tree.links

    file_cleared : is_some (file_at tree number) ≡ true → (cleared.nodes ≡ nodes_of one) × IsCounted (stored_of one) cleared first
    file_cleared f =
        let is : cleared ≡ take_link tree link = some_same _ _ (sym gone ∙ file_removed l tree link number whole named can f) in
        (ap (λ (t : Tree). t.nodes) is ∙ here ∙ sym same, subst (λ (t : Tree). IsCounted (stored_of one) t first) (sym is) counted_one)

    directory_cleared : (two : Nodes) (first' : ℕ) → is_some (file_at tree number) ≡ false → nodes_of two ≡ map.remove (nodes_of one) number → stored_of two ≡ map.remove (stored_of one) number → first' ≡ after_loss first number → (cleared.nodes ≡ nodes_of two) × IsCounted (stored_of two) cleared first'
    directory_cleared two first' f nodes stored after =
        let is : cleared ≡ take_node (take_link tree link) number = some_same _ _ (sym gone ∙ directory_removed l tree link number whole named can f) in
        let low = number_low l tree link number whole named can in
        let lost = counted_loss (stored_of one) (take_link tree link) first number low (no_names_left l tree link number whole named can f) (no_links_left l tree link number whole named can f) counted_one in
        let at_two = subst (λ (m : Stored). IsCounted m (take_link tree link) (after_loss first number)) (sym stored) lost in
        let at_first = subst (IsCounted (stored_of two) (take_link tree link)) (sym after) at_two in (
          ap (λ (t : Tree). t.nodes) is ∙ ap (λ (m : map.FinMap nat_cmp Node). map.remove m number) (here ∙ sym same) ∙ sym nodes,
          subst (λ (t : Tree). IsCounted (stored_of two) t first') (sym is) (counted_tree (stored_of two) (take_link tree link) (take_node (take_link tree link) number) first' refl at_first),
        )

  pub clears_file : ((links : map.FinMap link_cmp ℕ) → is_some (file_at (record { nodes = nodes_of one; links = links }) number) ≡ true) → Clears directory (Some number) old first one first
  clears_file f l tree cleared link node whole here h place named e = file_cleared l tree cleared link node whole here h place named e (file_is_at l tree cleared link node whole here h place named e true f)

  pub clears_directory : (two : Nodes) → ((links : map.FinMap link_cmp ℕ) → is_some (file_at (record { nodes = nodes_of one; links = links }) number) ≡ false) → nodes_of two ≡ map.remove (nodes_of one) number → stored_of two ≡ map.remove (stored_of one) number → (first' : ℕ) → first' ≡ after_loss first number → Clears directory (Some number) old first two first'
  clears_directory two f nodes stored first' after l tree cleared link node whole here h place named e = directory_cleared l tree cleared link node whole here h place named e two first' (file_is_at l tree cleared link node whole here h place named e false f) nodes stored after

-- a name that is moved: what is stored then, and the tree
module _ (limits l : Limits) (tree : Tree) (whole : IsTree l tree) (old new : Link) (number : ℕ) (node : Node) (target : Option ℕ) (named : map.get tree.links old ≡ Some number) (there : map.get tree.links new ≡ target) (apart : same_number number target ≡ false) (here : map.get tree.nodes number ≡ Some node) (can : is_some (moved limits tree old new number node) ≡ true) where
  pub record IsMoved : Type 0 where
    pub directory : Node
    pub parent : directory_at tree new.directory ≡ Some directory
    pub cleared : Tree
    pub gone : replaced tree new node target ≡ Some cleared
    pub gives : moved limits tree old new number node ≡ Some (put_link (take_link cleared old) new number)

  pub parts : IsMoved
  parts = told (directory_at tree new.directory) refl (is_new_name tree new number node) refl (replaced tree new node target) refl (sym (moved_tested limits tree old new number node target named there apart) ∙ can)
    where
      given : moved limits tree old new number node ≡ (directory_at tree new.directory >>= (λ _. only_if (is_new_name tree new number node) >>= (λ _. replaced tree new node target >>= (λ cleared. exchanged limits cleared old new number))))
      given = ap (λ (t : Option ℕ). directory_at tree new.directory >>= (λ _. only_if (is_new_name tree new number node) >>= (λ _. replaced tree new node t >>= (λ cleared. exchanged limits cleared old new number)))) there

      exchange : (cleared : Tree) (o : Option (Unit {0})) → is_some o ≡ true → (o >>= (λ _. Some (put_link (take_link cleared old) new number))) ≡ Some (put_link (take_link cleared old) new number)
      exchange cleared None e = absurd (true≢false (sym e))
      exchange cleared (Some u) e = refl

      told : (d : Option Node) → directory_at tree new.directory ≡ d → (b : Bool) → is_new_name tree new number node ≡ b → (c : Option Tree) → replaced tree new node target ≡ c → (is_some d && (b && (is_some c && has_room_left limits tree old new number target))) ≡ true → IsMoved
      told None g b e c f h = absurd (true≢false (sym h))
      told (Some d) g false e c f h = absurd (true≢false (sym h))
      told (Some d) g true e None f h = absurd (true≢false (sym h))
      told (Some d) g true e (Some cleared) f h =
          let room : is_some (has_room_for limits (take_link cleared old) new number) ≡ true = sym (some_then limits tree old new number node target named there apart (has_room_for limits (take_link cleared old) new number) (put_link (take_link cleared old) new number)) ∙ room_left limits tree old new number node target named there apart d cleared g f ∙ h in
          record {
            directory = d;
            parent = g;
            cleared = cleared;
            gone = f;
            gives =
                given ∙ ap (λ (o : Option Node). o >>= (λ _. only_if (is_new_name tree new number node) >>= (λ _. replaced tree new node target >>= (λ cleared. exchanged limits cleared old new number)))) g
                ∙ ap (λ b. only_if b >>= (λ _. replaced tree new node target >>= (λ cleared. exchanged limits cleared old new number))) e
                ∙ ap (λ (o : Option Tree). o >>= (λ cleared. exchanged limits cleared old new number)) f
                ∙ exchange cleared (has_room_for limits (take_link cleared old) new number) room;
          }

  left : Cleared tree new target parts.cleared
  left = cleared_is tree new node parts.cleared target there parts.gone

  module _ (before after : Nodes) (first first' : ℕ) (same : tree.nodes ≡ nodes_of before) (h : IsCounted (stored_of before) tree first) (c : Clears new.directory target before first after first') where
    cleared_so : (parts.cleared.nodes ≡ nodes_of after) × IsCounted (stored_of after) parts.cleared first'
    cleared_so = c l tree parts.cleared new node whole same h refl there parts.gone

    counted_so : IsCounted (stored_of after) parts.cleared first'
    counted_so = cleared_so.1

    sees : (k : ℕ) → map.get parts.cleared.nodes k ≡ option_map node_of (map.get (stored_of after) k)
    sees k = ap (λ (m : map.FinMap nat_cmp Node). map.get m k) cleared_so.0 ∙ seen after k

    pub names_fit : names_left tree old new target + 1 < 2 ^ 64 → fewer_at old.directory new.directory (counts_of (map.get (stored_of after) new.directory)).names + 1 < 2 ^ 64
    names_fit fit = omega (arith, fit, names_kept (stored_of after) parts.cleared first' counted_so new.directory, left.names_in)

    pub links_fit : names_for tree number - 1 + 1 < 2 ^ 16 → (counts_of (map.get (stored_of after) number)).links - 1 + 1 < 2 ^ 16
    links_fit fit = omega (arith, fit, links_kept (stored_of after) parts.cleared first' counted_so number, left.names_for number apart)

    has_directory : HasDirectory new.directory (stored_of after)
    has_directory =
        let d = directory_is tree new.directory parts.directory parts.parent in
        let s = stored_there (map.get (stored_of after) new.directory) parts.directory (sym (sees new.directory) ∙ left.place ∙ d.0) in
        (s.0, s.1, is_directory_kind s.0.kind (ap (λ (n : Node). is_directory n.kind) s.2 ∙ d.1))

    is_movable : IsMovable (take_link parts.cleared old) number (stored_of after)
    is_movable =
        let s = stored_there (map.get (stored_of after) number) node (sym (sees number) ∙ left.nodes number apart ∙ here) in
        (s.0, s.1, λ k. alone (is_kind tree number node kind.Directory here (sym (ap (λ (n : Node). n.kind) s.2) ∙ k)))
      where
        alone : HasKind tree number kind.Directory → names_for (take_link parts.cleared old) number ≡ 0
        alone k =
            let none = only_name tree old number whole.hierarchy k named in
            let one : ◌≡◌ {A = ℕ} (cond (number == number) 1 0) 1 = ap {B = ℕ} (λ (b : Bool). cond b 1 0) (eq-eqb number number refl) in
            let were = count_removed links_total exact_links (λ e. e.1 == number) tree.links old number named in
            omega (arith, none, one, were, links_left tree old new number target parts.cleared named there apart left)

    pub moved_so : (stored : Stored) → Moves old.directory new.directory number (stored_of after) stored → IsCounted stored (put_link (take_link parts.cleared old) new number) first'
    moved_so stored m =
        let away : new ≢ old = λ f. names_apart tree old new number target named there apart (sym f) in
        m parts.cleared first' old new counted_so refl refl
        (left.links old (names_apart tree old new number target named there apart) ∙ named)
        (get_left links_total exact_links parts.cleared.links old new away ∙ left.absent)
        has_directory is_movable

    pub tree_so : (nodes : map.FinMap nat_cmp Node) (links : map.FinMap link_cmp ℕ) → nodes ≡ nodes_of after → links ≡ map.remove (map.insert tree.links new number) old → moved limits tree old new number node ≡ Some (record { nodes = nodes; links = links })
    tree_so nodes links e f =
        let is_nodes : nodes ≡ parts.cleared.nodes = e ∙ sym cleared_so.0 in
        let is_links : links ≡ map.insert (map.remove parts.cleared.links old) new number = f ∙ links_moved tree old new number target parts.cleared named there apart left in
        parts.gives ∙ (λ i. Some (record { nodes = sym is_nodes i; links = sym is_links i }))

    pub counted_end : (stored : Stored) (nodes : map.FinMap nat_cmp Node) (links : map.FinMap link_cmp ℕ) → Moves old.directory new.directory number (stored_of after) stored → links ≡ map.remove (map.insert tree.links new number) old → IsCounted stored (record { nodes = nodes; links = links }) first'
    counted_end stored nodes links m f = counted_tree stored (put_link (take_link parts.cleared old) new number) (record { nodes = nodes; links = links }) first' (f ∙ links_moved tree old new number target parts.cleared named there apart left) (moved_so stored m)
