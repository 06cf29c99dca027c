-- The numbers that a new node can get: the search for one, and what a change leaves taken.
use Rattle.std.proofs.Common.{◌≡◌, ◌≢◌, ◌⊎◌, inl, inr, ℕ, zero, suc, ◌+◌, ◌-◌, ◌<◌, ◌≤◌, Bool, true, false, cond, ◌||◌, ◌==◌, Option, Some, None, Result, Ok, Err, is_some, is_none, min, max, nat_le, refl, sym, ap, subst, ◌∙◌, arith, nat_lt, List, []}
use Rattle.std.specs.Option.{option_or}
use Rattle.std.specs.Ordering.{nat_cmp, eq_by_cmp}
use Rattle.std.specs.Cmp.{nat_cmp_total}
use Rattle.std.specs.FinMap as map
use Rattle.std.proofs.lemmas.Bool.{eq-eqb, lt-leb, ltb-true, ltb-false, true≢false}
use Rattle.std.proofs.lemmas.Map.Lookups.{exact_unsigned}
use Rattle.sn_limits.specs.declared.kind.Kind.{Kind}
use Rattle.sn_limits.specs.declared.kind.Kind.TheVariants.{Directory}
use Rattle.sn_limits.specs.declared.limits.Limits.{Limits}
use Rattle.sn_model.specs.declared.change.Change.{Change}
use Rattle.sn_model.specs.declared.change.Ownership.{Ownership}
use Rattle.sn_model.specs.declared.change.Change.TheVariants.{Make, AddLink, Remove, Rename, Write, SetSize, SetAttributes}
use Rattle.sn_model.specs.declared.link.Link.{Link}
use Rattle.sn_model.specs.Changes.{apply, node_with, replaced, take_node}
use Rattle.sn_model.specs.NameTree.{HasKind}
use Rattle.sn_model.specs.Settling.{loses}
use Rattle.sn_model.specs.Steps.{IsNumber}
use Rattle.sn_model.specs.declared.reply.Errno.TheVariants.{Elimit}
use Rattle.sn_model.specs.declared.reply.Refusal.{Refusal}
use Rattle.sn_model.specs.Tests.{has_room, plain}
use Rattle.sn_model.specs.Tree.{Node, Tree, first_without, least_unused, link_to, names_in}
use Rattle.sn_model.proofs.ChainLemmas.{some_same}
use Rattle.sn_model.proofs.HierarchyLemmas.{least_is_number}
use Rattle.sn_model.proofs.MapLemmas.{same_or_apart, get_inserted, get_left}
use Rattle.sn_model.proofs.MoveLemmas.{some_node}
use Rattle.sn_model.proofs.PartLemmas.{Unlinked, IsRenamed, cut_is, linked_is, made_is, owned_is, removed_is, renamed_is, replaced_is, unlinked_is, written_is}
use Rattle.sn_model.proofs.SearchLemmas.{first_found, is_found, none_without}
use Rattle.sn_number_table.specs.Numbers.{AreTaken, is_taken, next_after, next_number}

-- ---- the search
module _ (tree : Tree) (kept : ℕ → Bool) where
  -- what a search from the next number on passes over is taken, and so is what is below
  pub taken_below : (next end : ℕ) → AreTaken tree kept next → ((k : ℕ) → next ≤ k → k < end → is_taken tree kept k ≡ true) → (k : ℕ) → 2 ≤ k → k < end → is_taken tree kept k ≡ true
  taken_below next end h passed k low high = told (nat_lt k next) refl
    where
      told : (b : Bool) → nat_lt k next ≡ b → is_taken tree kept k ≡ true
      told true e = h.taken k low (ltb-true k next e)
      told false e = passed k (ltb-false k next e) high

  pub next_is : (limits : Limits) (number : ℕ) → ((k : ℕ) → 2 ≤ k → k < number → is_taken tree kept k ≡ true) → is_taken tree kept number ≡ false → 2 ≤ number → number ≤ limits.largest_number → next_number limits tree kept ≡ Some number
  next_is limits number taken free low high =
      let sum : 2 + (number - 2) ≡ number = omega arith in
      let found : first_without (is_taken tree kept) 2 (limits.largest_number - 1) ≡ Some number = first_found (is_taken tree kept) 2 (number - 2) (limits.largest_number - 1) (λ k l h. taken k l (omega (arith, sum))) (ap (is_taken tree kept) sum ∙ free) (omega (arith, sum)) ∙ ap (λ k. Some k) sum in
      rw found refl

  pub next_of_kept : (limits : Limits) (end : ℕ) → ((k : ℕ) → 2 ≤ k → k < end → is_taken tree kept k ≡ true) → limits.largest_number < end → next_number limits tree kept ≡ least_unused limits tree
  next_of_kept limits end taken all =
      let none : first_without (is_taken tree kept) 2 (limits.largest_number - 1) ≡ None = none_without (is_taken tree kept) 2 (limits.largest_number - 1) (λ k low high. taken k low (omega (arith, all))) in
      rw none refl

  free_is_unused : (first more : ℕ) → is_some (first_without (is_taken tree kept) first more) ≡ true → is_some (first_without (λ k. is_some (map.get tree.nodes k)) first more) ≡ true
  unfolding first_without
  free_is_unused first zero e = e
  free_is_unused first (suc more) e = told (free_is_unused (first + 1) more) (is_some (map.get tree.nodes first)) refl e
    where
      told : (is_some (first_without (is_taken tree kept) (first + 1) more) ≡ true → is_some (first_without (λ k. is_some (map.get tree.nodes k)) (first + 1) more) ≡ true) → (b : Bool) → is_some (map.get tree.nodes first) ≡ b
          → is_some (cond (b || kept first) (first_without (is_taken tree kept) (first + 1) more) (Some first)) ≡ true → is_some (cond b (first_without (λ k. is_some (map.get tree.nodes k)) (first + 1) more) (Some first)) ≡ true
      told again true t f = again f
      told again false t f = refl

  -- a number is left where one is unused: what is kept back isn't in use
  pub some_next : (limits : Limits) → is_some (least_unused limits tree) ≡ is_some (next_number limits tree kept)
  unfolding least_unused
  some_next limits = told (first_without (is_taken tree kept) 2 (limits.largest_number - 1)) refl
    where
      told : (o : Option ℕ) → first_without (is_taken tree kept) 2 (limits.largest_number - 1) ≡ o → is_some (first_without (λ k. is_some (map.get tree.nodes k)) 2 (limits.largest_number - 1)) ≡ is_some (option_or o (first_without (λ k. is_some (map.get tree.nodes k)) 2 (limits.largest_number - 1)))
      told None e = refl
      told (Some n) e = free_is_unused 2 (limits.largest_number - 1) (ap is_some e)

-- what is free has no node
no_node : (o : Option Node) (b : Bool) → (is_some o || b) ≡ false → o ≡ None
no_node None b e = refl
no_node (Some x) b e = absurd (true≢false e)

-- the next number is one that a new node can get
pub next_is_number : (limits : Limits) (tree : Tree) (kept : ℕ → Bool) (number : ℕ) → HasKind tree 2 Directory → 1 ≤ limits.largest_number → next_number limits tree kept ≡ Some number → IsNumber limits tree number
next_is_number limits tree kept number kind some e = told (first_without (is_taken tree kept) 2 (limits.largest_number - 1)) refl e
  where
    told : (o : Option ℕ) → first_without (is_taken tree kept) 2 (limits.largest_number - 1) ≡ o → option_or o (least_unused limits tree) ≡ Some number → IsNumber limits tree number
    told None f g = least_is_number limits tree number kind some g
    told (Some n) f g =
        let found = is_found (is_taken tree kept) 2 (limits.largest_number - 1) number (f ∙ g) in
        let unused : map.get tree.nodes number ≡ None = no_node (map.get tree.nodes number) (kept number) found.0 in
        let there = some_node _ Directory kind in
        let apart : number ≢ 2 = (λ same. let never : Some there.0 ≡ None = sym there.1 ∙ ap (map.get tree.nodes) (sym same) ∙ unused in cc) in
        record { first = omega (arith, found.1, apart); within = omega (arith, found.2, some); unused = unused }

-- room is left where a number is, and a place for a name
pub room_is : (limits : Limits) (tree : Tree) (directory : ℕ) → is_some (least_unused limits tree) ≡ true → names_in tree directory < limits.names → has_room limits tree directory ≡ Ok tt
room_is limits tree directory some lt = told (least_unused limits tree) some
  where
    answer : Bool → Bool → Result (Unit {0}) Refusal
    answer none full = cond none (Err (plain Elimit)) (cond full (Err (plain Elimit)) (Ok tt))

    told : (o : Option ℕ) → is_some o ≡ true → answer (is_none o) (nat_le limits.names (names_in tree directory)) ≡ Ok tt
    told None e = cc
    told (Some n) e = let no : nat_le limits.names (names_in tree directory) ≡ false = lt-leb limits.names (names_in tree directory) lt in ap (answer false) no

-- ---- what a change leaves
-- a number keeps its node, or is the one that a name is taken of
abbrev KeepsNode : Tree → Tree → Option ℕ → ℕ → Type 0
KeepsNode tree after lost n = (is_some (map.get after.nodes n) ≡ true) ⊎ (lost ≡ Some n)

abbrev KeepsNodes : Tree → Tree → Option ℕ → Type 0
KeepsNodes tree after lost = (n : ℕ) → is_some (map.get tree.nodes n) ≡ true → KeepsNode tree after lost n

put_keeps : (tree after : Tree) (number : ℕ) (x : Node) (lost : Option ℕ) → map.insert tree.nodes number x ≡ after.nodes → KeepsNodes tree after lost
put_keeps tree after number x lost e n there = inl (ap (λ (m : map.FinMap nat_cmp Node). is_some (map.get m n)) (sym e) ∙ ap is_some (map.get-insert nat_cmp_total tree.nodes number x n) ∙ told (eq_by_cmp nat_cmp n number))
  where
    told : (b : Bool) → is_some (cond b (Some x) (map.get tree.nodes n)) ≡ true
    told true = refl
    told false = there

same_keeps : (tree after : Tree) (lost : Option ℕ) → after.nodes ≡ tree.nodes → KeepsNodes tree after lost
same_keeps tree after lost e n there = inl (ap (λ (m : map.FinMap nat_cmp Node). is_some (map.get m n)) e ∙ there)

gone_keeps : (tree after : Tree) (number : ℕ) → after.nodes ≡ map.remove tree.nodes number → KeepsNodes tree after (Some number)
gone_keeps tree after number e n there = told (same_or_apart nat_cmp_total exact_unsigned n number)
  where
    told : (n ≡ number) ⊎ (n ≢ number) → KeepsNode tree after (Some number) n
    told (inl q) = inr (ap (λ k. Some k) (sym q))
    told (inr q) = inl (ap (λ (m : map.FinMap nat_cmp Node). is_some (map.get m n)) e ∙ ap is_some (get_left nat_cmp_total exact_unsigned tree.nodes number n q) ∙ there)

unlinked_keeps : (tree after : Tree) (link : Link) (number : ℕ) (node : Node) → Unlinked tree link number node after → KeepsNodes tree after (Some number)
unlinked_keeps tree after link number node (inl p) = gone_keeps tree after number (ap (λ (t : Tree). t.nodes) (sym p.gives))
unlinked_keeps tree after link number node (inr p) = same_keeps tree after (Some number) (ap (λ (t : Tree). t.nodes) (sym p.gives))

replaced_keeps : (tree after : Tree) (new : Link) (moved : Node) (o : Option ℕ) → replaced tree new moved o ≡ Some after → KeepsNodes tree after o
replaced_keeps tree after new moved None e = same_keeps tree after None (ap (λ (t : Tree). t.nodes) (sym (some_same _ _ e)))
replaced_keeps tree after new moved (Some number) e =
    let p = replaced_is tree new moved number after e in
    unlinked_keeps tree after new number p.node (unlinked_is tree new number p.node after p.gone)

renamed_keeps : (limits : Limits) (tree after : Tree) (old new : Link) (number : ℕ) (node : Node) → IsRenamed limits tree old new number node after → KeepsNodes tree after (map.get tree.links new)
renamed_keeps limits tree after old new number node (inl q) n there = same_keeps tree after (map.get tree.links new) (ap (λ (t : Tree). t.nodes) (sym q.1)) n there
renamed_keeps limits tree after old new number node (inr q) n there = told (replaced_keeps tree q.1.cleared new node (map.get tree.links new) q.1.cleared_is n there)
  where
    told : KeepsNode tree q.1.cleared (map.get tree.links new) n → KeepsNode tree after (map.get tree.links new) n
    told (inl e) = inl (ap (λ (t : Tree). is_some (map.get t.nodes n)) (sym q.1.gives) ∙ e)
    told (inr e) = inr e

pub change_keeps : (limits : Limits) (change : Change) (tree after : Tree) → apply limits change tree ≡ Some after → KeepsNodes tree after (loses change tree)
change_keeps limits (Make directory name number kind o) tree after e =
    let p = made_is limits tree (link_to directory name) number kind o after e in
    put_keeps tree after number (node_with kind o []) None (ap (λ (t : Tree). t.nodes) p.gives)
change_keeps limits (AddLink directory name number) tree after e =
    same_keeps tree after None (ap (λ (t : Tree). t.nodes) (sym (linked_is limits tree (link_to directory name) number after e).gives))
change_keeps limits (Remove directory name) tree after e =
    let link = link_to directory name in
    let p = removed_is tree link after e in
    subst (KeepsNodes tree after) (sym p.named) (unlinked_keeps tree after link p.number p.node (unlinked_is tree link p.number p.node after p.gone))
change_keeps limits (Rename old_directory old_name new_directory new_name) tree after e =
    let p = renamed_is limits tree (link_to old_directory old_name) (link_to new_directory new_name) after e in
    renamed_keeps limits tree after (link_to old_directory old_name) (link_to new_directory new_name) p.number p.node p.done
change_keeps limits (Write number offset bytes) tree after e =
    let p = written_is limits tree number offset bytes after e in
    put_keeps tree after number _ None (ap (λ (t : Tree). t.nodes) p.gives)
change_keeps limits (SetSize number size) tree after e =
    let p = cut_is limits tree number size after e in
    put_keeps tree after number _ None (ap (λ (t : Tree). t.nodes) p.gives)
change_keeps limits (SetAttributes number o) tree after e =
    let p = owned_is tree number o after e in
    put_keeps tree after number _ None (ap (λ (t : Tree). t.nodes) p.gives)

-- ---- what stays taken
by_node : (a b : Bool) → a ≡ true → (a || b) ≡ true
by_node a b e = rw e refl

by_kept : (a b : Bool) → b ≡ true → (a || b) ≡ true
by_kept true b e = refl
by_kept false b e = e

pub none_taken : (tree : Tree) (kept : ℕ → Bool) → AreTaken tree kept 2
none_taken tree kept = record { low = omega arith; high = omega arith; taken = λ k low high. absurd (omega arith) }

module _ (tree after : Tree) (kept : ℕ → Bool) (next : ℕ) (h : AreTaken tree kept next) where
  -- a number that was taken still is, where it isn't the one that lost its node
  still : (lost : Option ℕ) → KeepsNodes tree after lost → (n : ℕ) → (lost ≡ Some n → is_taken after kept n ≡ true) → is_taken tree kept n ≡ true → is_taken after kept n ≡ true
  still lost keeps n apart was = told (is_some (map.get tree.nodes n)) refl was
    where
      split : KeepsNode tree after lost n → is_taken after kept n ≡ true
      split (inl e) = by_node (is_some (map.get after.nodes n)) (kept n) e
      split (inr e) = apart e

      told : (b : Bool) → is_some (map.get tree.nodes n) ≡ b → (b || kept n) ≡ true → is_taken after kept n ≡ true
      told true e f = split (keeps n e)
      told false e f = by_kept (is_some (map.get after.nodes n)) (kept n) f

  pub taken_after : (lost : Option ℕ) → KeepsNodes tree after lost → AreTaken after kept (next_after after next lost)
  taken_after None keeps = record { low = h.low; high = h.high; taken = λ n low high. still None keeps n (λ e. let never : None ≡ Some n = e in absurd cc) (h.taken n low high) }
  taken_after (Some number) keeps = told (is_some (map.get after.nodes number)) refl
    where
      told : (b : Bool) → is_some (map.get after.nodes number) ≡ b → AreTaken after kept (cond b next (max (min next number) 2))
      told true e = record {
        low = h.low;
        high = h.high;
        taken = λ n low high. still (Some number) keeps n (λ same. by_node (is_some (map.get after.nodes n)) (kept n) (ap (λ k. is_some (map.get after.nodes k)) (sym (some_same _ _ same)) ∙ e)) (h.taken n low high);
      }
      told false e = record {
        low = omega arith;
        high = omega (arith, h.high);
        taken = λ n low high. still (Some number) keeps n (λ same. let q : number ≡ n = some_same _ _ same in absurd (omega (arith, q, low, high))) (h.taken n low (omega (arith, low, high)));
      }

-- the node that is made is there
pub made_there : (limits : Limits) (tree after : Tree) (directory : ℕ) (name : List ℕ) (number : ℕ) (kind : Kind) (o : Ownership) → apply limits (Make directory name number kind o) tree ≡ Some after → is_some (map.get after.nodes number) ≡ true
made_there limits tree after directory name number kind o e =
    let p = made_is limits tree (link_to directory name) number kind o after e in
    ap (λ (t : Tree). is_some (map.get t.nodes number)) (sym p.gives) ∙ ap is_some (get_inserted nat_cmp_total tree.nodes number (node_with kind o []))

pub dropped_keeps : (tree : Tree) (number : ℕ) → KeepsNodes tree (take_node tree number) (Some number)
dropped_keeps tree number = gone_keeps tree (take_node tree number) number refl

-- a number that loses its node, and is kept back
pub taken_closed : (tree : Tree) (kept kept' : ℕ → Bool) (next number : ℕ) → ((n : ℕ) → kept' n ≡ (n == number || kept n)) → AreTaken tree kept next → AreTaken (take_node tree number) kept' next
taken_closed tree kept kept' next number is h = record { low = h.low; high = h.high; taken = λ n low high. told n (h.taken n low high) (same_or_apart nat_cmp_total exact_unsigned n number) }
  where
    left : (n : ℕ) → is_taken tree kept n ≡ true → (b : Bool) → is_some (map.get tree.nodes n) ≡ b → (is_some (map.get tree.nodes n) || kept' n) ≡ true
    left n was true e = by_node _ (kept' n) e
    left n was false e = by_kept (is_some (map.get tree.nodes n)) (kept' n) (is n ∙ by_kept (n == number) (kept n) (sym (ap (λ b. b || kept n) e) ∙ was))

    told : (n : ℕ) → is_taken tree kept n ≡ true → (n ≡ number) ⊎ (n ≢ number) → is_taken (take_node tree number) kept' n ≡ true
    told n was (inl q) = by_kept (is_some (map.get (map.remove tree.nodes number) n)) (kept' n) (is n ∙ by_node (n == number) (kept n) (eq-eqb n number q))
    told n was (inr q) = ap (λ (o : Option Node). is_some o || kept' n) (get_left nat_cmp_total exact_unsigned tree.nodes number n q) ∙ left n was (is_some (map.get tree.nodes n)) refl
