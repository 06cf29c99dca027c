-- Files that a change leaves without a name.
use Rattle.std.proofs.Common.{◌≡◌, ◌≢◌, ◌⊎◌, inl, inr, ℕ, ◌||◌, not, Bool, true, false, cond, List, Option, Some, None, refl, sym, ap, ◌∙◌, true≢false}
use Rattle.std.specs.Cmp.{nat_cmp_total}
use Rattle.std.specs.FinMap as map
use Rattle.std.proofs.lemmas.Map.Lookups.{exact_unsigned}
use Rattle.sn_limits.specs.declared.kind.Kind.{Kind}
use Rattle.sn_limits.specs.declared.kind.Kind.TheVariants.{File}
use Rattle.sn_limits.specs.declared.limits.Limits.{Limits}
use Rattle.sn_model.specs.declared.change.Change.{Change}
use Rattle.sn_model.specs.declared.change.Change.TheVariants.{Make, AddLink, Remove, Rename, Write, SetSize, SetAttributes}
use Rattle.sn_model.specs.declared.change.Ownership.{Ownership}
use Rattle.sn_model.specs.declared.link.Link.{Link}
use Rattle.sn_model.specs.Changes.{apply, replaced, take_node}
use Rattle.sn_model.specs.Covers.{IsUnnamed}
use Rattle.sn_model.specs.NameTree.{HasKind}
use Rattle.sn_model.specs.Settling.{OnlyLost, dropped, dropped_if, is_abandoned, is_held, is_nameless, loses}
use Rattle.sn_model.specs.Steps.{with_live}
use Rattle.sn_model.specs.Tree.{Node, Tree, link_to, names_for}
use Rattle.sn_model.specs.World.{World}
use Rattle.sn_model.specs.Worlds.{IsWorld}
use Rattle.sn_model.proofs.ChainLemmas.{and_both, and_left, and_right, not_true, some_same}
use Rattle.sn_model.proofs.DroppedLemmas.{all_held, dropped_same}
use Rattle.sn_model.proofs.KeepLemmas.{vacant_absent}
use Rattle.sn_model.proofs.LinkLemmas.{exact_links, links_total}
use Rattle.sn_model.proofs.MapLemmas.{same_or_apart, get_inserted, get_left, get_other, get_removed}
use Rattle.sn_model.proofs.MoveLemmas.{is_kind, kind_at, some_node}
use Rattle.sn_model.proofs.NameLemmas.{is_unnamed, no_names_for}
use Rattle.sn_model.proofs.OutcomeLemmas.{IsOfOld}
use Rattle.sn_model.proofs.PartLemmas.{IsRenamed, Made, Moved, Unlinked, cut_is, linked_is, made_is, owned_is, removed_is, renamed_is, replaced_is, unlinked_is, written_is}
use Rattle.sn_model.proofs.SettlingLemmas.{get_without, nameless_file, nameless_is, nameless_same}
use Rattle.sn_model.proofs.StayLemmas.{change_stays, file_was}

-- ---- names that a change leaves

-- a number that had a name has one still, or is the one that a name was taken of
abbrev StillNamed : Option ℕ → Tree → ℕ → Type 0
StillNamed lost after n = (lost ≡ Some n) ⊎ ((link : Link) × (map.get after.links link ≡ Some n))

links_same : (tree after : Tree) (lost : Option ℕ) → after.links ≡ tree.links → (link : Link) (n : ℕ) → map.get tree.links link ≡ Some n → StillNamed lost after n
links_same tree after lost e link n f = inr (link, ap (λ links. map.get links link) e ∙ f)

-- one more name
links_more : (tree after : Tree) (lost : Option ℕ) (new : Link) (number : ℕ) → map.get tree.links new ≡ None → after.links ≡ map.insert tree.links new number → (link : Link) (n : ℕ) → map.get tree.links link ≡ Some n → StillNamed lost after n
links_more tree after lost new number vacant e link n f = told (same_or_apart links_total exact_links link new)
  where
    told : (link ≡ new) ⊎ (link ≢ new) → StillNamed lost after n
    told (inl q) = let never : Some n ≡ None = sym f ∙ ap (map.get tree.links) q ∙ vacant in cc
    told (inr q) = inr (link, ap (λ links. map.get links link) e ∙ get_other links_total exact_links tree.links new number link q ∙ f)

-- one name fewer
links_fewer : (tree after : Tree) (old : Link) → after.links ≡ map.remove tree.links old → (link : Link) (n : ℕ) → map.get tree.links link ≡ Some n → StillNamed (map.get tree.links old) after n
links_fewer tree after old e link n f = told (same_or_apart links_total exact_links link old)
  where
    told : (link ≡ old) ⊎ (link ≢ old) → StillNamed (map.get tree.links old) after n
    told (inl q) = inl (ap (map.get tree.links) (sym q) ∙ f)
    told (inr q) = inr (link, ap (λ links. map.get links link) e ∙ get_left links_total exact_links tree.links old link q ∙ f)

unlinked_links : (tree after : Tree) (link : Link) (number : ℕ) (node : Node) → Unlinked tree link number node after → after.links ≡ map.remove tree.links link
unlinked_links tree after link number node (inl p) = ap (λ (t : Tree). t.links) (sym p.gives)
unlinked_links tree after link number node (inr p) = ap (λ (t : Tree). t.links) (sym p.gives)

replaced_links : (tree after : Tree) (new : Link) (moved : Node) (o : Option ℕ) → map.get tree.links new ≡ o → replaced tree new moved o ≡ Some after → (link : Link) (n : ℕ) → map.get tree.links link ≡ Some n → link ≢ new → map.get after.links link ≡ Some n
replaced_links tree after new moved None is e link n f apart = ap (λ (t : Tree). map.get t.links link) (sym (some_same _ _ e)) ∙ f
replaced_links tree after new moved (Some number) is e link n f apart =
    let p = replaced_is tree new moved number after e in
    ap (λ links. map.get links link) (unlinked_links tree after new number p.node (unlinked_is tree new number p.node after p.gone)) ∙ get_left links_total exact_links tree.links new link apart ∙ f

renamed_links : (limits : Limits) (tree after : Tree) (old new : Link) (number : ℕ) (node : Node) → map.get tree.links old ≡ Some number → IsRenamed limits tree old new number node after → (link : Link) (n : ℕ) → map.get tree.links link ≡ Some n → StillNamed (map.get tree.links new) after n
renamed_links limits tree after old new number node named (inl q) link n f = links_same tree after (map.get tree.links new) (ap (λ (t : Tree). t.links) (sym q.1)) link n f
renamed_links limits tree after old new number node named (inr q) link n f = told (same_or_apart links_total exact_links link new) (same_or_apart links_total exact_links link old)
  where
    m : Moved limits tree old new number node after
    m = q.1

    links : (k : Link) → map.get after.links k ≡ map.get (map.insert (map.remove m.cleared.links old) new number) k
    links k = ap (λ (t : Tree). map.get t.links k) (sym m.gives)

    told : (link ≡ new) ⊎ (link ≢ new) → (link ≡ old) ⊎ (link ≢ old) → StillNamed (map.get tree.links new) after n
    told (inl is) either = inl (ap (map.get tree.links) (sym is) ∙ f)
    told (inr apart) (inl is) = inr (new, links new ∙ get_inserted links_total (map.remove m.cleared.links old) new number ∙ sym named ∙ ap (map.get tree.links) (sym is) ∙ f)
    told (inr apart) (inr other) = inr (
      link,
      links link ∙ get_other links_total exact_links (map.remove m.cleared.links old) new number link apart ∙ get_left links_total exact_links m.cleared.links old link other
          ∙ replaced_links tree m.cleared new node (map.get tree.links new) refl m.cleared_is link n f apart,
    )

change_names : (limits : Limits) (change : Change) (tree after : Tree) → apply limits change tree ≡ Some after → (link : Link) (n : ℕ) → map.get tree.links link ≡ Some n → StillNamed (loses change tree) after n
change_names limits (Make directory name number kind o) tree after e =
    let p = made_is limits tree (link_to directory name) number kind o after e in
    links_more tree after None (link_to directory name) number (vacant_absent tree (link_to directory name) p.vacant) (ap (λ (t : Tree). t.links) (sym p.gives))
change_names limits (AddLink directory name number) tree after e =
    let p = linked_is limits tree (link_to directory name) number after e in
    links_more tree after None (link_to directory name) number (vacant_absent tree (link_to directory name) p.vacant) (ap (λ (t : Tree). t.links) (sym p.gives))
change_names limits (Remove directory name) tree after e =
    let link = link_to directory name in
    let p = removed_is tree link after e in
    links_fewer tree after link (unlinked_links tree after link p.number p.node (unlinked_is tree link p.number p.node after p.gone))
change_names limits (Rename old_directory old_name new_directory new_name) tree after e =
    let p = renamed_is limits tree (link_to old_directory old_name) (link_to new_directory new_name) after e in
    renamed_links limits tree after (link_to old_directory old_name) (link_to new_directory new_name) p.number p.node p.named p.done
change_names limits (Write number offset bytes) tree after e = links_same tree after None (ap (λ (t : Tree). t.links) (sym (written_is limits tree number offset bytes after e).gives))
change_names limits (SetSize number size) tree after e = links_same tree after None (ap (λ (t : Tree). t.links) (sym (cut_is limits tree number size after e).gives))
change_names limits (SetAttributes number o) tree after e = links_same tree after None (ap (λ (t : Tree). t.links) (sym (owned_is tree number o after e).gives))

-- a number that a change leaves without a name had none, or lost it
lost_or : (o : Option ℕ) (n : ℕ) → (o ≡ Some n) ⊎ (o ≢ Some n)
lost_or None n = inr (λ e. cc)
lost_or (Some m) n = told (same_or_apart nat_cmp_total exact_unsigned m n)
  where
    told : (m ≡ n) ⊎ (m ≢ n) → (Some m ≡ Some n) ⊎ (Some m ≢ Some n)
    told (inl e) = inl (ap (λ (k : ℕ). Some k) e)
    told (inr apart) = inr (λ e. apart (some_same m n e))

unnamed_or : (limits : Limits) (change : Change) (tree after : Tree) → apply limits change tree ≡ Some after → (n : ℕ) → names_for after n ≡ 0 → (loses change tree ≡ Some n) ⊎ (names_for tree n ≡ 0)
unnamed_or limits change tree after e n none = told (lost_or (loses change tree) n)
  where
    never : loses change tree ≢ Some n → IsUnnamed tree n
    never apart link f = split (change_names limits change tree after e link n f)
      where
        split : StillNamed (loses change tree) after n → ⊥
        split (inl q) = apart q
        split (inr q) = is_unnamed after n none q.0 q.1

    told : (loses change tree ≡ Some n) ⊎ (loses change tree ≢ Some n) → (loses change tree ≡ Some n) ⊎ (names_for tree n ≡ 0)
    told (inl q) = inl q
    told (inr apart) = inr (no_names_for tree n (never apart))

-- ---- files that are abandoned

-- a file that is there, without a name, and that nobody has
pub record IsAbandoned (world : World) (n : ℕ) : Type 0 where
  pub file : HasKind world.live n File
  pub nameless : names_for world.live n ≡ 0
  pub left : is_held world n ≡ false

pub abandoned_is : (world : World) (n : ℕ) → is_abandoned world n ≡ true → IsAbandoned world n
abandoned_is world n e = told (map.get world.live.nodes n) refl
  where
    here : is_nameless world.live n (map.get world.live.nodes n) ≡ true
    here = and_left _ (not (is_held world n)) e

    told : (o : Option Node) → map.get world.live.nodes n ≡ o → IsAbandoned world n
    told None f = absurd (true≢false (sym here ∙ ap (is_nameless world.live n) f))
    told (Some x) f =
        let is = nameless_is world.live n x (ap (is_nameless world.live n) (sym f) ∙ here) in
        record { file = is_kind world.live n x File f is.0; nameless = is.1; left = not_true (is_held world n) (and_right (is_nameless world.live n (map.get world.live.nodes n)) _ e) }

pub is_abandoned_at : (world : World) (n : ℕ) → IsAbandoned world n → is_abandoned world n ≡ true
is_abandoned_at world n a =
    let s = some_node _ File a.file in
    and_both _ _ (ap (is_nameless world.live n) s.1 ∙ nameless_file world.live n s.0 s.2 a.nameless) (ap not a.left)

-- in a world there is none
pub none_abandoned : (limits : Limits) (world : World) → IsWorld limits world → (n : ℕ) → is_abandoned world n ≡ true → ⊥
none_abandoned limits world w n e =
    let a = abandoned_is world n e in
    true≢false (sym (all_held limits world w n a.file a.nameless) ∙ a.left)

pub no_loss : (limits : Limits) (world : World) → IsWorld limits world → OnlyLost world None
no_loss limits world w n e = absurd (none_abandoned limits world w n e)

-- and after a change none but what lost its name
module _ (limits : Limits) (old : World) (after : Tree) (w : IsWorld limits old) where
  lost_by : (change : Change) → apply limits change old.live ≡ Some after → ((n : ℕ) → HasKind after n File → names_for after n ≡ 0 → HasKind old.live n File) → OnlyLost (with_live old after) (loses change old.live)
  lost_by change e was n is = told (unnamed_or limits change old.live after e n a.nameless)
    where
      a : IsAbandoned (with_live old after) n
      a = abandoned_is (with_live old after) n is

      told : (loses change old.live ≡ Some n) ⊎ (names_for old.live n ≡ 0) → loses change old.live ≡ Some n
      told (inl q) = q
      told (inr none) = absurd (true≢false (sym (all_held limits old w n (was n a.file a.nameless) none) ∙ a.left))

  pub done_loss : (change : Change) → IsOfOld change → apply limits change old.live ≡ Some after → OnlyLost (with_live old after) (loses change old.live)
  done_loss change of_old e = lost_by change e (λ n h z. file_was old.live after n (change_stays limits change old.live after of_old e n) h)

  pub made_loss : (directory : ℕ) (name : List ℕ) (number : ℕ) (kind : Kind) (o : Ownership) → apply limits (Make directory name number kind o) old.live ≡ Some after → OnlyLost (with_live old after) None
  made_loss directory name number kind o e = lost_by (Make directory name number kind o) e was
    where
      p : Made limits old.live (link_to directory name) number kind o after
      p = made_is limits old.live (link_to directory name) number kind o after e

      was : (n : ℕ) → HasKind after n File → names_for after n ≡ 0 → HasKind old.live n File
      was n h z = told (same_or_apart nat_cmp_total exact_unsigned n number)
        where
          told : (n ≡ number) ⊎ (n ≢ number) → HasKind old.live n File
          told (inl q) = absurd (is_unnamed after n z (link_to directory name) (ap (λ (t : Tree). map.get t.links (link_to directory name)) (sym p.gives) ∙ get_inserted links_total old.live.links (link_to directory name) number ∙ ap (λ (k : ℕ). Some k) (sym q)))
          told (inr q) = kind_at _ _ File (sym (get_other nat_cmp_total exact_unsigned old.live.nodes number _ n q) ∙ ap (λ (t : Tree). map.get t.nodes n) p.gives) h

-- ---- one after the other

pub none_of_both : (b : Bool) → cond {A = Option Node} b None None ≡ None
none_of_both true = refl
none_of_both false = refl

module _ (world : World) (n : ℕ) where
  abbrev without : World
  without = record world { live = take_node world.live n }

  abbrev left : Tree → ℕ → Option Node → Option Node
  left tree k o = cond (not (is_nameless tree k o) || is_held world k) o None

  -- what is dropped first would be dropped
  without_nodes : is_abandoned world n ≡ true → (k : ℕ) → map.get (dropped without).live.nodes k ≡ map.get (dropped world).live.nodes k
  without_nodes e k = get_without (is_held world) without.live k ∙ told (same_or_apart nat_cmp_total exact_unsigned k n) ∙ sym (get_without (is_held world) world.live k)
    where
      told : (k ≡ n) ⊎ (k ≢ n) → left without.live k (map.get without.live.nodes k) ≡ left world.live k (map.get world.live.nodes k)
      told (inl q) =
          ap (left without.live k) (ap (map.get without.live.nodes) q ∙ get_removed nat_cmp_total world.live.nodes n)
          ∙ none_of_both (not (is_nameless without.live k None) || is_held world k)
          ∙ sym (ap (λ (m : ℕ). left world.live m (map.get world.live.nodes m)) q ∙ ap (λ b. cond (not b || is_held world n) (map.get world.live.nodes n) None) (and_left _ (not (is_held world n)) e)
          ∙ ap (λ b. cond b (map.get world.live.nodes n) None) (abandoned_is world n e).left)
      told (inr q) =
          ap (left without.live k) (get_left nat_cmp_total exact_unsigned world.live.nodes n k q)
          ∙ ap (λ b. cond (not b || is_held world k) (map.get world.live.nodes k) None) (nameless_same without.live world.live k refl (map.get world.live.nodes k))

  pub dropped_once : dropped (dropped_if world n) ≡ dropped world
  dropped_once = told (is_abandoned world n) refl
    where
      told : (b : Bool) → is_abandoned world n ≡ b → dropped (cond b without world) ≡ dropped world
      told true e = let nodes = map.same_map nat_cmp_total exact_unsigned _ _ (without_nodes e) in λ i. record (dropped world) { live = record world.live { nodes = nodes i } }
      told false e = refl

  -- and is no more there to be dropped
  pub still_abandoned : (m : ℕ) → is_abandoned (dropped_if world n) m ≡ true → (is_abandoned world m ≡ true) × (m ≢ n)
  still_abandoned m = told (is_abandoned world n) refl
    where
      told : (b : Bool) → is_abandoned world n ≡ b → is_abandoned (cond b without world) m ≡ true → (is_abandoned world m ≡ true) × (m ≢ n)
      told false e h = (h, λ q. true≢false (sym h ∙ ap (is_abandoned world) q ∙ e))
      told true e h = split (same_or_apart nat_cmp_total exact_unsigned m n)
        where
          a : IsAbandoned without m
          a = abandoned_is without m h

          split : (m ≡ n) ⊎ (m ≢ n) → (is_abandoned world m ≡ true) × (m ≢ n)
          split (inl q) =
              let s = some_node _ File a.file in
              let never : Some s.0 ≡ None = sym s.1 ∙ ap (map.get without.live.nodes) q ∙ get_removed nat_cmp_total world.live.nodes n in
              cc
          split (inr q) = (is_abandoned_at world m (record { file = kind_at _ _ File (sym (get_left nat_cmp_total exact_unsigned world.live.nodes n m q)) a.file; nameless = a.nameless; left = a.left }), q)

-- where nothing is abandoned, nothing is dropped
pub none_dropped : (limits : Limits) (world : World) → ((n : ℕ) → is_abandoned world n ≡ true → ⊥) → dropped world ≡ world
none_dropped limits world none = dropped_same limits world (λ n k z. told n k z (is_held world n) refl)
  where
    told : (n : ℕ) → HasKind world.live n File → names_for world.live n ≡ 0 → (b : Bool) → is_held world n ≡ b → is_held world n ≡ true
    told n k z true e = e
    told n k z false e = absurd (none n (is_abandoned_at world n (record { file = k; nameless = z; left = e })))
