-- What changed since a root grows by merging.
use Rattle.std.proofs.Common.{◌≡◌, ℕ, ◌+◌, ◌*◌, ◌≤◌, ◌==◌, Bool, true, if◌then◌else◌, List, Option, None, Some, is_some, refl, sym, ap, subst, ◌∙◌, arith}
use Rattle.std.specs.declared.cmp.Ordering.{Ordering}
use Rattle.std.specs.FinMap as map
use Rattle.std.specs.Ordering.{nat_cmp}
use Rattle.std.specs.Prelude.{IsSomeAnd}
use Rattle.std.proofs.lemmas.Bool.{false≢true}
use Rattle.sn_limits.specs.declared.kind.Kind.{Kind}
use Rattle.sn_limits.specs.declared.kind.Kind.TheVariants.{File, Directory}
use Rattle.sn_limits.specs.declared.limits.Limits.{Limits}
use Rattle.sn_model.specs.declared.change.Change.{Change}
use Rattle.sn_model.specs.Changes.{apply, take_node}
use Rattle.sn_model.specs.Charges.{charge_for}
use Rattle.sn_model.specs.NameTree.{HasKind, IsHierarchy}
use Rattle.sn_model.specs.Settling.{is_nameless, nameless_in}
use Rattle.sn_model.specs.Tree.{Node, Tree, link_cmp, names_for}
use Rattle.sn_overlay.specs.declared.node.NodeChange.{NodeChange}
use Rattle.sn_overlay.specs.declared.node.NodeChange.TheVariants.{Changed}
use Rattle.sn_overlay.specs.Keys.{file_block_cmp}
use Rattle.sn_overlay.specs.Laws.{ChangesArePaid}
use Rattle.sn_overlay.specs.Layers.{Layer, name_seen, through}
use Rattle.sn_overlay.specs.Merges.{merge}
use Rattle.sn_overlay.specs.Needs.{AreCharged, IsPaid, left_nameless, levels, need}
use Rattle.sn_overlay.specs.Overlays.{gone, no_changes}
use Rattle.sn_overlay.specs.Seen.{CountsNames, LiesOver}
use Rattle.sn_overlay.proofs.LiesLemmas.{merges_lie}
use Rattle.sn_overlay.proofs.MergeLemmas.{merge_shows}
use Rattle.sn_overlay.proofs.NeedLemmas.{drops_stay_paid, stays_paid}
use Rattle.sn_overlay_change.specs.ChangeLayers.{layer_of_change}
use Rattle.sn_overlay_change.proofs.ChangeLemmas.{nothing_hidden, plain_none, through_is}
use Rattle.sn_overlay_change.proofs.ChangeWholeLemmas.{changes_are_whole}
use Rattle.sn_overlay_change.proofs.CountLemmas.{changes_need}
use Rattle.sn_overlay_change.proofs.DropLemmas.{drops_lie, drops_show}
use Rattle.sn_overlay_change.proofs.NamelessLemmas.{drops_are_counted, nameless_are_counted}
use Rattle.sn_overlay_change.proofs.NamesLemmas.{changes_count}
use Rattle.sn_overlay_change.proofs.ShownLemmas.{changes_show}
use Rattle.sn_changed.specs.Changed.{HasChanged}

-- ---- nothing

-- an empty map has nothing
empty_has : {K X : Type 0} (R : K → K → Ordering) (q : K) {A : Type 0} (x : X) → map.get (map.empty {R = R}) q ≡ Some x → A
empty_has R q x e = let never : None ≡ Some x = sym (map.get-empty R q) ∙ e in absurd cc

empty_lacks : {K : Type 0} (X : Type 0) (R : K → K → Ordering) (q : K) {A : Type 0} → is_some (map.get {X = X} (map.empty {R = R}) q) ≡ true → A
empty_lacks X R q e = absurd (false≢true (sym (ap is_some (map.get-empty R q)) ∙ e))

through_nothing : (tree : Tree) → through no_changes tree ≡ tree
through_nothing tree =
    let plain = plain_none tree in
    through_is no_changes tree tree plain.nodes (λ q. ap (λ found. name_seen no_changes q found (map.get tree.links q)) (map.get-empty link_cmp q) ∙ nothing_hidden no_changes tree plain.hides q)

nothing_lies : (tree : Tree) → LiesOver no_changes tree
nothing_lies tree = record {
  whole = record {
    names = λ link is. empty_lacks (Option ℕ) link_cmp link is;
    blocks = λ file_block is. empty_lacks (List ℕ) file_block_cmp file_block is;
    lengths = λ file_block bytes is. empty_has file_block_cmp file_block bytes is;
    begins = λ file_block state is of. empty_lacks (List ℕ) file_block_cmp file_block is;
    cuts = λ number state is. empty_has nat_cmp number (Changed state) is;
  };
  fits = record {
    kinds = λ number state is fresh. empty_has nat_cmp number (Changed state) is;
    acls = λ number state is fresh owned. empty_has nat_cmp number (Changed state) is;
    zeros = λ number state index at is within past. empty_has nat_cmp number (Changed state) is;
  };
  counts = record {
    changed = λ number state is. empty_has nat_cmp number (Changed state) is;
    others = λ number is. ap (λ (t : Tree). names_for t number) (through_nothing tree);
  };
}

none_needed : (l n m : ℕ) → n ≡ 0 → m ≡ 0 → (3 + l) * n + l * m + (if n == 0 then 0 else 2) ≡ 0
none_needed l n m no_nodes no_others = (λ i. (3 + l) * no_nodes i + l * no_others i + (if no_nodes i == 0 then 0 else 2)) ∙ omega arith

nothing_needs : (limits : Limits) → need limits no_changes ≡ 0
nothing_needs limits =
    none_needed (levels limits) (map.len no_changes.nodes) (map.len no_changes.names + map.len no_changes.blocks) (map.len-empty nat_cmp NodeChange)
    (omega (arith, map.len-empty link_cmp (Option ℕ), map.len-empty file_block_cmp (List ℕ)))

pub nothing_changed : (limits : Limits) (root : Tree) → HasChanged limits no_changes root root 0
nothing_changed limits root = record { lies = nothing_lies root; shows = through_nothing root; paid = omega (arith, nothing_needs limits) }

-- ---- a change

change_lies : (limits : Limits) (change : Change) (live after : Tree) → IsHierarchy live → apply limits change live ≡ Some after → LiesOver (layer_of_change live change) live
change_lies limits change live after hierarchy made =
    let whole = changes_are_whole limits change live after hierarchy made in
    record {
      whole = whole.0;
      fits = whole.1;
      counts = subst (CountsNames (layer_of_change live change) live) (sym (changes_show limits change live after hierarchy made)) (changes_count limits change live after hierarchy made);
    }

-- a layer that lies over the live tree is merged
module _ (layer added : Layer) (root live after : Tree) (lies : LiesOver layer root) (shows : through layer root ≡ live) (over : LiesOver added live) (makes : through added live ≡ after) where
  lies_there : LiesOver added (through layer root)
  lies_there = subst (LiesOver added) (sym shows) over

  both_lie : LiesOver (merge layer added) root
  both_lie = merges_lie layer added root lies lies_there

  both_show : through (merge layer added) root ≡ after
  both_show = merge_shows layer added lies.whole over.whole root lies.fits lies_there.fits ∙ ap (through added) shows ∙ makes

pub changes_merge : ChangesArePaid → (limits : Limits) (layer : Layer) (root live after : Tree) (charged : ℕ) (change : Change) → AreCharged limits → IsHierarchy live → HasChanged limits layer root live charged → apply limits change live ≡ Some after
    → HasChanged limits (merge layer (layer_of_change live change)) root after (charged + charge_for limits live change)
changes_merge are_paid limits layer root live after charged change figures hierarchy is made =
    let added = layer_of_change live change in
    let over = change_lies limits change live after hierarchy made in
    let makes = changes_show limits change live after hierarchy made in
    let pays : need limits added + limits.inode_charge * left_nameless live change ≤ charge_for limits live change = omega (arith, changes_need limits live change, are_paid limits live change figures) in
    record {
      lies = both_lie layer added root live after is.lies is.shows over makes;
      shows = both_show layer added root live after is.lies is.shows over makes;
      paid = stays_paid limits layer added (nameless_in root) (nameless_in live) (nameless_in after) (left_nameless live change) charged (charge_for limits live change) is.paid pays (nameless_are_counted limits change live after hierarchy made);
    }

-- ---- a file that is dropped

is_file : (live : Tree) (number : ℕ) → is_nameless live number (map.get live.nodes number) ≡ true → HasKind live number File
is_file live number is = told (map.get live.nodes number) is
  where
    of_kind : (node : Node) (kind : Kind) → node.kind ≡ kind → is_nameless live number (Some (record node { kind = kind })) ≡ true → node.kind ≡ File
    of_kind node File e h = e
    of_kind node Directory e h = absurd (false≢true h)

    told : (found : Option Node) → is_nameless live number found ≡ true → IsSomeAnd found (λ node. node.kind ≡ File)
    told None h = absurd (false≢true h)
    told (Some node) h = of_kind node node.kind refl h

pub drops_merge : (limits : Limits) (layer : Layer) (root live : Tree) (charged number : ℕ) (by_close : Bool) → AreCharged limits → IsHierarchy live → HasChanged limits layer root live charged → is_nameless live number (map.get live.nodes number) ≡ true
    → HasChanged limits (merge layer (gone number by_close)) root (take_node live number) charged
drops_merge limits layer root live charged number by_close figures hierarchy is nameless =
    let file = is_file live number nameless in
    let over = drops_lie number by_close live hierarchy file in
    let makes = drops_show number by_close live hierarchy file in
    let one_less = drops_are_counted live number nameless in
    record {
      lies = both_lie layer (gone number by_close) root live (take_node live number) is.lies is.shows over makes;
      shows = both_show layer (gone number by_close) root live (take_node live number) is.lies is.shows over makes;
      paid = drops_stay_paid limits layer number by_close (nameless_in root) (nameless_in (take_node live number)) charged figures (subst (λ (n : ℕ). IsPaid limits layer (nameless_in root) n charged) (sym one_less) is.paid);
    }

-- ---- a point

pub builds_fit : (limits : Limits) (layer : Layer) (root live : Tree) (charged free : ℕ) → HasChanged limits layer root live charged → charged + limits.inode_charge * nameless_in root ≤ free
    → need limits layer + limits.inode_charge * nameless_in live ≤ free
builds_fit limits layer root live charged free is fits = omega (arith, is.paid, fits)
