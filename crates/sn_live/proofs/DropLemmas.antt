-- A file of a live tree that is dropped.
use Rattle.std.proofs.Common.{◌≡◌, ℕ, ◌-◌, ◌==◌, ◌&&◌, not, Bool, true, List, Option, Some, None, refl, sym, ap, subst, ◌∙◌, arith}
use Rattle.std.specs.Cmp.{nat_cmp_total}
use Rattle.std.specs.FinMap as map
use Rattle.std.proofs.lemmas.Bool.{true≢false}
use Rattle.std.proofs.lemmas.Map.Lookups.{exact_unsigned}
use Rattle.sn_directories.specs.Told.{IsShown, TellsDirectories}
use Rattle.sn_directories.specs.declared.table.Counted.{Counted}
use Rattle.sn_directories.proofs.TellLemmas.{renoded}
use Rattle.sn_limits.specs.Versions.{limits_written}
use Rattle.sn_limits.specs.declared.kind.Kind.TheVariants.{File, Directory}
use Rattle.sn_live.specs.Live.{IsLive, ShowsNameless, changes_of, point_of, shown_of}
use Rattle.sn_live.specs.declared.live.LiveTree.{LiveTree}
use Rattle.sn_model.specs.Changes.{take_node}
use Rattle.sn_model.specs.NameTree.{HasKind, IsTree}
use Rattle.sn_model.specs.Settling.{is_nameless, nameless_in}
use Rattle.sn_model.specs.Tree.{Node, Tree, names_for}
use Rattle.sn_model.proofs.FewLemmas.{few_same}
use Rattle.sn_model.proofs.MapLemmas.{get_left, get_removed, get_was}
use Rattle.sn_model.proofs.MoveLemmas.{hierarchy_gone, is_kind, not_directory, some_node}
use Rattle.sn_model.proofs.NameLemmas.{is_unnamed}
use Rattle.sn_model.proofs.NodeLemmas.{nodes_part}
use Rattle.sn_model.proofs.SettlingLemmas.{nameless_is}
use Rattle.sn_number_table.specs.Nameless.{TellsNameless, is_listed}
use Rattle.sn_number_table.specs.declared.nameless.NamelessFiles.{NamelessFiles}
use Rattle.sn_number_table.specs.Table.{TellsNumbers}
use Rattle.sn_number_table.specs.declared.table.NumberTable.{NumberTable}
use Rattle.sn_overlay.specs.Layers.{Layer, through}
use Rattle.sn_overlay.specs.Merges.{merge}
use Rattle.sn_overlay.specs.Overlays.{gone, layer_of}
use Rattle.sn_overlay.specs.Seen.{LiesOver}
use Rattle.sn_overlay.specs.declared.overlay.Overlay.{Overlay}
use Rattle.sn_overlay.proofs.LiesLemmas.{merges_lie}
use Rattle.sn_overlay.proofs.MergeLemmas.{merge_shows}
use Rattle.sn_overlay_change.proofs.DropLemmas.{drops_lie, drops_show}
use Rattle.sn_overlay_change.proofs.NamelessLemmas.{drops_are_counted}
use Rattle.sn_live.proofs.BareLemmas.{bare_at, cleared_bare}

-- ---- a name tree without one of its files without names

-- a file without names
record IsBare (tree : Tree) (number : ℕ) : Type 0 where
  node : Node
  there : map.get tree.nodes number ≡ Some node
  file : node.kind ≡ File
  none : names_for tree number ≡ 0

bare_is : (tree : Tree) (number : ℕ) → is_nameless tree number (map.get tree.nodes number) ≡ true → IsBare tree number
bare_is tree number is = told (map.get tree.nodes number) refl
  where
    told : (found : Option Node) → map.get tree.nodes number ≡ found → IsBare tree number
    told None e = absurd (true≢false (sym is ∙ ap (is_nameless tree number) e))
    told (Some node) e =
        let it = nameless_is tree number node (sym (ap (is_nameless tree number) e) ∙ is) in
        record { node = node; there = e; file = it.0; none = it.1 }

module _ (tree : Tree) (number : ℕ) where
  was : (k : ℕ) (node : Node) → map.get (take_node tree number).nodes k ≡ Some node → map.get tree.nodes k ≡ Some node
  was k node e = (get_was nat_cmp_total exact_unsigned tree.nodes number k node e).1

  left_tree : IsBare tree number → IsTree limits_written tree → IsTree limits_written (take_node tree number)
  left_tree bare whole = record {
    hierarchy = hierarchy_gone tree number whole.hierarchy (not_directory tree number bare.node bare.there bare.file) (is_unnamed tree number bare.none);
    nodes = nodes_part limits_written tree whole.nodes (take_node tree number) was (λ link k e. e);
    few = few_same limits_written tree (take_node tree number) whole.few refl (λ k kind. let found = some_node _ File kind in is_kind tree k found.0 File (was k found.0 found.1) found.2);
  }

  left_told : (rows : List Counted) → TellsDirectories tree rows → TellsDirectories (take_node tree number) rows
  left_told rows tells = renoded tree (take_node tree number) rows refl (λ link k e kind. let found = some_node _ Directory kind in is_kind tree k found.0 Directory (was k found.0 found.1) found.2) tells

-- a file that is dropped is no longer one without names
pub bare_left : (tree : Tree) (number n : ℕ) → bare_at (take_node tree number) n ≡ (not (n == number) && bare_at tree n)
bare_left tree number =
    let left = take_node tree number in
    cleared_bare tree left number (record { nodes = λ q apart. get_left nat_cmp_total exact_unsigned tree.nodes number q apart; names = λ q apart. refl }) (ap (is_nameless left number) (get_removed nat_cmp_total tree.nodes number))

-- ---- the overlay in which it is gone

module _ (older : Layer) (below : Tree) (rows : List Counted) (shown : IsShown older below rows) (number : ℕ) (by_close : Bool) (nameless : is_nameless (through older below) number (map.get (through older below).nodes number) ≡ true) where
  bare : IsBare (through older below) number
  bare = bare_is (through older below) number nameless

  file : HasKind (through older below) number File
  file = is_kind (through older below) number bare.node File bare.there bare.file

  over : LiesOver (gone number by_close) (through older below)
  over = drops_lie number by_close (through older below) shown.whole.hierarchy file

  pub drop_shows : through (merge older (gone number by_close)) below ≡ take_node (through older below) number
  drop_shows = merge_shows older (gone number by_close) shown.lies.whole over.whole below shown.lies.fits over.fits ∙ drops_show number by_close (through older below) shown.whole.hierarchy file

  drop_shown : IsShown (merge older (gone number by_close)) below rows
  drop_shown = record {
    lies = merges_lie older (gone number by_close) below shown.lies over;
    whole = subst (IsTree limits_written) (sym drop_shows) (left_tree (through older below) number bare shown.whole);
    tells = subst (λ (t : Tree). TellsDirectories t rows) (sym drop_shows) (left_told (through older below) number rows shown.tells);
  }

module _ (old : LiveTree) (below : Tree) (live : IsLive old below) (number : ℕ) (by_close : Bool) (nameless : ShowsNameless old below number) (top : Overlay) (is : layer_of top ≡ merge (changes_of old) (gone number by_close)) where
  pub dropped_shows : through (layer_of top) (through (point_of old) below) ≡ take_node (shown_of old below) number
  dropped_shows = ap (λ (l : Layer). through l (through (point_of old) below)) is ∙ drop_shows (changes_of old) (through (point_of old) below) old.directories live.shown number by_close nameless

  pub dropped : (numbers : NumberTable) (files : NamelessFiles) (left : ℕ) → ((tree : Tree) → TellsNumbers tree old.numbers → TellsNumbers (take_node tree number) numbers) → ((n : ℕ) → is_listed files n ≡ (not (n == number) && is_listed old.without_names n)) → left ≡ old.nameless - 1
      → IsLive (record old { top = top; numbers = numbers; without_names = files; nameless = left }) below
  dropped numbers files left tells lists less = record {
    point = live.point;
    shown = subst (λ (l : Layer). IsShown l (through (point_of old) below) old.directories) (sym is) (drop_shown (changes_of old) (through (point_of old) below) old.directories live.shown number by_close nameless);
    numbers = subst (λ (t : Tree). TellsNumbers t numbers) (sym dropped_shows) (tells (shown_of old below) live.numbers);
    files = λ n. lists n ∙ ap (λ (b : Bool). not (n == number) && b) (live.files n) ∙ sym (bare_left (shown_of old below) number n) ∙ ap (λ (t : Tree). bare_at t n) (sym dropped_shows);
    nameless = omega (arith, less, live.nameless, drops_are_counted (shown_of old below) number nameless, ap nameless_in dropped_shows);
  }

-- ---- room for drops

-- an overlay of the same changes in place of what changed
pub regrown : (old : LiveTree) (below : Tree) (top : Overlay) → layer_of top ≡ changes_of old → IsLive old below → IsLive (record old { top = top }) below
regrown old below top is live = record {
  point = live.point;
  shown = subst (λ (l : Layer). IsShown l (through (point_of old) below) old.directories) (sym is) live.shown;
  numbers = subst (λ (l : Layer). TellsNumbers (through l (through (point_of old) below)) old.numbers) (sym is) live.numbers;
  files = subst (λ (l : Layer). TellsNameless (through l (through (point_of old) below)) old.without_names) (sym is) live.files;
  nameless = live.nameless ∙ ap (λ (l : Layer). nameless_in (through l (through (point_of old) below))) (sym is);
}
