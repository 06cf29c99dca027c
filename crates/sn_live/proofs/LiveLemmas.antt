-- The state of a live tree, as changes are made, files are dropped, and points begin and end.
use Rattle.std.proofs.Common.{◌≡◌, ℕ, Some, sym, ap, subst, ◌∙◌}
use Rattle.sn_changed.proofs.ChangedLemmas.{nothing_changed}
use Rattle.sn_directories.specs.Told.{IsShown, TellsDirectories}
use Rattle.sn_limits.specs.Versions.{limits_of, limits_written}
use Rattle.sn_limits.specs.declared.limits.Limits.{Limits}
use Rattle.sn_live.specs.Live.{IsLive, changes_of, point_of, shown_of}
use Rattle.sn_live.specs.Nodes.{NotesNodes, listed_after, nameless_after, node_moves_of}
use Rattle.sn_live.specs.Prepared.{CanBeMade}
use Rattle.sn_live.specs.declared.live.LiveTree.{LiveTree}
use Rattle.sn_live.specs.declared.nodes.NodeMoves.{NodeMoves}
use Rattle.sn_live.specs.declared.preparing.PreparedLive.{PreparedLive}
use Rattle.sn_logged.proofs.LaidLemmas.{applies_written}
use Rattle.sn_model.specs.declared.change.Change.{Change}
use Rattle.sn_model.specs.Changes.{apply}
use Rattle.sn_model.specs.NameTree.{IsTree}
use Rattle.sn_model.specs.Tree.{Tree}
use Rattle.sn_number_table.specs.Nameless.{TellsNameless, is_listed}
use Rattle.sn_number_table.specs.Table.{TellsNumbers}
use Rattle.sn_overlay.specs.Layers.{Layer, through}
use Rattle.sn_model.specs.Settling.{nameless_in}
use Rattle.sn_overlay.specs.Overlays.{no_changes}
use Rattle.sn_overlay.specs.Seen.{LiesOver}
use Rattle.sn_live.proofs.BareLemmas.{listed_on_by}
use Rattle.sn_live.proofs.CountLemmas.{counted}
use Rattle.sn_live.proofs.NumberLemmas.{tells_on}

-- ---- a layer of no changes

pub none_lies : (layer : Layer) (tree : Tree) → layer ≡ no_changes → LiesOver layer tree
none_lies layer tree none = subst (λ (l : Layer). LiesOver l tree) (sym none) (nothing_changed limits_written tree).lies

pub none_shows : (layer : Layer) (tree : Tree) → layer ≡ no_changes → through layer tree ≡ tree
none_shows layer tree none = ap (λ (l : Layer). through l tree) none ∙ (nothing_changed limits_written tree).shows

-- ---- a change

module _ (limits : Limits) (version : limits_of limits.version ≡ Some limits) (old new : LiveTree) (below : Tree) (live : IsLive old below) (change : Change) (p : PreparedLive) (can : CanBeMade limits p (shown_of old below) change) where
  pub committed : point_of new ≡ point_of old → IsShown (changes_of new) (through (point_of old) below) new.directories → apply limits change (shown_of old below) ≡ Some (through (changes_of new) (through (point_of old) below))
      → NotesNodes p.nodes old.numbers new.numbers → ((n : ℕ) → is_listed new.without_names n ≡ listed_after p.nodes (is_listed old.without_names) n) → new.nameless ≡ nameless_after old.nameless p.nodes → IsLive new below
  committed point shown laid notes lists nameless =
      let same : through (changes_of new) (through (point_of old) below) ≡ shown_of new below = ap (λ (l : Layer). through (changes_of new) (through l below)) (sym point) in
      let made = applies_written limits version change (shown_of old below) (shown_of new below) (laid ∙ ap (λ (t : Tree). Some t) same) in
      let whole = subst (λ (l : Layer). IsShown (changes_of new) (through l below) new.directories) (sym point) shown in
      record {
        point = subst (λ (l : Layer). LiesOver l below) (sym point) live.point;
        shown = whole;
        numbers = tells_on old.numbers new.numbers change (shown_of old below) (shown_of new below) made (subst (λ (m : NodeMoves). NotesNodes m old.numbers new.numbers) can.nodes notes) live.numbers;
        files = λ n. lists n ∙ listed_on_by change (shown_of old below) (shown_of new below) p.nodes (is_listed old.without_names) made can.nodes live.files n;
        nameless = nameless ∙ ap (nameless_after old.nameless) can.nodes ∙ ap (λ n. nameless_after n (node_moves_of (shown_of old below) change)) live.nameless
            ∙ sym (counted change (shown_of old below) (shown_of new below) whole.whole made);
      }

-- ---- a root

pub begun : (top bottom : Layer) (root : Tree) → top ≡ no_changes → bottom ≡ no_changes → through top (through bottom root) ≡ root
begun top bottom root over under = none_shows top (through bottom root) over ∙ none_shows bottom root under

pub live_begun : (live : LiveTree) (root : Tree) → changes_of live ≡ no_changes → point_of live ≡ no_changes → IsTree limits_written root → TellsDirectories root live.directories → TellsNumbers root live.numbers → TellsNameless root live.without_names → live.nameless ≡ nameless_in root → IsLive live root
live_begun live root top point whole directories numbers files nameless =
    let same : root ≡ shown_of live root = sym (begun (changes_of live) (point_of live) root top point) in
    record {
      point = none_lies (point_of live) root point;
      shown = record {
        lies = none_lies (changes_of live) (through (point_of live) root) top;
        whole = subst (IsTree limits_written) same whole;
        tells = subst (λ (t : Tree). TellsDirectories t live.directories) same directories;
      };
      numbers = subst (λ (t : Tree). TellsNumbers t live.numbers) same numbers;
      files = subst (λ (t : Tree). TellsNameless t live.without_names) same files;
      nameless = nameless ∙ ap nameless_in same;
    }
