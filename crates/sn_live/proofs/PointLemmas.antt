-- Consistency points of a live tree that begin and end.
use Rattle.std.proofs.Common.{◌≡◌, ℕ, sym, ap, subst, ◌∙◌}
use Rattle.sn_directories.specs.Told.{TellsDirectories}
use Rattle.sn_limits.specs.Versions.{limits_written}
use Rattle.sn_live.specs.Live.{HasNoPoint, IsLive, changes_of, point_of, shown_of}
use Rattle.sn_live.specs.declared.live.LiveTree.{LiveTree}
use Rattle.sn_model.specs.NameTree.{IsTree}
use Rattle.sn_model.specs.Tree.{Tree}
use Rattle.sn_number_table.specs.Nameless.{TellsNameless}
use Rattle.sn_number_table.specs.Table.{TellsNumbers, is_taken_in}
use Rattle.sn_number_table.specs.declared.table.NumberTable.{NumberTable}
use Rattle.sn_overlay.specs.Layers.{Layer, through}
use Rattle.sn_model.specs.Settling.{nameless_in}
use Rattle.sn_overlay.specs.Overlays.{layer_of, no_changes}
use Rattle.sn_overlay.specs.Seen.{LiesOver}
use Rattle.sn_overlay.specs.declared.overlay.Overlay.{Overlay}
use Rattle.sn_live.proofs.LiveLemmas.{live_begun, none_lies, none_shows}

-- a table in which the same numbers are taken records the same
retold : (tree : Tree) (old new : NumberTable) → ((n : ℕ) → is_taken_in new n ≡ is_taken_in old n) → TellsNumbers tree old → TellsNumbers tree new
retold tree old new taken tells n = taken n ∙ tells n

-- what changed is what the point writes, and nothing changed since
module _ (old : LiveTree) (rests : HasNoPoint old) (top bottom : Overlay) (none : layer_of top ≡ no_changes) (all : layer_of bottom ≡ changes_of old) (below : Tree) where
  pub begun_shows : through (layer_of top) (through (layer_of bottom) below) ≡ shown_of old below
  begun_shows = none_shows (layer_of top) (through (layer_of bottom) below) none ∙ ap (λ (l : Layer). through l below) all ∙ sym (ap (through (changes_of old)) (none_shows (point_of old) below rests))

  pub point_begun : (numbers : NumberTable) → ((n : ℕ) → is_taken_in numbers n ≡ is_taken_in old.numbers n) → IsLive old below → IsLive (record old { top = top; bottom = bottom; numbers = numbers }) below
  point_begun numbers taken live = record {
    point = subst (λ (l : Layer). LiesOver l below) (sym all) (subst (LiesOver (changes_of old)) (none_shows (point_of old) below rests) live.shown.lies);
    shown = record {
      lies = none_lies (layer_of top) (through (layer_of bottom) below) none;
      whole = subst (IsTree limits_written) (sym begun_shows) live.shown.whole;
      tells = subst (λ (t : Tree). TellsDirectories t old.directories) (sym begun_shows) live.shown.tells;
    };
    numbers = retold (through (layer_of top) (through (layer_of bottom) below)) old.numbers numbers taken (subst (λ (t : Tree). TellsNumbers t old.numbers) (sym begun_shows) live.numbers);
    files = subst (λ (t : Tree). TellsNameless t old.without_names) (sym begun_shows) live.files;
    nameless = live.nameless ∙ ap nameless_in (sym begun_shows);
  }

-- what changed since lies over the new root, and shows there what was shown
module _ (old : LiveTree) (root next : Tree) (is : through (changes_of old) next ≡ shown_of old root) (bottom : Overlay) (none : layer_of bottom ≡ no_changes) where
  under : through (layer_of bottom) next ≡ next
  under = none_shows (layer_of bottom) next none

  pub ended_shows : through (changes_of old) (through (layer_of bottom) next) ≡ shown_of old root
  ended_shows = ap (through (changes_of old)) under ∙ is

  pub point_ended : (numbers : NumberTable) → LiesOver (changes_of old) next → ((n : ℕ) → is_taken_in numbers n ≡ is_taken_in old.numbers n) → IsLive old root → IsLive (record old { bottom = bottom; numbers = numbers }) next
  point_ended numbers lies taken live = record {
    point = none_lies (layer_of bottom) next none;
    shown = record {
      lies = subst (LiesOver (changes_of old)) (sym under) lies;
      whole = subst (IsTree limits_written) (sym ended_shows) live.shown.whole;
      tells = subst (λ (t : Tree). TellsDirectories t old.directories) (sym ended_shows) live.shown.tells;
    };
    numbers = retold (through (changes_of old) (through (layer_of bottom) next)) old.numbers numbers taken (subst (λ (t : Tree). TellsNumbers t old.numbers) (sym ended_shows) live.numbers);
    files = subst (λ (t : Tree). TellsNameless t old.without_names) (sym ended_shows) live.files;
    nameless = live.nameless ∙ ap nameless_in (sym ended_shows);
  }

-- the new root shows all that was shown
pub replaced_live : (old : LiveTree) (root next : Tree) → next ≡ shown_of old root → (top bottom : Overlay) → layer_of top ≡ no_changes → layer_of bottom ≡ no_changes → (numbers : NumberTable) → ((n : ℕ) → is_taken_in numbers n ≡ is_taken_in old.numbers n) → IsLive old root
    → IsLive (record old { top = top; bottom = bottom; numbers = numbers }) next
replaced_live old root next is top bottom over under numbers taken live =
    live_begun (record old { top = top; bottom = bottom; numbers = numbers }) next over under
    (subst (IsTree limits_written) (sym is) live.shown.whole)
    (subst (λ (t : Tree). TellsDirectories t old.directories) (sym is) live.shown.tells)
    (retold next old.numbers numbers taken (subst (λ (t : Tree). TellsNumbers t old.numbers) (sym is) live.numbers))
    (subst (λ (t : Tree). TellsNameless t old.without_names) (sym is) live.files)
    (live.nameless ∙ ap nameless_in (sym is))
