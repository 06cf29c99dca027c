-- What a caller leaves, once its session has turned and files were dropped.
use Rattle.std.proofs.Common.{◌≡◌, ℕ, Bool, ◌||◌, List, Option, sym, ap, subst, ◌∙◌}
use Rattle.sn_changed.specs.Dropped.{LeadsOn, TellsGone, with_drops}
use Rattle.sn_changed.specs.declared.dropped.DroppedFile.{DroppedFile}
use Rattle.sn_changed.proofs.DroppedLemmas.{leads_on}
use Rattle.sn_caller.specs.Called.{TellsReleased, WereHeld}
use Rattle.sn_caller.specs.Numbering.{has_closed, has_gone}
use Rattle.sn_caller.specs.Told.{told_lost}
use Rattle.sn_caller.proofs.CallerLemmas.{live_after, turned_lost}
use Rattle.sn_caller.proofs.ToldLemmas.{caller_tells, closed_kept, lost_world}
use Rattle.sn_live_world.specs.Dropping.{DropsClosed, DropsLost}
use Rattle.sn_live_world.specs.Turned.{DropsTo}
use Rattle.sn_live_world.specs.World.{changes_of, world_over}
use Rattle.sn_live_world.specs.declared.world.LiveWorld.{LiveWorld}
use Rattle.sn_live_world.proofs.DropLemmas.{lost_behind}
use Rattle.sn_model.specs.Settling.{OnlyLost, dropped}
use Rattle.sn_model.specs.Steps.{with_caller}
use Rattle.sn_model.specs.Tree.{Tree}
use Rattle.sn_model.specs.World.{World}
use Rattle.sn_model.specs.declared.outcome.Caller.{Caller}
use Rattle.sn_overlay.specs.Layers.{Layer}

-- a state turned, each closed file was looked at, and then the one that lost its name
module _ (old turned mid new : LiveWorld) (below : Tree) (session : ℕ) (caller : Caller) (lost : Option ℕ) (numbers seen : List ℕ) (same : seen ≡ numbers)
    (turns : world_over turned below ≡ with_caller (world_over old below) session caller) (tells : TellsReleased (world_over old below) (world_over turned below) numbers) (held : WereHeld (world_over old below) numbers)
    (only : OnlyLost (world_over old below) lost) (closed : DropsClosed seen turned mid below) (last : DropsLost lost mid new below) where
  abbrev before : World
  before = world_over old below

  abbrev then : World
  then = world_over turned below

  abbrev between : World
  between = world_over mid below

  live : then.live ≡ before.live
  live = live_after before then session caller turns

  only_left : OnlyLost between lost
  only_left = turned_lost before then session caller turns between numbers seen lost same tells only closed.left

  pub turned_world : world_over new below ≡ dropped (with_caller before session caller)
  turned_world = last.world ∙ lost_world between lost only_left ∙ closed.world ∙ ap dropped turns

  module _ (kept between_kept after : ℕ → Bool) (by : (n : ℕ) → between_kept n ≡ (has_gone then between n || kept n)) (stay : (n : ℕ) → after n ≡ between_kept n) where
    pub turned_kept : (n : ℕ) → after n ≡ (has_closed before (world_over new below) n || kept n)
    turned_kept n = closed_kept before then between numbers seen same live tells held closed.went closed.left lost (world_over new below) kept kept after n last.world (λ i. kept) (stay n ∙ by n)

  pub turned_drops : changes_of turned ≡ changes_of old → DropsTo old new below
  turned_drops changed = record {
    files = files;
    told = subst (λ (w : World). TellsGone before.live w.live files) (sym last.world)
        (caller_tells before then between numbers seen same live tells held closed.went closed.left lost closed.files closed.told);
    leads = subst (LeadsOn (changes_of old) files) (sym drops) (leads_on (changes_of old) files);
  }
    where
      files : List DroppedFile
      files = told_lost between lost closed.files

      drops : changes_of new ≡ with_drops (changes_of old) files
      drops = lost_behind (changes_of turned) (changes_of mid) (changes_of new) between lost closed.files closed.changes last.changes ∙ ap (λ (layer : Layer). with_drops layer files) changed
