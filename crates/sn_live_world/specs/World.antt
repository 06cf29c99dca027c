-- Which world is shown of a live tree and its sessions.
use Rattle.std.specs.Prelude.{◌≡◌, ℕ, Bool}
use Rattle.std.specs.FinMap as map
use Rattle.sn_desc.specs.Sessions.{in_use_of}
use Rattle.sn_live.specs.Live as live
use Rattle.sn_live.specs.Prepared as prepared
use Rattle.sn_live.specs.declared.preparing.PreparedLive.{PreparedLive}
use Rattle.sn_live_view.specs.Live.{live_trees, world_of}
use Rattle.sn_live_world.specs.declared.world.LiveWorld.{LiveWorld}
use Rattle.sn_model.specs.Descriptors.{Descriptors}
use Rattle.sn_model.specs.Tree.{Tree}
use Rattle.sn_model.specs.World.{Trees, World}
use Rattle.sn_overlay.specs.Layers.{Layer}
use Rattle.sn_overlay.specs.Overlays.{no_changes}

-- what is shown of a tree below
abbrev pub tree_over : LiveWorld → Tree → Tree
tree_over w below = live.shown_of w.live below

-- over the live tree of a root, with the frozen ones beside it, who is logged in, and what is open
abbrev pub world_in : LiveWorld → Trees → World
world_in w trees = world_of (in_use_of w.sessions) (record { live = tree_over w trees.live; frozen = trees.frozen })

-- the same without frozen trees: no change makes any difference to them
abbrev pub world_over : LiveWorld → Tree → World
world_over w below = world_in w (live_trees below map.empty)

-- the state belongs to a tree below
abbrev pub IsOver : LiveWorld → Tree → Type 0
IsOver w below = live.IsLive w.live below

-- the numbers that are kept back, and those that have been since the point in progress began, or the durable root's if there is none
abbrev pub kept_of : LiveWorld → ℕ → Bool
kept_of w = live.kept_back_of w.live

abbrev pub kept_since_of : LiveWorld → ℕ → Bool
kept_since_of w = live.kept_since_of w.live

-- this many more files can be opened without memory
abbrev pub room_of : LiveWorld → ℕ
room_of w = (in_use_of w.sessions).room

abbrev pub descriptors_of : LiveWorld → Descriptors
descriptors_of w = (in_use_of w.sessions).descriptors

-- what changed, and what a consistency point in progress writes
abbrev pub changes_of : LiveWorld → Layer
changes_of w = live.changes_of w.live

abbrev pub point_of : LiveWorld → Layer
point_of w = live.point_of w.live

-- how many files without names are counted
abbrev pub nameless_of : LiveWorld → ℕ
nameless_of w = live.count_of w.live

-- no point is in progress
abbrev pub HasNoPoint : LiveWorld → Type 0
HasNoPoint w = point_of w ≡ no_changes

-- this many files can be dropped without memory
abbrev pub HasDrops : LiveWorld → ℕ → Type 0
HasDrops w drops = live.HasDrops w.live drops

-- there is room for what was prepared, and for this many more drops
abbrev pub HasRoomFor : LiveWorld → PreparedLive → ℕ → Type 0
HasRoomFor w p drops = prepared.HasRoomFor w.live p drops

-- the same sessions, descriptors and room for them
abbrev pub HasSessions : LiveWorld → LiveWorld → Type 0
HasSessions old new = in_use_of new.sessions ≡ in_use_of old.sessions

-- The same is shown of each tree below, and what changed and what is kept back are the same. Room may differ.
pub record Alike (old new : LiveWorld) : Type 0 where
  pub worlds : (below : Tree) → world_over new below ≡ world_over old below
  pub over : (below : Tree) → IsOver old below → IsOver new below
  pub kept : (n : ℕ) → kept_of new n ≡ kept_of old n
  pub since : (n : ℕ) → kept_since_of new n ≡ kept_since_of old n
  pub changes : changes_of new ≡ changes_of old
  pub point : point_of new ≡ point_of old
  pub descriptors : descriptors_of new ≡ descriptors_of old
  pub nameless : nameless_of new ≡ nameless_of old
