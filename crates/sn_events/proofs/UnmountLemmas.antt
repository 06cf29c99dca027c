-- What the point of an unmount is made of.
use Rattle.std.proofs.Common.{◌≡◌, false, refl, sym, ap, subst, arith}
use Rattle.std.specs.FinMap as map
use Rattle.std.specs.Prelude.{None, replicate}
use Rattle.sn_limits.specs.Versions.{limits_written}
use Rattle.sn_model.specs.Settling.{nameless_in, settle, settled}
use Rattle.sn_model.specs.Tree.{Tree}
use Rattle.sn_model.specs.World.{World}
use Rattle.sn_model.specs.NameTree.{IsTree}
use Rattle.sn_model.proofs.ListLemmas.{covers_itself}
use Rattle.sn_model.proofs.SettlingLemmas.{dropping_kept, settle_alike}
use Rattle.sn_model.proofs.DropLemmas.{dropping_tree}
use Rattle.sn_held.specs.Events.{IsOfTree}
use Rattle.sn_held.specs.Held.{CarriesOn, Held, Kept, RunsReady}
use Rattle.sn_held.proofs.EventLemmas.{drops_ready}
use Rattle.sn_overlay.specs.Layers.{Layer}
use Rattle.sn_held.specs.Rooms.{RoomCounts, dropping}
use Rattle.sn_events.specs.Dropping.{DropsFiles}
use Rattle.sn_events.proofs.CallLemmas.{figures}

pub settled_twice : (tree : Tree) → settled (settled tree) ≡ settled tree
settled_twice tree = sym (settle_alike tree (settled tree) (dropping_kept tree tree (λ _. false) (covers_itself tree)))

pub settles_twice : (w : World) → settle (settle w) ≡ settle w
settles_twice w = ap (λ (t : Tree). record { live = t; frozen = w.frozen; sessions = replicate 64 None; descriptors = map.empty }) (settled_twice w.live)

-- of what was built without the files that have no name
module _ (old : Held) (built : Layer) (drops : DropsFiles old.base old.world.live (record old.base { changed = built }) (settle old.world).live) (whole : IsTree limits_written old.world.live) (r : RunsReady old old.world old.base) where
  abbrev pub last_base : Kept
  last_base = record old.base { changed = built }

  of_settled : IsOfTree old.world old.world.live (settle old.world)
  of_settled = record { held = λ _. false; live = refl; frozen = refl }

  carries : CarriesOn old.base old.world.live old.room.charged last_base (settle old.world).live old.room.charged
  carries = record {
    slot = drops.slot;
    root = drops.root;
    words = drops.words;
    changed = λ root changed. drops.leads limits_written root old.world.live old.room.charged (λ _. false) figures whole.hierarchy changed drops.gone;
  }

  -- what runs is ready for a point of the settled world
  abbrev pub last : Held
  last = record old { world = settle old.world; kept = λ _. false; kept_since = λ _. false; room = dropping (nameless_in old.world.live) old.room; base = last_base }

  last_ready : RunsReady last (settle old.world) last_base
  last_ready = drops_ready old old.world (settle old.world) (λ _. false) (λ _. false) (nameless_in old.world.live) last_base r of_settled (omega arith) carries (dropping_tree limits_written old.world.live (λ _. false) whole)

  pub ready_as : (room : RoomCounts) → room ≡ dropping (nameless_in old.world.live) old.room → RunsReady (record last { room = room }) (settle old.world) last_base
  ready_as room is = subst (λ (x : RoomCounts). RunsReady (record last { room = x }) (settle old.world) last_base) (sym is) last_ready
