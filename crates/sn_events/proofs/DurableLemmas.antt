-- A root since which nothing was done has all of the world that runs over it.
use Rattle.std.proofs.Common.{◌≡◌, ◌++◌, length, slice_index, refl, sym, ap, subst, ◌∙◌}
use Rattle.std.proofs.lemmas.List.{nil_from_length}
use Rattle.sn_device.specs.Disk.{Always}
use Rattle.sn_log.specs.Positions.{LogPosition}
use Rattle.sn_image.specs.Image.{image}
use Rattle.sn_live.proofs.LiveLemmas.{none_shows}
use Rattle.sn_model.specs.Settling.{settle}
use Rattle.sn_model.specs.World.{World}
use Rattle.sn_ondisk.specs.Trees.{store_of}
use Rattle.sn_opening.proofs.OpeningLemmas.{standing_depends}
use Rattle.sn_sound.specs.Logs.{IsToRecover}
use Rattle.sn_sound.proofs.StandingLemmas.{root_same}
use Rattle.sn_held.specs.Held.{Held, Runs, RunsReady}
use Rattle.sn_held.proofs.EventLemmas.{disk_always, fits_now, stands_for}
use Rattle.sn_held.proofs.RoomLemmas.{fits_same, image_same}
use Rattle.sn_events.specs.Durable.{IsInItsRoot}
use Rattle.sn_events.specs.Mounting.{IsFresh}

pub in_its_root : (h : Held) (w : World) → RunsReady h w h.base → IsFresh h → Always h.disk (IsInItsRoot w.live (settle w))
in_its_root h w ready fresh c crash =
    let r : Runs h w = ready.runs in
    let shows = r.stands.shows c crash in
    let sound = r.stands.sound in
    let seen : image r.store r.root.inode_file ≡ w.live = sym (none_shows h.base.changed (image r.store r.root.inode_file) fresh.changed) ∙ ready.ready.changed.shows in
    let count : length r.older ≡ 0 = sym (ready.ready.between.ready c crash).count ∙ ap (λ (at : LogPosition). at.count) fresh.log in
    record {
      is = record {
        blocks = h.at.blocks;
        disk = disk_always h.at.blocks h.disk r.stands.disk c crash;
        spelled = r.formatted c crash;
        opens = record {
          slot = r.slot;
          root = r.root;
          older = r.older;
          newer = r.newer;
          older_spelled = r.older_spelled;
          newer_spelled = r.newer_spelled;
          shown = shows.shown;
          stands = standing_depends r.store (store_of c) r.root shows.same (r.older ++ r.newer) (settle w) (stands_for h w r);
        };
        words = r.words;
        map = r.stands.map c crash;
        sound = root_same h.at.blocks r.store (store_of c) r.root shows.same (slice_index r.words) (slice_index r.words) (λ block. refl) sound;
        none_later = λ epoch. r.none_later epoch c crash;
        fits = fits_same h.at.blocks r.store (store_of c) r.root r.words (r.older ++ r.newer) shows.same sound (fits_now h w r);
        age = λ recovers. r.age (subst (IsToRecover r.root (r.older ++ r.newer)) (image_same r.store (store_of c) r.root shows.same) recovers);
      };
      live = image_same r.store (store_of c) r.root shows.same ∙ seen;
      older = nil_from_length r.older count;
      newer = ready.ready.between.none_newer;
    }
