use Rattle.std.proofs.Common.{◌≡◌, ℕ, ◌+◌, ◌-◌, ◌==◌, ◌&&◌, ◌||◌, Bool, false, get_or, length, sym, ap, ◌∙◌, arith}
use Rattle.sn_model.specs.Changes.{take_node}
use Rattle.sn_model.specs.Tree.{Tree}
use Rattle.sn_live.specs.Live.{HasDrops, changes_of, kept_back_of, kept_since_of, shown_of}
use Rattle.sn_changed.specs.declared.dropped.DroppedFile.{DroppedFile}
use Rattle.sn_live.specs.declared.live.LiveTree.{LiveTree}
use Rattle.sn_overlay.specs.Layers.{Layer}
use Rattle.sn_overlay.specs.Merges.{merge}
use Rattle.sn_overlay.specs.Overlays.{gone}
use Rattle.sn_live.proofs.BareLemmas.{bare_at}
use Rattle.sn_live.proofs.GoneLemmas.{next_drops, next_goes, still_bare}
use Rattle.sn_live.proofs.live.LiveTree.drop_files.Goals as goal

one_of : (live : LiveTree) (k : ℕ) → HasDrops live (k + 1) → HasDrops live 1
one_of live k room = record { nodes = omega (arith, room.nodes); names = room.names; blocks = room.blocks }

not_kept : (by_close it kept now : Bool) → by_close ≡ false → now ≡ (by_close && it || kept) → now ≡ kept
not_kept by_close it kept now open_still e = e ∙ ap (λ (b : Bool). b && it || kept) open_still

-- what a list has past its end
abbrev other : DroppedFile
other = record { number = 0; by_close = false }

pub drop_file-requires : goal.drop_file-requires
drop_file-requires c =
    let left = length c.args.files.now - c.loop-file.file-index - 1 in
    one_of c.loop-file.self left (c.loop-file.invariant.room (left + 1) (omega (arith, c.loop-file-test.true)))

pub loop-file-preserved : goal.loop-file-preserved
loop-file-preserved c =
    let old = c.args.self.now in
    let now = c.loop-file.self in
    let files = c.args.files.now in
    let k = c.loop-file.file-index in
    let so_far = c.loop-file.invariant in
    let within = c.loop-file-test.true in
    let file : DroppedFile = get_or files k other in
    record {
      live = λ below live can. c.drop_file.ensures.live below (so_far.live below live can)
          (ap (λ (t : Tree). bare_at t file.number) (so_far.shown below live can) ∙ still_bare files (shown_of old below) k other can within);
      shown = λ below live can.
          c.drop_file.ensures.shown below (so_far.live below live can) (ap (λ (t : Tree). bare_at t file.number) (so_far.shown below live can) ∙ still_bare files (shown_of old below) k other can within)
          ∙ ap (λ (t : Tree). take_node t file.number) (so_far.shown below live can) ∙ sym (next_goes files (shown_of old below) k other within);
      point = c.drop_file.ensures.point ∙ so_far.point;
      changes = c.drop_file.ensures.changes ∙ ap (λ (l : Layer). merge l (gone file.number file.by_close)) so_far.changes ∙ sym (next_drops files (changes_of old) k other within);
      numbers = λ named. record {
        kept = λ n. not_kept file.by_close (n == file.number) (kept_back_of now n) (kept_back_of c.drop_file.new.self n) (named k other within) (c.drop_file.ensures.kept n) ∙ (so_far.numbers named).kept n;
        since = λ n. not_kept file.by_close (n == file.number) (kept_since_of now n) (kept_since_of c.drop_file.new.self n) (named k other within) (c.drop_file.ensures.since n) ∙ (so_far.numbers named).since n;
      };
      room = λ drops all. c.drop_file.ensures.drops drops (so_far.room (drops + 1) (omega (arith, all)));
    }
