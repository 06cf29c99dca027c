use Rattle.std.proofs.Common.{◌-◌, ◌||◌, ℕ, refl, ap, ◌∙◌}
use Rattle.sn_block.specs.Lending.{device_of}
use Rattle.sn_cp_whole.specs.Planning.{kept_in}
use Rattle.sn_events.specs.Mounted.{going_in, trees_there}
use Rattle.sn_live_world.specs.World.{changes_of, kept_of, kept_since_of, world_over}
use Rattle.sn_caller.specs.Numbering.{has_closed}
use Rattle.sn_model.specs.World.{World}
use Rattle.sn_held.specs.Rooms.{dropping}
use Rattle.sn_fs.specs.Filesystem.{held, tree_of}
use Rattle.sn_fs.proofs.MountedLemmas.{turned_frozen}
use Rattle.sn_fs.proofs.fs.Fs.turn.Goals as goal

pub returns-clause-turned : goal.returns-clause-turned
returns-clause-turned g c can =
    let fs = c.args.self.now in
    let old = held fs in
    let below = tree_of fs in
    let trees = trees_there old.disk fs.base.root in
    let now = c.set_caller.new.self in
    let e = c.set_caller.ensures in
    let room_is = c.drop_files.ensures ∙ ap (λ (n : ℕ). dropping n old.room) (c.saturating_sub.ensures ∙ ap (λ (n : ℕ). c.args.parked - n) (c.nameless.ensures.tells below (e.over below can))) in
    let drops = e.dropped below can in
    let turned = (λ i. record (e.world below can i) { frozen = trees.frozen }) ∙ turned_frozen (world_over fs.world below) trees c.args.session c.args.caller in
    record {
      is = λ i. record {
        world = turned i;
        kept = kept_of now;
        kept_since = kept_since_of now;
        room = room_is i;
        at = fs.log;
        point = going_in fs.going;
        base = kept_in fs.base (changes_of now);
        disk = g.D.Device.disk (device_of fs.blocks);
        status = g.D.Device.status (device_of fs.blocks);
      };
      kept = λ n. e.kept below can n ∙ ap (λ (w : World). has_closed old.world w n || old.kept n) turned;
      since = λ n. e.since below can n ∙ ap (λ (w : World). has_closed old.world w n || old.kept_since n) turned;
      base = record { files = drops.files; slot = refl; root = refl; words = refl; gone = drops.told; leads = drops.leads };
    }
