use Rattle.std.proofs.Common.{ℕ, ◌+◌, ◌≤◌, ◌^◌, sym, subst, ◌∙◌}
use Rattle.sn_desc.specs.InUse.{live_in}
use Rattle.sn_live_world.specs.World.{HasDrops}
use Rattle.sn_model.specs.Descriptors.{Descriptors}
use Rattle.sn_events.proofs.LookLemmas.{alike_held, alike_meant}
use Rattle.sn_fs.proofs.fs.Fs.prepare.Goals as goal

pub prepare_caller-requires : goal.prepare_caller-requires
prepare_caller-requires g c = c.requires.sound.drops c.requires.running

pub returns-clause-held : goal.returns-clause-held
returns-clause-held g c = let fs = c.args.self.now in alike_held _ _ fs.log fs.world _ fs.room fs.base fs.going c.prepare_caller.ensures.alike

pub returns-clause-sound : goal.returns-clause-sound
returns-clause-sound g c =
    let fs = c.args.self.now in
    let sound = c.requires.sound in
    let alike = c.prepare_caller.ensures.alike in
    record {
      within = sound.within;
      parked = λ running. subst (λ (n : ℕ). fs.room.dropped + n ≤ 2 ^ 33) (sym alike.nameless) (sound.parked running);
      based = sound.based;
      between = λ running none. alike.point ∙ sound.between running none;
      drops = λ running. subst (λ (d : Descriptors). HasDrops c.prepare_caller.new.self (live_in d)) (sym alike.descriptors) c.prepare_caller.ensures.keeps;
      meant = λ running told. alike_meant _ _ fs.log fs.world _ fs.room fs.base fs.going alike (sound.meant running told);
    }
