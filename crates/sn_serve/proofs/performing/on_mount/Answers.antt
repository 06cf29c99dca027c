use Rattle.std.proofs.Common.{◌∙◌, ap, refl}
use Rattle.std.specs.Prelude.{Ok}
use Rattle.sn_plan.specs.Plans.{Gives, given}
use Rattle.sn_plan.proofs.Following.{gives_as, gives_it}
use Rattle.sn_serve.specs.Answers.{done, told_in}
use Rattle.sn_serve.specs.declared.told.Told.TheVariants as told
use Rattle.sn_serve.proofs.Telling.{follows_told}
use Rattle.sn_serve_looks.specs.Room.{init}
use Rattle.sn_serve.proofs.performing.on_mount.Goals as goal

pub returns-in-Forget : goal.returns-in-Forget
returns-in-Forget g c = rw c.in-Forget.is (follows_told done (Ok c.forget.result) c.done.result c.done.ensures refl c.forget.ensures)

pub returns-in-BatchForget : goal.returns-in-BatchForget
returns-in-BatchForget g c = rw c.in-BatchForget.is (follows_told done (Ok c.batch_forget.result) c.done-in-BatchForget.result c.done-in-BatchForget.ensures refl c.batch_forget.ensures)

pub returns-in-Statfs : goal.returns-in-Statfs
returns-in-Statfs g c = rw c.in-Statfs.is (follows_told told.Room (Ok c.statfs.result) (Ok (told.Room c.statfs.result)) refl refl c.statfs.ensures)

pub returns-in-Init : goal.returns-in-Init
returns-in-Init g c =
    (rw c.in-Init.is (record {
      plan = given (told_in told.Begun (init c.args.asker.now.checker c.in-Init.major c.in-Init.readahead c.in-Init.flags));
      is = refl;
      does = gives_as (c.begun.ensures ∙ ap (told_in told.Begun) c.init.ensures);
    }))

pub returns-in-Flush : goal.returns-in-Flush
returns-in-Flush g c = rw c.in-Flush.is (record { plan = Gives told.Done; is = refl; does = gives_it refl })

pub returns-in-Fsync : goal.returns-in-Fsync
returns-in-Fsync g c = rw c.in-Fsync.is (record { plan = Gives told.Done; is = refl; does = gives_it refl })

pub returns-in-FsyncDir : goal.returns-in-FsyncDir
returns-in-FsyncDir g c = rw c.in-FsyncDir.is (record { plan = Gives told.Done; is = refl; does = gives_it refl })

pub returns-in-Interrupt : goal.returns-in-Interrupt
returns-in-Interrupt g c = rw c.in-Interrupt.is (record { plan = Gives told.Done; is = refl; does = gives_it refl })
