use Rattle.std.proofs.Common.{◌≡◌, ◌∙◌, false, sym, ap}
use Rattle.sn_fs.specs.Filesystem.{has_stopped, held}
use Rattle.sn_run.specs.Servers.{is_stopped}
use Rattle.sn_serving.specs.Served.{Served}
use Rattle.sn_serving.proofs.ServedLemmas.{look_means}
use Rattle.sn_serving.proofs.serving.Serving.find.Goals as goal
use Rattle.sn_serving.proofs.serving.Serving.find.Goals.{in-Mounted, in-Unmounted}

pub invariant_of-self : goal.invariant_of-self
invariant_of-self g c =
    let told = g.D.Device.tells_bytes in
    let runs : is_stopped c.self.inside.server ≡ false = ap (λ (s : Served). s.has_stopped) c.self.view_is ∙ sym c.has_stopped.ensures ∙ c.if-has_stopped.false in
    elim c.match-self.branch [
      | in-Mounted w ↦
          (let running : has_stopped w.in-Mounted.fs ≡ false = rw w.in-Mounted.is at runs in
          let some = rw w.in-Mounted.is at c.self.invariant.1 in
          rw w.self-inside-is (
            w.find.ensures.sound,
            look_means told w.find.result (held w.in-Mounted.fs) (held w.find.new.self) (has_stopped w.in-Mounted.fs) (has_stopped w.find.new.self) w.find.ensures.stopped
                w.find.ensures.quiet (λ is. w.find.ensures.unseen is running) some,
          ))
      | in-Unmounted w ↦ rw w.self-inside-is c.self.invariant
    ]
