use Rattle.std.proofs.Common.{◌≡◌, ◌∙◌, false, sym, ap}
use Rattle.sn_fs.specs.Filesystem.{has_stopped, held}
use Rattle.sn_run.specs.Servers.{is_stopped}
use Rattle.sn_serving.specs.Served.{Served}
use Rattle.sn_serving.proofs.ServedLemmas.{look_means}
use Rattle.sn_serving.proofs.serving.Serving.node.Goals as goal
use Rattle.sn_serving.proofs.serving.Serving.node.Goals.{in-Mounted, in-Unmounted}

pub invariant_of-self : goal.invariant_of-self
invariant_of-self g c =
    let told = g.D.Device.tells_bytes in
    let runs : is_stopped c.self.inside.server ≡ false = ap (λ (s : Served). s.has_stopped) c.self.view_is ∙ sym c.has_stopped.ensures ∙ c.if-has_stopped.false in
    elim c.match-self.branch [
      | in-Mounted w ↦
          (let running : has_stopped w.in-Mounted.fs ≡ false = rw w.in-Mounted.is at runs in
          let some = rw w.in-Mounted.is at c.self.invariant.1 in
          rw w.self-inside-is (
            w.node.ensures.sound,
            look_means told w.node.result (held w.in-Mounted.fs) (held w.node.new.self) (has_stopped w.in-Mounted.fs) (has_stopped w.node.new.self) w.node.ensures.stopped
                w.node.ensures.quiet (λ is. w.node.ensures.unseen is running) some,
          ))
      | in-Unmounted w ↦ rw w.self-inside-is c.self.invariant
    ]
