use Rattle.std.proofs.Common.{◌∙◌, ap}
use Rattle.sn_mounted.specs.Shown.{Shown}
use Rattle.sn_serving.specs.declared.pace.Room.{Room}
use Rattle.sn_mounted.proofs.mounted.Mounted.left.Goals as goal

pub returns : goal.returns
returns g c = λ told running.
    (let room = c.room.ensures told (ap (λ (m : Shown). m.served.has_stopped) c.self.view_is ∙ running) in
    c.from.ensures ∙ ap (λ (r : Room). r.left) room ∙ ap (λ (m : Shown). m.served.room.left) c.self.view_is)
