use Rattle.std.proofs.Common.{◌≡◌, ◌∙◌, true≢false, false, ap}
use Rattle.sn_fs.specs.Filesystem.{has_stopped}
use Rattle.sn_run.specs.Servers.{is_stopped}
use Rattle.sn_serving.specs.Served.{Served}
use Rattle.sn_serving.proofs.serving.Serving.room.Goals as goal

pub returns-in-Mounted : goal.returns-in-Mounted
returns-in-Mounted g c = λ told running.
    (let fs = c.in-Mounted.fs in
    let served : is_stopped c.self.inside.server ≡ false = ap (λ (s : Served). s.has_stopped) c.self.view_is ∙ running in
    let here : has_stopped fs ≡ false = rw c.in-Mounted.is at served in
    let steps = c.steps_left.ensures.left here in
    let log = c.log_left.ensures in
    let free = c.free.ensures.room in
    let left = c.left.ensures told here in
    let room = ap (λ (s : Served). s.room) c.self.view_is in
    let seen = rw c.in-Mounted.is at room in
    cc)

pub returns-in-Unmounted : goal.returns-in-Unmounted
returns-in-Unmounted g c = λ told running.
    (let served : is_stopped c.self.inside.server ≡ false = ap (λ (s : Served). s.has_stopped) c.self.view_is ∙ running in
    absurd (true≢false (rw c.in-Unmounted.is at served)))
