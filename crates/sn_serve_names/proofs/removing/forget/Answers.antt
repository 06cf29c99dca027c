use Rattle.std.proofs.Common.{ap, refl}
use Rattle.sn_plan.proofs.Following.{changes, does_same}
use Rattle.sn_serve_names.specs.Messages.{forgets}
use Rattle.sn_serve_names.proofs.removing.forget.Goals as goal

pub returns : goal.returns
unfolding forgets
returns g c = does_same (ap (forgets c.args.parent) c.name.ensures)
    (changes tt refl refl (record { goes = c.unlink.ensures.goes; idle = c.unlink.ensures.idle }))
