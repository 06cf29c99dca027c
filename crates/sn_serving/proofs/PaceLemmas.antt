-- The steps that are due end a point in time.
use Rattle.std.proofs.Common.{zero, suc, ◌-◌, arith}
use Rattle.std.proofs.lemmas.Grind.{div_ceil_times}
use Rattle.std.specs.Int.{div_ceil}
use Rattle.sn_serving.specs.Paces.{PointsEndInTime}

pub points_end : PointsEndInTime
points_end zero steps = let (least, most) = div_ceil_times steps 1 (omega arith) in omega (arith, least, most)
points_end (suc records) steps = points_end records (steps - div_ceil steps (suc (suc records)))
