-- What the calls of a point that runs ask for.
use Rattle.std.specs.Prelude.{◌≡◌, ℕ, ◌*◌, ◌≤◌}
use Rattle.sn_cp.specs.Counting.{IsStageOf}
use Rattle.sn_cp.specs.Points.{stage_of, work_of}
use Rattle.sn_cp.specs.Steps.{IsWhole}
use Rattle.sn_cp.specs.declared.point.Point.{Point}

-- a step can be made, or it is done
pub record CanGoOn (p : Point) : Type 0 where
  pub whole : IsWhole (work_of p)
  pub stage : IsStageOf (work_of p) (stage_of p)

-- on a disk of so many blocks, with a log for one of so many, and over so many sectors
pub record IsRunning (n : ℕ) (p : Point) (logged sectors : ℕ) : Type 0 where
  pub point : CanGoOn p
  pub place : (work_of p).blocks ≡ n
  pub log : logged ≡ n
  pub room : 8 * n ≤ sectors
