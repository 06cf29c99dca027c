-- A world stays one under limits that allow more.
use Rattle.std.proofs.Common.{arith}
use Rattle.sn_limits.specs.declared.limits.Limits.{Limits}
use Rattle.sn_limits.specs.Versions.{Allows}
use Rattle.sn_model.specs.World.{World}
use Rattle.sn_model.specs.Worlds.{IsWorld}
use Rattle.sn_model.proofs.AllowedLemmas.{tree_stays}

pub world_stays : (less more : Limits) → Allows less more → (w : World) → IsWorld less w → IsWorld more w
world_stays less more allows w is = record {
  live = tree_stays less more allows w.live is.live;
  frozen = λ name tree e. tree_stays less more allows tree (is.frozen name tree e);
  snapshot_names = is.snapshot_names;
  few_snapshots = omega (arith, is.few_snapshots, allows.snapshots);
  count = is.count;
  callers = is.callers;
  open_files = λ session fd d e.
      let file = is.open_files session fd d e in
      record {
        caller = file.caller;
        number = file.number;
        file = file.file;
        offset = omega (arith, file.offset, allows.files);
        live = file.live;
      };
  held = is.held;
}
