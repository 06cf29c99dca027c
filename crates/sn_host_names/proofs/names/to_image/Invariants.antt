use Rattle.std.proofs.Common.{◌≡◌, ◌≤◌, ◌++◌, length}
use Rattle.sn_host_names.specs.Escapes.{image_name}
use Rattle.sn_host_names.proofs.names.to_image.Given as goal

abbrev pub invariant-loop-rest : goal.invariant-loop-rest
invariant-loop-rest l = record {
  written : image_name l.name ≡ l.image.items ++ image_name l.rest;
  short : length l.image.items ≤ 255;
}

abbrev pub decreases-loop-rest : goal.decreases-loop-rest
decreases-loop-rest l = length l.rest
