use Rattle.std.proofs.Common.{◌≡◌, ◌+◌, ◌≤◌, ◌++◌, length}
use Rattle.std.specs.Prelude.{vec_len}
use Rattle.std.specs.List.{AllByRecursion, flat_map}
use Rattle.sn_script.specs.Lines.{line_of, IsEvent}
use Rattle.sn_script.proofs.reading.read_script.Given as goal

abbrev pub invariant-loop-rest : goal.invariant-loop-rest
invariant-loop-rest l = record {
  each : AllByRecursion IsEvent l.events.items;
  spelled : l.script ≡ flat_map line_of l.events.items ++ l.rest;
  few : vec_len l.events + length l.rest ≤ length l.script;
}

abbrev pub decreases-loop-rest : goal.decreases-loop-rest
decreases-loop-rest l = length l.rest
