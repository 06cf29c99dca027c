use Rattle.std.proofs.Common.{◌≡◌, ◌++◌, drop, map, take}
use Rattle.sn_dir_change.specs.Standing.{seen_too}
use Rattle.sn_dir_change.proofs.standing.note_names.Given as goal

-- those so far were looked for
abbrev pub invariant-loop-sought : goal.invariant-loop-sought
invariant-loop-sought l = l.list ≡ map (seen_too l.names) (take l.sought-index l.fn.list) ++ drop l.sought-index l.fn.list
