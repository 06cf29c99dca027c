-- The map of the groups of a user namespace in /proc/PID/gid_map: user_namespaces(7).
use Rattle.std.specs.Prelude.{ℕ, List, codes}

-- the text of the map that leaves each number as it is: from 0, to 0, so many. Each number has ten places.
abbrev pub identity : List ℕ
identity = codes "         0          0 4294967295\n"
