use Rattle.std.proofs.Common.{◌≡◌, ◌-◌, ◌≤◌, drop, take, vec_len, IsTrue}
use Rattle.std.specs.FinMap as map
use Rattle.sn_overlay.specs.Layers.{bytes_of}
use Rattle.sn_live_files.proofs.bytes.gathered.Given as goal

-- this many bytes are read
abbrev pub invariant-loop-bytes : goal.invariant-loop-bytes
invariant-loop-bytes g l = record {
  kept : g.B.Below.holds l.tree;
  follows : g.B.Below.follows l.fn.tree l.tree;
  same : IsTrue g.B.Below.is_told → g.B.Below.shows l.tree ≡ g.B.Below.shows l.fn.tree;
  few : vec_len l.bytes ≤ l.count;
  read : IsTrue g.B.Below.is_told → l.bytes.items ≡ take (vec_len l.bytes) (drop l.offset (bytes_of (map.get (g.B.Below.shows l.fn.tree).nodes l.number)));
}

abbrev pub decreases-loop-bytes : goal.decreases-loop-bytes
decreases-loop-bytes g l = l.count - vec_len l.bytes
