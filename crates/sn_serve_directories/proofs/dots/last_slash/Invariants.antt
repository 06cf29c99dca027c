use Rattle.std.proofs.Common.{◌≡◌, ◌≤◌, drop}
use Rattle.sn_serve_directories.specs.Entries.{last_slash}
use Rattle.sn_serve_directories.proofs.dots.last_slash.Given as goal

-- the last one before the place
abbrev pub invariant-loop-place : goal.invariant-loop-place
invariant-loop-place l = (last_slash l.last l.place (drop l.place l.path) ≡ last_slash 0 0 l.path) × (l.last ≤ l.place)
