use Rattle.std.proofs.Common.{◌≡◌, ◌+◌, ◌*◌, ◌%◌, ◌<◌, fold, take}
use Rattle.sn_dir_change.proofs.name_marks.hash.Given as goal

abbrev pub invariant-loop-byte : goal.invariant-loop-byte
invariant-loop-byte l = record {
  value : l.hash ≡ fold (λ hash byte. (31 * hash + byte) % 4096) 0 (take l.byte-index l.name);
  within : l.hash < 4096;
}
