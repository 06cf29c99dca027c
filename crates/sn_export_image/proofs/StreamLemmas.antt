-- A stream that is begun stays so where an output keeps what it has.
use Rattle.std.proofs.Common.{Option, List, ℕ}
use Rattle.std.specs.Io.KnownBytes.{Keeps}
use Rattle.sn_output.proofs.OutputLemmas.{front_kept}
use Rattle.sn_export_writing.specs.Streams.{BeginsStream}

pub begins_kept : (old between new : Option (List ℕ)) → BeginsStream old between → Keeps between new → BeginsStream old new
begins_kept old between new b kept = (b.0, b.1, b.2, front_kept old between new b.1 b.3 kept)
