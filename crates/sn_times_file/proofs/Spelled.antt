-- What was read is what is spelled.
use Rattle.std.proofs.Common.{◌≡◌, ℕ, List, ◌++◌, length, ◌∙◌, append_assoc, length-append, arith}
use Rattle.sn_bytes.specs.Bytes.{number_bytes}
use Rattle.sn_bytes.proofs.Fields.{length-number_bytes}
use Rattle.sn_fuse.specs.declared.operation.Time.{Time}
use Rattle.sn_times.specs.declared.stamps.Stamps.{Stamps}
use Rattle.sn_times_file.specs.Kept.{entry_bytes, head_bytes, time_bytes}

pub length-time_bytes : (t : Time) → length (time_bytes t) ≡ 12
length-time_bytes t = length-append (number_bytes 8 t.seconds) (number_bytes 4 t.nanoseconds) ∙ omega (arith, length-number_bytes 8 t.seconds, length-number_bytes 4 t.nanoseconds)

-- the fields of an entry, one after the other
pub entry_flat : (e : ℕ × Stamps) (rest : List ℕ) → entry_bytes e ++ rest ≡ number_bytes 2 e.0 ++ (time_bytes e.1.accessed ++ (time_bytes e.1.modified ++ (time_bytes e.1.changed ++ rest)))
entry_flat e rest = simp append_assoc

pub length-entry_bytes : (e : ℕ × Stamps) → length (entry_bytes e) ≡ 38
length-entry_bytes e =
    let number = length-number_bytes 2 e.0 in
    let accessed = length-time_bytes e.1.accessed in
    let modified = length-time_bytes e.1.modified in
    let changed = length-time_bytes e.1.changed in
    length-append (number_bytes 2 e.0 ++ time_bytes e.1.accessed ++ time_bytes e.1.modified) (time_bytes e.1.changed)
    ∙ omega (arith, number, accessed, modified, changed, length-append (number_bytes 2 e.0 ++ time_bytes e.1.accessed) (time_bytes e.1.modified), length-append (number_bytes 2 e.0) (time_bytes e.1.accessed))

pub length-head_bytes : (root : List ℕ) → length (head_bytes root) ≡ 16
length-head_bytes root =
    let version = length-number_bytes 4 2 in
    let size = length-number_bytes 4 (length root) in
    omega (arith, version, size, length-append (number_bytes 4 2) (number_bytes 4 (length root)))
