use Rattle.std.proofs.Common.{length, refl, ap, ◌∙◌, length-append, arith}
use Rattle.sn_bytes.proofs.Fields.{true_false}
use Rattle.sn_times_file.specs.Kept.{entry_bytes}
use Rattle.sn_times_file.proofs.Spelled.{entry_flat, length-entry_bytes}
use Rattle.sn_times_file.proofs.entry.read_entry.Goals as goal

pub returns-then-remaining-lt-ENTRY_SIZE-clause-only : goal.returns-then-remaining-lt-ENTRY_SIZE-clause-only
returns-then-remaining-lt-ENTRY_SIZE-clause-only c = λ entry rest is e. absurd (omega (arith, ap length e, length-append (entry_bytes entry) rest, length-entry_bytes entry))

pub returns-then-not-is_entry-clause-only : goal.returns-then-not-is_entry-clause-only
returns-then-not-is_entry-clause-only c = λ entry rest is e.
    let number = c.u16-number.ensures.only entry.0 _ is.0 (e ∙ entry_flat entry rest) in
    let accessed = c.read_time.ensures.only entry.1.accessed _ is.1 number.1 in
    let modified = c.read_time-2.ensures.only entry.1.modified _ is.2 accessed.1 in
    let changed = c.read_time-3.ensures.only entry.1.changed rest is.3 modified.1 in
    true_false c.is_entry.result (c.is_entry.ensures.1 (rw (number.0, accessed.0, modified.0, changed.0) is)) c.if-not-is_entry.true

pub returns-clause-only : goal.returns-clause-only
returns-clause-only c = λ entry rest is e.
    let number = c.u16-number.ensures.only entry.0 _ is.0 (e ∙ entry_flat entry rest) in
    let accessed = c.read_time.ensures.only entry.1.accessed _ is.1 number.1 in
    let modified = c.read_time-2.ensures.only entry.1.modified _ is.2 accessed.1 in
    let changed = c.read_time-3.ensures.only entry.1.changed rest is.3 modified.1 in
    (rw (number.0, accessed.0, modified.0, changed.0) refl, changed.1)
