use Rattle.std.proofs.Common.{◌≡◌, ◌∙◌, ◌++◌, ◌∷◌, [], ℕ, List, drop, refl, sym, ap, arith}
use Rattle.sn_layout.specs.Bytes.{number_bytes}
use Rattle.sn_layout.specs.Records.{numbers_then}
use Rattle.sn_layout.proofs.Records.{byte_number}
use Rattle.sn_record.specs.Payload.{front_widths}
use Rattle.sn_record.proofs.ownership.Front.read.Goals as goal

pub returns-clause-read : goal.returns-clause-read
returns-clause-read c =
    let others : c.u8.new.self ≡ numbers_then (drop 1 front_widths) (c.u16.result ∷ c.u32.result ∷ c.u32-2.result ∷ []) c.u32-2.new.self = rw (c.u16.ensures.read, c.u32.ensures.read, c.u32-2.ensures.read) refl in
    c.u8.ensures.read ∙ sym (byte_number c.u8.result c.u8.new.self (omega arith)) ∙ ap (λ (r : List ℕ). number_bytes 1 c.u8.result ++ r) others
