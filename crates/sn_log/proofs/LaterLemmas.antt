-- The epoch after a gate.
use Rattle.std.proofs.Common.{◌≡◌, ℕ, ◌+◌, List, ◌++◌, sym, ap, ◌∙◌, append_assoc}
use Rattle.byteorder.specs.Endian.{little_number}
use Rattle.byteorder.specs.Numbers.{little_number-reads_back}
use Rattle.sn_device.specs.Sectors.{Contents, sector_at}
use Rattle.sn_layout.specs.Bytes.{number_bytes}
use Rattle.sn_ondisk.specs.LogHalf.{epoch_at}
use Rattle.sn_log.specs.declared.body.Head.{Head}
use Rattle.sn_log.specs.Heads.{IsHead, head_bytes}

-- it is that of the head that is read there
pub epoch_read : (c : Contents) (base : ℕ) (head : Head) (sector rest : List ℕ) → IsHead head → sector ≡ sector_at c (base + 0 + 1) → sector ≡ head_bytes head ++ rest → epoch_at c base 0 ≡ head.epoch
unfolding number_bytes
epoch_read c base head sector rest fits is begins =
    let flat = append_assoc (number_bytes 8 head.epoch ++ number_bytes 4 head.sequence) (number_bytes 4 head.size) rest ∙ append_assoc (number_bytes 8 head.epoch) (number_bytes 4 head.sequence) (number_bytes 4 head.size ++ rest) in
    ap (little_number 8) (sym is ∙ begins ∙ flat)
    ∙ little_number-reads_back 8 head.epoch (number_bytes 4 head.sequence ++ number_bytes 4 head.size ++ rest) fits.epoch
