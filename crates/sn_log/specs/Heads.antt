-- The head of a record's body.
use Rattle.std.specs.Prelude.{ℕ, ◌^◌, ◌<◌, List, ◌++◌}
use Rattle.sn_layout.specs.Bytes.{number_bytes}
use Rattle.sn_log.specs.declared.body.Head.{Head}

abbrev pub head_bytes : Head → List ℕ
head_bytes head = number_bytes 8 head.epoch ++ number_bytes 4 head.sequence ++ number_bytes 4 head.size

-- its numbers fit their fields
pub record IsHead (head : Head) : Type 0 where
  pub epoch : head.epoch < 256 ^ 8
  pub sequence : head.sequence < 256 ^ 4
  pub size : head.size < 256 ^ 4
