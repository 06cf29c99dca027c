-- The mode that an inode and a log record hold.
use Rattle.std.specs.Prelude.{ℕ, ◌<◌, List}
use Rattle.sn_acl.specs.declared.modes.Mode.{Mode}
use Rattle.sn_acl.specs.Modes.{mode_bits}
use Rattle.sn_layout.specs.Bytes.{number_bytes}

-- each three bits are a set of rights
pub record IsMode (mode : Mode) : Type 0 where
  pub owner : mode.owner < 8
  pub group : mode.group < 8
  pub other : mode.other < 8

abbrev pub mode_bytes : Mode → List ℕ
mode_bytes mode = number_bytes 2 (mode_bits mode)
