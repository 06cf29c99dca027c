-- What the census reports.
use Rattle.std.specs.Prelude.{ℕ}
use Rattle.sn_layout.specs.declared.tree.BlockTree.{BlockTree}
use Rattle.sn_model.specs.declared.fault.Damage.{Damage}
use Rattle.sn_model.specs.declared.fault.Damage.TheVariants.{Links}
use Rattle.sn_ondisk.specs.Trees.{Store}
use Rattle.sn_sound.specs.Faults.{IsLinkFault}

-- A fault that the links of one root have. `body` is the block of the root body.
abbrev pub StandsInLinks : Store → BlockTree → ℕ → Damage → ℕ → Type 0
StandsInLinks s inodes body Links block = IsLinkFault s inodes body block
StandsInLinks s inodes body other block = ⊥

-- links are wrong, which is reported at this block
pub data IsAt (block : ℕ) : Damage → ℕ → Type 0 where
  at : IsAt block Links block
