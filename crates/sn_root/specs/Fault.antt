-- Where a fault is, and its text.
use Rattle.std.specs.Prelude.{ℕ, List, codes}
use Rattle.sn_block.specs.Fault as reading
use Rattle.sn_layout.specs.declared.geometry.Slot.TheVariants.{A, B}
use Rattle.sn_ondisk.specs.Roots.{body_block}
use Rattle.sn_root.specs.declared.fault.RootFault.{RootFault}
use Rattle.sn_root.specs.declared.fault.RootFault.TheVariants.{NoOpenRoot, UnknownVersion, Damaged, Read}
use Rattle.sn_root.specs.declared.fault.RootDamage.{RootDamage}
use Rattle.sn_root.specs.declared.fault.RootDamage.TheVariants.{Misspelt, EqualGenerations}

-- the block that a damage is reported of: the body's, or that of the gates
abbrev pub block_of : RootDamage → ℕ
block_of (Misspelt slot) = body_block slot
block_of EqualGenerations = 3

abbrev pub damage_text : RootDamage → List ℕ
damage_text (Misspelt A) = codes "the root in block 1 is damaged"
damage_text (Misspelt B) = codes "the root in block 2 is damaged"
damage_text EqualGenerations = codes "both roots have one generation"

abbrev pub text_of : RootFault → List ℕ
text_of NoOpenRoot = codes "no root is open"
text_of UnknownVersion = codes "a root has an unknown version"
text_of (Damaged damage) = damage_text damage
text_of (Read fault) = reading.text_of fault
