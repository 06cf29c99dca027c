-- The text of a fault.
use Rattle.std.specs.Prelude.{ℕ, List, codes}
use Rattle.sn_block.specs.declared.fault.ReadFault.{ReadFault}
use Rattle.sn_block.specs.declared.fault.ReadFault.TheVariants.{Device, Memory}

abbrev pub text_of : ReadFault → List ℕ
text_of Device = codes "the device failed"
text_of Memory = codes "out of memory"
