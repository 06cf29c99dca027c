-- What holds for a fault of the tree below.
use Rattle.std.specs.Prelude.{Result, Ok, Err}
use Rattle.sn_overlay_change.specs.declared.fault.LayerFault.{LayerFault}
use Rattle.sn_overlay_change.specs.declared.fault.LayerFault.TheVariants.{Memory, Below}

abbrev pub OfBelow : {F : Type 0} → LayerFault F → (F → Type 0) → Type 0
OfBelow Memory P = Unit {0}
OfBelow (Below f) P = P f

abbrev pub IfBelow : {X F : Type 0} → Result X (LayerFault F) → (F → Type 0) → Type 0
IfBelow (Ok x) P = Unit {0}
IfBelow (Err e) P = OfBelow e P
