use Rattle.std.proofs.Common.{subst}
use Rattle.sn_layout.specs.declared.geometry.Slot.TheVariants.{B}
use Rattle.sn_root.specs.Carried.{Holds}
use Rattle.sn_root.specs.declared.slots.Carried.{Carried}
use Rattle.sn_root.proofs.FindingLemmas.{beside_misspelt}
use Rattle.sn_root.proofs.finding.choose_beside.Goals as goal

pub returns-in-Misspelt-clause-finds : goal.returns-in-Misspelt-clause-finds
returns-in-Misspelt-clause-finds c d in_a in_b = beside_misspelt d c.args.root in_a (subst (λ (h : Carried). Holds d B h) c.in-Misspelt.is in_b)
