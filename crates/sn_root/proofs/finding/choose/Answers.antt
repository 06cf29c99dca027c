use Rattle.std.proofs.Common.{subst}
use Rattle.sn_layout.specs.declared.geometry.Slot.TheVariants.{A}
use Rattle.sn_root.specs.Carried.{Holds}
use Rattle.sn_root.specs.declared.slots.Carried.{Carried}
use Rattle.sn_root.proofs.FindingLemmas.{misspelt_beside}
use Rattle.sn_root.proofs.finding.choose.Goals as goal

pub returns-in_default : goal.returns-in_default
returns-in_default c = record {
  finds = λ d in_a in_b. misspelt_beside d c.args.b c.in_default.not-UnknownVersion (subst (λ (h : Carried). Holds d A h) c.in-Misspelt.is in_a) in_b;
  read = λ fault is. cc;
  fits = λ fits_a fits_b. tt;
}
