-- What the parts of a disk that are read first say of it.
use Rattle.std.proofs.Common.{ℕ, Err, refl}
use Rattle.sn_device.specs.Sectors.{Contents}
use Rattle.sn_layout.specs.declared.geometry.LogHalf.TheVariants.{One}
use Rattle.sn_block.specs.declared.fault.ReadFault.{ReadFault}
use Rattle.sn_block.specs.declared.fault.ReadFault.TheVariants as read
use Rattle.sn_model.specs.declared.fault.MountFault.{MountFault}
use Rattle.sn_model.specs.declared.fault.MountFault.TheVariants as fault
use Rattle.sn_root.specs.Finding.{Finds}
use Rattle.sn_root.specs.declared.fault.RootFault.{RootFault}
use Rattle.sn_root.specs.declared.fault.RootFault.TheVariants as root
use Rattle.sn_sound.specs.Verdicts.{IsSomeSize}
use Rattle.sn_sound.proofs.VerdictLemmas.{not_damaged}
use Rattle.sn_examine.specs.Examining.{IsLaterIn, IsOfRoots, SomeIsLater, root_fault}
use Rattle.sn_examine.specs.Failing.{read_fault}
use Rattle.sn_examine.specs.Refusing.{Refuses}

-- why there is no newest root
pub root_refuses : (f : RootFault) (sectors : ℕ) (c : Contents) → IsSomeSize sectors c → Finds c (Err f) → Refuses (root_fault f) sectors c
root_refuses root.NoOpenRoot sectors c some finds = (some, finds)
root_refuses root.UnknownVersion sectors c some finds = (some, finds)
root_refuses (root.Damaged damage) sectors c some finds = (
  some,
  (
    λ w im. not_damaged c im.opens.slot im.opens.root damage im.opens.shown.newest finds.1,
    record { kind = refl; which = damage; known = finds.0; damaged = finds.1; here = refl },
  ),
)
root_refuses (root.Read read.Device) sectors c some finds = tt
root_refuses (root.Read read.Memory) sectors c some finds = tt

-- a read that fails reports no damage, and slots without a newest root one of the roots
pub read_of_roots : (f : ReadFault) → IsOfRoots (read_fault f)
read_of_roots read.Device = tt
read_of_roots read.Memory = tt

pub root_of_roots : (f : RootFault) → IsOfRoots (root_fault f)
root_of_roots root.NoOpenRoot = tt
root_of_roots root.UnknownVersion = tt
root_of_roots (root.Damaged damage) = refl
root_of_roots (root.Read f) = read_of_roots f

pub later_one : (f : MountFault) (c : Contents) (n epoch : ℕ) → IsLaterIn f c n One epoch → SomeIsLater f c n epoch
later_one (fault.Damaged damage block) c n epoch is = (is.0, (1, is.1, is.2))
later_one fault.NotFormatted c n epoch is = is
later_one fault.Version c n epoch is = is
later_one fault.NoRoot c n epoch is = is
later_one fault.Memory c n epoch is = tt
later_one fault.Device c n epoch is = tt
