-- What a mounted file system without a point in progress is based on.
use Rattle.std.proofs.Common.{◌≡◌, false, Option, None, Some, is_some, refl, ap, sym, ℕ, ◌∙◌}
use Rattle.std.proofs.lemmas.Bool.{true≢false}
use Rattle.sn_cp_whole.specs.Going.{going_of}
use Rattle.sn_cp_whole.specs.Planning.{IsBaseAt}
use Rattle.sn_cp_whole.specs.declared.base.PointBase.{PointBase}
use Rattle.sn_cp_whole.specs.declared.going.GoingPoint.{GoingPoint}
use Rattle.sn_device.specs.Disk.{Disk}
use Rattle.sn_log.specs.Positions.{LogPosition, first_of}
use Rattle.sn_events.specs.Mounted.{IsBased, StandsThere, going_in}

none_going : {A : Type 0} (going : GoingPoint) → going_in (Some going) ≡ None → A
none_going going none = let never : Some (going_of going) ≡ None = none in absurd cc

pub none_there : (going : Option GoingPoint) → going ≡ None → going_in going ≡ None
none_there going none = ap going_in none

pub none_in : (going : Option GoingPoint) → is_some going ≡ false → going_in going ≡ None
none_in None e = refl
none_in (Some going) e = absurd (true≢false e)

pub based_none : (going : Option GoingPoint) (at : LogPosition) (base : PointBase) → going_in going ≡ None → IsBaseAt at base → IsBased going at base
based_none None at base none is = is
based_none (Some going) at base none is = none_going going none

pub base_none : (going : Option GoingPoint) (at : LogPosition) (base : PointBase) → going_in going ≡ None → IsBased going at base → IsBaseAt at base
base_none None at base none is = is
base_none (Some going) at base none is = none_going going none

pub stands_none : (going : Option GoingPoint) (d : Disk) → going_in going ≡ None → StandsThere going d
stands_none None d none = tt
stands_none (Some going) d none = none_going going none

-- the first place of an epoch is that of the root whose epoch it is
pub first_there : (at : LogPosition) (blocks epoch next : ℕ) → at ≡ first_of blocks epoch → at.epoch ≡ next → at ≡ first_of at.blocks next
first_there at blocks epoch next is same = let size = ap (λ (x : LogPosition). x.blocks) is in let number = sym (ap (λ (x : LogPosition). x.epoch) is) ∙ same in is ∙ (λ i. first_of (sym size i) (number i))
