-- What is left as it is while a call is served.
use Rattle.std.proofs.Common.{◌≡◌, ℕ, ◌*◌, ◌≤◌, Bool, true, false, if◌then◌else◌, List, Option, None, Some, length, sym, ap, subst, ◌∙◌, arith}
use Rattle.sn_layout.specs.RootBody.{IsRootBody}
use Rattle.sn_layout.specs.declared.root.RootBody.{RootBody}
use Rattle.sn_log.specs.Positions.{LogPosition, base_at}
use Rattle.sn_ondisk.specs.LogHalf.{InHalf, base_of}
use Rattle.sn_device.specs.Crash.{Touches}
use Rattle.sn_device.specs.Disk.{Disk, reads}
use Rattle.sn_device.specs.Sectors.{AreSectors}
use Rattle.sn_layout.specs.Geometry.{other_slot}
use Rattle.sn_model.specs.declared.change.Change.{Change}
use Rattle.sn_model.specs.declared.outcome.Outcome.{Outcome}
use Rattle.sn_held.specs.Held.{Held}
use Rattle.sn_cp.proofs.LogLemmas.{log_keeps}
use Rattle.sn_cp.specs.Points.{stage_of, work_of}
use Rattle.sn_cp_whole.specs.declared.going.GoingPoint.{GoingPoint}
use Rattle.sn_cp_whole.specs.declared.base.PointBase.{PointBase}
use Rattle.sn_events.specs.Answers.{HasAll, is_fitting}
use Rattle.sn_events.specs.Mounted.{IsBased, IsSameRoot, StandsThere}
use Rattle.sn_events.specs.Serving.{LacksNothing, LacksSome, TellsLack}

-- the log is on the device still
pub within_still : (blocks next sectors after : ℕ) → next ≡ blocks → after ≡ sectors → 8 * blocks ≤ sectors → 8 * next ≤ after
within_still blocks next sectors after e f within = subst (λ (n : ℕ). 8 * n ≤ after) (sym e) (subst (λ (n : ℕ). 8 * blocks ≤ n) (sym f) within)

pub based_still : (going : Option GoingPoint) (old new : LogPosition) (base next : PointBase) → new.blocks ≡ old.blocks → new.epoch ≡ old.epoch → IsSameRoot base next → IsBased going old base → IsBased going new next
based_still None old new base next blocks epoch same is = record {
  body = subst IsRootBody (sym same.root) is.body;
  words = ap (λ (m : List ℕ). length m) same.map ∙ is.words ∙ sym blocks;
  epoch = epoch ∙ is.epoch ∙ ap (λ (r : RootBody). r.epoch) (sym same.root);
}
based_still (Some going) old new base next blocks epoch same is = record {
  whole = is.whole;
  within = is.within;
  blocks = is.blocks ∙ sym blocks;
  slot = ap other_slot same.slot ∙ is.slot;
  epoch = epoch ∙ is.epoch;
}

-- where the same is in progress
pub still_based : (going still : Option GoingPoint) (old new : LogPosition) (base next : PointBase) → still ≡ going → new.blocks ≡ old.blocks → new.epoch ≡ old.epoch → IsSameRoot base next → IsBased going old base → IsBased still new next
still_based going still old new base next there blocks epoch same is = subst (λ (g : Option GoingPoint). IsBased g new next) (sym there) (based_still going old new base next blocks epoch same is)

-- a record that is appended leaves the point in progress where it is
stands_still : (going : Option GoingPoint) (at : LogPosition) (base : PointBase) (old new : Disk) → IsBased going at base → AreSectors (reads old) → Touches (InHalf (base_at at)) old new → StandsThere going old → StandsThere going new
stands_still None at base old new based whole touched stands = tt
stands_still (Some going) at base old new is whole touched stands =
    log_keeps (work_of going.point) (stage_of going.point) at.epoch old new whole is.whole is.within (subst (λ (n : ℕ). Touches (InHalf (base_of n at.epoch)) old new) (sym is.blocks) touched) stands

pub still_stands : (going still : Option GoingPoint) (at : LogPosition) (base : PointBase) (old new : Disk) → still ≡ going → IsBased going at base → AreSectors (reads old) → Touches (InHalf (base_at at)) old new → StandsThere going old → StandsThere still new
still_stands going still at base old new there based whole touched stands = subst (λ (g : Option GoingPoint). StandsThere g new) (sym there) (stands_still going at base old new based whole touched stands)

-- what a change lacks, as the call that results in it says it
pub some_lack : (h p : Held) (o : Outcome) (change : Change) (enough told : Bool) → p ≡ h → enough ≡ is_fitting h o → told ≡ true → TellsLack told p change enough → LacksSome h change (is_fitting h o)
some_lack h p o change enough told same fits is lacks =
    subst (λ (x : Held). LacksSome x change (is_fitting h o)) same (subst (LacksSome p change) fits (subst (λ (b : Bool). TellsLack b p change enough) is lacks))

pub lacks_nothing : (h p : Held) (o : Outcome) (change : Change) (enough told : Bool) → p ≡ h → enough ≡ is_fitting h o → told ≡ false → TellsLack told p change enough → HasAll h change o
lacks_nothing h p o change enough told same fits is lacks =
    let nothing : LacksNothing h change (is_fitting h o) = subst (λ (x : Held). LacksNothing x change (is_fitting h o)) same (subst (LacksNothing p change) fits (subst (λ (b : Bool). TellsLack b p change enough) is lacks)) in
    record { room = nothing.room; fits = nothing.fits; number = nothing.number; age = nothing.age }

-- what is opened or lost is one file at most
pub one_at_most : (b : Bool) → (if b then 1 else 0) ≤ 1
one_at_most true = omega arith
one_at_most false = omega arith
