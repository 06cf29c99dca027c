-- Replay of two epochs, one after the other.
use Rattle.std.proofs.Common.{◌≡◌, ℕ, ◌+◌, sym, subst, arith}
use Rattle.sn_device.specs.Sectors.{Contents}
use Rattle.sn_model.specs.declared.fault.MountFault.{MountFault}
use Rattle.sn_model.specs.declared.fault.MountFault.TheVariants as fault
use Rattle.sn_model.specs.Tree.{Tree}
use Rattle.sn_overlay.specs.Layers.{Layer}
use Rattle.sn_overlay.specs.Overlays.{no_changes}
use Rattle.sn_changed.specs.Changed.{HasChanged}
use Rattle.sn_limits.specs.declared.limits.Limits.{Limits}
use Rattle.sn_log.specs.Positions.{LogPosition}
use Rattle.sn_examine.specs.Both.{BothBreak, Replays, in_newer}
use Rattle.sn_examine.specs.Replaying.{Breaks, LeadsOn}

pub newer_fails : (limits : Limits) (f : MountFault) (c : Contents) (from : Tree) (n epoch : ℕ) (at : LogPosition) (middle : Tree) (charges : ℕ) → Replays limits c from n epoch at middle charges → Breaks limits f c middle n (epoch + 1) → BothBreak limits f c from n epoch
newer_fails limits (fault.Damaged damage block) c from n epoch at middle charges first b = (b.0, in_newer at middle charges first b.1)
newer_fails limits fault.NotFormatted c from n epoch at middle charges first b = b
newer_fails limits fault.Version c from n epoch at middle charges first b = b
newer_fails limits fault.NoRoot c from n epoch at middle charges first b = b
newer_fails limits fault.Memory c from n epoch at middle charges first b = tt
newer_fails limits fault.Device c from n epoch at middle charges first b = tt

-- what changed leads on over both
pub leads_both : (limits : Limits) (first middle last : Layer) (from between tree : Tree) (older newer : ℕ) → first ≡ no_changes → LeadsOn limits first from 0 middle between older → LeadsOn limits middle between 0 last tree newer → LeadsOn limits no_changes from 0 last tree (older + newer)
leads_both limits first middle last from between tree older newer none one two root before has =
    let here : before + older ≡ before + older + 0 = omega arith in
    let there : before + older + newer ≡ before + (older + newer) = omega arith in
    subst (HasChanged limits last root tree) there (two root (before + older) (subst (HasChanged limits middle root between) here
    (one root before (subst (λ (l : Layer). HasChanged limits l root from (before + 0)) (sym none) has))))
