use Rattle.std.proofs.Common.{Bool, refl, sym, subst}
use Rattle.sn_block.specs.Lending.{device_of}
use Rattle.sn_device.proofs.CrashLemmas.{Always-synced, LeavesOnly-start}
use Rattle.sn_held.specs.Images.{IsImage}
use Rattle.sn_overlay.specs.Overlays.{layer_of, no_changes}
use Rattle.sn_cp_whole.specs.Planning.{kept_in}
use Rattle.sn_mount.specs.Rooting.{BecomesRoot}
use Rattle.sn_mount.proofs.RecoverLemmas.{unmade_leaves}
use Rattle.sn_mount.proofs.settling.make_root.Goals as goal

pub returns-then-not-recovers-clause-makes : goal.returns-then-not-recovers-clause-makes
returns-then-not-recovers-clause-makes g c told world im in_n replayed stays =
    let d = g.D.Device.disk (device_of c.args.blocks.now) in
    (LeavesOnly-start d (λ x. IsImage x world) (Always-synced d (λ x. IsImage x world) (c.requires.synced told) im), stays c.if-not-recovers.true)

pub returns-in-Ok-clause-makes : goal.returns-in-Ok-clause-makes
returns-in-Ok-clause-makes g c told world im in_n replayed stays = c.in-Ok.ensures.recovery told world im in_n replayed

pub returns-clause-makes : goal.returns-clause-makes
returns-clause-makes g c told world im in_n replayed stays =
    (unmade_leaves c.in-Err.fault c.args.geometry world _ _ (c.requires.synced told) im (c.in-Err.ensures.recovery told world im in_n replayed), tt)

pub returns-then-not-recovers-clause-root : goal.returns-then-not-recovers-clause-root
returns-then-not-recovers-clause-root g c = subst (λ (b : Bool). BecomesRoot b (kept_in c.args.base (layer_of c.args.changed.now)) (kept_in c.args.base no_changes)) (sym c.if-not-recovers.true) (refl, refl, refl)

pub returns-in-Ok-clause-root : goal.returns-in-Ok-clause-root
returns-in-Ok-clause-root g c = subst (λ (b : Bool). BecomesRoot b (kept_in c.args.base (layer_of c.args.changed.now)) (kept_in c.in-Ok.next no_changes)) (sym c.if-not-recovers.false) (c.in-Ok.ensures.slot, c.in-Ok.ensures.follows)
