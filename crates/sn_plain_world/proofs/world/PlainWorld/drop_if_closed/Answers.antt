use Rattle.std.proofs.Common.{sym, subst, ◌∙◌}
use Rattle.std.proofs.Math.Logic.{∥∥₁_elim, ∥∥₁_prop}
use Rattle.sn_limits.specs.Versions.{limits_written}
use Rattle.sn_model.specs.NameTree.{IsTree}
use Rattle.sn_numbers.specs.Live.{live_of}
use Rattle.sn_plain_world.specs.Plain.{world_of}
use Rattle.sn_caller.proofs.CallerLemmas.{is_left_nameless, taken_tree}
use Rattle.sn_plain_world.proofs.world.PlainWorld.drop_if_closed.Goals as goal

pub invariant_of-self : goal.invariant_of-self
invariant_of-self c =
    let old = c.args.self.now in
    let nameless = is_left_nameless (world_of old) c.args.number (sym c.is_abandoned.ensures ∙ c.if-is_abandoned.true) in
    record { whole = ∥∥₁_elim old.whole ∥∥₁_prop (λ w. ∣ subst (IsTree limits_written) (sym c.drop_closed.ensures.tree) (taken_tree (live_of old.tree) c.args.number nameless w) ∣₁) }
