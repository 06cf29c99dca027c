use Rattle.std.proofs.Common.{refl, sym, subst}
use Rattle.std.specs.FinMap as map
use Rattle.sn_limits.specs.Versions.{limits_written}
use Rattle.sn_model.specs.NameTree.{IsTree}
use Rattle.sn_model.specs.Worlds.{IsWorld}
use Rattle.sn_model.proofs.WorldLemmas.{new_is_world, new_tree_is}
use Rattle.sn_plain_world.proofs.world.PlainWorld.new.Goals as goal

pub returns-clause-world : goal.returns-clause-world
returns-clause-world c = λ i. record { live = c.in_ok-tree.ensures.tree i; frozen = map.empty; sessions = (c.in_ok-sessions.ensures i).sessions; descriptors = (c.in_ok-sessions.ensures i).descriptors }

pub returns-clause-whole : goal.returns-clause-whole
returns-clause-whole c = subst (IsWorld limits_written) (λ i. record { live = sym c.in_ok-tree.ensures.tree i; frozen = map.empty; sessions = (sym c.in_ok-sessions.ensures i).sessions; descriptors = (sym c.in_ok-sessions.ensures i).descriptors }) (new_is_world limits_written.version limits_written refl)

pub invariant_of-result : goal.invariant_of-result
invariant_of-result c = record { whole = ∣ subst (IsTree limits_written) (sym c.in_ok-tree.ensures.tree) (new_tree_is limits_written.version limits_written refl) ∣₁ }
