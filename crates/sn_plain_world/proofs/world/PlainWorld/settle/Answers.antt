use Rattle.std.proofs.Common.{false, sym, subst}
use Rattle.std.proofs.Math.Logic.{∥∥₁_elim, ∥∥₁_prop}
use Rattle.sn_limits.specs.Versions.{limits_written}
use Rattle.sn_model.specs.NameTree.{IsTree}
use Rattle.sn_model.proofs.DropLemmas.{dropping_tree}
use Rattle.sn_numbers.specs.Live.{live_of}
use Rattle.std.specs.FinMap as map
use Rattle.sn_plain_world.proofs.world.PlainWorld.settle.Goals as goal

pub returns-clause-world : goal.returns-clause-world
returns-clause-world c = λ i. record { live = c.settle.ensures.tree i; frozen = map.empty; sessions = (c.clear.ensures.in_use i).sessions; descriptors = (c.clear.ensures.in_use i).descriptors }

pub invariant_of-self : goal.invariant_of-self
invariant_of-self c =
    let old = c.args.self.now in
    record { whole = ∥∥₁_elim old.whole ∥∥₁_prop (λ w. ∣ subst (IsTree limits_written) (sym c.settle.ensures.tree) (dropping_tree limits_written (live_of old.tree) (λ _. false) w) ∣₁) }
