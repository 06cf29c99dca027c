use Rattle.std.proofs.Common.{sym, subst}
use Rattle.std.proofs.Math.Logic.{∥∥₁_elim, ∥∥₁_prop}
use Rattle.sn_model.specs.NameTree.{IsHierarchy}
use Rattle.sn_plain_world.proofs.view.PlainViewMoveView.is_below.Goals as goal

pub is_below-requires : goal.is_below-requires
is_below-requires c = ∥∥₁_elim c.args.self.now.whole ∥∥₁_prop (λ w. ∣ subst IsHierarchy (sym c.tree.ensures) w.hierarchy ∣₁)
