-- What follows from the answers of the census.
use Rattle.std.specs.Prelude.{ℕ}
use Rattle.sn_limits.specs.declared.limits.Limits.{Limits}
use Rattle.sn_layout.specs.declared.tree.BlockTree.{BlockTree}
use Rattle.sn_model.specs.declared.fault.Damage.{Damage}
use Rattle.sn_ondisk.specs.Trees.{Store}
use Rattle.sn_image.specs.Sound.{IsLinked}
use Rattle.sn_check_root.specs.Rules.{IsSoundButLinks}
use Rattle.sn_census.specs.Faults.{StandsInLinks}

-- Where there is one of the faults, a root that is sound but for its links isn't linked.
abbrev pub LinkFaultsAreReal : Type 0
LinkFaultsAreReal = (limits : Limits) (n : ℕ) (s : Store) (inodes : BlockTree) (body : ℕ) (damage : Damage) (block : ℕ) → StandsInLinks s inodes body damage block
    → IsSoundButLinks limits n s inodes → IsLinked s inodes → ⊥
