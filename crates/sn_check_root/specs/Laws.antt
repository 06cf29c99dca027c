-- What follows from the answers of the check.
use Rattle.std.specs.Prelude.{ℕ}
use Rattle.sn_limits.specs.declared.limits.Limits.{Limits}
use Rattle.sn_layout.specs.declared.tree.BlockTree.{BlockTree}
use Rattle.sn_model.specs.declared.fault.Damage.{Damage}
use Rattle.sn_ondisk.specs.Trees.{Store}
use Rattle.sn_image.specs.Sound.{IsLinked, IsSound}
use Rattle.sn_check_root.specs.Rules.{IsSoundButLinks, StandsInRoot}

-- With its links a root is sound.
abbrev pub LinksMakeRootsSound : Type 0
LinksMakeRootsSound = (limits : Limits) (n : ℕ) (s : Store) (inodes : BlockTree) → IsSoundButLinks limits n s inodes → IsLinked s inodes → IsSound limits n s inodes

-- Where there is one of the faults, a root isn't sound, whatever its links.
abbrev pub StandingFaultsAreReal : Type 0
StandingFaultsAreReal = (limits : Limits) (n : ℕ) (s : Store) (inodes : BlockTree) (body : ℕ) (damage : Damage) (block : ℕ) → StandsInRoot limits n s inodes body damage block
    → IsSoundButLinks limits n s inodes → ⊥
