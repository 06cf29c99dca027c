-- When the trees of a root's snapshots can be read.
use Rattle.std.specs.Prelude.{ℕ, All}
use Rattle.sn_layout.specs.declared.root.RootBody.{RootBody}
use Rattle.sn_layout.specs.declared.snapshot.Snapshot.{Snapshot}
use Rattle.sn_ondisk.specs.Trees.{Store}
use Rattle.sn_rooted.specs.Roots.{IsSoundRoot}

-- each snapshot of a root is sound, as far as its own tree goes
abbrev pub AreSoundFrozen : ℕ → Store → RootBody → Type 0
AreSoundFrozen sectors s root = All (λ (snapshot : Snapshot). IsSoundRoot root.limits sectors s snapshot.tree) root.snapshots
