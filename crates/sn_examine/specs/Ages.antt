-- Whether something is to recover, and an age is left for that.
use Rattle.std.specs.Prelude.{◌≡◌, ◌↔◌, ℕ, Bool, true, false, List, []}
use Rattle.sn_layout.specs.declared.root.RootBody.{RootBody}
use Rattle.sn_model.specs.declared.change.Change.{Change}
use Rattle.sn_model.specs.declared.fault.Damage.TheVariants.{Log}
use Rattle.sn_model.specs.declared.fault.MountFault.{MountFault}
use Rattle.sn_model.specs.declared.fault.MountFault.TheVariants as fault
use Rattle.sn_model.specs.Tree.{Tree}
use Rattle.sn_model.specs.Settling.{nameless_in}
use Rattle.sn_sound.specs.Logs.{HasAgeLeft, IsToRecover, half_block}

-- something is to recover on top of the root, or nothing is
abbrev pub TellsRecovery : Bool → RootBody → List Change → Tree → Type 0
TellsRecovery true root changes tree = IsToRecover root changes tree
TellsRecovery false root changes tree = IsToRecover root changes tree → ⊥

-- the same by numbers: this one is 0 where no changes are logged, and nowhere else, and this many files of the tree have no name
abbrev pub TellsByNumbers : Bool → RootBody → ℕ → ℕ → Type 0
TellsByNumbers recovers root logged nameless = (changes : List Change) (tree : Tree) → (logged ≡ 0 ↔ changes ≡ []) → nameless ≡ nameless_in tree → TellsRecovery recovers root changes tree

-- something is, and the root has no age left for that, which is reported with the half of its epoch
abbrev pub IsAged : MountFault → ℕ → RootBody → Bool → Type 0
IsAged (fault.Damaged damage block) n root recovers = (damage ≡ Log) × (recovers ≡ true) × (HasAgeLeft root → ⊥) × (block ≡ half_block n root.epoch)
IsAged cause n root recovers = ⊥
