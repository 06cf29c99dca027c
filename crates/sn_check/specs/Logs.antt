-- What a check finds of the log.
use Rattle.std.specs.Prelude.{◌≡◌, ℕ, ◌+◌, Bool, false, List, ◌++◌}
use Rattle.sn_device.specs.Sectors.{Contents}
use Rattle.sn_layout.specs.declared.root.RootBody.{RootBody}
use Rattle.sn_model.specs.declared.change.Change.{Change}
use Rattle.sn_model.specs.declared.fault.Damage.{Damage}
use Rattle.sn_model.specs.declared.fault.Damage.TheVariants.{Log}
use Rattle.sn_model.specs.declared.fault.MountFault.{MountFault}
use Rattle.sn_model.specs.declared.fault.MountFault.TheVariants as fault
use Rattle.sn_model.specs.Tree.{Tree}
use Rattle.sn_ondisk.specs.Trees.{store_of}
use Rattle.sn_image.specs.Image.{image}
use Rattle.sn_model.specs.Settling.{nameless_in}
use Rattle.sn_held.specs.Rooms.{is_covered, mounted}
use Rattle.sn_sound.specs.Charges.{charges_from}
use Rattle.sn_sound.specs.Logs.{AreReplayed, IsLogFault, half_block}
use Rattle.sn_examine.specs.Ages.{TellsRecovery}

-- On top of the root are logged changes of its epoch and then of the next one, all that there are, which make a tree of its image; they are
-- charged this much, this many files of the image have no name, and whether something is to recover follows from that.
pub record HasLogged (n : ℕ) (c : Contents) (root : RootBody) (charges dropped : ℕ) (recovers : Bool) : Type 0 where
  pub older : List Change
  pub newer : List Change
  pub middle : Tree
  pub tree : Tree
  pub has_older : AreReplayed c root.limits (image (store_of c) root.inode_file) n root.epoch older middle
  pub has_newer : AreReplayed c root.limits middle n (root.epoch + 1) newer tree
  pub charged : charges ≡ charges_from root.limits (older ++ newer) (image (store_of c) root.inode_file)
  pub nameless : dropped ≡ nameless_in (image (store_of c) root.inode_file)
  pub recovery : TellsRecovery recovers root (older ++ newer) tree

-- the damage is one of the log, which has a fault at the block
abbrev pub IsOfLog : ℕ → Contents → RootBody → ℕ → Damage → ℕ → Type 0
IsOfLog n c root free damage block = (damage ≡ Log) × IsLogFault n c root free block

-- more is charged than is free, which is a damage of the log, reported with the half of the root's epoch
abbrev pub IsOver : MountFault → ℕ → RootBody → ℕ → ℕ → ℕ → Type 0
IsOver (fault.Damaged damage block) n root free charges dropped = (damage ≡ Log) × (is_covered root.limits (mounted free charges dropped) ≡ false) × (block ≡ half_block n root.epoch)
IsOver cause n root free charges dropped = ⊥
