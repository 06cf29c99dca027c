use Rattle.std.proofs.Common.{ℕ, arith}
use Rattle.sn_limits.specs.declared.limits.Limits.{Limits}
use Rattle.sn_layout.specs.declared.tree.BlockTree.{BlockTree}
use Rattle.sn_model.specs.declared.fault.Damage.{Damage}
use Rattle.sn_model.specs.declared.fault.Damage.TheVariants as damage
use Rattle.sn_ondisk.specs.Trees.{Store}
use Rattle.sn_sound.specs.Faults.{IsMisspelt, size, file, misspelt_record, reserved, root, acls, content, hidden}
use Rattle.sn_sound.proofs.SoundLemmas.{content_clean, tree_clean}
use Rattle.sn_check_root.specs.Rules.{IsSoundButLinks, StandsInRoot}
use Rattle.sn_check_root.proofs.laws.root_laws.Goals as goal

pub returns-clause-sound : goal.returns-clause-sound
returns-clause-sound c limits n s inodes but linked = record {
  placed = but.placed;
  file = but.file;
  ends = but.ends;
  records = but.records;
  used = but.used;
  names = but.names;
  linked = linked;
}

-- where something is misspelt, a root isn't sound
spelled : (limits : Limits) (n : ℕ) (s : Store) (inodes : BlockTree) (body : ℕ) → IsSoundButLinks limits n s inodes → (block : ℕ) → IsMisspelt limits s inodes body block → ⊥
spelled limits n s inodes body sound _ (size wrong) = wrong sound.file
spelled limits n s inodes body sound _ (file block fault) = tree_clean s inodes body sound.ends block fault
spelled limits n s inodes body sound _ (misspelt_record number within wrong) = wrong (sound.records.spelled number within)
spelled limits n s inodes body sound _ (reserved number low some) = some (sound.records.reserved number low)
spelled limits n s inodes body sound _ (root wrong) = wrong sound.records.root
spelled limits n s inodes body sound _ (acls number inode is wrong) = wrong (sound.used.acls number inode is)
spelled limits n s inodes body sound _ (content number inode block is fault) =
    content_clean limits s inodes number _ block inode.kind inode.content sound.names (sound.used.contents number inode is) fault
spelled limits n s inodes body sound _ (hidden some) = some sound.names.hidden

stands : (limits : Limits) (n : ℕ) (s : Store) (inodes : BlockTree) (body : ℕ) (kind : Damage) (block : ℕ) → StandsInRoot limits n s inodes body kind block → IsSoundButLinks limits n s inodes → ⊥
stands limits n s inodes body damage.Root block fault sound = fault
stands limits n s inodes body damage.Pointer block fault sound = fault.outside (sound.placed.within block fault.among)
stands limits n s inodes body damage.ReachedTwice block fault sound = absurd (omega (arith, fault, sound.placed.once block))
stands limits n s inodes body damage.Misspelt block fault sound = spelled limits n s inodes body sound block fault
stands limits n s inodes body damage.MapWord block fault sound = fault
stands limits n s inodes body damage.Links block fault sound = fault
stands limits n s inodes body damage.Log block fault sound = fault

pub returns-clause-faults : goal.returns-clause-faults
returns-clause-faults c limits n s inodes body kind block fault sound = stands limits n s inodes body kind block fault sound
