use Rattle.std.proofs.Common.{ℕ}
use Rattle.sn_limits.specs.declared.limits.Limits.{Limits}
use Rattle.sn_layout.specs.declared.tree.BlockTree.{BlockTree}
use Rattle.sn_model.specs.declared.fault.Damage.{Damage}
use Rattle.sn_model.specs.declared.fault.Damage.TheVariants as damage
use Rattle.sn_ondisk.specs.Trees.{Store}
use Rattle.sn_image.specs.Sound.{IsSound}
use Rattle.sn_sound.proofs.SoundLemmas.{linked_clean}
use Rattle.sn_census.specs.Faults.{StandsInLinks}
use Rattle.sn_census.proofs.laws.census_laws.Goals as goal

stands : (limits : Limits) (n : ℕ) (s : Store) (inodes : BlockTree) (body : ℕ) (kind : Damage) (block : ℕ) → StandsInLinks s inodes body kind block → IsSound limits n s inodes → ⊥
stands limits n s inodes body damage.Root block fault sound = fault
stands limits n s inodes body damage.Pointer block fault sound = fault
stands limits n s inodes body damage.ReachedTwice block fault sound = fault
stands limits n s inodes body damage.Misspelt block fault sound = fault
stands limits n s inodes body damage.MapWord block fault sound = fault
stands limits n s inodes body damage.Links block fault sound = linked_clean limits n s inodes body sound block fault
stands limits n s inodes body damage.Log block fault sound = fault

pub returns : goal.returns
returns c limits n s inodes body kind block fault but linked = stands limits n s inodes body kind block fault (record {
  placed = but.placed;
  file = but.file;
  ends = but.ends;
  records = but.records;
  used = but.used;
  names = but.names;
  linked = linked;
})
