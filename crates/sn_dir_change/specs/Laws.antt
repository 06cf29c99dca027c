-- How large directories get.
use Rattle.std.specs.Prelude.{◌≡◌, ℕ, ◌≤◌, Bool, IsTrue, List, Some, length}
use Rattle.sn_limits.specs.declared.limits.Limits.{Limits}
use Rattle.sn_limits.specs.Versions.{limits_of}
use Rattle.sn_layout.specs.declared.tree.BlockTree.{BlockTree}
use Rattle.sn_layout_node.specs.Directory.{Link}
use Rattle.sn_layout_node.specs.declared.content.Content.TheVariants.{Tree}
use Rattle.sn_ondisk.specs.Trees.{Store}
use Rattle.sn_image.specs.Names.{names_of}
use Rattle.sn_image.specs.Sound.{AreOnce}
use Rattle.sn_dir_change.specs.Changes.{IsChanged}
use Rattle.sn_dir_change.specs.Planned.{AreSpelled, IsSizeWith}
use Rattle.sn_dir_change.specs.declared.name_change.NameChange.{NameChange}

-- A directory of a size that a version allows gets one that it allows, where it doesn't get more names than that.
abbrev pub GrownDirectoriesFit : Type 0
GrownDirectoriesFit = (told : Bool) (s : Store) (tree : BlockTree) (changes : List NameChange) (size version : ℕ) (limits : Limits) (names : List Link) → limits_of version ≡ Some limits
    → IsSizeWith (IsTrue told) s tree changes size → IsTrue told → AreOnce (names_of s (Tree tree)) → AreSpelled s tree → tree.size ≤ limits.largest_file
    → IsChanged changes (names_of s (Tree tree)) names → length names ≤ limits.names → size ≤ limits.largest_file
