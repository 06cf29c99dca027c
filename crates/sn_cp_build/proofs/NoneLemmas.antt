-- An inode file of which no inode changes stays as it is.
use Rattle.std.proofs.Common.{◌≡◌, ℕ, ◌*◌, ◌/◌, ◌%◌, if◌then◌else◌, List, [], drop, take, None, refl, sym, ap, subst, arith}
use Rattle.sn_image.specs.Inodes.{inode_at, inode_of, is_number, record_at}
use Rattle.sn_image.specs.Sound.{IsInodeFile, SpellsRecord}
use Rattle.sn_inode.specs.Changes.{ChangesInodes, IsWith}
use Rattle.sn_inode.specs.declared.changes.InodeChange.{InodeChange}
use Rattle.sn_layout.specs.declared.tree.BlockTree.{BlockTree}
use Rattle.sn_limits.specs.declared.limits.Limits.{Limits}
use Rattle.sn_ondisk.specs.Counts.{times}
use Rattle.sn_ondisk.specs.TreeLaws.{SameIn}
use Rattle.sn_ondisk.specs.Trees.{Store, tree_reach}
use Rattle.sn_ondisk.proofs.TreeLemmas.{trees_depend}
use Rattle.sn_overlay.specs.Layers.{Layer}
use Rattle.sn_tree.specs.Drafts.{Draft}
use Rattle.sn_tree.proofs.StepLemmas.{grown-none}
use Rattle.sn_cp_build.specs.Building.{IsTreePlanned}
use Rattle.sn_cp_build.specs.Planned.{AreBuilt, numbers_of}

module _ (s r : Store) (file : BlockTree) (same : SameIn (tree_reach s file) s r) where
  record_same : (number : ℕ) → record_at r file number ≡ record_at s file number
  unfolding record_at
  record_same number = ap (λ bytes. take 128 (drop (128 * (number % 32)) bytes)) ((trees_depend s r file same).blocks (number / 32))

  inode_same : (number : ℕ) → inode_at r file number ≡ inode_at s file number
  unfolding inode_at
  inode_same number = ap (λ bytes. if is_number file number then inode_of bytes else None) (record_same number)

none_change : (limits : Limits) (s : Store) (file : BlockTree) → ChangesInodes limits s file file [] [] []
none_change limits s file = record {
  changed = λ r same holds. tt;
  others = λ r same holds number apart. inode_same s r file same number;
  stays = λ r same holds number apart within. record_same s r file same number;
  unused = λ r same holds number apart past within. absurd (omega (arith, past, within));
  spelled = λ r same holds spelled number within. subst (SpellsRecord limits) (sym (record_same s r file same number)) (spelled number within);
  reach = λ r same holds block some. omega (arith, ap (times block) (trees_depend s r file same).reach);
  ends = λ some. absurd (some refl);
}

none_with : (Told : Type 0) (limits : Limits) (s : Store) (file : BlockTree) (draft : Draft) → IsWith Told limits s file file [] draft draft
none_with Told limits s file draft = record {
  added = [];
  released = [];
  grew = grown-none draft;
  few = omega arith;
  none = λ nothing. (refl, refl);
  changes_inodes = λ told. none_change limits s file;
}

pub none_planned : (Told : Type 0) (limits : Limits) (s : Store) (file : BlockTree) (layer : Layer) (old after : Draft) (changes : List InodeChange) → changes ≡ [] → IsInodeFile limits file
    → AreBuilt Told limits s file layer old (numbers_of layer) changes after → IsTreePlanned Told limits s file layer file old after
none_planned Told limits s file layer old after changes nothing is built = record {
  changes = changes;
  between = after;
  nodes = built;
  inodes = subst (λ (cs : List InodeChange). IsWith Told limits s file file cs after after) (sym nothing) (none_with Told limits s file after);
  larger = omega arith;
  file_is = is;
}
