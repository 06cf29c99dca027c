-- A directory is made of the tree with which it begins and of its changes.
use Rattle.std.proofs.Common.{◌≡◌, ◌+◌, ◌-◌, ◌*◌, ◌/◌, ◌<◌, ◌≤◌, Bool, List, length, Result, Ok, Err, IfOk, subst}
use Rattle.sn_dir_change.specs.Changes.{AreChanges, IsChanged, first_block, needed_changes}
use Rattle.sn_dir_change.specs.Planned.{AreSpelled, HasChanged, IsDirectoryPlanned}
use Rattle.sn_dir_change.specs.declared.name_change.NameChange.{NameChange}
use Rattle.sn_image.specs.Names.{names_of}
use Rattle.sn_image.specs.Sound.{AreOnce}
use Rattle.sn_layout.specs.declared.tree.BlockTree.{BlockTree}
use Rattle.sn_layout_node.specs.Directory.{Link as Name}
use Rattle.sn_layout_node.specs.declared.content.Content.{Content}
use Rattle.sn_layout_node.specs.declared.content.Content.TheVariants.{Tree}
use Rattle.sn_ondisk.specs.TreeLaws.{SameIn}
use Rattle.sn_ondisk.specs.Trees.{Store, tree_reach}
use Rattle.sn_tree.specs.Drafts.{Draft}
use Rattle.sn_tree.specs.Plans.{Holds}
use Rattle.sn_tree.specs.Replanned.{IsReplanned}
use Rattle.sn_tree.specs.declared.fault.PlanFault.{PlanFault}
use Rattle.sn_cp_nodes.specs.Made.{ChangeThem, IsBegun, IsDirectoryMade}
use Rattle.sn_cp_nodes.specs.Parts.{Names}

-- a plan over a store that is the same where the device tells its bytes
planned_there : (Told : Type 0) (s t : Store) (tree new : BlockTree) (changes : List NameChange) (a b : Draft) → (Told → t ≡ s) → IsDirectoryPlanned Told t tree new changes a b → IsDirectoryPlanned Told s tree new changes a b
planned_there Told s t tree new changes a b same p = record {
  dirty = p.dirty;
  added = p.added;
  released = p.released;
  grew = p.grew;
  few = p.few;
  one_each = p.one_each;
  needed = λ told. subst (λ (u : Store). length p.dirty ≤ needed_changes (names_of u (Tree tree)) changes + first_block tree) (same told) (p.needed told);
  first = p.first;
  most = p.most;
  sized = record {
    whole = p.sized.whole;
    least = p.sized.least;
    most = p.sized.most;
    few = λ told. subst (λ (u : Store). AreOnce (names_of u (Tree tree)) → AreSpelled u tree → tree.size < new.size → (names : List Name) → IsChanged changes (names_of u (Tree tree)) names → 3839 * (new.size / 4096 - 1) ≤ 258 * length names) (same told) (p.sized.few told);
  };
  plans = λ told. subst (λ (u : Store). IsReplanned u tree new (tree.size / 4096) p.dirty p.added p.released) (same told) (p.plans told);
  changed = λ told. subst (λ (u : Store). AreOnce (names_of u (Tree tree)) → (r : Store) → SameIn (tree_reach u tree) u r → Holds r p.added → HasChanged u r tree new changes) (same told) (p.changed told);
}

pub made_result : (Told : Type 0) (s t : Store) (old : Content) (fresh : Bool) (names : Names) (tree : BlockTree) (changes sliced : List NameChange) (before between behind : Draft) (result : Result BlockTree PlanFault)
    → (Told → t ≡ s) → sliced ≡ changes → ChangeThem names changes → AreChanges changes → IsBegun Told s old fresh tree before between
    → IfOk result (λ (new : BlockTree). IsDirectoryPlanned Told t tree new sliced between behind) → IfOk result (λ (new : BlockTree). IsDirectoryMade Told s old fresh names new before behind)
made_result Told s t old fresh names tree changes sliced before between behind (Err fault) same slice them can begun planned = tt
made_result Told s t old fresh names tree changes sliced before between behind (Ok new) same slice them can begun planned = record {
  tree = tree;
  between = between;
  changes = changes;
  are = them;
  can = can;
  begun = begun;
  planned = planned_there Told s t tree new changes between behind same (subst (λ (cs : List NameChange). IsDirectoryPlanned Told t tree new cs between behind) slice planned);
}
