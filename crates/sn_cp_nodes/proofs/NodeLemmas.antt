-- One node is built, by what was planned of its number.
use Rattle.std.proofs.Common.{◌≡◌, ◌≢◌, ℕ, ◌+◌, Option, None, Some, Result, Ok, Err, IfOk, sym, ap, subst, ◌∙◌}
use Rattle.std.specs.Prelude.{IfSome}
use Rattle.sn_image.specs.Contents.{content_reach}
use Rattle.sn_image.specs.Image.{image}
use Rattle.sn_image.specs.Inodes.{inode_at}
use Rattle.sn_image.specs.Reach.{reach_at}
use Rattle.sn_inode.specs.Changes.{IsChange, IsNew}
use Rattle.sn_inode.specs.declared.changes.InodeChange.{InodeChange}
use Rattle.sn_inode.specs.declared.changes.RecordChange.TheVariants.{Used}
use Rattle.sn_layout.specs.declared.tree.BlockTree.{BlockTree}
use Rattle.sn_layout_node.specs.declared.inode.Inode.{Inode}
use Rattle.sn_limits.specs.Versions.{limits_of}
use Rattle.sn_limits.specs.declared.limits.Limits.{Limits}
use Rattle.sn_ondisk.specs.Counts.{times}
use Rattle.sn_ondisk.specs.TreeLaws.{SameIn}
use Rattle.sn_ondisk.specs.Trees.{Store}
use Rattle.sn_overlay.specs.Layers.{Layer, through}
use Rattle.sn_overlay.specs.declared.node.NodeChange.{NodeChange}
use Rattle.sn_overlay.specs.declared.node.NodeChange.TheVariants.{Changed, Gone}
use Rattle.sn_overlay.specs.declared.node.NodeState.{NodeState}
use Rattle.sn_tree.specs.Drafts.{Draft, numbers_of}
use Rattle.sn_tree.specs.Plans.{Holds}
use Rattle.sn_tree.specs.declared.fault.PlanFault.{PlanFault}
use Rattle.sn_cp_nodes.specs.Built.{BuildsNode, IsGround, StandsFor}
use Rattle.sn_cp_nodes.specs.Inodes.{Becomes, content_for}
use Rattle.sn_cp_nodes.specs.Made.{IsChangeMade, IsNodeMade}
use Rattle.sn_cp_nodes.specs.Parts.{Blocks, IsPartOf, Names, content_of}
use Rattle.sn_cp_nodes.proofs.BuildLemmas.{changed_builds, gone_builds}

-- what is built over a store that is the same where the device tells its bytes
pub builds_there : (Told : Type 0) (limits : Limits) (s t : Store) (file : BlockTree) (layer : Layer) (number : ℕ) (change : Option InodeChange) (a b : Draft)
    → (Told → t ≡ s) → BuildsNode Told limits t file layer number change a b → BuildsNode Told limits s file layer number change a b
builds_there Told limits s t file layer number change a b same builds = record {
  added = builds.added;
  released = builds.released;
  grew = builds.grew;
  few = builds.few;
  none = λ told. subst (λ (u : Store). change ≡ None → inode_at u file number ≡ None) (same told) (builds.none told);
  reach = λ told. subst (λ (u : Store). (r : Store) → SameIn (reach_at u file number) u r → Holds r builds.added → (block : ℕ) → block ≢ 0
      → times block (content_reach r (content_for change)) + times block builds.released ≡ times block (content_reach u (content_of (inode_at u file number))) + times block (numbers_of builds.added)) (same told) (builds.reach told);
  stands = λ told. subst (λ (u : Store). (n : ℕ) → IsGround limits n u file layer → (r : Store) → SameIn (reach_at u file number) u r → Holds r builds.added
      → (new : Option Inode) → Becomes r (inode_at u file number) change new → StandsFor (through layer (image u file)) number r new) (same told) (builds.stands told);
}

module _ (Told : Type 0) (limits : Limits) (s t : Store) (file : BlockTree) (layer : Layer) (number : ℕ) (version : limits_of limits.version ≡ Some limits)
    (was : Option Inode) (read : Told → was ≡ inode_at s file number) (same : Told → t ≡ s) (names : Names) (written : Blocks) (a b : Draft) where
  read_there : Told → was ≡ inode_at t file number
  read_there told = read told ∙ ap (λ (u : Store). inode_at u file number) (sym (same told))

  changed_there : (state : NodeState) → IsPartOf layer number (Changed state) names written → (new : Option InodeChange) → IfSome new (IsChange limits)
      → IsChangeMade Told t was state names written new a b → BuildsNode Told limits t file layer number new a b
  changed_there state part new can made =
      let its = made.made in
      let change : IsChange limits made.change = subst (λ (c : Option InodeChange). IfSome c (IsChange limits)) made.is can in
      let fits : IsNew limits (Used its.inode its.acls) = subst (IsNew limits) its.used change.new in
      subst (λ (c : Option InodeChange). BuildsNode Told limits t file layer number c a b) (sym made.is)
      (changed_builds Told limits t file layer number version was read_there state names written part made.change its.inode its.acls its.used fits.0 its.made a b its.content)

  made_there : (change : NodeChange) → IsPartOf layer number change names written → (new : Option InodeChange) → IfSome new (IsChange limits)
      → IsNodeMade Told t was number change names written new a b → BuildsNode Told limits t file layer number new a b
  made_there (Gone by_close) part new can made = gone_builds Told limits t file layer number version was read_there by_close names written part new a b made
  made_there (Changed state) part new can made = changed_there state part new can made

  pub node_builds : (change : NodeChange) → IsPartOf layer number change names written → (result : Result (Option InodeChange) PlanFault) → IfOk result (λ new. IfSome new (IsChange limits))
      → IfOk result (λ new. IsNodeMade Told t was number change names written new a b) → IfOk result (λ new. BuildsNode Told limits s file layer number new a b)
  node_builds change part (Err fault) can made = tt
  node_builds change part (Ok new) can made = builds_there Told limits s t file layer number new a b same (made_there change part new can made)
