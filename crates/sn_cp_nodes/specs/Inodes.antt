-- The inode that a node is to have.
use Rattle.std.specs.Prelude.{◌≡◌, ◌^◌, ◌<◌, ◌≤◌, false, [], length, Option, None, Some, IsSomeAnd}
use Rattle.sn_acl.specs.declared.modes.Mode.{Mode}
use Rattle.sn_inode.specs.Changes.{IsChanged}
use Rattle.sn_inode.specs.declared.changes.AclChange.{AclChange}
use Rattle.sn_inode.specs.declared.changes.AclChange.TheVariants.{Kept, Set}
use Rattle.sn_inode.specs.declared.changes.InodeChange.{InodeChange}
use Rattle.sn_inode.specs.declared.changes.RecordChange.{RecordChange}
use Rattle.sn_inode.specs.declared.changes.RecordChange.TheVariants.{Unused, Used}
use Rattle.sn_layout.specs.BlockTree.{IsBlockTree}
use Rattle.sn_layout_acl.specs.AclBlock.{joined}
use Rattle.sn_layout_acl.specs.Mode.{IsMode}
use Rattle.sn_layout_node.specs.declared.content.Content.{Content}
use Rattle.sn_layout_node.specs.declared.content.Content.TheVariants.{Inline, Tree}
use Rattle.sn_layout_node.specs.declared.inode.Inode.{Inode}
use Rattle.sn_ondisk.specs.Trees.{Store}
use Rattle.sn_overlay.specs.declared.node.NodeState.{NodeState}

-- Mode bits, and what is to become of the ACL block: both stay where the layer says that the ACLs are those below, and else are made of those that it has.
abbrev pub AreAclsFor : Option Inode → NodeState → Mode → AclChange → Type 0
AreAclsFor was state objects Kept = (state.fresh ≡ false) × (state.acl_changed ≡ false) × IsSomeAnd was (λ inode. objects ≡ inode.objects)
AreAclsFor was state objects (Set acls) = (state.ownership.acl ≡ joined objects acls.access) × (acls.default ≡ state.ownership.default_acl)

-- The inode of a node that changed, with this content. Its ACL block follows from what is to become of that.
pub record IsInodeFor (was : Option Inode) (state : NodeState) (content : Content) (inode : Inode) (acls : AclChange) : Type 0 where
  pub kind : inode.kind ≡ state.kind
  pub set_gid : inode.set_gid ≡ state.ownership.set_gid
  pub sticky : inode.sticky ≡ state.ownership.sticky
  pub links : inode.links ≡ state.links
  pub owner : inode.owner ≡ state.ownership.owner
  pub group : inode.group ≡ state.ownership.group
  pub has : inode.content ≡ content
  pub its_acls : AreAclsFor was state inode.objects acls

-- at most 64 bytes, or a size and pointers that fit their fields
abbrev pub FitsContent : Content → Type 0
FitsContent (Inline bytes) = length bytes ≤ 64
FitsContent (Tree tree) = IsBlockTree tree

-- The fields of an inode fit those of its record.
pub record FitsRecord (inode : Inode) : Type 0 where
  pub objects : IsMode inode.objects
  pub owner : inode.owner < 256 ^ 4
  pub group : inode.group < 256 ^ 4
  pub acl_block : inode.acl_block < 256 ^ 4
  pub content : FitsContent inode.content

-- what a number's inode becomes by a change, if there is one
abbrev pub Becomes : Store → Option Inode → Option InodeChange → Option Inode → Type 0
Becomes r was None new = new ≡ was
Becomes r was (Some change) new = IsChanged r was change.record new

abbrev pub content_in : RecordChange → Content
content_in Unused = Inline []
content_in (Used inode acls) = inode.content

-- the content that it has then, and no bytes where there is none
abbrev pub content_for : Option InodeChange → Content
content_for None = Inline []
content_for (Some change) = content_in change.record
