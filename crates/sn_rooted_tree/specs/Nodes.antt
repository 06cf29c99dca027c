-- What an inode and its ACLs say of a node.
use Rattle.sn_layout_acl.specs.AclBlock.{joined}
use Rattle.sn_layout_acl.specs.declared.acl_block.AclBlock.{AclBlock}
use Rattle.sn_layout_node.specs.Inode.{size_of}
use Rattle.sn_layout_node.specs.declared.inode.Inode.{Inode}
use Rattle.sn_overlay.specs.declared.node.SeenNode.{SeenNode}
use Rattle.sn_rooted.specs.Nodes.{shown_size}

-- a node as overlays see it
abbrev pub seen_in : Inode → AclBlock → SeenNode
seen_in inode acls = record {
  kind = inode.kind;
  ownership = record { owner = inode.owner; group = inode.group; set_gid = inode.set_gid; sticky = inode.sticky; acl = joined inode.objects acls.access; default_acl = acls.default };
  links = inode.links;
  size = shown_size inode.kind (size_of inode.content);
}
