-- What a walk gets to know of a node that is seen.
use Rattle.sn_overlay.specs.declared.node.SeenNode.{SeenNode}
use Rattle.sn_walk.specs.declared.view.Attributes.{Attributes}

-- all but its default ACL
abbrev pub attributes_of : SeenNode → Attributes
attributes_of node = record {
  kind = node.kind;
  set_gid = node.ownership.set_gid;
  sticky = node.ownership.sticky;
  owner = node.ownership.owner;
  group = node.ownership.group;
  acl = node.ownership.acl;
  links = node.links;
  size = node.size;
}
