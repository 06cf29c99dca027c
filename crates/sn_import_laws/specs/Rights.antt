-- The rights that a node gets.
use Rattle.std.specs.Prelude.{◌||◌, Bool, if◌then◌else◌, IfSome}
use Rattle.sn_acl.specs.AccessList.{IsValid}
use Rattle.sn_import.specs.declared.object.Rights.{Rights}
use Rattle.sn_model.specs.Tree.{Node}

-- both ACLs are valid, as those of an entry of an archive are
pub record AreRights (rights : Rights) : Type 0 where
  pub access : IsValid rights.access
  pub default : IfSome rights.default IsValid

abbrev pub with_owner : Rights → Node → Node
with_owner rights node = record node { owner = rights.user; group = rights.group }

abbrev pub with_access : Rights → Node → Node
with_access rights node = record node { acl = rights.access }

abbrev pub with_default : Rights → Node → Node
with_default rights node = record node { default_acl = rights.default }

-- S_ISGID and S_ISVTX
abbrev pub with_bits : Rights → Node → Node
with_bits rights node = record node { set_gid = rights.set_gid; sticky = rights.sticky }

-- A file gets owner, group and access ACL, and the S bits where it is to have any: else it keeps its own, and a new file has none.
abbrev pub has_bits : Rights → Bool
has_bits rights = rights.set_gid || rights.sticky

abbrev pub as_file : Rights → Node → Node
as_file rights node = let given = with_access rights (with_owner rights node) in if has_bits rights then with_bits rights given else given

-- A directory gets both ACLs and the S bits after all entries; its owner and its group it has already.
abbrev pub as_directory : Rights → Node → Node
as_directory rights node = with_bits rights (with_default rights (with_access rights node))
