-- Which calls are decided in one place.
use Rattle.sn_model.specs.declared.call.Call.{Call}
use Rattle.sn_model.specs.declared.call.Call.TheVariants as call
use Rattle.sn_core_decide.specs.declared.groups.Group.{Group}
use Rattle.sn_core_decide.specs.declared.groups.Group.TheVariants.{Sessions, Nodes, Names, Files, Snapshots}

abbrev pub group_of : Call → Group
group_of (call.Login uid gid groups) = Sessions
group_of call.Logout = Sessions
group_of (call.Umask mask) = Sessions
group_of (call.Mkdir path mode) = Nodes
group_of (call.Chmod path mode) = Nodes
group_of (call.Chown path uid gid) = Nodes
group_of (call.Stat path) = Nodes
group_of (call.Access path want) = Nodes
group_of (call.GetAcl path kind) = Nodes
group_of (call.SetAcl path kind acl) = Nodes
group_of (call.Rmdir path) = Names
group_of (call.Unlink path) = Names
group_of (call.Link old new) = Names
group_of (call.Rename old new) = Names
group_of (call.Readdir path) = Names
group_of (call.Open path flags mode) = Files
group_of (call.Close fd) = Sessions
group_of (call.Read fd count) = Files
group_of (call.Write fd bytes) = Files
group_of (call.Seek fd offset) = Sessions
group_of (call.Ftruncate fd size) = Sessions
group_of call.Sync = Sessions
group_of (call.SnapCreate name) = Snapshots
group_of (call.SnapDelete name) = Snapshots
group_of (call.SnapRestore name) = Snapshots
group_of call.SnapList = Snapshots
