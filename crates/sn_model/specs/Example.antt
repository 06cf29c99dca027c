-- The machine on one small world: a snapshot, a file without a name that a session holds, and two sessions.
use Rattle.std.specs.Prelude.{◌≡◌, ℕ, true, false, List, [], None, Some, Err, codes, replicate, slice_set, slice_get}
use Rattle.std.specs.FinMap as map
use Rattle.sn_acl.specs.Modes.{three_entries}
use Rattle.sn_limits.specs.declared.kind.Kind.TheVariants.{File, Directory}
use Rattle.sn_limits.specs.Versions.{limits_written}
use Rattle.sn_model.specs.declared.call.Call.TheVariants.{Login, Stat}
use Rattle.sn_model.specs.declared.call.Event.TheVariants as event
use Rattle.sn_model.specs.declared.reply.Errno.TheVariants.{Ebadf, Ebusy, Eio, Estopped}
use Rattle.sn_model.specs.declared.reply.Reply.TheVariants as answer
use Rattle.sn_model.specs.Tree.{Node, Tree, link_to, with_node}
use Rattle.sn_walk.specs.declared.object.Home.TheVariants.{Live}
use Rattle.sn_model.specs.World.{World, new_tree}
use Rattle.sn_model.specs.Changes.{put_node}
use Rattle.sn_model.specs.Settling.{settle}
use Rattle.sn_model.specs.Tests.{plain}
use Rattle.sn_model.specs.Calls.{new_session}
use Rattle.sn_model.specs.Steps.{decision}
use Rattle.sn_model.specs.Machine.{Running, Stopped, Read, Write, EventStep, refused}

-- a directory and a file of user 1001, mode 0700
abbrev pub folder : Node
folder = record { kind = Directory; owner = 1001; group = 100; set_gid = false; sticky = false; acl = three_entries (record { owner = 7; group = 0; other = 0 }); default_acl = None; bytes = [] }

abbrev pub file_of : List ℕ → Node
file_of bytes = record { kind = File; owner = 1001; group = 100; set_gid = false; sticky = false; acl = three_entries (record { owner = 7; group = 0; other = 0 }); default_acl = None; bytes = bytes }

-- when it was frozen, the file had a name and other bytes
abbrev pub frozen_tree : Tree
frozen_tree = with_node new_tree 4 (link_to 2 (codes "f")) (file_of (codes "old"))

-- a directory /d, and the file, whose name is gone
abbrev pub live_tree : Tree
live_tree = put_node (with_node new_tree 3 (link_to 2 (codes "d")) folder) 4 (file_of (codes "new"))

-- user 0 and user 1001, who has the file open
abbrev pub busy_world : World
busy_world = record {
  live = live_tree;
  frozen = map.insert map.empty (codes "s") frozen_tree;
  sessions = slice_set (slice_set (replicate 64 None) 0 (Some (new_session 0 0 []))) 1 (Some (new_session 1001 100 []));
  descriptors = map.insert map.empty (1, 0) (record { home = Live; number = 4; readable = true; writable = false; appends = false; offset = 0 });
}

-- What is left of it when it is mounted again: the file goes with its last descriptor, and stays in the snapshot.
pub record Settles : Type 0 where
  pub held : map.get busy_world.live.nodes 4 ≡ Some (file_of (codes "new"))
  pub gone : map.get (settle busy_world).live.nodes 4 ≡ None
  pub kept : map.get (settle busy_world).live.nodes 3 ≡ Some folder
  pub named : map.get (settle busy_world).live.links (link_to 2 (codes "d")) ≡ Some 3
  pub frozen : map.get (settle busy_world).frozen (codes "s") ≡ Some frozen_tree
  pub bytes : map.get frozen_tree.nodes 4 ≡ Some (file_of (codes "old"))
  pub closed : map.get (settle busy_world).descriptors (1, 0) ≡ None

-- What is answered before, and after.
pub record Answers : Type 0 where
  pub caller : slice_get busy_world.sessions 1 ≡ Some (Some (new_session 1001 100 []))
  pub busy : decision limits_written busy_world 1 (Login 5 5 []) ≡ Err (plain Ebusy)
  pub nobody : decision limits_written busy_world 2 (Stat (codes "/d")) ≡ Err (plain Ebadf)
  pub logged_out : decision limits_written (settle busy_world) 1 (Stat (codes "/d")) ≡ Err (plain Ebadf)
  pub mounts : EventStep limits_written (Running busy_world) event.Restart None answer.Done (Running (settle busy_world))
  pub stays : EventStep limits_written (Running busy_world) event.Restart (Some Read) (refused Eio) (Running busy_world)
  pub stops : EventStep limits_written (Running busy_world) event.Step (Some Write) (refused Eio) (Stopped (settle busy_world) (settle busy_world))
  pub stopped : EventStep limits_written (Stopped (settle busy_world) busy_world) event.Step None (refused Estopped) (Stopped (settle busy_world) busy_world)
