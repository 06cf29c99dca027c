-- When a world is one that runs can reach.
use Rattle.std.specs.Prelude.{◌≡◌, ℕ, ◌≤◌, ◌<◌, ◌^◌, true, List, Option, None, Some, IsTrue, IsSomeAnd, is_some, length, replicate, slice_get, IfSome}
use Rattle.std.specs.List.{AllByRecursion}
use Rattle.std.specs.FinMap as map
use Rattle.sn_walk.specs.declared.object.Home.TheVariants.{Live}
use Rattle.sn_limits.specs.declared.kind.Kind.TheVariants.{File}
use Rattle.sn_limits.specs.declared.limits.Limits.{Limits}
use Rattle.sn_limits.specs.SnapshotName.{is_snapshot_name}
use Rattle.sn_model.specs.declared.call.Call.{Call}
use Rattle.sn_model.specs.declared.call.Call.TheVariants as call
use Rattle.sn_model.specs.declared.call.Event.{Event}
use Rattle.sn_model.specs.declared.call.Event.TheVariants as event
use Rattle.sn_model.specs.declared.session.Session.{Session}
use Rattle.sn_model.specs.Tree.{Tree, names_for}
use Rattle.sn_model.specs.World.{World, Descriptor, tree_in, trees_of}
use Rattle.sn_model.specs.NameTree.{HasKind, IsTree}
use Rattle.sn_model.specs.Machine.{State, Running, Stopped}

-- whoever is logged in has numbers of 32 bits
pub record IsCaller (s : Session) : Type 0 where
  pub uid : s.cred.uid < 2 ^ 32
  pub gid : s.cred.gid < 2 ^ 32

abbrev pub IsSession : Option Session → Type 0
IsSession seat = IfSome seat IsCaller

abbrev pub IsLoggedIn : World → ℕ → Type 0
IsLoggedIn world session = IsSomeAnd (slice_get world.sessions session) (λ s. is_some s ≡ true)

-- a descriptor of a session that is logged in is of a file that is there, and only one of the live tree is written to
pub record IsOpenFile (limits : Limits) (world : World) (session fd : ℕ) (d : Descriptor) : Type 0 where
  pub caller : IsLoggedIn world session
  pub number : fd < 64
  pub file : IsSomeAnd (tree_in (trees_of world) d.home) (λ tree. HasKind tree d.number File)
  pub offset : d.offset ≤ limits.largest_file
  pub live : d.writable ≡ true → d.home ≡ Live

-- Its trees are name trees, the frozen ones have the names of snapshots, open files are there, and a live file without a name is held.
pub record IsWorld (limits : Limits) (world : World) : Type 0 where
  pub live : IsTree limits world.live
  pub frozen : (name : List ℕ) (tree : Tree) → map.get world.frozen name ≡ Some tree → IsTree limits tree
  pub snapshot_names : (name : List ℕ) (tree : Tree) → map.get world.frozen name ≡ Some tree → IsTrue (is_snapshot_name name)
  pub few_snapshots : map.len world.frozen ≤ limits.snapshots
  pub count : length world.sessions ≡ 64
  pub callers : AllByRecursion IsSession world.sessions
  pub open_files : (session fd : ℕ) (d : Descriptor) → map.get world.descriptors (session, fd) ≡ Some d → IsOpenFile limits world session fd d
  pub held : (number : ℕ) → HasKind world.live number File → names_for world.live number ≡ 0 → (session : ℕ) × (fd : ℕ) × IsSomeAnd (map.get world.descriptors (session, fd)) (λ d. (d.home ≡ Live) × (d.number ≡ number))

-- nobody is logged in, nothing is open, and no live file is without a name
pub record IsSettled (world : World) : Type 0 where
  pub out : world.sessions ≡ replicate 64 None
  pub closed : world.descriptors ≡ map.empty
  pub named : (number : ℕ) → HasKind world.live number File → 0 < names_for world.live number

-- a world that a mount may find
pub record IsFound (limits : Limits) (world : World) : Type 0 where
  pub whole : IsWorld limits world
  pub settled : IsSettled world

-- the worlds of the machine
abbrev pub IsState : Limits → State → Type 0
IsState limits (Running w) = IsWorld limits w
IsState limits (Stopped before after) = IsFound limits before × IsFound limits after

-- the numbers of a call are those of its types
abbrev pub IsCall : Call → Type 0
IsCall (call.Login uid gid groups) = (uid < 2 ^ 32) × (gid < 2 ^ 32)
IsCall c = Unit {0}

abbrev pub IsEvent : Event → Type 0
IsEvent (event.Call session c) = IsCall c
IsEvent event.Step = Unit {0}
IsEvent event.Restart = Unit {0}
