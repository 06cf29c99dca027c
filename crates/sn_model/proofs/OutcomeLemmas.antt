-- What holds of every outcome of a call.
use Rattle.std.proofs.Common.{◌≡◌, ℕ, ◌<◌, ◌≤◌, Bool, true, false, Ok, length, refl, sym, arith}
use Rattle.std.specs.FinMap as map
use Rattle.std.specs.Prelude.{IsSomeAnd, IsTrue, is_none, is_some}
use Rattle.sn_limits.specs.declared.kind.Kind.TheVariants.{File}
use Rattle.sn_limits.specs.SnapshotName.{is_snapshot_name}
use Rattle.sn_limits.specs.declared.limits.Limits.{Limits}
use Rattle.sn_walk.specs.declared.object.Home.TheVariants.{Live, Frozen}
use Rattle.sn_model.specs.declared.call.Call.{Call}
use Rattle.sn_model.specs.declared.change.Change.{Change}
use Rattle.sn_model.specs.declared.change.Change.TheVariants.{Make, AddLink, Remove, Rename, Write, SetSize, SetAttributes}
use Rattle.sn_model.specs.declared.reply.Refusal.{Refusal}
use Rattle.sn_model.specs.declared.reply.Reply.{Reply}
use Rattle.sn_model.specs.declared.reply.Reply.TheVariants as reply
use Rattle.sn_model.specs.Changes.{apply}
use Rattle.sn_model.specs.Charges.{IsPaidFor, charge_for}
use Rattle.sn_model.specs.Descriptors.{next_descriptor}
use Rattle.sn_model.specs.NameLaws.{changes_names}
use Rattle.sn_model.specs.NameTree.{HasKind}
use Rattle.sn_model.specs.Outcomes.{Pending, Nothing, Makes, Does, Caller, Stays, LogsIn, SetsUmask, LogsOut, Opens, OpensNew, Closes, Moves, AskedPoint, Unasked, Plain, Freezes, Thaws, Restores, Outcome, does, is_opening, tells, asks}
use Rattle.sn_model.specs.SnapshotCalls.{has_open}
use Rattle.sn_model.specs.Steps.{IsNumberFor, TakesMemory, asks_for_point, changed}
use Rattle.sn_model.specs.Tree.{Tree, least_unused}
use Rattle.sn_model.specs.World.{World, tree_in, trees_of}
use Rattle.sn_model.specs.Worlds.{IsCall, IsCaller, IsLoggedIn, IsWorld}

-- an answer that isn't a refusal
abbrev pub IsAnswer : Reply → Type 0
IsAnswer answer = (refusal : Refusal) → reply.Refused refusal ≡ answer → ⊥

-- where something changes
abbrev pub OnChange : Type 0 → Pending → Type 0
OnChange A Nothing = Unit {0}
OnChange A (Makes directory name kind o) = A
OnChange A (Does c) = A

-- a number is left for a new node
abbrev pub HasLeft : Limits → Tree → Pending → Type 0
HasLeft limits tree Nothing = Unit {0}
HasLeft limits tree (Makes directory name kind o) = is_none (least_unused limits tree) ≡ false
HasLeft limits tree (Does c) = Unit {0}

-- what is done to nodes that are there, by a write of 65,536 bytes at the most
abbrev pub IsOfOld : Change → Type 0
IsOfOld (Make directory name number kind o) = ⊥
IsOfOld (AddLink directory name number) = Unit {0}
IsOfOld (Remove directory name) = Unit {0}
IsOfOld (Rename old_directory old_name new_directory new_name) = Unit {0}
IsOfOld (Write number offset bytes) = length bytes ≤ 65536
IsOfOld (SetSize number size) = Unit {0}
IsOfOld (SetAttributes number o) = Unit {0}

abbrev pub DoesToOld : Pending → Type 0
DoesToOld Nothing = Unit {0}
DoesToOld (Makes directory name kind o) = Unit {0}
DoesToOld (Does c) = IsOfOld c

-- what leaves each name as it is
abbrev pub KeepsLinks : Change → Type 0
KeepsLinks (Make directory name number kind o) = ⊥
KeepsLinks (AddLink directory name number) = ⊥
KeepsLinks (Remove directory name) = ⊥
KeepsLinks (Rename old_directory old_name new_directory new_name) = ⊥
KeepsLinks (Write number offset bytes) = Unit {0}
KeepsLinks (SetSize number size) = Unit {0}
KeepsLinks (SetAttributes number o) = Unit {0}

abbrev pub KeepsNames : Pending → Type 0
KeepsNames Nothing = Unit {0}
KeepsNames (Makes directory name kind o) = ⊥
KeepsNames (Does c) = KeepsLinks c

abbrev pub MakesFile : Pending → Type 0
MakesFile Nothing = ⊥
MakesFile (Makes directory name kind o) = kind ≡ File
MakesFile (Does c) = ⊥

-- a session that is logged in gets the descriptor with this number next
pub record IsOpening (world : World) (session fd : ℕ) : Type 0 where
  pub caller : IsLoggedIn world session
  pub number : fd < 64
  pub next : next_descriptor world.descriptors session ≡ Ok fd

-- what becomes of a session and its descriptors keeps a world
abbrev pub FitsCaller : Limits → World → ℕ → Pending → Caller → Type 0
FitsCaller limits world session change Stays = Unit {0}
FitsCaller limits world session change (LogsIn s) = IsCaller s
FitsCaller limits world session change (SetsUmask mask) = Unit {0}
FitsCaller limits world session change LogsOut = Unit {0}
FitsCaller limits world session change (Opens fd home number flags) = IsOpening world session fd × IsSomeAnd (tree_in (trees_of world) home) (λ tree. HasKind tree number File) × (flags.write ≡ true → home ≡ Live)
FitsCaller limits world session change (OpensNew fd flags) = IsOpening world session fd × MakesFile change
FitsCaller limits world session change (Closes fd) = Unit {0}
FitsCaller limits world session change (Moves fd offset) = offset ≤ limits.largest_file

-- a point is asked for
abbrev pub is_asked : AskedPoint → Bool
is_asked Unasked = false
is_asked Plain = true
is_asked (Freezes name) = true
is_asked (Thaws name) = true
is_asked (Restores name) = true

-- then nothing else changes
abbrev pub IsAlone : AskedPoint → Pending → Caller → Type 0
IsAlone Unasked change caller = Unit {0}
IsAlone Plain change caller = (change ≡ Nothing) × (caller ≡ Stays)
IsAlone (Freezes name) change caller = (change ≡ Nothing) × (caller ≡ Stays)
IsAlone (Thaws name) change caller = (change ≡ Nothing) × (caller ≡ Stays)
IsAlone (Restores name) change caller = (change ≡ Nothing) × (caller ≡ Stays)

-- the live tree stays
abbrev pub LeavesLive : AskedPoint → Type 0
LeavesLive Unasked = Unit {0}
LeavesLive Plain = Unit {0}
LeavesLive (Freezes name) = Unit {0}
LeavesLive (Thaws name) = Unit {0}
LeavesLive (Restores name) = ⊥

-- what it makes of the trees keeps a world
abbrev pub FitsPoint : Limits → World → AskedPoint → Type 0
FitsPoint limits world Unasked = Unit {0}
FitsPoint limits world Plain = Unit {0}
FitsPoint limits world (Freezes name) = IsTrue (is_snapshot_name name) × (map.contains_key world.frozen name ≡ false) × (map.len world.frozen < limits.snapshots)
FitsPoint limits world (Thaws name) = has_open world.descriptors (Frozen name) ≡ false
FitsPoint limits world (Restores name) = (map.contains_key world.frozen name ≡ true) × (has_open world.descriptors Live ≡ false)

-- the point that a call asks for
pub record IsPointing (limits : Limits) (world : World) (c : Call) (o : Outcome) : Type 0 where
  pub asks : is_asked o.point ≡ asks_for_point c
  pub alone : IsAlone o.point o.change o.caller
  pub fits : FitsPoint limits world o.point

-- The outcome of a call: an answer; a change that can be applied, is charged for and may take memory; what a session can become; and the point that it asks for.
pub record IsDecided (limits : Limits) (world : World) (session : ℕ) (c : Call) (o : Outcome) : Type 0 where
  pub answers : IsAnswer o.told
  pub left : HasLeft limits world.live o.change
  pub of_old : DoesToOld o.change
  pub keeps : changes_names c ≡ false → KeepsNames o.change × LeavesLive o.point
  pub charged : 0 < limits.inode_charge → OnChange (0 < o.charge) o.change
  pub pays : IsPaidFor limits world o
  pub takes : OnChange (TakesMemory c) o.change
  pub opens : is_opening o.caller ≡ true → TakesMemory c
  pub applies : (number : ℕ) → 0 < limits.links → IsWorld limits world → IsNumberFor limits world.live number o.change → is_some (changed limits number o.change world.live) ≡ true
  pub fits : IsCall c → IsWorld limits world → FitsCaller limits world session o.change o.caller
  pub points : IsPointing limits world c o

module _ (limits : Limits) (world : World) (session : ℕ) (c : Call) (alone : asks_for_point c ≡ false) where
  -- a session or its descriptors change, and nothing else
  pub turned : (caller : Caller) (answer : Reply) → IsAnswer answer → (is_opening caller ≡ true → TakesMemory c) → (IsCall c → IsWorld limits world → FitsCaller limits world session Nothing caller) → IsDecided limits world session c (asks caller answer)
  turned caller answer is opens fits = record { answers = is; left = tt; of_old = tt; keeps = λ h. (tt, tt); charged = λ h. tt; pays = refl; takes = tt; opens = opens; applies = λ n l w f. refl; fits = fits; points = record { asks = sym alone; alone = tt; fits = tt } }

  -- nothing changes
  pub told : (answer : Reply) → IsAnswer answer → IsDecided limits world session c (tells answer)
  told answer is = turned Stays answer is (λ f. cc f) (λ k w. tt)

  -- a change of what is there
  pub done : (charge : ℕ) (change : Change) → charge ≡ charge_for limits world.live change → TakesMemory c → IsOfOld change → (changes_names c ≡ false → KeepsLinks change) → (0 < limits.inode_charge → 0 < charge) → (IsWorld limits world → is_some (apply limits change world.live) ≡ true) → IsDecided limits world session c (does charge change)
  done charge change pays takes old keeps charged applies = record {
    answers = λ r e. cc e;
    left = tt;
    of_old = old;
    keeps = λ h. (keeps h, tt);
    charged = charged;
    pays = omega (arith, pays);
    takes = takes;
    opens = λ f. cc f;
    applies = λ n l w f. applies w;
    fits = λ k w. tt;
    points = record { asks = sym alone; alone = tt; fits = tt };
  }
