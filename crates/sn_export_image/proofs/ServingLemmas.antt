-- What is served is a machine over a world, and an export keeps its trees.
use Rattle.std.proofs.Common.{◌≡◌, ◌∙◌, ℕ, Bool, [], ◌∷◌, ap, refl, subst}
use Rattle.std.specs.Prelude.{IfErr, IsErr, IsTrue, Result, Ok, Err, OnOk}
use Rattle.sn_device.specs.Disk.{Disk}
use Rattle.sn_device.specs.Sectors.{Contents}
use Rattle.sn_device.specs.declared.status.Status.{Status}
use Rattle.sn_device.proofs.CrashLemmas.{LeavesOnly-now}
use Rattle.sn_held.specs.Images.{IsImage}
use Rattle.sn_held.specs.Moments.{ShowsState}
use Rattle.sn_model.specs.declared.call.Call.{Call}
use Rattle.sn_model.specs.declared.call.Event.TheVariants as event
use Rattle.sn_model.specs.declared.end.End.{End}
use Rattle.sn_model.specs.declared.end.End.TheVariants as ending
use Rattle.sn_model.specs.declared.reply.Reply.{Reply}
use Rattle.sn_model.specs.Machine.{Running, State, Stopped}
use Rattle.sn_model.specs.Settling.{settle, settled}
use Rattle.sn_model.specs.Tree.{Tree}
use Rattle.sn_model.specs.World.{Trees, World, trees_of}
use Rattle.sn_run.specs.Places.{Place}
use Rattle.sn_run.proofs.CutLemmas.{found_settled}
use Rattle.sn_serving.specs.Served.{IsIn, Leads, Served, Unmounts}
use Rattle.sn_serving.proofs.RunLemmas.{arrives, ended_in}
use Rattle.sn_export_reading.specs.Serving.{InState, IsStepOf, Reads}
use Rattle.sn_export_reading.specs.declared.fault.ExportFault.{ExportFault}
use Rattle.sn_export_reading.specs.declared.fault.ExportFault.TheVariants as export
use Rattle.sn_export_image.specs.Faults.{outcome_of}
use Rattle.sn_export_image.specs.declared.fault.ImageFault.{ImageFault}
use Rattle.sn_export_image.specs.declared.fault.ImageFault.TheVariants as fault
use Rattle.sn_export_image.specs.Worlds.{HasTreesOf, RunsOver}

in_state : (told : Bool) (s : Served) (next : State) → IsTrue told → IsIn next s → InState (RunsOver told s) next
in_state told s (Running world) is here = (is, here)
in_state told s (Stopped before after) is here = tt

-- the reply to a call is that of a step of the machine
pub steps : (told : Bool) (session : ℕ) (c : Call) (reply : Reply) (old new : Served) → (IsTrue told → Leads (event.Call session c ∷ []) (reply ∷ []) old new)
    → (world : World) → RunsOver told old world → IsStepOf world session c reply (RunsOver told new)
steps told session c reply old new leads world over =
    let a = arrives (leads over.0) (Running world) over.1 in
    let step = a.run.1.step in
    record {
      met = step.0;
      next = a.run.0.state;
      step = step.2;
      serves = subst (λ (p : Place). InState (RunsOver told new) p.state) a.run.2 (in_state told new a.next over.0 a.is_in);
    }

-- the settled world has the same trees where those are of a world that was found
trees_settled : (c : Contents) (world after : World) → IsImage c world → trees_of after ≡ trees_of world → trees_of (settle after) ≡ trees_of world
trees_settled c world after image same =
    let live : settled world.live ≡ world.live = ap (λ (w : World). w.live) (found_settled c world image) in
    ap (λ (t : Trees). record t { live = settled t.live }) same ∙ ap (λ (t : Tree). record { live = t; frozen = world.frozen }) live

pub keeps_trees : (told : Bool) (end : End) (written : Result (Unit {0}) ExportFault) (s : Served) (c : Contents) (world : World) (last : Disk) (last_status : Status) → IsImage c world
    → OnOk written (Reads (trees_of world) (RunsOver told s)) → Unmounts end s last last_status → OnOk (outcome_of end written) (HasTreesOf world last)
keeps_trees told ending.Clean (Ok done) s c world last last_status image read unmounts =
    let u = ended_in s unmounts (Running read.runs.world) read.runs.serves.1 in
    λ left may. (settle read.runs.world, LeavesOnly-now unmounts.before.held.disk last (ShowsState (Running read.runs.world)) u.lasts left may, trees_settled c world read.runs.world image read.runs.same)
keeps_trees told ending.Clean (Err why) s c world last last_status image read unmounts = tt
keeps_trees told ending.Memory written s c world last last_status image read unmounts = tt
keeps_trees told ending.Stopped written s c world last last_status image read unmounts = tt
keeps_trees told (ending.Mount why) written s c world last last_status image read unmounts = tt

-- what is so of an export that ended well is so where the unmount did too
pub on_written : (X : Type 0) (end : End) (written : Result (Unit {0}) ExportFault) → OnOk written X → OnOk (outcome_of end written) X
on_written X ending.Clean (Ok done) x = x
on_written X ending.Clean (Err why) x = tt
on_written X ending.Memory written x = tt
on_written X ending.Stopped written x = tt
on_written X (ending.Mount why) written x = tt

-- a fault stays one
pub refused : (end : End) (written : Result (Unit {0}) ExportFault) → IsErr written → IsErr (outcome_of end written)
refused ending.Clean (Ok done) is = is
refused ending.Clean (Err why) is = is
refused ending.Memory written is = refl
refused ending.Stopped written is = refl
refused (ending.Mount why) written is = refl

-- no unmount ends with the fault of a path
no_path : {X : Type 0} (why : ImageFault) → (why ≡ fault.Export export.Path → ⊥) → why ≡ fault.Export export.Path → X
no_path why never e = absurd (never e)

pub untold : (X : Type 0) (end : End) (written : Result (Unit {0}) ExportFault) → IfErr written (λ why. why ≡ export.Path → X) → IfErr (outcome_of end written) (λ why. why ≡ fault.Export export.Path → X)
untold X ending.Clean (Ok done) x = tt
untold X ending.Clean (Err why) x = λ e. (let same : fault.Export why ≡ fault.Export export.Path = e in let is : why ≡ export.Path = cc in x is)
untold X ending.Memory written x = no_path (fault.Export export.Memory) (λ e. let never : fault.Export export.Memory ≡ fault.Export export.Path = e in cc)
untold X ending.Stopped written x = no_path (fault.Export export.Stopped) (λ e. let never : fault.Export export.Stopped ≡ fault.Export export.Path = e in cc)
untold X (ending.Mount why) written x = no_path (fault.Mount why) (λ e. let never : fault.Mount why ≡ fault.Export export.Path = e in cc)
