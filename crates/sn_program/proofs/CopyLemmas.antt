-- What a crash after a run leaves of the disk that it ran on.
use Rattle.std.proofs.Common.{ℕ, ◌≡◌, ◌⊎◌, inl, inr, ◌<◌, List, [], ◌∷◌, ◌++◌, length, Result, Ok, Err, refl, sym, subst, ◌∙◌, append_assoc, arith}
use Rattle.std.proofs.lemmas.List.{append-nil, same_lists, get_or_default}
use Rattle.std.specs.Prelude.{Contains, EachIndex, IfErr, None, OnOk}
use Rattle.std.specs.declared.option.Option.{Option}
use Rattle.sn_device.specs.Sectors.{AgreesOutside, AreSectors, Contents, sector_at}
use Rattle.sn_device.specs.Fill.{filling, last_synced}
use Rattle.sn_device.specs.Memory.{first}
use Rattle.sn_device.specs.Status.{uncalled}
use Rattle.sn_device.specs.declared.fill.Fill.{Fill}
use Rattle.sn_device.specs.declared.status.Status.{Status}
use Rattle.sn_device.specs.Disk.{Always, CrashNow, Disk, IsSynced, reads}
use Rattle.sn_device.specs.Crash.{Touches}
use Rattle.sn_device.proofs.CrashLemmas.{Always-synced, LeavesOnly-now, LeavesOnly-torn}
use Rattle.sn_block.specs.Effects.{Nowhere}
use Rattle.sn_limits.specs.Versions.{limits_written}
use Rattle.sn_model.specs.declared.call.Event.{Event}
use Rattle.sn_model.specs.declared.end.End.{End}
use Rattle.sn_model.specs.declared.end.End.TheVariants as ending
use Rattle.sn_model.specs.declared.reply.Reply.{Reply}
use Rattle.sn_model.specs.Machine.{State, Running, Anything, CutRun}
use Rattle.sn_model.specs.World.{World}
use Rattle.sn_held.specs.Images.{IsImage}
use Rattle.sn_run.specs.Runs.{IsRunOf, LeavesFrom, LeavesItsRun, ShowsCut}
use Rattle.sn_run.proofs.CutLemmas.{cut_now, found_settled}
use Rattle.sn_program.specs.Answers.{AreEventsOf, IsRun}
use Rattle.sn_program.specs.Copies.{IsCutShort}
use Rattle.sn_program.specs.Fault.{IsOfFile, fault_in, outcome_of}
use Rattle.sn_program.specs.Tasks.{BeginsToSay, IsToldOf, LeavesOfCopy, Says}
use Rattle.sn_program.specs.declared.fault.ProgramFault.{ProgramFault}

-- after the last reply
at_last : (s : State) (events : List Event) (said replies : List Reply) (old new : Disk) → LeavesFrom s events said replies old new → Always new (ShowsCut s events (said ++ replies))
at_last s events said [] old new h =
    subst (λ (r : List Reply). Always new (ShowsCut s events r)) (sym (append-nil said)) (LeavesOnly-now old new (ShowsCut s events said) h)
at_last s events said (reply ∷ replies) old new h =
    subst (λ (r : List Reply). Always new (ShowsCut s events r)) (append_assoc said (reply ∷ []) replies) (at_last s events (said ++ reply ∷ []) replies h.0 new h.2)

agrees_same : (c d : Contents) → AgreesOutside Nowhere c d → c ≡ d
agrees_same c d agrees = sym (same_lists d c agrees.count (λ k x within.
    let inside : k < length c = omega (arith, agrees.count, within) in
    get_or_default d k x [] within ∙ agrees.same k (λ none. none) ∙ sym (get_or_default c k x [] inside)))

-- where nothing was written, what was there
untouched : (P : Contents → Type 0) (old new : Disk) → AreSectors (reads old) → IsSynced old → P (reads old) → Touches Nowhere old new → Always new P
untouched P old new whole synced here touches =
    LeavesOnly-now old new P (LeavesOnly-torn Nowhere P P (λ c d whole_c whole_d agrees h. subst P (agrees_same c d agrees) h) old new whole (Always-synced old P synced here) touches)

-- an image of a world that the run leaves, cut short after its last reply
pub kept : (copy last : Disk) (world : World) (events : List Event) (replies : List Reply) (end : End) (left : Contents) → AreSectors (reads copy) → IsSynced copy → IsImage (reads copy) world
    → IsRunOf world events replies end copy last → CrashNow last left → ShowsCut (Running world) events replies left
kept copy last world events replies end left whole synced image run crash = of run.crash
  where
    of : ((replies ≡ []) × Touches Nowhere copy last) ⊎ LeavesItsRun world events replies copy last → ShowsCut (Running world) events replies left
    of (inl h) =
        let here = untouched (λ c. IsImage c world) copy last whole synced image h.1 left crash in
        let cut : CutRun Anything limits_written (Running world) events replies world = subst (λ (r : List Reply). CutRun Anything limits_written (Running world) events r world) (sym h.0) (cut_now world events (found_settled (reads copy) world image)) in
        (world, here, cut)
    of (inr h) = at_last (Running world) events [] replies h.mounted last h.moments left crash

pub cut_short : (copy stopped last : Disk) (status stopped_status last_status : Status) (how : Fill) (end : End) (events : List Event) (replies : List Reply) (left : Contents) → stopped ≡ copy → stopped_status ≡ status → AreSectors (reads copy)
    → IsRun end events replies stopped stopped_status last last_status → CrashNow last left
    → EachIndex (reads last) (λ i. Contains last.present.unsynced i → sector_at left i ≡ filling how i (sector_at (last_synced last) i) (sector_at (reads last) i)) → IsCutShort copy status how end events replies left
cut_short copy stopped last status stopped_status last_status how end events replies left same_disk same_status whole run crash filled =
    let counted : IsRun end events replies stopped status last last_status = subst (λ (s : Status). IsRun end events replies stopped s last last_status) same_status run in
    let ran : IsRun end events replies copy status last last_status = subst (λ (d : Disk). IsRun end events replies d status last last_status) same_disk counted in
    record {
      last = last;
      last_status = last_status;
      run = ran;
      crash = crash;
      filled = filled;
      kept = λ synced world image. kept copy last world events replies end left whole synced image (ran.machine world image) crash;
    }

-- the fault of a run goes before that of writing its replies
tells : (end : End) (written : Result (Unit {0}) ProgramFault) (Whole : Type 0) → OnOk written Whole → IfErr written IsOfFile → IsToldOf end (fault_in (outcome_of end written)) Whole
tells ending.Clean (Ok x) Whole whole of_file = (refl, whole)
tells ending.Clean (Err why) Whole whole of_file = inr (refl, of_file)
tells ending.Stopped written Whole whole of_file = inl refl
tells ending.Memory written Whole whole of_file = inl refl
tells (ending.Mount m) written Whole whole of_file = inl refl

-- what a run on a copy of an image leaves, whose replies were written or not
pub leaves : (contents : Contents) (copy : Disk) (status : Status) (how : Fill) (end : End) (events : List Event) (replies : List Reply) (left : Contents) (written : Result (Unit {0}) ProgramFault) (told : Option ProgramFault) (old new : Option (List ℕ))
    → copy ≡ first contents → status ≡ uncalled (length contents) → AreEventsOf None events → IsCutShort copy status how end events replies left
    → OnOk written (Says replies old new) → BeginsToSay replies old new → IfErr written IsOfFile → told ≡ fault_in (outcome_of end written) → LeavesOfCopy how told old new
leaves contents copy status how end events replies left written told old new same_disk same_status read cut whole front of_file said =
    let counted : IsCutShort copy (uncalled (length contents)) how end events replies left = subst (λ (s : Status). IsCutShort copy s how end events replies left) same_status cut in
    record {
      end = end;
      replies = replies;
      cut = record {
        events = events;
        read = read;
        copy = contents;
        left = left;
        cut = subst (λ (d : Disk). IsCutShort d (uncalled (length contents)) how end events replies left) same_disk counted;
      };
      front = front;
      tells = subst (λ (t : Option ProgramFault). IsToldOf end t (Says replies old new)) (sym said) (tells end written (Says replies old new) whole of_file);
    }
