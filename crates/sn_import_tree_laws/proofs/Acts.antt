-- What is done of an entry where nothing is reported, and the world that it leaves.
use Rattle.std.proofs.Common.{◌≡◌, ℕ, Bool, true, false, cond, List, [], ◌∷◌, ◌++◌, map, take, Option, Some, None, Ok, ⊎_elim, refl, sym, subst, ◌∙◌, append-nil}
use Rattle.std.specs.List.{AllByRecursion}
use Rattle.std.specs.Str.{bytes_eq}
use Rattle.sn_limits.specs.declared.limits.Limits.{Limits}
use Rattle.sn_model.specs.declared.call.Call.{Call}
use Rattle.sn_model.specs.declared.call.Call.TheVariants as call
use Rattle.sn_model.specs.World.{World}
use Rattle.sn_model.specs.Worlds.{IsCall, IsWorld}
use Rattle.sn_model.proofs.WorldLemmas.{step_world}
use Rattle.sn_import.specs.Calls.{closing_calls, looked, making_above, marking, opening_calls, through_from}
use Rattle.sn_import.specs.Writes.{pieces}
use Rattle.sn_import.specs.declared.object.Object.{Object}
use Rattle.sn_import.specs.declared.object.Rights.{Rights}
use Rattle.sn_import.specs.declared.object.What.{What}
use Rattle.sn_import.specs.declared.object.What.TheVariants.{Directory, File, HardLink, Top}
use Rattle.sn_import_entry.specs.Entries.{object_of}
use Rattle.sn_import_entry.specs.Forms.{has_set_uid}
use Rattle.sn_import_entry.specs.declared.names.Names.{Names}
use Rattle.sn_import_calls.specs.Acts.{Act, Called, Told, calls_in}
use Rattle.sn_import_calls.specs.Carried.{AreMade, last_descriptor}
use Rattle.sn_import_files.specs.Entries.{IsDone, IsMade, IsOpened, IsUnopened, cut, faulty, filling, kept, made, report, set_uid_told, stop_told, unmade}
use Rattle.sn_import_files.specs.Streams.{Part}
use Rattle.sn_import_calls.specs.declared.stop.Stop.{Stop}
use Rattle.sn_import_calls.specs.declared.why.Why.TheVariants as why
use Rattle.sn_import_laws.specs.Rights.{has_bits}
use Rattle.sn_import_laws.specs.Runs.{Runs}
use Rattle.sn_import_laws.proofs.Steps.{runs_split}
use Rattle.sn_import_tree_laws.specs.Reports.{AreCalled}

-- ---- worlds

pub world_along : (limits : Limits) (old new : World) (acts : List Act) → AllByRecursion IsCall (calls_in acts) → IsWorld limits old → Runs limits old acts new → IsWorld limits new
world_along limits old new [] calls whole runs = subst (IsWorld limits) (sym runs) whole
world_along limits old new (Called c reply ∷ acts) calls whole runs = world_along limits runs.0 new acts calls.1 (step_world limits old runs.0 0 c reply runs.1 calls.0 whole) runs.2
world_along limits old new (Told entry name why ∷ acts) calls whole runs = world_along limits old new acts calls whole runs

pub made_along : (limits : Limits) (old new : World) (what : What) (plan : List Call) (acts : List Act) → AllByRecursion IsCall plan → AreMade what plan [] acts → IsWorld limits old → Runs limits old acts new → IsWorld limits new
made_along limits old new what plan acts calls m whole runs =
    world_along limits old new acts (subst (AllByRecursion IsCall) (m.plan_is ∙ append-nil (calls_in acts)) calls) whole runs

-- ---- the calls of an object

all_above : (paths : List (List ℕ)) (more : List Call) → AllByRecursion IsCall more → AllByRecursion IsCall (map making_above paths ++ more)
all_above [] more all = all
all_above (path ∷ paths) more all = (tt, all_above paths more all)

all_looked : (path : List ℕ) (what : What) → AllByRecursion IsCall (looked path what)
all_looked path (File rights) = (tt, (tt, tt))
all_looked path (Directory rights) = (tt, (tt, (tt, tt)))
all_looked path (Top rights) = (tt, tt)
all_looked path (HardLink old) = (
  tt,
  elim (bytes_eq old path) as (λ b. AllByRecursion IsCall (cond b [] (call.Unlink path ∷ call.Link old path ∷ []))) [
    | true ↦ tt
    | false ↦ (tt, (tt, tt))
  ],
)

all_opening : (object : Object) → AllByRecursion IsCall (opening_calls object)
all_opening object = all_above (through_from object.lead object.path) (looked object.path object.what) (all_looked object.path object.what)

all_writes : (fd : ℕ) (ps : List (List ℕ)) (more : List Call) → AllByRecursion IsCall more → AllByRecursion IsCall (map (call.Write fd) ps ++ more)
all_writes fd [] more all = all
all_writes fd (p ∷ ps) more all = (tt, all_writes fd ps more all)

pub all_marked : (path : List ℕ) (rights : Rights) (b : Bool) → AllByRecursion IsCall (cond b (marking path rights ∷ []) [])
all_marked path rights true = (tt, tt)
all_marked path rights false = tt

all_filling : (fd : ℕ) (path : List ℕ) (lead : ℕ) (rights : Rights) (content : List ℕ) → AllByRecursion IsCall (filling fd (record { path = path; lead = lead; what = File rights }) content)
all_filling fd path lead rights content =
    all_writes fd (pieces [] content) (closing_calls fd (record { path = path; lead = lead; what = File rights })) (tt, (tt, (tt, all_marked path rights (has_bits rights))))

no_reason : (reason : Stop) → None ≡ Some reason → ⊥
no_reason reason e = cc

pub made_world : (limits : Limits) (old new : World) (path : List ℕ) (lead : ℕ) (what : What) (size : ℕ) (content : List ℕ) (acts : List Act) → IsWorld limits old
    → IsMade (record { path = path; lead = lead; what = what }) size content acts None → Runs limits old acts new → IsWorld limits new
made_world limits old new path lead what size content acts whole is runs = ⊎_elim
    (λ (u : IsUnopened (record { path = path; lead = lead; what = what }) acts None). absurd (no_reason u.reason u.stop_is))
    (λ (o : IsOpened (record { path = path; lead = lead; what = what }) size content acts None). opened what o)
    is
  where
    nothing_more : (middle : World) (more : List Act) → more ≡ [] → IsWorld limits middle → Runs limits middle more new → IsWorld limits new
    nothing_more middle more none w ran = subst (IsWorld limits) (sym (subst (λ (xs : List Act). Runs limits middle xs new) none ran)) w

    opened : (w : What) → IsOpened (record { path = path; lead = lead; what = w }) size content acts None → IsWorld limits new
    opened w o =
        let r = runs_split limits old new o.first o.more (subst (λ (xs : List Act). Runs limits old xs new) o.acts_are runs) in
        let between = made_along limits old r.0 w (opening_calls (record { path = path; lead = lead; what = w })) o.first (all_opening (record { path = path; lead = lead; what = w })) o.made whole r.1 in
        finish w o r.0 between r.2
      where
        finish : (v : What) → (p : IsOpened (record { path = path; lead = lead; what = v }) size content acts None) → (middle : World) → IsWorld limits middle → Runs limits middle p.more new → IsWorld limits new
        finish (File rights) p middle w_is ran =
            let fd = last_descriptor (File rights) p.first in
            made_along limits middle new (File rights) (filling fd (record { path = path; lead = lead; what = File rights }) (take size content)) p.more (all_filling fd path lead rights (take size content)) p.finished.1 w_is ran
        finish (Directory rights) p middle w_is ran = nothing_more middle p.more p.finished.0 w_is ran
        finish (Top rights) p middle w_is ran = nothing_more middle p.more p.finished.0 w_is ran
        finish (HardLink other) p middle w_is ran = nothing_more middle p.more p.finished.0 w_is ran

-- ---- nothing is reported

pub called_parts : (xs ys : List Act) → AreCalled (xs ++ ys) → AreCalled xs × AreCalled ys
called_parts [] ys all = (tt, all)
called_parts (x ∷ xs) ys all = let more = called_parts xs ys all.1 in ((all.0, more.0), more.1)

-- then there is an object, and all its calls are made
pub record IsWhole (names : Names) (into : List ℕ) (part : Part) (acts : List Act) (own : List Object) (stop : Option Stop) : Type 0 where
  pub object : Object
  pub object_is : object_of names into part.member ≡ Ok object
  pub all : IsMade object part.member.size part.content acts None
  pub own_is : own ≡ kept object None
  pub stop_is : stop ≡ None

pub done_whole : (names : Names) (into : List ℕ) (place : ℕ) (part : Part) (acts : List Act) (own : List Object) (stop : Option Stop) → IsDone names into place part acts own stop → AreCalled acts → IsWhole names into part acts own stop
done_whole names into place part _ _ _ (cut is) called = absurd called.0
done_whole names into place part _ _ _ (faulty fault is wrong) called = absurd called.0
done_whole names into place part _ _ _ unmade called = absurd called.0
done_whole names into place part _ _ _ (made object acts stop is right all) called =
    let last = called_parts (set_uid_told place part.member ++ acts) (stop_told place part.member stop) called in
    let first = called_parts (set_uid_told place part.member) acts last.0 in
    told (has_set_uid part.member) stop first.0 last.1 all
  where
    told : (b : Bool) (s : Option Stop) → AreCalled (cond b (report place part.member why.SetUid ∷ []) []) → AreCalled (stop_told place part.member s) → IsMade object part.member.size part.content acts s
        → IsWhole names into part (cond b (report place part.member why.SetUid ∷ []) [] ++ acts ++ stop_told place part.member s) (kept object s) s
    told true s before after m = absurd before.0
    told false (Some reason) before after m = absurd after.0
    told false None before after m = record {
      object = object;
      object_is = right;
      all = subst (λ (xs : List Act). IsMade object part.member.size part.content xs None) (sym (append-nil acts)) m;
      own_is = refl;
      stop_is = refl;
    }
