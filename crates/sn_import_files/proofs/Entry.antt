-- What is done of an entry.
use Rattle.std.proofs.Common.{◌≡◌, ℕ, true, false, List, [], ◌∷◌, ◌++◌, ⊎_elim, inl, refl, sym, ap, subst, ◌∙◌}
use Rattle.std.specs.Prelude.{Option, Some, None, Result, Ok, Err, IfErr, IsErrAnd}
use Rattle.std.proofs.lemmas.List.{append-nil}
use Rattle.sn_import.specs.Calls.{opening_calls}
use Rattle.sn_import.specs.declared.object.Object.{Object}
use Rattle.sn_import.specs.declared.object.Rights.{Rights}
use Rattle.sn_import.specs.declared.object.What.{What}
use Rattle.sn_import.specs.declared.object.What.TheVariants.{File, Directory, Top, HardLink}
use Rattle.sn_import_entry.specs.Entries.{object_of}
use Rattle.sn_import_entry.specs.declared.fault.EntryFault.{EntryFault}
use Rattle.sn_import_entry.specs.declared.fault.ObjectFault.{ObjectFault}
use Rattle.sn_import_entry.specs.declared.fault.ObjectFault.TheVariants as missing
use Rattle.sn_import_entry.specs.declared.names.Names.{Names}
use Rattle.sn_untar.specs.declared.members.Member.{Member}
use Rattle.sn_untar.specs.declared.told.Told.{Told}
use Rattle.sn_untar.specs.declared.told.Told.TheVariants as told
use Rattle.sn_import_calls.specs.Acts.{Act}
use Rattle.sn_import_calls.specs.Carried.{AreMade, IsStopped, last_descriptor, stop_of}
use Rattle.sn_import_files.specs.Entries.{IsDone, IsFinished, IsMade, IsOpened, IsTaken, IsUnopened, fault_stop, fault_told, faulty, report, rights_wait, unmade}
use Rattle.sn_untar.specs.Steps.{State}
use Rattle.sn_import_files.specs.Files.{Arrives, Came}
use Rattle.sn_import_calls.specs.Stops.{is_call}
use Rattle.sn_import_files.specs.Streams.{Part}
use Rattle.sn_import_calls.specs.declared.stop.Stop.{Stop}
use Rattle.sn_import_calls.specs.declared.stop.Stop.TheVariants.{Memory}
use Rattle.sn_import_calls.proofs.Made.{broken_at}

pub unopened : {A : Type 0} (object : Object) (size : ℕ) (content : List ℕ) (acts : List Act) (e : Stop) (r : Result A Stop)
    → IsErrAnd r (λ other. other ≡ e) → is_call e ≡ true → IsStopped object.what (opening_calls object) acts e → IsMade object size content acts (stop_of r)
unopened object size content acts e (Ok a) is call stopped = absurd is
unopened object size content acts e (Err stop) is call stopped = inl (record {
  reason = stop;
  called = ap is_call is ∙ call;
  stopped = subst (λ (other : Stop). IsStopped object.what (opening_calls object) acts other) (sym is) stopped;
  stop_is = refl;
})

-- ---- a directory that isn't kept

finished_nothing : (what : What) (object : Object) (fd size : ℕ) (content : List ℕ) (acts : List Act) (stop : Option Stop) → rights_wait what ≡ true → IsFinished what fd object size content acts stop → acts ≡ []
finished_nothing (File rights) object fd size content acts stop is h = let never : false ≡ true = is in cc
finished_nothing (Directory rights) object fd size content acts stop is h = h.0
finished_nothing (Top rights) object fd size content acts stop is h = h.0
finished_nothing (HardLink old) object fd size content acts stop is h = let never : false ≡ true = is in cc

-- no memory is left to keep it
pub unkept : (object : Object) (size : ℕ) (content : List ℕ) (acts : List Act) → rights_wait object.what ≡ true → IsMade object size content acts None → IsMade object size content acts (Some Memory)
unkept object size content acts waits h = ⊎_elim
    (λ (u : IsUnopened object acts None). let never : None ≡ Some u.reason = u.stop_is in absurd (let no : ⊥ = cc in no))
    (λ (o : IsOpened object size content acts None).
    (let none = finished_nothing object.what object (last_descriptor object.what o.first) size content o.more None waits o.finished in
    let same : o.first ≡ acts = sym (o.acts_are ∙ ap (λ (more : List Act). o.first ++ more) none ∙ append-nil o.first) in
    inl (record {
      reason = Memory;
      called = refl;
      stopped = broken_at object.what (opening_calls object) [] acts Memory refl (subst (λ (all : List Act). AreMade object.what (opening_calls object) [] all) same o.made);
      stop_is = refl;
    })))
    h

pub kept_made : {A : Type 0} (object : Object) (size : ℕ) (content : List ℕ) (acts : List Act) (r : Result A Stop)
    → IfErr r (λ stop. (stop ≡ Memory) × (rights_wait object.what ≡ true)) → IsMade object size content acts None → IsMade object size content acts (stop_of r)
kept_made object size content acts (Ok a) h m = m
kept_made object size content acts (Err stop) h m =
    let fault : (stop ≡ Memory) × (rights_wait object.what ≡ true) = h in
    subst (λ (other : Stop). IsMade object size content acts (Some other)) (sym fault.0) (unkept object size content acts fault.1 m)

-- a directory, or a link, has no content
pub finished_none : (what : What) (object : Object) (fd size : ℕ) → ((rights : Rights) → what ≡ File rights → ⊥) → IsFinished what fd object size [] [] None
finished_none (File rights) object fd size isnt = absurd (isnt rights refl)
finished_none (Directory rights) object fd size isnt = (refl, refl)
finished_none (Top rights) object fd size isnt = (refl, refl)
finished_none (HardLink old) object fd size isnt = (refl, refl)

-- no object is made
pub refused_done : (names : Names) (into : List ℕ) (place : ℕ) (part : Part) (fault : ObjectFault) → part.is_cut ≡ false
    → ((f : EntryFault) → fault ≡ missing.Entry f → object_of names into part.member ≡ Err f)
    → IsDone names into place part (report place part.member (fault_told fault) ∷ []) [] (fault_stop fault)
refused_done names into place part (missing.Entry f) whole is = faulty f whole (is f refl)
refused_done names into place part missing.Memory whole is = unmade

-- nothing is made where no entry begins
pub taken_other : (names : Names) (into : List ℕ) (count : ℕ) (says : Told) → ((member : Member) → says ≡ told.Entry member → ⊥) → ((member : Member) → says ≡ told.Cut member → ⊥)
    → IsTaken names into count says [] [] [] None count
taken_other names into count (told.Entry member) no_entry no_cut = absurd (no_entry member refl)
taken_other names into count (told.Cut member) no_entry no_cut = absurd (no_cut member refl)
taken_other names into count (told.Content size) no_entry no_cut = (refl, refl, refl, refl, refl)
taken_other names into count told.Nothing no_entry no_cut = (refl, refl, refl, refl, refl)
taken_other names into count told.TooLong no_entry no_cut = (refl, refl, refl, refl, refl)
taken_other names into count told.End no_entry no_cut = (refl, refl, refl, refl, refl)

pub memory_calls : {A : Type 0} (object : Object) (r : Result A Stop) → IfErr r (λ stop. (stop ≡ Memory) × (rights_wait object.what ≡ true)) → IfErr r (λ stop. is_call stop ≡ true)
memory_calls object (Ok a) h = tt
memory_calls object (Err stop) h =
    let fault : (stop ≡ Memory) × (rights_wait object.what ≡ true) = h in
    ap is_call fault.0

pub refused_came : (s : State) (i : Option (List ℕ)) (fault : ObjectFault) → Arrives s i [] s i → Came s i [] s i (fault_stop fault)
refused_came s i (missing.Entry f) h = h
refused_came s i missing.Memory h = (s, i, h, tt)
