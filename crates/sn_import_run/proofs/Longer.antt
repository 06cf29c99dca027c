-- More content of an entry that is done.
use Rattle.std.proofs.Common.{◌≡◌, ℕ, true, false, List, [], ◌++◌, take, ⊎_elim, inl, inr, sym, subst, append_assoc, length-append, arith}
use Rattle.std.specs.Prelude.{Option, Some, None, not}
use Rattle.std.proofs.lemmas.List.{take-append-le}
use Rattle.sn_import.specs.declared.object.Object.{Object}
use Rattle.sn_import.specs.declared.object.What.{What}
use Rattle.sn_import.specs.declared.object.What.TheVariants.{File, Directory, Top, HardLink}
use Rattle.sn_import_entry.specs.declared.names.Names.{Names}
use Rattle.sn_import_calls.specs.Acts.{Act}
use Rattle.sn_import_calls.specs.Carried.{AreMade, IsStopped, last_descriptor}
use Rattle.sn_import_files.specs.Entries.{IsDone, IsFilled, IsFinished, IsMade, IsOpened, IsUnopened, cut, faulty, filling, made, unmade}
use Rattle.sn_import_run.specs.Imports.{goes_on}
use Rattle.sn_import_calls.specs.Stops.{ends_reading, is_call}
use Rattle.sn_import_files.specs.Streams.{Part, longer}
use Rattle.sn_import_calls.specs.declared.stop.Stop.{Stop}
use Rattle.sn_import_calls.specs.declared.stop.Stop.TheVariants.{Refused, Memory, Damaged, Ended, Unread}

-- no archive is the reason
goes_call : (stop : Stop) → not (ends_reading stop) ≡ true → is_call stop ≡ false → ⊥
goes_call (Refused errno) goes is = let never : true ≡ false = is in cc
goes_call Memory goes is = let never : true ≡ false = is in cc
goes_call Damaged goes is = let never : false ≡ true = goes in cc
goes_call Ended goes is = let never : false ≡ true = goes in cc
goes_call (Unread e) goes is = let never : false ≡ true = goes in cc

filled_longer : (object : Object) (fd size : ℕ) (content more : List ℕ) (acts : List Act) (stop : Option Stop) → goes_on stop ≡ true → IsFilled fd object size content acts stop → IsFilled fd object size (content ++ more) acts stop
filled_longer object fd size content more acts None goes h = (
  omega (arith, length-append content more, h.0),
  subst (λ (bytes : List ℕ). AreMade object.what (filling fd object bytes) [] acts) (sym (take-append-le size content more h.0)) h.1,
)
filled_longer object fd size content more acts (Some stop) goes h = (
  λ rest. subst (λ (bytes : List ℕ). IsStopped object.what (filling fd object (take size bytes)) acts stop) (sym (append_assoc content more rest)) (h.0 (more ++ rest)),
  λ is. absurd (goes_call stop goes is),
)

finished_longer : (what : What) (object : Object) (fd size : ℕ) (content more : List ℕ) (acts : List Act) (stop : Option Stop) → goes_on stop ≡ true → IsFinished what fd object size content acts stop → IsFinished what fd object size (content ++ more) acts stop
finished_longer (File rights) object fd size content more acts stop goes h = filled_longer object fd size content more acts stop goes h
finished_longer (Directory rights) object fd size content more acts stop goes h = h
finished_longer (Top rights) object fd size content more acts stop goes h = h
finished_longer (HardLink old) object fd size content more acts stop goes h = h

made_longer : (object : Object) (size : ℕ) (content more : List ℕ) (acts : List Act) (stop : Option Stop) → goes_on stop ≡ true → IsMade object size content acts stop → IsMade object size (content ++ more) acts stop
made_longer object size content more acts stop goes h = ⊎_elim
    (λ (u : IsUnopened object acts stop). inl u)
    (λ (o : IsOpened object size content acts stop). inr (record {
      first = o.first;
      more = o.more;
      acts_are = o.acts_are;
      made = o.made;
      finished = finished_longer object.what object (last_descriptor object.what o.first) size content more o.more stop goes o.finished;
    }))
    h

pub done_longer : (names : Names) (into : List ℕ) (place : ℕ) (part : Part) (bytes : List ℕ) (acts : List Act) (own : List Object) (stop : Option Stop)
    → goes_on stop ≡ true → IsDone names into place part acts own stop → IsDone names into place (longer part bytes) acts own stop
done_longer names into place part bytes _ _ _ goes (cut is) = cut is
done_longer names into place part bytes _ _ _ goes (faulty fault is wrong) = faulty fault is wrong
done_longer names into place part bytes _ _ _ goes unmade = unmade
done_longer names into place part bytes _ _ _ goes (made object acts stop is right m) = made object acts stop is right (made_longer object part.member.size part.content bytes acts stop goes m)
