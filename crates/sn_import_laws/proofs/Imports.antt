-- A file of an archive is made where it has room.
use Rattle.std.proofs.Common.{◌≡◌, ℕ, List, [], ◌∷◌, ◌++◌, map, take, Some, None, ⊎_elim, refl, sym, ap, subst, ◌∙◌}
use Rattle.std.specs.List.{AllByRecursion}
use Rattle.sn_limits.specs.declared.limits.Limits.{Limits}
use Rattle.sn_model.specs.declared.call.Call.{Call}
use Rattle.sn_model.specs.declared.call.Call.TheVariants as call
use Rattle.sn_model.specs.declared.reply.Reply.{Reply}
use Rattle.sn_model.specs.World.{World}
use Rattle.sn_model.specs.Worlds.{IsWorld}
use Rattle.sn_import.specs.Calls.{making_above, new_file, through_from}
use Rattle.sn_import.specs.declared.object.Object.{Object}
use Rattle.sn_import.specs.declared.object.Rights.{Rights}
use Rattle.sn_import.specs.declared.object.What.{What}
use Rattle.sn_import.specs.declared.object.What.TheVariants.{File}
use Rattle.sn_import_calls.specs.Acts.{Act, Called, Told}
use Rattle.sn_import_calls.specs.Answers.{answer}
use Rattle.sn_import_calls.specs.Carried.{AreMade, last_descriptor, number_from, number_in}
use Rattle.sn_import_files.specs.Entries.{IsMade, IsOpened, IsUnopened, filling}
use Rattle.sn_import_calls.specs.declared.stop.Stop.{Stop}
use Rattle.sn_import_laws.specs.Files.{IsMadeFile, file_node}
use Rattle.sn_import_laws.specs.Rights.{AreRights}
use Rattle.sn_import_laws.specs.Runs.{IsRoots, Runs}
use Rattle.sn_import_laws.specs.Vacant.{IsThere, IsVacant}
use Rattle.sn_import_laws.proofs.Files.{files_are_made}
use Rattle.sn_import_laws.proofs.Steps.{first as first_of, made_split, none as none_of, run_first, run_none, runs_join, runs_split}
use Rattle.sn_import_laws.proofs.Vacant.{no_mkdir, no_unlink, unchanged}

-- no directory above is made
pub above_unchanged : (limits : Limits) (old new : World) (what : What) (paths : List (List ℕ)) (acts : List Act) → AllByRecursion (IsThere old) paths → AreMade what (map making_above paths) [] acts → Runs limits old acts new → new ≡ old
above_unchanged limits old new what [] acts there made runs = run_none limits old new what acts made runs
above_unchanged limits old new what (path ∷ paths) acts there made runs =
    let r = run_first limits old new what (making_above path) (map making_above paths) acts made runs in
    let same : r.between ≡ old = unchanged limits old r.between (making_above path) r.reply (λ o e. no_mkdir limits old path 493 o there.0 e) r.step in
    above_unchanged limits old new what paths r.others there.1 r.left (subst (λ (w : World). Runs limits w r.others new) same r.runs)

-- the last call gives the descriptor
number_after : (what : What) (n : ℕ) (front : List Act) (c : Call) (reply : Reply) (rest : List Act) → number_from what n (front ++ Called c reply ∷ rest) ≡ number_from what (number_in (answer what c reply)) rest
number_after what n [] c reply rest = refl
number_after what n (Called other told ∷ front) c reply rest = number_after what (number_in (answer what other told)) front c reply rest
number_after what n (Told entry name why ∷ front) c reply rest = number_after what n front c reply rest

module _ (limits : Limits) (old new : World) (path : List ℕ) (lead : ℕ) (rights : Rights) (size : ℕ) (content : List ℕ) (acts : List Act) (whole : IsWorld limits old) (roots : IsRoots old) (are : AreRights rights) where
  abbrev object : Object
  object = record { path = path; lead = lead; what = File rights }

  opened_made : IsVacant old object → IsOpened object size content acts None → Runs limits old acts new → IsMadeFile old new path (file_node rights (take size content))
  opened_made vacant o runs =
      let w = File rights in
      let opens = call.Open path new_file 384 in
      let s = made_split w (map making_above (through_from lead path)) (call.Unlink path ∷ opens ∷ []) o.first o.made in
      let r = runs_split limits old new o.first o.more (subst (λ (xs : List Act). Runs limits old xs new) o.acts_are runs) in
      let q = runs_split limits old r.0 s.front s.back (subst (λ (xs : List Act). Runs limits old xs r.0) s.acts_are r.1) in
      let same = above_unchanged limits old q.0 w (through_from lead path) s.front vacant.above s.first q.1 in
      let u = run_first limits old r.0 w (call.Unlink path) (opens ∷ []) s.back s.second (subst (λ (v : World). Runs limits v s.back r.0) same q.2) in
      let gone = unchanged limits old u.between (call.Unlink path) u.reply (λ outcome e. no_unlink limits old path outcome vacant.absent e) u.step in
      let ran = subst (λ (v : World). Runs limits v u.others r.0) gone u.runs in
      let a = first_of w opens [] u.others u.left in
      let others : u.others ≡ Called opens a.reply ∷ [] = a.acts_are ∙ ap (λ (xs : List Act). Called opens a.reply ∷ xs) (none_of w a.others a.left) in
      let all : o.first ≡ s.front ++ Called (call.Unlink path) u.reply ∷ Called opens a.reply ∷ [] =
      s.acts_are ∙ ap (λ (xs : List Act). s.front ++ xs) (u.acts_are ∙ ap (λ (xs : List Act). Called (call.Unlink path) u.reply ∷ xs) others) in
      let fd : last_descriptor w o.first ≡ last_descriptor w u.others =
      ap (last_descriptor w) all ∙ number_after w 0 s.front (call.Unlink path) u.reply (Called opens a.reply ∷ []) ∙ sym (ap (last_descriptor w) others) in
      files_are_made limits old new object rights (take size content) u.others o.more whole roots are refl u.left
      (subst (λ (n : ℕ). AreMade w (filling n object (take size content)) [] o.more) fd o.finished.1)
      (runs_join limits old r.0 new u.others o.more ran r.2)

  none_made : (reason : Stop) → None ≡ Some reason → ⊥
  none_made reason e = cc

  file_imported : IsVacant old object → IsMade object size content acts None → Runs limits old acts new → IsMadeFile old new path (file_node rights (take size content))
  file_imported vacant made runs = ⊎_elim
      (λ (u : IsUnopened object acts None). absurd (none_made u.reason u.stop_is))
      (λ (o : IsOpened object size content acts None). opened_made vacant o runs)
      made

pub files_are_imported : (limits : Limits) (old new : World) (object : Object) (rights : Rights) (size : ℕ) (content : List ℕ) (acts : List Act) → IsWorld limits old → IsRoots old → AreRights rights → object.what ≡ File rights
    → IsVacant old object → IsMade object size content acts None → Runs limits old acts new → IsMadeFile old new object.path (file_node rights (take size content))
files_are_imported limits old new object rights size content acts whole roots are is vacant made runs =
    let Made : What → Type 0 = λ what. IsMade (record object { what = what }) size content acts None in
    file_imported limits old new object.path object.lead rights size content acts whole roots are (record { above = vacant.above; absent = vacant.absent }) (subst Made is made) runs
