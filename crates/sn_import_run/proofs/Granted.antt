-- Directories that get their rights, one after the other.
use Rattle.std.proofs.Common.{◌≡◌, ℕ, suc, ◌+◌, ◌<◌, ◌≤◌, Bool, true, false, List, [], ◌∷◌, ◌++◌, length, drop, get_or, refl, sym, ap, subst, ◌∙◌, append_assoc, add-one, drop-cons}
use Rattle.std.proofs.Math.ListN.{drop_of_length-le}
use Rattle.std.specs.Prelude.{Option}
use Rattle.std.specs.Bool.{MatchBool}
use Rattle.std.proofs.lemmas.List.{append-nil}
use Rattle.sn_import.specs.declared.object.Object.{Object}
use Rattle.sn_import_calls.specs.Acts.{Act}
use Rattle.sn_import_run.specs.Imports.{AreGranted, IsGranted, is_over, stop_told}
use Rattle.sn_import_calls.specs.declared.stop.Stop.{Stop}

left_at : (objects : List Object) (i : ℕ) (object : Object) → i < length objects → object ≡ get_or objects i object → drop i objects ≡ object ∷ drop (i + 1) objects
left_at objects i object within is =
    drop-cons objects i object within ∙ ap (λ o. o ∷ drop (suc i) objects) (sym is) ∙ ap (λ n. object ∷ drop n objects) (sym (add-one i))

pub granted_more : (objects : List Object) (i : ℕ) (object : Object) (acts own all : List Act) (stop : Option Stop) → i < length objects → object ≡ get_or objects i object
    → all ≡ own ++ stop_told object stop → IsGranted object own stop → is_over stop ≡ false
    → ((more : List Act) → AreGranted (drop i objects) more → AreGranted objects (acts ++ more))
    → (more : List Act) → AreGranted (drop (i + 1) objects) more → AreGranted objects ((acts ++ all) ++ more)
granted_more objects i object acts own all stop within is all_are granted goes front more rest =
    let first : AreGranted (object ∷ drop (i + 1) objects) (all ++ more) =
    (own, more, stop, ap (λ a. a ++ more) all_are, granted, subst (λ (b : Bool). MatchBool b (more ≡ []) (AreGranted (drop (i + 1) objects) more)) (sym goes) rest) in
    let next : AreGranted (drop i objects) (all ++ more) = subst (λ (os : List Object). AreGranted os (all ++ more)) (sym (left_at objects i object within is)) first in
    subst (λ (a : List Act). AreGranted objects a) (sym (append_assoc acts all more)) (front (all ++ more) next)

pub granted_last : (objects : List Object) (i : ℕ) (object : Object) (acts own all : List Act) (stop : Option Stop) → i < length objects → object ≡ get_or objects i object
    → all ≡ own ++ stop_told object stop → IsGranted object own stop → is_over stop ≡ true
    → ((more : List Act) → AreGranted (drop i objects) more → AreGranted objects (acts ++ more))
    → AreGranted objects (acts ++ all)
granted_last objects i object acts own all stop within is all_are granted over front =
    let none : List Act = [] in
    let first : AreGranted (object ∷ drop (i + 1) objects) all =
    (own, [], stop, all_are ∙ sym (append-nil (own ++ stop_told object stop)), granted, subst (λ (b : Bool). MatchBool b (none ≡ []) (AreGranted (drop (i + 1) objects) none)) (sym over) refl) in
    front all (subst (λ (os : List Object). AreGranted os all) (sym (left_at objects i object within is)) first)

pub granted_all : (objects : List Object) (i : ℕ) (acts : List Act) → length objects ≤ i
    → ((more : List Act) → AreGranted (drop i objects) more → AreGranted objects (acts ++ more)) → AreGranted objects acts
granted_all objects i acts all front =
    let rest : AreGranted (drop i objects) [] = subst (λ (os : List Object). AreGranted os []) (sym (drop_of_length-le objects all)) refl in
    subst (λ (a : List Act). AreGranted objects a) (append-nil acts) (front [] rest)
