-- What holds of the change that a call has decided.
use Rattle.std.proofs.Common.{◌≡◌, ℕ, ◌<◌, Bool, true, Option, Some, None, Result, Ok, Err, is_some, sym, ap, subst, refl, ◌∙◌, arith, lit<, lit≤}
use Rattle.std.proofs.lemmas.Bool.{true≢false}
use Rattle.sn_limits.specs.Versions.{limits_written}
use Rattle.sn_model.specs.declared.call.Call.{Call}
use Rattle.sn_model.specs.declared.change.Change.{Change}
use Rattle.sn_model.specs.declared.change.Change.TheVariants.{Make}
use Rattle.sn_model.specs.declared.outcome.Caller.{Caller}
use Rattle.sn_model.specs.declared.outcome.Outcome.{Outcome}
use Rattle.sn_model.specs.declared.outcome.Pending.{Pending}
use Rattle.sn_model.specs.declared.outcome.Pending.TheVariants.{Nothing, Makes, Does}
use Rattle.sn_model.specs.declared.reply.Refusal.{Refusal}
use Rattle.sn_model.specs.Changes.{apply}
use Rattle.sn_model.specs.Charges.{charge_for, charge_of, point_charge}
use Rattle.sn_model.specs.Steps.{IsNumberFor, changed, decision}
use Rattle.sn_model.specs.Tree.{Tree}
use Rattle.sn_model.specs.World.{World}
use Rattle.sn_model.specs.Worlds.{IsWorld}
use Rattle.sn_model.proofs.DecidedLemmas.{decided_is}
use Rattle.sn_model.specs.declared.outcome.AskedPoint.{AskedPoint}
use Rattle.sn_model.specs.declared.outcome.AskedPoint.TheVariants.{Unasked, Plain, Freezes, Thaws, Restores}
use Rattle.sn_model.proofs.OutcomeLemmas.{DoesToOld, IsAlone, OnChange}
use Rattle.sn_changed.specs.Decided.{IsLogged}
use Rattle.sn_number_table.specs.Numbers.{next_number}
use Rattle.sn_number_table.proofs.FreeLemmas.{next_is_number}
use Rattle.sn_caller.specs.declared.chosen.Chosen.{Chosen}
use Rattle.sn_caller.specs.Choosing.{Chooses}
use Rattle.sn_opening.proofs.SpelledLemmas.{applied_spelled, old_spelled}
use Rattle.sn_record.specs.Payload.{IsSpelled}
use Rattle.sn_events.specs.Answers.{IsChangeOf}

-- a change that was chosen is the one that is pending
abbrev IsPicked : Tree → (ℕ → Bool) → Pending → Change → Type 0
IsPicked tree kept Nothing change = ⊥
IsPicked tree kept (Makes directory name kind o) change = (number : ℕ) × (next_number limits_written tree kept ≡ Some number) × (change ≡ Make directory name number kind o)
IsPicked tree kept (Does c) change = change ≡ c

some_is : (a b : Change) → Some a ≡ Some b → a ≡ b
some_is a b e = cc

picked_is : (tree : Tree) (kept : ℕ → Bool) (pending : Pending) (caller : Caller) (picked : Chosen) (change : Change) → Chooses tree kept pending caller picked → picked.change ≡ Some change → IsPicked tree kept pending change
picked_is tree kept Nothing caller picked change chosen is = let never : None ≡ Some change = sym (ap (λ (x : Chosen). x.change) chosen) ∙ is in cc
picked_is tree kept (Makes directory name kind o) caller picked change chosen is = (chosen.0, chosen.1, some_is change _ (sym is ∙ ap (λ (x : Chosen). x.change) chosen.2))
picked_is tree kept (Does c) caller picked change chosen is = some_is change c (sym is ∙ ap (λ (x : Chosen). x.change) chosen)

-- where a change was chosen, there is one
when_picked : {A : Type 0} (tree : Tree) (kept : ℕ → Bool) (pending : Pending) (change : Change) → IsPicked tree kept pending change → OnChange A pending → A
when_picked tree kept Nothing change is h = absurd is
when_picked tree kept (Makes directory name kind o) change is h = h
when_picked tree kept (Does c) change is h = h

module _ (w : World) (kept : ℕ → Bool) (session : ℕ) (c : Call) (o : Outcome) (picked : Chosen) (change : Change) (decided : decision limits_written w session c ≡ Ok o) (chosen : Chooses w.live kept o.change o.caller picked) (is : picked.change ≡ Some change) where
  -- It is charged for.
  pub is_charged : 0 < o.charge
  is_charged = when_picked w.live kept o.change change (picked_is w.live kept o.change o.caller picked change chosen is) ((decided_is limits_written w session c o decided).charged (lit< tt))

  -- It is logged.
  pub is_logged : IsLogged o.change
  is_logged = logs o.change (picked_is w.live kept o.change o.caller picked change chosen is)
    where
      logs : (pending : Pending) → IsPicked w.live kept pending change → IsLogged pending
      logs Nothing none = absurd none
      logs (Makes directory name kind o) made = tt
      logs (Does c) does = tt

-- a change that is pending is charged alike, whatever number a new node gets
picked_charge : (tree : Tree) (kept : ℕ → Bool) (pending : Pending) (change : Change) → IsPicked tree kept pending change → charge_of limits_written tree pending ≡ charge_for limits_written tree change
picked_charge tree kept Nothing change is = absurd is
picked_charge tree kept (Makes directory name kind o) change is = sym (ap (charge_for limits_written tree) is.2)
picked_charge tree kept (Does c) change is = sym (ap (charge_for limits_written tree) is)

-- one that results in a change brings no snapshot back
no_point_charge : (w : World) (p : AskedPoint) (pending : Pending) (caller : Caller) → IsAlone p pending caller → IsLogged pending → point_charge limits_written w p ≡ 0
no_point_charge w Unasked pending caller alone logged = refl
no_point_charge w Plain pending caller alone logged = refl
no_point_charge w (Freezes name) pending caller alone logged = refl
no_point_charge w (Thaws name) pending caller alone logged = refl
no_point_charge w (Restores name) pending caller alone logged = absurd (subst IsLogged alone.0 logged)

-- The charge of a call is that of the change that it results in.
pub charge_of_change : (w : World) (kept : ℕ → Bool) (session : ℕ) (c : Call) (o : Outcome) (picked : Chosen) (change : Change) → decision limits_written w session c ≡ Ok o → Chooses w.live kept o.change o.caller picked → picked.change ≡ Some change
    → o.charge ≡ charge_for limits_written w.live change
charge_of_change w kept session c o picked change decided chosen is =
    let so = decided_is limits_written w session c o decided in
    let none = no_point_charge w o.point o.change o.caller so.points.alone (is_logged w kept session c o picked change decided chosen is) in
    let paid : o.charge ≡ charge_of limits_written w.live o.change = omega (arith, so.pays, none) in
    paid ∙ picked_charge w.live kept o.change change (picked_is w.live kept o.change o.caller picked change chosen is)

-- ---- calls that result in no change

err_is_ok : {A : Type 0} (r : Refusal) (o : Outcome) → Err r ≡ Ok o → A
err_is_ok r o e = cc

pub refused_none : (w : World) (kept : ℕ → Bool) (session : ℕ) (c : Call) (r : Refusal) → decision limits_written w session c ≡ Err r → (change : Change) → IsChangeOf w kept session c change → ⊥
refused_none w kept session c r refused change is = err_is_ok r is.outcome (sym refused ∙ is.decided)

none_is_some : {A : Type 0} (change : Change) → None ≡ Some change → A
none_is_some change e = cc

none_picked : {A : Type 0} (tree : Tree) (kept : ℕ → Bool) (pending : Pending) (caller : Caller) (picked other : Chosen) (change : Change) → Chooses tree kept pending caller picked → picked.change ≡ None → Chooses tree kept pending caller other → other.change ≡ Some change → A
none_picked tree kept Nothing caller picked other change first none second some = none_is_some change (sym (ap (λ (x : Chosen). x.change) second) ∙ some)
none_picked tree kept (Makes directory name kind o) caller picked other change first none second some = none_is_some (Make directory name first.0 kind o) (sym none ∙ ap (λ (x : Chosen). x.change) first.2)
none_picked tree kept (Does c) caller picked other change first none second some = none_is_some c (sym none ∙ ap (λ (x : Chosen). x.change) first)

ok_is : (x : Result Outcome Refusal) (a b : Outcome) → x ≡ Ok a → x ≡ Ok b → a ≡ b
ok_is x a b e f = cc

pub has_no_change : (w : World) (kept : ℕ → Bool) (session : ℕ) (c : Call) (o : Outcome) (picked : Chosen) → decision limits_written w session c ≡ Ok o → Chooses w.live kept o.change o.caller picked → picked.change ≡ None → (change : Change) → IsChangeOf w kept session c change → ⊥
has_no_change w kept session c o picked decided chosen none change is =
    let same : is.outcome ≡ o = ok_is (decision limits_written w session c) is.outcome o is.decided decided in
    none_picked w.live kept o.change o.caller picked is.picked change chosen none (subst (λ (x : Outcome). Chooses w.live kept x.change x.caller is.picked) same is.chosen) is.is

-- It can be applied, and has a record.
pub record CanBeMade (w : World) (change : Change) : Type 0 where
  pub tree : Tree
  pub applied : apply limits_written change w.live ≡ Some tree
  pub spelled : IsSpelled change

some_of : (o : Option Tree) → is_some o ≡ true → (tree : Tree) × (o ≡ Some tree)
some_of None e = absurd (true≢false (sym e))
some_of (Some tree) e = (tree, refl)

pub can_be_made : (w : World) (kept : ℕ → Bool) (session : ℕ) (c : Call) (o : Outcome) (picked : Chosen) (change : Change) → IsWorld limits_written w → decision limits_written w session c ≡ Ok o → Chooses w.live kept o.change o.caller picked → picked.change ≡ Some change → CanBeMade w change
can_be_made w kept session c o picked change whole e chosen is =
    let d = decided_is limits_written w session c o e in
    told o.change (picked_is w.live kept o.change o.caller picked change chosen is) d.of_old (λ number free. d.applies number (lit< tt) whole free)
  where
    told : (pending : Pending) → IsPicked w.live kept pending change → DoesToOld pending → ((number : ℕ) → IsNumberFor limits_written w.live number pending → is_some (changed limits_written number pending w.live) ≡ true) → CanBeMade w change
    told Nothing is old applies = absurd is
    told (Makes directory name kind own) is old applies =
        let t = some_of _ (applies is.0 (next_is_number limits_written w.live kept is.0 whole.live.hierarchy.root (lit≤ tt) is.1)) in
        record {
          tree = t.0;
          applied = ap (λ (x : Change). apply limits_written x w.live) is.2 ∙ t.1;
          spelled = subst IsSpelled (sym is.2) (applied_spelled w.live t.0 directory name is.0 kind own whole.live t.1);
        }
    told (Does c) is old applies =
        let t = some_of _ (applies 0 tt) in
        record {
          tree = t.0;
          applied = ap (λ (x : Change). apply limits_written x w.live) is ∙ t.1;
          spelled = subst IsSpelled (sym is) (old_spelled w.live t.0 c whole.live old t.1);
        }
