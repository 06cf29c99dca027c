-- What a point that a call asks for leaves.
use Rattle.std.proofs.Common.{◌≡◌, ℕ, ◌-◌, Bool, false, Some, None, Ok, refl, sym, ap, ◌∙◌}
use Rattle.sn_limits.specs.Versions.{limits_written}
use Rattle.sn_model.specs.declared.call.Call.{Call}
use Rattle.sn_model.specs.declared.change.Change.{Change}
use Rattle.sn_model.specs.declared.outcome.AskedPoint.{AskedPoint}
use Rattle.sn_model.specs.declared.outcome.AskedPoint.TheVariants.{Unasked, Plain, Freezes, Thaws, Restores}
use Rattle.sn_model.specs.declared.outcome.Caller.{Caller}
use Rattle.sn_model.specs.declared.outcome.Outcome.{Outcome}
use Rattle.sn_model.specs.declared.outcome.Pending.{Pending}
use Rattle.sn_model.specs.declared.outcome.Pending.TheVariants.{Nothing, Makes, Does}
use Rattle.sn_model.specs.Steps.{asks_for_point, decision, pointed}
use Rattle.sn_model.specs.World.{World}
use Rattle.sn_model.proofs.DecidedLemmas.{decided_is}
use Rattle.sn_model.proofs.OutcomeLemmas.{IsAlone, is_asked}
use Rattle.sn_caller.specs.declared.chosen.Chosen.{Chosen}
use Rattle.sn_caller.specs.Choosing.{Chooses}

-- ---- the snapshots stay

-- where none is asked for
unasked_stays : (p : AskedPoint) (w : World) → is_asked p ≡ false → pointed p w ≡ w
unasked_stays Unasked w e = refl
unasked_stays Plain w e = refl
unasked_stays (Freezes name) w e = cc
unasked_stays (Thaws name) w e = cc
unasked_stays (Restores name) w e = cc

pub alone_stays : (old : World) (session : ℕ) (c : Call) (o : Outcome) → decision limits_written old session c ≡ Ok o → asks_for_point c ≡ false → (w : World) → pointed o.point w ≡ w
alone_stays old session c o e alone w = unasked_stays o.point w ((decided_is limits_written old session c o e).points.asks ∙ alone)

-- where something else changes
beside_stays : (p : AskedPoint) (change : Pending) (caller : Caller) (w : World) → IsAlone p change caller → (change ≡ Nothing → ⊥) → pointed p w ≡ w
beside_stays Unasked change caller w alone some = refl
beside_stays Plain change caller w alone some = refl
beside_stays (Freezes name) change caller w alone some = absurd (some alone.0)
beside_stays (Thaws name) change caller w alone some = absurd (some alone.0)
beside_stays (Restores name) change caller w alone some = absurd (some alone.0)

pub chosen_stays : (old : World) (kept : ℕ → Bool) (session : ℕ) (c : Call) (o : Outcome) (chosen : Chosen) (change : Change) → decision limits_written old session c ≡ Ok o → Chooses old.live kept o.change o.caller chosen → chosen.change ≡ Some change → (w : World) → pointed o.point w ≡ w
chosen_stays old kept session c o chosen change e is some w = beside_stays o.point o.change o.caller w (decided_is limits_written old session c o e).points.alone (told o.change is)
  where
    told : (pending : Pending) → Chooses old.live kept pending o.caller chosen → pending ≡ Nothing → ⊥
    told Nothing is none = let never : None ≡ Some change = sym (ap (λ (x : Chosen). x.change) is) ∙ some in cc never
    told (Makes directory name kind own) is none = cc
    told (Does d) is none = cc
