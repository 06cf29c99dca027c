-- The steps that are due, one after the other.
use Rattle.std.proofs.Common.{◌≡◌, ◌<◌, ◌+◌, ◌-◌, ℕ, zero, suc, Bool, true, false, List, [], ◌∷◌, ◌++◌, length, replicate, refl, sym, ap, subst, ◌∙◌, arith}
use Rattle.std.specs.Prelude.{IsTrue}
use Rattle.sn_model.specs.declared.call.Event.TheVariants as event
use Rattle.sn_model.specs.declared.reply.Progress.{Progress}
use Rattle.sn_model.specs.declared.reply.Progress.TheVariants.{Done, More}
use Rattle.sn_model.specs.declared.reply.Reply.{Reply}
use Rattle.sn_model.specs.declared.reply.Reply.TheVariants as reply
use Rattle.sn_serving.specs.Pacing.{AreMade, all, ends, more}
use Rattle.sn_serving.specs.Served.{Leads, Served}
use Rattle.sn_serving.proofs.ServedLemmas.{SomeSteps, steps_more, steps_none, steps_one}

-- so many replies that the point goes on
abbrev goes_on : ℕ → List Reply
goes_on count = replicate count (reply.Progress More)

goes_on_more : (count : ℕ) → goes_on count ++ reply.Progress More ∷ [] ≡ goes_on (count + 1)
goes_on_more zero = refl
goes_on_more (suc count) = ap (λ (replies : List Reply). reply.Progress More ∷ replies) (goes_on_more count) ∙ ap goes_on {x = suc (count + 1)} {y = suc count + 1} (omega arith)

all_made : (count : ℕ) → AreMade count (goes_on count) false
all_made zero = all
all_made (suc count) = more (all_made count)

made_then : (before count : ℕ) {replies : List Reply} {ended : Bool} → AreMade count replies ended → AreMade (before + count) (goes_on before ++ replies) ended
made_then zero count {replies = replies} {ended = ended} made = subst (λ (n : ℕ). AreMade n replies ended) {x = count} {y = 0 + count} (omega arith) made
made_then (suc before) count {replies = replies} {ended = ended} made =
    subst (λ (n : ℕ). AreMade n (goes_on (suc before) ++ replies) ended) {x = suc (before + count)} {y = suc before + count} (omega arith) (more (made_then before count made))

-- so many steps were made, and none was a point's last
pub record AreSteps (told : Bool) (count : ℕ) (old new : Served) : Type 0 where
  pub some : SomeSteps told old new
  pub are : some.0 ≡ goes_on count

-- what was made of a count: the replies, whether the last ended a point, and what they lead to
abbrev pub Makes : Bool → ℕ → Bool → Served → Served → Type 0
Makes told count ended old new = (replies : List Reply) × AreMade count replies ended × (IsTrue told → Leads (replicate (length replies) event.Step) replies old new)

pub none_yet : (told : Bool) (s : Served) → AreSteps told 0 s s
unfolding steps_none
none_yet told s = record { some = steps_none told s; are = refl }

pub next_step : (told : Bool) (count : ℕ) (old mid new : Served) (last : Reply) (progress : Progress) → AreSteps told count old mid → last ≡ reply.Progress progress → progress ≡ More
    → (IsTrue told → Leads (event.Step ∷ []) (last ∷ []) mid new) → AreSteps told (count + 1) old new
unfolding steps_more steps_one
next_step told count old mid new last progress before is goes leads = record {
  some = steps_more told old mid new before.some (steps_one told last mid new leads);
  are =
      ap (λ (replies : List Reply). replies ++ last ∷ []) before.are
      ∙ ap (λ (r : Reply). goes_on count ++ r ∷ []) (is ∙ ap reply.Progress goes)
      ∙ goes_on_more count;
}

pub last_step : (told : Bool) (count at : ℕ) (ended : Bool) (old mid new : Served) (last : Reply) → AreSteps told at old mid → at < count → ((others : ℕ) → AreMade (suc others) (last ∷ []) ended)
    → (IsTrue told → Leads (event.Step ∷ []) (last ∷ []) mid new) → Makes told count ended old new
unfolding steps_more steps_one
last_step told count at ended old mid new last before within made leads =
    let whole : at + suc (count - (at + 1)) ≡ count = omega (arith, within) in
    let steps : SomeSteps told old new = steps_more told old mid new before.some (steps_one told last mid new leads) in (
      before.some.0 ++ last ∷ [],
      subst (λ (n : ℕ). AreMade n (before.some.0 ++ last ∷ []) ended) whole
          (subst (λ (replies : List Reply). AreMade (at + suc (count - (at + 1))) (replies ++ last ∷ []) ended) (sym before.are) (made_then at (suc (count - (at + 1))) (made (count - (at + 1))))),
      steps.1,
    )

pub ends_point : (last : Reply) (progress : Progress) → last ≡ reply.Progress progress → progress ≡ Done → (others : ℕ) → AreMade (suc others) (last ∷ []) true
ends_point last progress is done others = subst (λ (r : Reply). AreMade (suc others) (r ∷ []) true) (sym (is ∙ ap reply.Progress done)) ends

pub every_step : (told : Bool) (count at : ℕ) (old new : Served) → AreSteps told at old new → at ≡ count → Makes told count false old new
every_step told count at old new steps is = (
  steps.some.0,
  subst (λ (n : ℕ). AreMade n steps.some.0 false) is (subst (λ (replies : List Reply). AreMade at replies false) (sym steps.are) (all_made at)),
  steps.some.1,
)
